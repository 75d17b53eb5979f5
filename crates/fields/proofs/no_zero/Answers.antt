-- `fields::no_zero` meets its contract: no octet is zero if all are not.
use Rattle.std.specs.Prelude.{eqb, not}
use Rattle.std.proofs.Common.{◌∙◌, rules}
use borrow.Author.Tests.{tests}
use Rattle.std.proofs.lemmas.Iterator.{YieldsList-from_slice}
use Rattle.std.proofs.lemmas.Iterator.Search.{all_from_yields_List}
use Rattle.fields.proofs.Checks.{no_zero_all}
use Rattle.fields.proofs.no_zero.Goals as goal

pub returns : goal.returns
returns c =
    all_from_yields_List (λ x. not (eqb x 0)) _ _ _ c.all.ensures.ran (YieldsList-from_slice c.args.s.now cc) (λ x b q k. search (rules, tests))
    ∙ no_zero_all c.args.s.now
