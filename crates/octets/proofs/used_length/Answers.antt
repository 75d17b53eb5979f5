-- `octets::used_length` meets its contract. The chain tells the place of the first zero.
use native.Mathlib.Omega.{arith}
use mathlib.Core.Path.{◌≡◌, ◌∙◌}
use lib.ListN.{length}
use lib.Dec.{eqb}
use borrow.Author.Rules.{rules}
use borrow.Author.Tests.{tests}
use Rattle.std.proofs.lemmas.Iterator.{YieldsList-from_slice}
use Rattle.std.proofs.lemmas.Iterator.Search.{position_from_yields_List}
use Rattle.std.specs.List.{position}
use Rattle.model.specs.Octets.{used_part}
use Rattle.octets.proofs.Laws.{used_is}
use Rattle.octets.proofs.used_length.Goals as goal

pub returns : goal.returns
returns c =
    let told : c.position.result ≡ position (λ x. eqb x 0) c.args.name.now =
    position_from_yields_List (λ x. eqb x 0) _ _ c.position.result c.position.ensures.ran (YieldsList-from_slice c.args.name.now (cc))
    (λ x b q k. search (rules, tests)) in
    let found : c.unwrap_or.result ≡ length (used_part c.args.name.now) = c.unwrap_or.ensures ∙ rw told (used_is _) in
    omega (arith, found)
