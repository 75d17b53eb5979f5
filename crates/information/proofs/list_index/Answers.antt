-- `information::list_index` meets its contract.
use mathlib.Core.Path.{sym, ◌∙◌}
use native.Mathlib.Omega.{arith}
use Rattle.information.proofs.General.{listed_put, listed_two, listed_none, listed_zero}
use borrow.Author.Rules.{rules}
use Rattle.information.proofs.list_index.Goals as goal

pub returns-then-present : goal.returns-then-present
returns-then-present c =
    let e = sym c.present.ensures ∙ c.if-present.true in
    (omega (arith, listed_two _ _ e), search rules, listed_put _ _ _ _ _ e c.put16.ensures)

pub returns : goal.returns
returns c = let e = sym c.present.ensures ∙ c.if-present.false in (omega (arith, listed_zero _ _ e), search rules, listed_none _ _ _ _ e)
