-- `octets::same_part` meets its contract.
use mathlib.Core.Path.{◌∙◌}
use Rattle.octets.proofs.Laws.{same_turn, same_differs, same_first, same_last}
use borrow.Author.Rules.{rules}
use Rattle.octets.proofs.same_part.Goals as goal

pub loop-k-init : goal.loop-k-init
loop-k-init c = same_first _ _ _ _ _

pub returns-then-a-i : goal.returns-then-a-i
returns-then-a-i c =
    same_differs _ _ _ _ _ c.loop-k.k (search rules) (search rules) (search rules) c.if-a-i.true
    ∙ c.loop-k.invariant

pub loop-k-preserved : goal.loop-k-preserved
loop-k-preserved c = same_turn _ _ _ _ _ _ (search rules) (search rules) (search rules) c.if-a-i.false ∙ c.loop-k.invariant

pub returns : goal.returns
returns c = same_last _ _ _ _ _ _ c.loop-k-test.false ∙ c.loop-k.invariant
