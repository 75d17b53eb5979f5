-- `table::release_matching` meets its contract. The invariant: what is still to be freed of the table now is what was to be freed of it at first. There is
-- an entry less each turn.
use Rattle.table.proofs.Laws.{freeing_first, freeing_turn, freeing_less, freeing_last}
use borrow.Author.Rules.{rules}
use Rattle.table.proofs.release_matching.Goals as goal

pub loop-slot-init : goal.loop-slot-init
loop-slot-init c = freeing_first _ _ _ _ (search rules) c.requires.1

pub loop-slot-smaller : goal.loop-slot-smaller
loop-slot-smaller c = freeing_less _ _ _ _ _ _ _ (search rules) c.in-Some.ensures.0 c.in-Some.ensures.1 c.loop-slot.invariant c.release.ensures

pub loop-slot-preserved : goal.loop-slot-preserved
loop-slot-preserved c = freeing_turn _ _ _ _ _ _ _ (search rules) c.in-Some.ensures.0 c.in-Some.ensures.1 c.loop-slot.invariant c.release.ensures

pub returns : goal.returns
returns c = freeing_last _ _ _ _ _ c.in_default.ensures c.loop-slot.invariant
