use lib.ListN.{length}
use Rattle.table.proofs.LookUp.{Walk}
use Rattle.table.proofs.look_up.Given as goal

abbrev pub invariant-loop-left : goal.invariant-loop-left
invariant-loop-left l = Walk l.s l.key l.at l.size (length l.key) l.left l.walked

abbrev pub decreases-loop-left : goal.decreases-loop-left
decreases-loop-left l = l.left
