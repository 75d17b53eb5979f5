use Prim.Native.Nat.{◌-◌, ◌≤◌}
use Rattle.table.proofs.Laws.{Joined}
use Rattle.table.proofs.or_octets.Given as goal

abbrev pub invariant-loop-slot : goal.invariant-loop-slot
invariant-loop-slot l = record { most : l.from ≤ 32; joined : Joined l.s l.at l.size l.place l.hints l.from }

abbrev pub decreases-loop-slot : goal.decreases-loop-slot
decreases-loop-slot l = 32 - l.from
