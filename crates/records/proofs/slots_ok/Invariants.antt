use Prim.Native.Nat.{◌-◌}
use Rattle.records.proofs.Walks.{Walk}
use Rattle.records.proofs.slots_ok.Given as goal

abbrev pub invariant-loop-slot : goal.invariant-loop-slot
invariant-loop-slot l =
    Walk l.k l.s l.size l.place l.n l.w l.marks l.at (l.n - l.slot) l.word l.found
