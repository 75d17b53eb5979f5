use mathlib.Core.Path.{◌≡◌}
use Prim.Native.Nat.{◌+◌, ◌-◌, ◌≤◌}
use Rattle.image.proofs.SaveLaws.{Saving}
use Rattle.image.proofs.save_records.Given as goal

abbrev pub invariant-loop-slot : goal.invariant-loop-slot
invariant-loop-slot l = record {
  most : l.from ≤ 32;
  place : l.initial.p ≡ l.place + 1;
  saving : Saving l.state l.at l.size l.initial.out l.initial.p l.out l.p l.from;
}

abbrev pub decreases-loop-slot : goal.decreases-loop-slot
decreases-loop-slot l = 32 - l.from
