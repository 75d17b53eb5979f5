use mathlib.Core.Path.{◌≡◌}
use Prim.Native.Nat.{◌-◌}
use Rattle.records.specs.Marks.{meet_any, meet_within, reach_of}
use Rattle.records.proofs.marks.meet.Given as goal

abbrev pub invariant-loop-d : goal.invariant-loop-d
invariant-loop-d l = (l.d-end ≡ reach_of l.n) × (meet_within l.marks l.d (l.d-end - l.d) ≡ meet_any l.marks l.n)
