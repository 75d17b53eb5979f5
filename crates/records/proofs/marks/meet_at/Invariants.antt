use mathlib.Core.Path.{◌≡◌}
use mathlib.Core.Bool.{◌||◌}
use Prim.Native.Nat.{◌-◌, ◌≤◌}
use Rattle.records.specs.Marks.{meet_at, meet_from}
use Rattle.records.proofs.marks.meet_at.Given as goal

abbrev pub invariant-loop-i : goal.invariant-loop-i
invariant-loop-i l = (l.i ≤ 32) × (l.met || meet_from l.marks l.d l.i (32 - l.i) ≡ meet_at l.marks l.d)
