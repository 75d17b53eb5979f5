use Prim.Native.Nat.{◌-◌, ◌≤◌}
use Rattle.devices.specs.Slots.{named}
use Rattle.devices.proofs.Walk.{Walked}
use Rattle.devices.proofs.removals.Given as goal

abbrev pub invariant-loop-slot : goal.invariant-loop-slot
invariant-loop-slot l = record {
  most : l.from ≤ 32;
  walked : Walked l.state l.at l.index (named l.all 7 l.key) l.initial.reply l.place l.reply l.end l.from;
}

abbrev pub decreases-loop-slot : goal.decreases-loop-slot
decreases-loop-slot l = 32 - l.from
