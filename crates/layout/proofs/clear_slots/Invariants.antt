-- The first k instances are cleared where they went.
use Rattle.std.proofs.Common.{◌≡◌, take}
use Rattle.layout.specs.Advertising.{cleared_slots}
use Rattle.layout.proofs.clear_slots.Given as goal

abbrev pub invariant-loop-k : goal.invariant-loop-k
invariant-loop-k l = l.s ≡ cleared_slots l.initial.s l.at (take l.k l.before) (take l.k l.after)
