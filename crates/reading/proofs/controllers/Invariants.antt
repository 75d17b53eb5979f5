use Rattle.std.specs.Prelude.{◌-◌, get_or}
use Rattle.reading.proofs.Walks.{Onward}
use Rattle.reading.proofs.controllers.Given as goal

abbrev pub invariant-loop : goal.invariant-loop
invariant-loop l = Onward l.image l.version (get_or l.image 5 0 - l.counter) l.low l.at
