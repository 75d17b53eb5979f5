use Rattle.std.specs.Prelude.{◌-◌, get_or}
use Rattle.moves.specs.Moving.{other}
use Rattle.moves.proofs.Controllers.{WriteLeft}
use Rattle.moves.proofs.move_controllers.Given as goal

abbrev pub invariant-loop : goal.invariant-loop
invariant-loop l = WriteLeft l.to (other l.to) l.image l.initial.out l.out (get_or l.image 5 0 - l.counter) l.at l.place
