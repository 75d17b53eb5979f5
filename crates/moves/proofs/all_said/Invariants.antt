use Rattle.std.specs.Prelude.{◌-◌, get_or}
use Rattle.moves.specs.Moving.{other}
use Rattle.moves.proofs.Controllers.{SaidLeft}
use Rattle.moves.proofs.all_said.Given as goal

abbrev pub invariant-loop : goal.invariant-loop
invariant-loop l = SaidLeft l.to (other l.to) l.image (get_or l.image 5 0 - l.counter) l.at
