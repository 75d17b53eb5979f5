use Rattle.std.specs.Prelude.{◌≡◌, ◌-◌, get_or, length}
use Rattle.model.specs.Lengths as Lengths
use Rattle.restore.proofs.Loading.{Loading}
use Rattle.restore.proofs.fill.Given as goal

abbrev pub invariant-loop : goal.invariant-loop
invariant-loop l = (length l.state ≡ Lengths.state) × Loading l.version l.image l.state (get_or l.image 5 0 - l.counter) l.at
