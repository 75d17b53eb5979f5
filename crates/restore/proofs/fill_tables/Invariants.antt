use Rattle.std.specs.Prelude.{◌≡◌, length}
use Rattle.model.specs.Lengths as Lengths
use Rattle.restore.proofs.Filling.{TablesLeft}
use Rattle.restore.proofs.fill_tables.Given as goal

abbrev pub invariant-loop-k : goal.invariant-loop-k
invariant-loop-k l = (length l.state ≡ Lengths.state) × TablesLeft l.initial.state l.index l.image l.at l.state l.k l.p
