use Rattle.std.specs.Prelude.{◌-◌}
use Rattle.reading.proofs.OneTable.{Seek}
use Rattle.reading.proofs.repeats.Given as goal

abbrev pub invariant-loop : goal.invariant-loop
invariant-loop l = Seek l.k l.image l.size l.p l.place l.n l.at (l.n - l.counter)
