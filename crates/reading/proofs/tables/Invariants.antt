use Rattle.std.specs.Prelude.{◌≤◌, length}
use Rattle.reading.proofs.Walks.{Left}
use Rattle.reading.proofs.tables.Given as goal

abbrev pub invariant-loop-k : goal.invariant-loop-k
invariant-loop-k l = (l.p ≤ length l.image) × Left l.image l.place l.supported l.p l.k
