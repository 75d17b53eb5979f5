use Rattle.std.specs.Prelude.{◌≤◌, length}
use Rattle.moves.proofs.Skipping.{Left}
use Rattle.moves.proofs.tables_end.Given as goal

abbrev pub invariant-loop-k : goal.invariant-loop-k
invariant-loop-k l = (l.at ≤ l.p) × (l.p ≤ length l.image) × Left l.image l.at l.p l.k
