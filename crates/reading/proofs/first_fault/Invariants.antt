use Rattle.reading.proofs.OneTable.{Goes}
use Rattle.reading.proofs.first_fault.Given as goal

abbrev pub invariant-loop-j : goal.invariant-loop-j
invariant-loop-j l = Goes l.k l.image l.size l.place l.n l.supported l.j l.p
