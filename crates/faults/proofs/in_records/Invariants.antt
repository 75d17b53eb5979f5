-- What is wrong from the record reached on is what is wrong in all.
use Rattle.faults.proofs.Records.{Rest}
use Rattle.faults.proofs.in_records.Given as goal

abbrev pub invariant-loop-j : goal.invariant-loop-j
invariant-loop-j l = Rest l.k l.ps l.from l.n l.j
