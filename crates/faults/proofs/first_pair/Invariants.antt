-- What is left to compare tells what the whole list tells.
use Rattle.faults.proofs.Pairs.{Inner, Outer}
use Rattle.faults.proofs.first_pair.Given as goal

abbrev pub invariant-loop-a : goal.invariant-loop-a
invariant-loop-a l = Outer l.k l.ps l.from l.n l.a

abbrev pub invariant-loop-b : goal.invariant-loop-b
invariant-loop-b l = Inner l.k l.ps l.from l.n l.a l.b
