use Rattle.image.proofs.SaveLaws.{SavingTables}
use Rattle.image.proofs.save_tables.Given as goal

abbrev pub invariant-loop-k : goal.invariant-loop-k
invariant-loop-k l = SavingTables l.state l.index l.initial.out l.initial.p l.out l.p l.k
