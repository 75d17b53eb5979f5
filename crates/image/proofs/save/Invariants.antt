use Rattle.image.proofs.SaveLaws.{SavingAll}
use Rattle.image.proofs.save.Given as goal

abbrev pub invariant-loop-index : goal.invariant-loop-index
invariant-loop-index l = SavingAll l.state l.initial.out l.out l.place l.count l.index
