use Rattle.records.specs.Marks.{Doubled}
use Rattle.records.proofs.marks.no_marks.Given as goal

abbrev pub invariant-loop-i : goal.invariant-loop-i
invariant-loop-i l = Doubled l.marks
