use lib.ListN.{drop}
use Rattle.records.specs.Marks.{Doubled}
use Rattle.records.proofs.Marking.{Left}
use Rattle.records.proofs.marks_of.Given as goal

abbrev pub invariant-loop-i : goal.invariant-loop-i
invariant-loop-i l =
    Doubled l.marks × Left l.marks l.i (drop l.i l.ids) l.ids
