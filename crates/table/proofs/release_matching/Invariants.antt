use lib.ListN.{length}
use Rattle.model.specs.Tables.{begins, entries}
use Rattle.table.specs.Slots.{table_at}
use Rattle.table.proofs.Laws.{Freeing}
use Rattle.table.proofs.release_matching.Given as goal

abbrev pub invariant-loop-slot : goal.invariant-loop-slot
invariant-loop-slot l = Freeing (begins l.n l.key) l.initial.s l.s l.at l.size

abbrev pub decreases-loop-slot : goal.decreases-loop-slot
decreases-loop-slot l = length (entries (table_at l.s l.at l.size))
