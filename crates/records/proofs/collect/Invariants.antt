use Prim.Native.Nat.{◌-◌}
use Rattle.model.specs.Tables.{rule_at}
use Rattle.records.specs.Slots.{records_at}
use Rattle.records.proofs.Walks.{Collect}
use Rattle.records.proofs.collect.Given as goal

abbrev pub invariant-loop-slot : goal.invariant-loop-slot
invariant-loop-slot l =
    Collect l.k l.s l.size (records_at l.s (rule_at l.k).size l.place l.n l.w) l.ids l.at (l.n - l.slot) l.word l.found
