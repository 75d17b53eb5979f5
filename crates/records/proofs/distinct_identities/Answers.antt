-- `records::distinct_identities` meets its contract. Where no two marks are the same, the identities are apart; else they are compared.
use mathlib.Core.Path.{sym, ◌∙◌}
use Rattle.records.proofs.Marking.{marks_apart}
use Rattle.records.proofs.distinct_identities.Goals as goal

pub returns-then-not-meet : goal.returns-then-not-meet
returns-then-not-meet c =
    rw c.if-not-meet.true (sym (marks_apart _ _ _ c.marks_of.ensures (sym c.meet.ensures ∙ c.if-not-meet.true)))
