-- `dispatch::long::status` meets its contract.
use mathlib.Core.Path.{sym, ◌∙◌}
use Rattle.layout.proofs.Reading.{absent_controller, present_controller, ready}
use Rattle.dispatch.proofs.LongPackets.{status_absent, status_count, status_index, status_length, status_unknown, status_wrong}
use Rattle.dispatch.proofs.long.status.Goals as goal

pub returns-then-index-eq65535 : goal.returns-then-index-eq65535
returns-then-index-eq65535 c = status_length _ _ _ _ _ (rw c.in-Ok-ToHub.field-0-is at c.in-Ok-ToHub.ensures) c.if-index-eq65535.true

pub returns-else-index-eq65535 : goal.returns-else-index-eq65535
returns-else-index-eq65535 c = status_index _ _ _ _ _ (rw c.in-Ok-ToHub.field-0-is at c.in-Ok-ToHub.ensures) c.if-index-eq65535.false

pub returns-then-not-present : goal.returns-then-not-present
returns-then-not-present c =
    status_absent _ _ _ _ _ (rw c.in-Ok-ToController.field-0-is at c.in-Ok-ToController.ensures)
    (absent_controller _ _ (sym c.present.ensures ∙ c.if-not-present.true))

pub returns-then-fits : goal.returns-then-fits
returns-then-fits c =
    status_count _ _ _ _ _ (rw c.in-Ok-ToController.field-0-is at c.in-Ok-ToController.ensures) _
    (present_controller _ _ (ready _ _ c.requires.0 (sym c.present.ensures ∙ c.if-not-present.false))) c.if-fits.true

pub returns-else-fits : goal.returns-else-fits
returns-else-fits c =
    status_wrong _ _ _ _ _ (rw c.in-Ok-ToController.field-0-is at c.in-Ok-ToController.ensures) _
    (present_controller _ _ (ready _ _ c.requires.0 (sym c.present.ensures ∙ c.if-not-present.false))) c.if-fits.false

pub returns-in-Err : goal.returns-in-Err
returns-in-Err c = status_unknown _ _ _ _ c.in-Err.ensures
