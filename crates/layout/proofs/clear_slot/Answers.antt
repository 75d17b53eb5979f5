-- `layout::clear_slot` meets its contract. By the three cases.
use mathlib.Core.Path.{◌∙◌}
use Rattle.layout.proofs.Writes.{slot_absent, slot_cleared, slot_stays}
use Rattle.layout.proofs.clear_slot.Goals as goal
use Rattle.layout.proofs.clear_slot.Goals.{else-before-ne0-via-then-before-ne0+else-after-eq0, else-before-ne0-via-else-before-ne0}

pub returns-then-after-eq0 : goal.returns-then-after-eq0
returns-then-after-eq0 c = (cc) ∙ slot_cleared _ _ _ _ c.if-before-ne0.true c.if-after-eq0.true

pub returns-else-before-ne0 : goal.returns-else-before-ne0
returns-else-before-ne0 c = elim c.else-before-ne0.branch [
  | else-before-ne0-via-then-before-ne0+else-after-eq0 w ↦ slot_stays _ _ _ _ w.if-before-ne0.true w.if-after-eq0.false
  | else-before-ne0-via-else-before-ne0 w ↦ slot_absent _ _ _ _ w.if-before-ne0.false
]
