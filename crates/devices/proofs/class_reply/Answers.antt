-- `devices::class_reply` meets its contract.
use Rattle.devices.proofs.Uuids.{class_same, class_new, count_same, count_new}
use Rattle.devices.proofs.class_reply.Goals as goal

pub returns-then-old-new : goal.returns-then-old-new
returns-then-old-new c = (count_same _ _ _ _ c.if-old-new.true, class_same _ _ _ _ _ _ c.if-old-new.true c.command_complete.ensures)

pub returns : goal.returns
returns c = (
  count_new _ _ _ _ c.if-old-new.false,
  class_new _ _ _ _ _ _ _
      c.if-old-new.false
      c.command_complete.ensures c.event.ensures,
)
