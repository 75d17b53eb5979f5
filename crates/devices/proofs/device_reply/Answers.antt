-- `devices::device_reply` meets its contract.
use mathlib.Core.Path.{refl}
use Rattle.devices.proofs.Laws.{device_written}
use borrow.Author.Rules.{rules}
use Rattle.devices.proofs.device_reply.Goals as goal

pub returns : goal.returns
returns c = (
  refl,
  device_written _ _ _ _ _ _ _ (search rules) c.command_complete.ensures
      c.event.ensures,
)
