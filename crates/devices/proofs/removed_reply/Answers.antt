-- `devices::removed_reply` meets its contract.
use Rattle.devices.proofs.Walk.{removed_written}
use borrow.Author.Rules.{rules}
use Rattle.devices.proofs.removed_reply.Goals as goal

pub returns : goal.returns
returns c = (
  c.removals.ensures.0,
  removed_written _ _ _ _ _ _ (search rules)
      c.command_complete.ensures c.removals.ensures.1,
)
