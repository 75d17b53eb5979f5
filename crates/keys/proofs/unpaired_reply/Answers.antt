-- `keys::unpaired_reply` meets its contract. The event follows the reply.
use mathlib.Core.Path.{refl}
use Rattle.keys.proofs.Unpairs.{unpaired_reply}
use Rattle.keys.proofs.unpaired_reply.Goals as goal

pub returns : goal.returns
returns c = (
  refl,
  unpaired_reply _ _ _ _ _ c.requires.1
      c.command_complete.ensures c.event.ensures,
)
