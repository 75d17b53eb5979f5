-- `devices::is_named` meets its contract.
use Rattle.devices.proofs.Walk.{goes_same}
use Rattle.devices.proofs.is_named.Goals as goal

pub returns-else-all : goal.returns-else-all
returns-else-all c = goes_same _ _ _ _ _ c.if-all.false c.same_part.ensures
