-- `devices::release_named` meets its contract.
use Rattle.devices.proofs.Uuids.{release_every}
use Rattle.devices.proofs.release_named.Goals as goal

pub returns-then-all : goal.returns-then-all
returns-then-all c = release_every _ _ _ _ _ _ _ c.if-all.true c.release_all.ensures
