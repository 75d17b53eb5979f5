-- `devices::names_record` meets its contract.
use mathlib.Core.Path.{◌∙◌}
use Rattle.devices.proofs.Uuids.{named_found}
use Rattle.devices.proofs.names_record.Goals as goal

pub returns-else-all : goal.returns-else-all
returns-else-all c = c.is_some.ensures ∙ named_found _ _ _ _ _ _ c.if-all.false c.find.ensures
