-- `layout::write_settings` meets its contract. Flags and timer, then the address.
use mathlib.Core.Path.{◌∙◌}
use Rattle.layout.proofs.Writes.{settings_written}
use Rattle.layout.proofs.write_settings.Goals as goal

-- src/lib.rt:158:1
pub returns : goal.returns
returns c = (cc) ∙ settings_written _ _ _
