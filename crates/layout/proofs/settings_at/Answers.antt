-- `layout::settings_at` meets its contract. Each field stands at its place of the block.
use mathlib.Core.Path.{◌∙◌}
use Rattle.layout.proofs.Reading.{settings_at, settings_from}
use Rattle.layout.proofs.settings_at.Goals as goal

pub returns : goal.returns
unfolding settings_from
returns c = (cc) ∙ settings_at _ _
