-- `layout::hardware_at` meets its contract. Each field stands at its place of the block.
use mathlib.Core.Path.{◌∙◌}
use Rattle.layout.proofs.Reading.{hardware_at, hardware_from}
use Rattle.layout.proofs.hardware_at.Goals as goal

pub returns : goal.returns
unfolding hardware_from
returns c = (cc) ∙ hardware_at _ _
