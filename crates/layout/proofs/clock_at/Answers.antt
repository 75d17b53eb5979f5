-- `layout::clock_at` meets its contract. The clock is the number at the start.
use mathlib.Core.Path.{◌∙◌}
use Rattle.layout.proofs.Reading.{clock_at}
use Rattle.layout.proofs.clock_at.Goals as goal

pub returns : goal.returns
returns c = c.u32_at.ensures.0 ∙ clock_at _
