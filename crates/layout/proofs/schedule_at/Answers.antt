-- `layout::schedule_at` meets its contract. Each field stands at its place of the block.
use mathlib.Core.Path.{◌∙◌}
use Rattle.layout.proofs.AdvertisingPieces.{schedule_at_lem, schedule_from}
use Rattle.layout.proofs.schedule_at.Goals as goal

-- src/lib.rt:293:1
pub returns : goal.returns
unfolding schedule_from
returns c = (cc) ∙ schedule_at_lem _ _
