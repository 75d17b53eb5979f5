-- `layout::waiting::taken` meets its contract.
use mathlib.Core.Path.{◌∙◌}
use Rattle.layout.proofs.WaitingOctets.{taken_is}
use Rattle.layout.proofs.waiting.taken.Goals as goal

pub returns : goal.returns
returns c = (c.u32_at.ensures.0 ∙ taken_is _, c.u32_at.ensures.1)
