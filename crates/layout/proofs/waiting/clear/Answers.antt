-- `layout::waiting::clear` meets its contract.
use mathlib.Core.Path.{refl, ◌∙◌}
use Rattle.layout.proofs.WaitingOctets.{line_zeroed}
use Rattle.layout.proofs.waiting.clear.Goals as goal

pub returns : goal.returns
returns c = c.zero_fill.ensures ∙ line_zeroed _ _ refl c.requires
