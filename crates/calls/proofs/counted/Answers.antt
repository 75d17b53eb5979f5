-- `calls::counted` meets its contract.
use mathlib.Core.Path.{◌∙◌}
use Rattle.calls.proofs.counted.Goals as goal

pub returns : goal.returns
returns c = c.with_timer.ensures ∙ rw c.counted_down.ensures
