-- `replies::event` meets its contract. The head and the parameters, written one after the other, are the model's event.
use mathlib.Core.Path.{refl, ◌∙◌}
use Rattle.replies.proofs.Laws.{event_write}
use Rattle.replies.proofs.event.Goals as goal

pub returns : goal.returns
returns c = (cc) ∙ event_write _ _ _ _ _ _ refl
