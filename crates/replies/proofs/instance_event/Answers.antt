-- `replies::instance_event` meets its contract. The head and the instance, written one after the other, are the model's event.
use mathlib.Core.Path.{refl, ◌∙◌}
use Rattle.replies.proofs.Laws.{event_write}
use Rattle.replies.proofs.instance_event.Goals as goal

pub returns : goal.returns
returns c = (cc) ∙ event_write _ _ _ _ _ 1 refl
