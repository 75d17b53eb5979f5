-- `replies::command_complete` meets its contract. The head and the parameters, written one after the other, are the model's event.
use mathlib.Core.Path.{refl, ◌∙◌}
use Rattle.replies.proofs.Laws.{complete_write}
use Rattle.replies.proofs.command_complete.Goals as goal

pub returns : goal.returns
returns c = (cc) ∙ complete_write _ _ _ _ _ _ _ refl
