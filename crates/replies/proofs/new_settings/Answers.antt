-- `replies::new_settings` meets its contract. The head and the four octets of the settings, written one after the other, are the model's event.
use mathlib.Core.Path.{◌∙◌}
use Rattle.replies.proofs.Laws.{event_write}
use Rattle.model.proofs.Model.Room.{length_le32}
use Rattle.replies.proofs.new_settings.Goals as goal

pub returns : goal.returns
returns c = (cc) ∙ event_write _ _ _ _ _ 4 (length_le32 _)
