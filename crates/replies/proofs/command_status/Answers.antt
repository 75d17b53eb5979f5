-- `replies::command_status` meets its contract. The head of the event, the code and the status, written one after the other, are the model's event.
use Rattle.replies.proofs.Laws.{writes, status_is}
use Rattle.replies.proofs.command_status.Goals as goal

pub returns : goal.returns
returns c = rw status_is (simp writes (cc))
