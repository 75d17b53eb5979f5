-- `replies::complete_head` meets its contract. The head of the event, the code and the status, written one after the other.
use Rattle.replies.proofs.Laws.{writes}
use Rattle.replies.specs.Frames.{complete_head}
use Rattle.replies.proofs.complete_head.Goals as goal

pub returns : goal.returns
unfolding complete_head
returns c = simp writes (cc)
