-- `replies::event_head` meets its contract. Three numbers written one after the other are the head.
use Rattle.replies.proofs.Laws.{writes}
use Rattle.replies.specs.Frames.{event_head}
use Rattle.replies.proofs.event_head.Goals as goal

pub returns : goal.returns
unfolding event_head
returns c = simp writes (cc)
