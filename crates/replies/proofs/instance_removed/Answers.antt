-- `replies::instance_removed` meets its contract. An instance that was not there, or stays, is not told.
use Rattle.replies.proofs.Advertising.{removed_absent, removed_stays, told_none, told_gone}
use Rattle.replies.proofs.instance_removed.Goals as goal
use Rattle.replies.proofs.instance_removed.Goals.{else-before-ne0-via-then-before-ne0+else-after-eq0, else-before-ne0-via-else-before-ne0}

pub returns-then-after-eq0 : goal.returns-then-after-eq0
returns-then-after-eq0 c = told_gone _ _ _ _ _ _ _ c.if-before-ne0.true c.if-after-eq0.true c.instance_event.ensures

pub returns : goal.returns
returns c = elim c.else-before-ne0.branch [
  | else-before-ne0-via-then-before-ne0+else-after-eq0 w ↦ told_none _ _ _ _ _ _ (removed_stays _ _ _ _ w.if-before-ne0.true w.if-after-eq0.false)
  | else-before-ne0-via-else-before-ne0 w ↦ told_none _ _ _ _ _ _ (removed_absent _ _ _ _ w.if-before-ne0.false)
]
