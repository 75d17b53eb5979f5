-- `layout::waiting::kept_count` meets its contract.
use Rattle.layout.proofs.WaitingOctets.{kept_all, kept_few, kept_ten}
use Rattle.layout.proofs.waiting.kept_count.Goals as goal
use Rattle.layout.proofs.waiting.kept_count.Goals.{else-said-gt-LONGEST_KEPT-via-then-said-gt-LONGEST_KEPT+else-n-gt-LONG_HEAD, else-said-gt-LONGEST_KEPT-via-else-said-gt-LONGEST_KEPT}

pub returns-then-n-gt-LONG_HEAD : goal.returns-then-n-gt-LONG_HEAD
returns-then-n-gt-LONG_HEAD c = λ o e. kept_ten _ _ c.if-said-gt-LONGEST_KEPT.true c.if-n-gt-LONG_HEAD.true o e

pub returns : goal.returns
returns c = λ o e. elim c.else-said-gt-LONGEST_KEPT.branch [
  | else-said-gt-LONGEST_KEPT-via-then-said-gt-LONGEST_KEPT+else-n-gt-LONG_HEAD w ↦ kept_few _ w.if-n-gt-LONG_HEAD.false o
  | else-said-gt-LONGEST_KEPT-via-else-said-gt-LONGEST_KEPT w ↦ kept_all _ _ w.if-said-gt-LONGEST_KEPT.false o e
]
