-- `layout::flag_octet` meets its contract. By the two cases of the flag.
use Rattle.model.specs.State.{flag}
use Rattle.layout.proofs.flag_octet.Goals as goal

pub returns-then-b : goal.returns-then-b
unfolding flag
returns-then-b c = rw c.if-b.true

pub returns-else-b : goal.returns-else-b
unfolding flag
returns-else-b c = rw c.if-b.false
