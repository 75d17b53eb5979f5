-- `layout::five_at` meets its contract. Each number where it lies.
use Rattle.layout.specs.Advertising.{five_from}
use Rattle.layout.proofs.five_at.Goals as goal

-- src/lib.rt:280:1
pub returns : goal.returns
unfolding five_from
returns c = cc
