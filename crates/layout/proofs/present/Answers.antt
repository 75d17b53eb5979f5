-- `layout::present` meets its contract. The two tests are those of the contract.
use Rattle.layout.specs.Places.{present_at}
use Rattle.layout.proofs.Laws.{tests}
use Rattle.layout.proofs.present.Goals as goal

pub returns-then-i-lt4 : goal.returns-then-i-lt4
unfolding present_at
returns-then-i-lt4 c = search (tests, c.block_place.ensures)

pub returns-else-i-lt4 : goal.returns-else-i-lt4
unfolding present_at
returns-else-i-lt4 c = search tests
