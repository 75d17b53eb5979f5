-- `layout::open_place` meets its contract. The place is a sum of the sizes before it.
use Rattle.layout.specs.Places.{place_of, sizes}
use Rattle.octets.specs.Parts.{place_at}
use borrow.Author.Rules.{rules}
use Rattle.layout.proofs.open_place.Goals as goal

pub returns : goal.returns
unfolding place_of place_at sizes
returns c = search rules
