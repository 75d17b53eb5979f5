-- `layout::open_code` meets its contract. The number at the place of the open command.
use Rattle.layout.specs.Places.{place_of, sizes}
use Rattle.octets.specs.Parts.{place_at}
use Rattle.layout.proofs.open_code.Goals as goal

pub returns : goal.returns
unfolding place_of place_at sizes
returns c = cc
