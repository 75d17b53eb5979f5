-- The test of the waiting octets (02, E6), which lie behind the blocks.
use Rattle.std.specs.Prelude.{Bool, ◌&&◌}
use Rattle.model.specs.Octets.{Octets, same}
use Rattle.model.specs.WellFormed.{waiting_ok}
use Rattle.model.specs.Layout.{waiting_back, waiting_part}

-- they are well formed: what they mean is valid, and they are the one encoding of it
unfoldable pub waiting_octets_ok : Octets → Bool
waiting_octets_ok o = waiting_ok (waiting_back o) && same o (waiting_part (waiting_back o))
