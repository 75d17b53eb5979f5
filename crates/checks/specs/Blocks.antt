-- The test of a state, block by block: a state is well formed if it has the right length and each of its four blocks is well formed.
use Rattle.std.specs.Prelude.{Bool, ◌&&◌}
use Rattle.model.specs.Octets.{Octets, same}
use Rattle.model.specs.WellFormed.{open_ok, slot_is_ok}
use Rattle.model.specs.Layout.{block, controller_in, open_in}

-- the octets of a block are well formed: what they mean is valid, and they are the one block of that meaning
unfoldable pub block_ok : Octets → Bool
block_ok b = slot_is_ok (controller_in b) && (open_ok (controller_in b) (open_in b) && same b (block (controller_in b) (open_in b)))
