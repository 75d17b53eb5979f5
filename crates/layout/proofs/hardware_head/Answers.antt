-- `layout::hardware_head` meets its contract. The array is the head, octet for octet.
use Rattle.model.specs.Octets.{le16, le32}
use Rattle.layout.specs.Places.{hardware_head}
use Rattle.layout.proofs.hardware_head.Goals as goal

pub returns : goal.returns
unfolding hardware_head le16 le32
returns c = rw (c.to_le_bytes-manufacturer.ensures, c.to_le_bytes-supported.ensures, hardware_head)
