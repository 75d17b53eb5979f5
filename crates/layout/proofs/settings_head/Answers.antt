-- `layout::settings_head` meets its contract. The array is the head, octet for octet.
use Rattle.model.specs.Octets.{le16}
use Rattle.layout.specs.Places.{settings_head}
use Rattle.layout.proofs.settings_head.Goals as goal

pub returns : goal.returns
unfolding settings_head le16
returns c = rw c.to_le_bytes-seconds.ensures (cc)
