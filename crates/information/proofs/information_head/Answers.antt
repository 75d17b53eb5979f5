-- `information::information_head` meets its contract: the hardware's octets are those of the layout, the rest follows them.
use Rattle.model.specs.Octets.{le16, le32}
use Rattle.layout.specs.Places.{hardware_head}
use Rattle.information.specs.Controller.{information_head}
use Rattle.information.proofs.information_head.Goals as goal

pub returns : goal.returns
unfolding information_head hardware_head le16 le32
returns c = rw (c.hardware_head-h.ensures, c.to_le_bytes-settings.ensures, information_head)
