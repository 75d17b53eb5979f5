-- `octets::put8` meets its contract. An octet stored is a write of one octet.
use Rattle.octets.proofs.Laws.{one_is}
use Rattle.octets.proofs.put8.Goals as goal

pub returns : goal.returns
returns c = one_is _ _ _
