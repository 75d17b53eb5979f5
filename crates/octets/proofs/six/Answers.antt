-- `octets::six` meets its contract. The six octets read are the part there.
use native.Mathlib.Omega.{arith}
use Rattle.octets.proofs.Laws.{six_is}
use Rattle.octets.proofs.six.Goals as goal

pub returns : goal.returns
returns c = six_is _ _ (omega arith)
