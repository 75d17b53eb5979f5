-- `octets::put16` meets its contract. The octets of the number are the model's.
use Rattle.octets.proofs.Laws.{le16_is}
use Rattle.octets.proofs.put16.Goals as goal

pub returns : goal.returns
returns c = rw (← le16_is c.args.v, ← c.to_le_bytes.ensures) c.copy_into.ensures
