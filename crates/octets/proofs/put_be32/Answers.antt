-- `octets::put_be32` meets its contract. The octets of the number are the model's.
use Rattle.octets.proofs.Laws.{be32_octets}
use Rattle.octets.proofs.put_be32.Goals as goal

pub returns : goal.returns
returns c = rw (← be32_octets c.args.v, ← c.to_be_bytes.ensures) c.copy_into.ensures
