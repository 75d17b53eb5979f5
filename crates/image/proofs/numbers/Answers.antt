-- `image::numbers` meets its contract. The array is those numbers, octet for octet.
use Rattle.std.proofs.Common.{arith}
use Rattle.model.specs.Octets.{be16, be32}
use Rattle.image.specs.Images.{numbers_image}
use Rattle.image.proofs.SaveLaws.{flags_small}
use Rattle.image.proofs.numbers.Goals as goal

pub overflow_cast-flags_of : goal.overflow_cast-flags_of
overflow_cast-flags_of c = rw c.flags_of.ensures (omega (arith, flags_small c.args.m))

pub returns : goal.returns
unfolding numbers_image be16 be32
returns c = rw (c.to_be_bytes-a.ensures, c.to_be_bytes-s.ensures, c.to_be_bytes-g.ensures, c.flags_of.ensures)
