-- Laws that the proofs of this crate cite, over plain lists and numbers.
-- Assumes nothing.
use Prim.Native.Nat.{◌-◌, ◌≤◌, ◌<◌}
use native.Mathlib.Omega.{arith}
use mathlib.Core.Path.{◌≡◌}
use mathlib.Core.Bool.{true, false}
use lib.ListN.{length, take, drop, length-drop}
use lib.Seq.{take_all}
use lib.Dec.{eqb, leb, leb→le}
use borrow.Author.Tests.{le-leb, lt-leb}
use Rattle.model.specs.Octets.{Octets, u16}
use Rattle.model.specs.Hub.{packet_ok}
use Rattle.model.proofs.Model.Load.{fault_number_lem}
use Rattle.model.proofs.Model.Tests.{and_true}
use Rattle.model.specs.Answers.{number_of}
use Rattle.model.specs.declared.Answer.{Answer}
use Rattle.model.specs.declared.Answer.TheVariants.{Done, Started, Refused, BadPacket, SmallBuffer, BadState, BadArgument, BadImage, NotInImage, Incomplete}

-- a packet with a header is whole if its length field says so
pub framed_is : (p : Octets) → 6 ≤ length p → eqb (u16 p 4) (length p - 6) ≡ packet_ok p
unfolding packet_ok
framed_is p h = rw (le-leb 6 (length p) h, length-drop)

-- one without is not
pub framed_not : (p : Octets) → length p < 6 → false ≡ packet_ok p
unfolding packet_ok
framed_not p h = rw (lt-leb 6 (length p) h)

-- an answer's number is at most 77
pub number_small : (a : Answer) → number_of a ≤ 77
number_small (Done n) = omega arith
number_small Started = omega arith
number_small (Refused n) = omega arith
number_small BadPacket = omega arith
number_small SmallBuffer = omega arith
number_small BadState = omega arith
number_small BadArgument = omega arith
number_small (BadImage k at) = (fault_number_lem k).1
number_small NotInImage = omega arith
number_small Incomplete = omega arith

-- a whole packet has a header
pub packet_long : (p : Octets) → packet_ok p ≡ true → 6 ≤ length p
unfolding packet_ok
packet_long p e = leb→le 6 (length p) (rw (and_true (leb 6 (length p)) _ e).0 tt)

-- the octets behind the header, lent as a part of the packet
pub params_all : (p : Octets) → take (length p - 6) (drop 6 p) ≡ drop 6 p
params_all p = take_all (length p - 6) (drop 6 p) (rw length-drop (omega arith))
