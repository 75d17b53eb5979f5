-- `advertising::sized` meets its contract. Fewer octets than the fixed part, or as many as the two lengths say.
use Rattle.std.proofs.Common.{arith}
use borrow.Author.Tests.{lt-leb}
use Rattle.advertising.proofs.Refusals.{size_is, size_short}
use Rattle.advertising.proofs.sized.Goals as goal

pub returns-then-ps-ge11 : goal.returns-then-ps-ge11
returns-then-ps-ge11 c = size_is _ _ c.if-ps-ge11.true (omega (arith, c.from.ensures, c.from-then-ps-ge11.ensures))

pub returns-else-ps-ge11 : goal.returns-else-ps-ge11
returns-else-ps-ge11 c = rw (lt-leb _ _ c.if-ps-ge11.false) (size_short _ c.if-ps-ge11.false)
