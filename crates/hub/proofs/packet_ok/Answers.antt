-- `hub::packet-ok` meets its contract.
use Prim.Native.Nat.{◌-◌}
use borrow.Author.Rules.{rules}
use borrow.Author.Tests.{lt-leb}
use Rattle.hub.proofs.Laws.{framed_is, framed_not}
use Rattle.hub.proofs.packet_ok.Goals as goal

pub returns-then-packet-ge6 : goal.returns-then-packet-ge6
returns-then-packet-ge6 c = rw c.u16_at.ensures.0 (framed_is _ c.if-packet-ge6.true)

pub returns-else-packet-ge6 : goal.returns-else-packet-ge6
returns-else-packet-ge6 c = rw (lt-leb _ _ c.if-packet-ge6.false) (framed_not _ c.if-packet-ge6.false)
