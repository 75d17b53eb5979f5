-- `rules::static_random` meets its contract. Numbers of four octets and of two are one of 48 bits, and the law says by it what kind of address it is.
use Rattle.rules.proofs.Addresses.{static_is}
use Rattle.std.proofs.Common.{le-ltb, lt-ltb}
use Rattle.rules.proofs.static_random.Goals as goal

pub returns-then-address-gt211106232532992 : goal.returns-then-address-gt211106232532992
returns-then-address-gt211106232532992 c = rw (static_is _ _ _ _ c.u32_at.ensures c.u16_at.ensures, lt-ltb _ _ c.if-address-gt211106232532992.true)

pub returns-else-address-gt211106232532992 : goal.returns-else-address-gt211106232532992
returns-else-address-gt211106232532992 c = rw (static_is _ _ _ _ c.u32_at.ensures c.u16_at.ensures, le-ltb _ _ c.if-address-gt211106232532992.false)
