-- `records::blocked_ok` meets its contract. The law `blocked_is` gives the checks as tests of the octets where they lie.
use Rattle.records.proofs.Laws.{blocked_is}
use Rattle.records.proofs.blocked_ok.Goals as goal

pub returns-then-not-address_zero : goal.returns-then-not-address_zero
returns-then-not-address_zero c = rw (blocked_is _ _, ← c.address_zero.ensures, c.if-not-address_zero.true)

pub returns-else-not-address_zero : goal.returns-else-not-address_zero
returns-else-not-address_zero c = rw (blocked_is _ _, ← c.address_zero.ensures, c.if-not-address_zero.false)
