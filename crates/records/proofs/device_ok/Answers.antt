-- `records::device_ok` meets its contract. The law `device_is` gives the checks as tests of the octets where they lie.
use Rattle.records.proofs.Laws.{tests, device_is, twice_not}
use borrow.Author.Tests.{eq-eqb, le-ltb}
use Rattle.records.proofs.device_ok.Goals as goal

pub returns-then-s-at-ne0 : goal.returns-then-s-at-ne0
returns-then-s-at-ne0 c = rw (device_is _ _, ← c.address_zero.ensures, c.if-not-address_zero.true) (search tests)

pub returns-else-s-at-ne0 : goal.returns-else-s-at-ne0
returns-else-s-at-ne0 c =
    rw (
      device_is _ _,
      ← c.address_zero.ensures,
      c.if-not-address_zero.true,
      le-ltb _ _ c.if-s-at-le2.true,
      le-ltb _ _ c.if-s-at-le2-2.true,
      eq-eqb _ _ c.if-s-at-ne0.false,
      twice_not,
    )

pub returns-else-s-at-le2-2 : goal.returns-else-s-at-le2-2
returns-else-s-at-le2-2 c = rw (device_is _ _, ← c.address_zero.ensures, c.if-not-address_zero.true) (search tests)

pub returns-else-s-at-le2 : goal.returns-else-s-at-le2
returns-else-s-at-le2 c = rw (device_is _ _, ← c.address_zero.ensures, c.if-not-address_zero.true) (search tests)

pub returns-else-not-address_zero : goal.returns-else-not-address_zero
returns-else-not-address_zero c = rw (device_is _ _, ← c.address_zero.ensures, c.if-not-address_zero.false)
