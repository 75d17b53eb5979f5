-- `records::le_address_ok` meets its contract. The law `le_address_is` gives the checks as tests of the octets where they lie.
use native.Mathlib.Omega.{arith}
use Rattle.records.proofs.Laws.{le_address_is, twice_not}
use borrow.Author.Tests.{eq-eqb, ne_eqb}
use Rattle.records.proofs.le_address_ok.Goals as goal

pub returns-then-s-at-eq1 : goal.returns-then-s-at-eq1
returns-then-s-at-eq1 c = rw (le_address_is _ _ 7 (omega arith), c.if-s-at-eq1.true)

pub returns-then-s-at-eq2 : goal.returns-then-s-at-eq2
returns-then-s-at-eq2 c =
    rw (le_address_is _ _ 7 (omega arith), ne_eqb _ _ c.if-s-at-eq1.false, eq-eqb _ _ c.if-s-at-eq2.true, twice_not)
    c.static_random.ensures

pub returns-else-s-at-eq2 : goal.returns-else-s-at-eq2
returns-else-s-at-eq2 c = rw (le_address_is _ _ 7 (omega arith), ne_eqb _ _ c.if-s-at-eq1.false, ne_eqb _ _ c.if-s-at-eq2.false)
