-- `devices::removal_ok` meets its contract.
use Rattle.devices.proofs.Walk.{type_high, type_zero, type_other}
use borrow.Author.Tests.{eq-eqb, lt-leb}
use Rattle.devices.proofs.removal_ok.Goals as goal

pub returns-then-ps-eq0 : goal.returns-then-ps-eq0
returns-then-ps-eq0 c = rw (eq-eqb _ _ c.if-ps-eq0.true) (type_zero _ c.if-ps-eq0.true)

pub returns-else-ps-eq0 : goal.returns-else-ps-eq0
returns-else-ps-eq0 c = type_other _ _ c.if-ps-le2.true c.if-ps-eq0.false c.all_zero.ensures

pub returns-else-ps-le2 : goal.returns-else-ps-le2
returns-else-ps-le2 c = rw (lt-leb _ _ c.if-ps-le2.false) (type_high _ c.if-ps-le2.false)
