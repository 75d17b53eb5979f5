-- `calls::clock` meets its contract.
use mathlib.Core.Path.{refl}
use Rattle.calls.proofs.Reading.{clock_late, clock_done}
use Rattle.calls.proofs.clock.Goals as goal

pub returns-then-step-ge2147483648 : goal.returns-then-step-ge2147483648
returns-then-step-ge2147483648 c =
    clock_late _ _ _ _ _ _ c.requires.0 c.clock_at-last.ensures
    c.clock_step-step.ensures c.if-step-ge2147483648.true refl

pub returns : goal.returns
returns c =
    clock_done _ _ _ _ _ _ _ _ _ _ _ _ _ _ _ _ _ _ _
    c.requires.2
    c.clock_at-last.ensures
    c.clock_step-step.ensures
    c.if-step-ge2147483648.false
    c.tick-a.ensures
    c.tick-b.ensures
    c.tick-c.ensures
    c.tick-d.ensures c.put_clock.ensures refl
