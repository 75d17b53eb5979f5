use Rattle.std.proofs.Common.{◌-◌}
use Rattle.turns.proofs.Walks.{Walking}
use Rattle.turns.proofs.walk.Given as goal

abbrev pub invariant-loop : goal.invariant-loop
invariant-loop l = Walking l.initial.v l.v (5 - l.counter) l.p
