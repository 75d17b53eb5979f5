use Rattle.std.proofs.Common.{◌≡◌, ◌+◌, ◌≤◌, ◌⊎◌}
use Rattle.turns.specs.Walk.{Reached, Fresh}
use Rattle.turns.proofs.Walks.{rest}
use Rattle.turns.proofs.advance.Given as goal

abbrev pub invariant-loop : goal.invariant-loop
invariant-loop l = record {
  reached : Reached l.initial.w l.w;
  begins : (l.w.seconds ≡ 0) ⊎ Fresh l.w.schedule;
  enough : rest l.w + l.counter ≤ 6;
}
