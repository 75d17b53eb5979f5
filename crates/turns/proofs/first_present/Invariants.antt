use Rattle.std.proofs.Common.{◌≡◌, ◌<◌, ◌-◌, take}
use Rattle.model.specs.Advertising.{first_present, following}
use Rattle.turns.proofs.first_present.Given as goal

abbrev pub invariant-loop-place : goal.invariant-loop-place
invariant-loop-place l = record {
  place : l.p < 5;
  first : first_present l.s (take (5 - l._place) (following l.p)) ≡ first_present l.s (following l.k);
}
