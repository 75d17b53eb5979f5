use Rattle.std.proofs.Common.{◌≡◌, ◌<◌, ℕ, get_or, length}
use Rattle.turns.proofs.Changes.{lasts}
use Rattle.turns.proofs.power_off.Given as goal

abbrev pub invariant-loop-p : goal.invariant-loop-p
invariant-loop-p l = record {
  five : length l.durations ≡ 5;
  so_far : (k : ℕ) → k < l.p → get_or l.durations k 0 ≡ lasts l.s.durations l.s.timeouts k;
}
