use Rattle.std.proofs.Common.{◌≡◌, ◌<◌, ◌-◌, ◌*◌, ℕ, get_or, length}
use Rattle.turns.proofs.skips.falls.Given as goal

abbrev pub invariant-loop-p : goal.invariant-loop-p
invariant-loop-p l = record {
  five : length l.fallen ≡ 5;
  so_far : (k : ℕ) → k < l.p → get_or l.fallen k 0 ≡ get_or l.t k 0 - l.r * get_or l.d k 0;
}
