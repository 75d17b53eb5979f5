use Rattle.turns.proofs.Skipping.{Upto}
use Rattle.turns.proofs.skips.rounds.Given as goal

abbrev pub invariant-loop-p : goal.invariant-loop-p
invariant-loop-p l = Upto l.p l.d l.t l.fn.most l.r
