use Rattle.std.proofs.Common.{◌≡◌, ◌&&◌, eqb, drop}
use Rattle.model.specs.Octets.{all_zero}
use Rattle.checks.proofs.blank.Given as goal

abbrev pub invariant-loop-x : goal.invariant-loop-x
invariant-loop-x l = eqb l.joined 0 && all_zero (drop l.x-index l.s) ≡ all_zero l.s
