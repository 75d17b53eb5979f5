use mathlib.Core.Path.{◌≡◌}
use lib.ListN.{length, drop}
use mathlib.Core.Bool.{◌&&◌}
use lib.Dec.{eqb}
use Rattle.model.specs.WellFormed.{times_ok}
use Rattle.checks.proofs.advertising.times_ok.Given as goal

abbrev pub invariant-loop-p : goal.invariant-loop-p
invariant-loop-p l = times_ok (drop l.p l.durations) (drop l.p l.timeouts) ≡ eqb (length l.durations) 5 && times_ok l.durations l.timeouts
