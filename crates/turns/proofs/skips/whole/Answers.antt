-- `turns::skips::whole` meets its contract. The model adds the five from the right.
use Rattle.std.proofs.Common.{arith}
use Rattle.model.specs.Advertising.{value_of}
use Rattle.model.specs.Fairness.{sum_of}
use Rattle.turns.specs.Walk.{whole}
use Rattle.turns.proofs.skips.whole.Goals as goal

pub returns : goal.returns
unfolding whole sum_of value_of
returns c = omega arith
