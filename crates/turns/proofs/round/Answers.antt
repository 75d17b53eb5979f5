-- `turns::round` meets its contract. A skip and a walk.
use Rattle.std.proofs.Common.{arith}
use Rattle.turns.proofs.Walks.{round_rests, round_goes_on}
use Rattle.turns.proofs.Turns.{reached_sound}
use Rattle.turns.proofs.round.Goals as goal

pub returns-then-w-eq0 : goal.returns-then-w-eq0
returns-then-w-eq0 c = round_rests _ _ c.if-w-eq0.true

pub walk-requires : goal.walk-requires
walk-requires c =
    let k = c.skip.ensures in
    (reached_sound _ _ c.requires.0 k.reached, omega (arith, k.same), k.fresh, k.blocked)

pub returns : goal.returns
returns c = round_goes_on _ _ _ c.skip.ensures c.walk.ensures
