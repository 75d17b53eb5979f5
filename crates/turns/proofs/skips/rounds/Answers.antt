-- `turns::skips::rounds` meets its contract. One instance more has its least at each step.
use Rattle.std.proofs.Common.{suc, add-one, arith, rules}
use Rattle.model.specs.Advertising.{value_of}
use Rattle.turns.proofs.Skipping.{upto_none, upto_more, most_of}
use Rattle.turns.proofs.skips.rounds.Goals as goal

pub loop-p-init : goal.loop-p-init
loop-p-init c = upto_none _ _ _

pub capped-r-requires : goal.capped-r-requires
unfolding value_of
capped-r-requires c = c.requires (suc c.loop-p.p)

pub loop-p-preserved : goal.loop-p-preserved
unfolding value_of
loop-p-preserved c = rw add-one (upto_more c.loop-p.p _ _ _ _ _ c.loop-p.invariant c.capped-r.ensures)

pub returns : goal.returns
returns c = most_of c.loop-p.p _ _ _ _ (omega arith) (search rules) c.loop-p.invariant
