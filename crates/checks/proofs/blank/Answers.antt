-- `checks::blank` meets its contract. What is joined so far and what is left are zero exactly if all is.
use Rattle.std.proofs.Common.{◌∙◌, arith}
use Rattle.checks.proofs.Laws.{blank_turn, blank_last}
use Rattle.checks.proofs.blank.Goals as goal

pub loop-x-preserved : goal.loop-x-preserved
loop-x-preserved c = blank_turn c.args.s.now c.loop-x.x-index c.loop-x.joined (omega arith) ∙ c.loop-x.invariant

pub returns : goal.returns
returns c = blank_last c.args.s.now c.loop-x.x-index c.loop-x.joined (omega arith) ∙ c.loop-x.invariant
