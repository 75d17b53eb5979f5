-- `octets::copy_into` meets its contract. The invariant: to write what is left from the present state on gives the whole write.
use mathlib.Core.Path.{refl, ◌∙◌}
use native.Mathlib.Omega.{arith}
use lib.ListN.{length-set}
use Rattle.octets.proofs.Laws.{copy_turn, copy_first, copy_last}
use Rattle.octets.proofs.copy_into.Goals as goal

pub loop-i-init : goal.loop-i-init
loop-i-init c = (omega arith, refl, copy_first _ _ _)

pub loop-i-preserved : goal.loop-i-preserved
loop-i-preserved c =
    (omega arith, simp length-set c.loop-i.invariant.1, copy_turn _ _ _ _ c.loop-i-test.true ∙ c.loop-i.invariant.2)

pub returns : goal.returns
returns c = copy_last c.loop-i.s c.args.src.now c.args.at c.loop-i.i (omega arith) ∙ c.loop-i.invariant.2
