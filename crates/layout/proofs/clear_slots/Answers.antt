-- `layout::clear_slots` meets its contract. Five instances, each at its place.
use Rattle.std.proofs.Common.{arith, refl, ◌∙◌, add-one}
use Rattle.std.proofs.lemmas.List.{take_all}
use Rattle.layout.specs.Advertising.{cleared_slots}
use Rattle.layout.proofs.Writes.{slot_more}
use Rattle.layout.proofs.clear_slots.Goals as goal

pub loop-k-init : goal.loop-k-init
unfolding cleared_slots
loop-k-init c = refl

pub loop-k-preserved : goal.loop-k-preserved
loop-k-preserved c =
    c.clear_slot.ensures ∙ rw (c.loop-k.invariant, add-one) (slot_more _ _ _ _ _ (omega arith) (omega arith))

pub returns : goal.returns
returns c = c.loop-k.invariant ∙ rw (take_all c.loop-k.k c.args.before (omega arith), take_all c.loop-k.k c.args.after (omega arith))
