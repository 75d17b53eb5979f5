-- `records::marks::meet` meets its contract. The invariant: the distances that are left tell what all tell.
use mathlib.Core.Path.{sym, ◌∙◌}
use native.Mathlib.Omega.{arith}
use Rattle.records.proofs.Marking.{within_first, within_hit, within_last, within_miss}
use Rattle.records.proofs.marks.meet.Goals as goal

pub loop-d-init : goal.loop-d-init
loop-d-init c = (c.reach-d-end.ensures.0, within_first _ _ _ c.reach-d-end.ensures.0)

pub returns-then-meet_at : goal.returns-then-meet_at
returns-then-meet_at c =
    let met = sym c.meet_at.ensures ∙ c.if-meet_at.true in
    within_hit _ _ _ (omega arith) met ∙ c.loop-d.invariant.1

pub loop-d-preserved : goal.loop-d-preserved
loop-d-preserved c =
    let none = sym c.meet_at.ensures ∙ c.if-meet_at.false in
    (c.loop-d.invariant.0, within_miss _ _ _ (omega arith) none ∙ c.loop-d.invariant.1)

pub returns : goal.returns
returns c = within_last _ _ _ (omega arith) ∙ c.loop-d.invariant.1
