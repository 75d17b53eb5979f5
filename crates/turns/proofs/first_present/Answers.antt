-- `turns::first_present` meets its contract. What is left of the order, from the place that is looked at, has the first one of the whole order.
use Rattle.std.proofs.Common.{◌≡◌, ap, ◌∙◌, arith, ◌-◌, ◌+◌}
use Rattle.model.specs.Advertising.{first_present}
use Rattle.turns.proofs.Ring.{take_five, found, missed, none_found}
use Rattle.turns.proofs.first_present.Goals as goal

pub loop-place-init : goal.loop-place-init
loop-place-init c = record { place = omega arith; first = ap (first_present c.args.s) (take_five _ c.place_behind-p.ensures.0 ∙ c.place_behind-p.ensures.1) }

pub returns-then-s-p-ne0 : goal.returns-then-s-p-ne0
returns-then-s-p-ne0 c =
    let i = c.loop-place.invariant in
    (found _ _ _ _ i.place (omega arith) i.first (omega arith) c.if-s-p-ne0.true, omega arith)

pub loop-place-preserved : goal.loop-place-preserved
loop-place-preserved c =
    let i = c.loop-place.invariant in
    let e : 5 - (c.loop-place._place + 1) ≡ 5 - c.loop-place._place - 1 = omega arith in
    record {
      place = omega arith;
      first = rw e (missed c.args.s _ _ _ i.place (omega arith) i.first _ c.next-p.ensures.0 (omega arith) c.if-s-p-ne0.false);
    }

pub returns : goal.returns
returns c =
    let i = c.loop-place.invariant in
    (none_found c.args.s _ _ _ i.place (omega arith) i.first (omega arith), omega arith)
