-- `image::save` meets its contract. The invariant: the images of the controllers from the index come to on are still to be written.
use mathlib.Core.Path.{refl, sym, ◌∙◌}
use native.Mathlib.Omega.{arith}
use Rattle.layout.proofs.Reading.{ready}
use Rattle.image.proofs.SaveLaws.{all_first, all_present, all_absent, all_written}
use Rattle.model.proofs.Model.Demand3.{state_long}
use Rattle.image.proofs.save.Goals as goal
use Rattle.image.proofs.save.Goals.{then-present, else-present}

pub loop-index-init : goal.loop-index-init
loop-index-init c = all_first _ _

pub present-requires : goal.present-requires
present-requires c = state_long _ c.requires.0

pub save_controller-place-requires : goal.save_controller-place-requires
save_controller-place-requires c =
    let a = sym c.present.ensures ∙ c.if-present.true in let v = c.loop-index.invariant in
    let e = v.room in let f = v.long in (ready _ _ c.requires.0 a, omega arith)

pub overflow_add-count : goal.overflow_add-count
overflow_add-count c = let v = c.loop-index.invariant.few in omega arith

pub loop-index-preserved : goal.loop-index-preserved
loop-index-preserved c =
    elim c.if-present.branch [
      | then-present w ↦ rw (w.out-is, w.place-is, w.count-is)
          (all_present _ _ _ _ _ _ c.loop-index-test.true c.loop-index.invariant _ _
          (sym c.present.ensures ∙ w.if-present.true) w.save_controller-place.ensures.0 w.save_controller-place.ensures.1 w.save_controller-place.ensures.2)
      | else-present w ↦ rw (w.out-is, w.place-is, w.count-is)
          (all_absent _ _ _ _ _ _ c.loop-index-test.true c.loop-index.invariant (sym c.present.ensures ∙ w.if-present.false))
    ]

pub put_be32-requires : goal.put_be32-requires
put_be32-requires c = let f = c.loop-index.invariant.long in omega arith

pub put8-requires : goal.put8-requires
put8-requires c =
    let f = c.loop-index.invariant.long in let k = c.put_be32.auto.s in omega arith

pub put8-requires-2 : goal.put8-requires-2
put8-requires-2 c =
    let f = c.loop-index.invariant.long in
    let k = c.put_be32.auto.s in let l = c.put8.auto.s in omega arith

pub shape_of-out : goal.shape_of-out
shape_of-out c =
    c.put8-2.auto.s ∙ c.put8.auto.s
    ∙ c.put_be32.auto.s
    ∙ c.loop-index.invariant.long

pub returns : goal.returns
returns c =
    all_written _ _ _ _ _ _ _ _ _ _
    c.requires.0
    c.requires.1
    c.loop-index-test.false
    c.loop-index.invariant
    c.put_be32.ensures
    c.put8.ensures c.put8-2.ensures refl
