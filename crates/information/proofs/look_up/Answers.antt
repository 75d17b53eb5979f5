-- `information::look_up` meets its contract: what stands at the index, the question, then the look-up.
use mathlib.Core.Path.{sym, ◌∙◌}
use native.Mathlib.Omega.{arith}
use Rattle.model.proofs.Model.Demand3.{state_long}
use Rattle.information.proofs.LookUp.{asked_right, asked_wrong, look_up_told, no_controller_lem}
use Rattle.information.proofs.look_up.Goals as goal
use Rattle.information.proofs.look_up.Goals.{else-present-via-then-present+else-asked_well, else-present-via-else-present}

pub present-requires : goal.present-requires
present-requires c = state_long _ c.requires

pub look_up_in-u-requires : goal.look_up_in-u-requires
look_up_in-u-requires c =
    asked_right _ _ _ c.args.key.now c.requires (sym c.present.ensures ∙ c.if-present.true)
    (sym c.asked_well.ensures ∙ c.if-asked_well.true)

pub overflow_mul-result : goal.overflow_mul-result
overflow_mul-result c = omega (arith, c.look_up_in-u.ensures)

pub overflow_add-result : goal.overflow_add-result
overflow_add-result c = omega (arith, c.look_up_in-u.ensures)

pub returns-then-asked_well : goal.returns-then-asked_well
returns-then-asked_well c =
    look_up_told _ _ _ _ c.requires (sym c.present.ensures ∙ c.if-present.true) _
    (sym c.asked_well.ensures ∙ c.if-asked_well.true) c.look_up_in-u.ensures

pub returns : goal.returns
returns c = elim c.else-present.branch [
  | else-present-via-then-present+else-asked_well w ↦
      asked_wrong _ _ _ _ c.requires (sym c.present.ensures ∙ w.if-present.true) _ (sym w.asked_well.ensures ∙ w.if-asked_well.false) c.refused_look_up.ensures
  | else-present-via-else-present w ↦ no_controller_lem _ _ _ _ c.requires _ (sym c.present.ensures ∙ w.if-present.false) c.refused_look_up.ensures
]
