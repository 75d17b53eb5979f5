-- `information::tell_name` meets its contract: a copy of the part that `used_name` hands out.
use mathlib.Core.Path.{sym, ◌∙◌}
use Rattle.model.proofs.Model.Demand3.{state_long}
use Rattle.layout.proofs.Reading.{present_below}
use Rattle.information.proofs.Name.{told_absent, told_neither, told_used}
use Rattle.information.proofs.tell_name.Goals as goal
use Rattle.information.proofs.tell_name.Goals.{else-present-via-then-present+else-which-lt2, else-present-via-else-present}

pub present-requires : goal.present-requires
present-requires c = state_long _ c.requires.0

pub used_name-name-requires : goal.used_name-name-requires
used_name-name-requires c = (
  state_long _ c.requires.0,
  present_below _ _ (sym c.present.ensures ∙ c.if-present.true),
)

pub returns-then-which-lt2 : goal.returns-then-which-lt2
returns-then-which-lt2 c =
    told_used _ _ _ _ _ _ c.requires.0 (sym c.present.ensures ∙ c.if-present.true) c.if-which-lt2.true c.requires.1 c.used_name-name.ensures
    c.copy_into.ensures

pub returns : goal.returns
returns c = elim c.else-present.branch [
  | else-present-via-then-present+else-which-lt2 w ↦ told_neither _ _ _ _ c.requires.0 (sym c.present.ensures ∙ w.if-present.true) w.if-which-lt2.false
  | else-present-via-else-present w ↦ told_absent _ _ _ _ c.requires.0 (sym c.present.ensures ∙ w.if-present.false)
]
