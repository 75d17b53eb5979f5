-- By the code: a command to the hub, one to a controller, present or absent, or none.
use mathlib.Core.Path.{sym, ◌∙◌}
use Rattle.layout.proofs.Reading.{ready}
use Rattle.dispatch.proofs.Bridge.{arm_absent, arm_unknown}
use Rattle.dispatch.proofs.dispatch.Goals as goal

pub returns-then-not-present : goal.returns-then-not-present
returns-then-not-present c =
    arm_absent _ _ _ _ _ _ _ c.requires.0 c.requires.2 _ (rw c.in-Ok-ToController.field-0-is at c.in-Ok-ToController.ensures)
    (sym c.present.ensures ∙ c.if-not-present.true) c.refuse.ensures.0 c.refuse.ensures.1

pub controller_command-requires : goal.controller_command-requires
controller_command-requires c = (ready _ _ c.requires.0 (sym c.present.ensures ∙ c.if-not-present.false), c.requires.2)

pub returns-in-Err : goal.returns-in-Err
returns-in-Err c =
    arm_unknown _ _ _ _ _ _ _ c.requires.0 c.requires.2 c.in-Err.ensures c.refuse-in-Err.ensures.0 c.refuse-in-Err.ensures.1
