-- `explain::find` meets its contract: the code, then the index, then the command.
use mathlib.Core.Path.{sym, ◌∙◌}
use native.Mathlib.Omega.{arith}
use borrow.Author.Rules.{rules}
use borrow.Author.Tests.{not-false}
use Rattle.layout.proofs.Reading.{ready}
use Rattle.why.specs.Findings.{checked}
use Rattle.why.proofs.Orders.{met, unmet}
use Rattle.explain.proofs.Routes.{arm_absent, arm_hub, arm_unknown}
use Rattle.explain.proofs.find.Goals as goal

pub returns-in-Ok-ToHub : goal.returns-in-Ok-ToHub
returns-in-Ok-ToHub c = arm_hub _ _ _ _ _ (rw c.in-Ok-ToHub.field-0-is at c.in-Ok-ToHub.ensures) _ c.hub_finding.ensures

pub returns-in_err-check_at-in-Ok-ToController : goal.returns-in_err-check_at-in-Ok-ToController
unfolding checked
returns-in_err-check_at-in-Ok-ToController c =
    rw (← arm_absent c.args.state.now c.args.index c.args.code c.args.ps.now c.in-Ok-ToController.command (rw c.in-Ok-ToController.field-0-is at c.in-Ok-ToController.ensures) (grind (arith, unmet))) (grind (arith, unmet))

pub controller_finding-requires : goal.controller_finding-requires
controller_finding-requires c =
    ready _ _ c.requires.0 (sym c.present.ensures ∙ not-false _ (met _ _ _ c.in_ok-check_at-in-Ok-ToController.ensures))

pub returns-in-Err : goal.returns-in-Err
returns-in-Err c = arm_unknown _ _ _ _ c.in-Err.ensures
