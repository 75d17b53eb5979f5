-- `settings::report` meets its contract. The tests that led to each return pick the case of the model's definition.
use Rattle.std.proofs.Common.{sym, ◌∙◌, rules}
use Rattle.layout.proofs.Reading.{present_below, ready}
use Rattle.settings.proofs.Reporting.{report_absent, report_idle, report_above, report_failed_lem}
use Rattle.settings.proofs.report.Goals as goal
use Rattle.settings.proofs.report.Goals.{then-code-eq0-via-then-code-eq0, then-code-eq0-via-else-code-eq0+then-status-gt-HIGHEST}

pub returns-then-not-present : goal.returns-then-not-present
returns-then-not-present c = report_absent _ _ _ _ c.requires.0 (sym c.present.ensures ∙ c.if-not-present.true)

pub open_code-code-requires : goal.open_code-code-requires
open_code-code-requires c = (search rules, present_below _ _ (sym c.present.ensures ∙ c.if-not-present.false))

pub returns-then-code-eq0 : goal.returns-then-code-eq0
returns-then-code-eq0 c =
    elim c.then-code-eq0.branch [
      | then-code-eq0-via-then-code-eq0 w ↦ report_idle _ _ _ _ (ready _ _ c.requires.0 (sym c.present.ensures ∙ c.if-not-present.false)) (sym c.open_code-code.ensures ∙ w.if-code-eq0.true)
      | then-code-eq0-via-else-code-eq0+then-status-gt-HIGHEST w ↦
          report_above _ _ _ _ (ready _ _ c.requires.0 (sym c.present.ensures ∙ c.if-not-present.false)) (λ e. w.if-code-eq0.false (c.open_code-code.ensures ∙ e)) w.if-status-gt-HIGHEST.true
    ]

pub finish-requires : goal.finish-requires
finish-requires c = (ready _ _ c.requires.0 (sym c.present.ensures ∙ c.if-not-present.false), search rules, c.open_code-code.ensures, c.if-code-eq0.false)

pub returns-then-status-eq0 : goal.returns-then-status-eq0
returns-then-status-eq0 c = rw c.if-status-eq0.true c.finish.ensures

pub clear_open-requires : goal.clear_open-requires
clear_open-requires c = ready _ _ c.requires.0 (sym c.present.ensures ∙ c.if-not-present.false)

pub returns : goal.returns
returns c =
    report_failed_lem _ _ _ _ _ _ _ (ready _ _ c.requires.0 (sym c.present.ensures ∙ c.if-not-present.false)) (search rules) c.open_code-code.ensures c.if-code-eq0.false c.if-status-gt-HIGHEST.false c.if-status-eq0.false
    c.command_status.ensures c.clear_open.ensures
