-- `reading::judge_only` meets its contract, by the version octet.
use Rattle.std.proofs.Common.{arith, sym, ◌∙◌}
use borrow.Author.Tests.{eqb-false, eqb-true}
use Rattle.model.specs.Reading as Reading
use Rattle.model.specs.Reading.{only}
use Rattle.fields.proofs.Reach.{handed_on}
use Rattle.reading.specs.Comes.{Judges}
use Rattle.reading.proofs.Judging.{no_version, not_taken, only_not, only_takes, taken}
use Rattle.reading.proofs.judge_only.Goals as goal

pub returns-in_err-whole : goal.returns-in_err-whole
returns-in_err-whole c =
    let a = c.args in
    let x = c.in_err-whole.ensures in
    handed_on (λ r. Judges a.image.now (Reading.judge (only a.version) a.image.now) r) _ _ _ c.from_residual.ensures.1 x.1 (no_version (only a.version) a.image.now (omega (arith, x.0)))

pub returns-in_err-kept : goal.returns-in_err-kept
returns-in_err-kept c =
    let a = c.args in
    let x = c.in_err-kept.ensures in
    handed_on (λ r. Judges a.image.now (Reading.judge (only a.version) a.image.now) r) _ _ _ c.from_residual-in_err-kept.ensures.1 x.1
    (not_taken (only a.version) a.image.now (omega (arith, c.in_ok-whole.ensures)) (only_not _ a.version (λ e. eqb-false _ _ x.0 (e ∙ sym c.version_octet.ensures))))

pub judge_as-requires : goal.judge_as-requires
judge_as-requires c = (omega (arith, c.in_ok-whole.ensures), eqb-true _ _ c.in_ok-kept.ensures ∙ c.version_octet.ensures)

pub returns : goal.returns
returns c =
    let a = c.args in
    taken (only a.version) a.image.now a.version c.judge_as.result (omega (arith, c.in_ok-whole.ensures))
    (only_takes _ a.version (eqb-true _ _ c.in_ok-kept.ensures ∙ c.version_octet.ensures)) c.judge_as.ensures
