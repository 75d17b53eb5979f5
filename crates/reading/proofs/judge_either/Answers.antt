-- `reading::judge_either` meets its contract, by the version octet.
use Rattle.std.proofs.Common.{arith}
use Rattle.model.specs.Image.{version_octet}
use Rattle.model.specs.declared.Version.TheVariants.{One, Two}
use Rattle.model.specs.Reading as Reading
use Rattle.model.specs.Reading.{either_version}
use Rattle.fields.proofs.Reach.{handed_on}
use Rattle.reading.specs.Comes.{Judges}
use Rattle.reading.proofs.Judging.{no_version, not_taken, taken, takes_none, takes_one, takes_two}
use Rattle.reading.proofs.judge_either.Goals as goal

pub returns-in_err-whole : goal.returns-in_err-whole
returns-in_err-whole c =
    let a = c.args in
    let x = c.in_err-whole.ensures in
    handed_on (λ r. Judges a.image.now (Reading.judge either_version a.image.now) r) _ _ _ c.from_residual.ensures.1 x.1 (no_version either_version a.image.now (omega (arith, x.0)))

pub judge_as-requires : goal.judge_as-requires
unfolding version_octet
judge_as-requires c = (omega (arith, c.in_ok-whole.ensures), c.in-1.is)

pub returns-in-1 : goal.returns-in-1
returns-in-1 c =
    taken either_version c.args.image.now One c.judge_as.result (omega (arith, c.in_ok-whole.ensures)) (takes_one _ c.in-1.is) c.judge_as.ensures

pub judge_as-requires-in-2 : goal.judge_as-requires-in-2
unfolding version_octet
judge_as-requires-in-2 c = (omega (arith, c.in_ok-whole.ensures), c.in-2.is)

pub returns-in-2 : goal.returns-in-2
returns-in-2 c =
    taken either_version c.args.image.now Two c.judge_as-in-2.result (omega (arith, c.in_ok-whole.ensures)) (takes_two _ c.in-2.is) c.judge_as-in-2.ensures

pub returns-in_default : goal.returns-in_default
returns-in_default c =
    not_taken either_version c.args.image.now (omega (arith, c.in_ok-whole.ensures)) (takes_none _ (λ e. omega arith) (λ e. omega arith))
