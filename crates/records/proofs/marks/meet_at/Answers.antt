-- `records::marks::meet_at` meets its contract. The invariant: what was met and what is left to compare tell what all tell.
use mathlib.Core.Path.{◌∙◌}
use native.Mathlib.Omega.{arith}
use Rattle.records.proofs.Marking.{meet_first, meet_last, meet_other, meet_same}
use borrow.Author.Rules.{rules}
use Rattle.records.proofs.marks.meet_at.Goals as goal
use Rattle.records.proofs.marks.meet_at.Goals.{then-marks-i, else-marks-i}

pub loop-i-init : goal.loop-i-init
loop-i-init c = (omega arith, meet_first _ _)

pub loop-i-preserved : goal.loop-i-preserved
loop-i-preserved c =
    let ms = c.args.marks.now in
    let d = c.args.d in
    let i = c.loop-i.i in
    let met = c.loop-i.met in (
      search rules,
      elim c.if-marks-i.branch [
        | then-marks-i w ↦ rw w.met-is (meet_same ms d i met (omega arith) w.if-marks-i.true)
        | else-marks-i w ↦ rw w.met-is (meet_other ms d i met (omega arith) w.if-marks-i.false)
      ]
          ∙ c.loop-i.invariant.1,
    )

pub returns : goal.returns
returns c = meet_last _ _ _ _ (omega arith) ∙ c.loop-i.invariant.1
