-- `checks::block_ok` meets its contract. The laws `present_block` and `absent_block` say what the model's test of a block comes to.
use mathlib.Core.Path.{sym, ◌∙◌}
use native.Mathlib.Omega.{arith}
use Rattle.checks.proofs.Laws.{absent_other, blank_block, present_one}
use Rattle.checks.proofs.Present.{absent_block, present_block}
use borrow.Author.Rules.{rules}
use Rattle.model.proofs.Model.Tables.{slice_bytes}
use Rattle.model.specs.Lengths as Lengths
use Rattle.checks.proofs.Laws.{lent_zero}
use Rattle.checks.proofs.block_ok.Goals as goal

pub returns-then-present : goal.returns-then-present
returns-then-present c =
    c.controller_ok.ensures ∙ present_block _ _
    (slice_bytes c.args.s.now (λ k. omega (arith, c.type_inv.s k)))
    (omega arith) (present_one _ _ (sym c.present.ensures ∙ c.if-present.true))

pub returns : goal.returns
returns c =
    c.blank.ensures ∙ lent_zero c.args.s.now _ _ Lengths.block (omega arith) ∙ blank_block _ c.args.i _ c.block_place-b.ensures
    ∙ absent_block _ _ (omega arith) (absent_other _ _ (search rules) (sym c.present.ensures ∙ c.if-present.false))
