-- `checks::waiting_ok` meets its contract.
use mathlib.Core.Path.{sym, ◌∙◌}
use native.Mathlib.Omega.{arith}
use Rattle.model.proofs.Model.Tables.{slice_bytes}
use Rattle.checks.proofs.Waiting.{kept_room, waiting_short, waiting_whole}
use Rattle.std.proofs.Common.{◌-◌}
use Rattle.model.specs.Lengths as Lengths
use Rattle.checks.proofs.Laws.{lent_zero}
use Rattle.checks.proofs.waiting_ok.Goals as goal

pub overflow_add-behind : goal.overflow_add-behind
overflow_add-behind c = omega (arith, kept_room _ _ _ _ c.kept_said-said.ensures.0 (omega arith) (c.kept_count-kept.ensures _ (sym c.kept_said-said.ensures.0)), c.requires)

pub overflow_sub-kept : goal.overflow_sub-kept
overflow_sub-kept c = omega (arith, kept_room _ _ _ _ c.kept_said-said.ensures.0 (omega arith) (c.kept_count-kept.ensures _ (sym c.kept_said-said.ensures.0)), c.requires)

pub overflow_add-behind-2 : goal.overflow_add-behind-2
overflow_add-behind-2 c = omega (arith, kept_room _ _ _ _ c.kept_said-said.ensures.0 (omega arith) (c.kept_count-kept.ensures _ (sym c.kept_said-said.ensures.0)), c.requires)

pub slice_bounds-blank-end : goal.slice_bounds-blank-end
slice_bounds-blank-end c = omega (arith, kept_room _ _ _ _ c.kept_said-said.ensures.0 (omega arith) (c.kept_count-kept.ensures _ (sym c.kept_said-said.ensures.0)), c.requires)

pub returns : goal.returns
returns c =
    let r = kept_room _ _ _ _ c.kept_said-said.ensures.0 (omega arith) (c.kept_count-kept.ensures _ (sym c.kept_said-said.ensures.0)) in
    c.blank.ensures ∙ lent_zero c.args.s.now _ _ (Lengths.longest_kept - c.kept_count-kept.result) (omega arith)
    ∙ waiting_short _ (slice_bytes c.args.s.now (λ i. omega (arith, c.type_inv.s i))) c.requires _ _ c.taken-n.ensures.0 c.kept_said-said.ensures.0 _
    (omega arith) (c.kept_count-kept.ensures _ (sym c.kept_said-said.ensures.0))

pub returns-then-said-n : goal.returns-then-said-n
returns-then-said-n c =
    waiting_whole _ (slice_bytes c.args.s.now (λ i. omega (arith, c.type_inv.s i))) c.requires _ _ c.taken-n.ensures.0 c.kept_said-said.ensures.0 c.if-said-n.true
