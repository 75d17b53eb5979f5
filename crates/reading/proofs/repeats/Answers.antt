-- `reading::repeats` meets its contract. The invariant `Seek`: the records that are left tell what all tell.
use Rattle.std.specs.Prelude.{◌≡◌, ◌+◌, ◌-◌}
use Rattle.std.proofs.Common.{arith, rules, sym, ◌∙◌}
use native.Mathlib.Nat.{sub-zero}
use Rattle.model.proofs.Model.Tables.{slice_bytes}
use Rattle.reading.proofs.OneTable.{seek_end, seek_first, seek_here, seek_hit, seek_miss}
use Rattle.reading.proofs.repeats.Goals as goal

pub loop-init : goal.loop-init
loop-init c = rw sub-zero (seek_first _ _ _ _ _ _ c.size_of-size.ensures (search rules))

pub identity_at-requires : goal.identity_at-requires
identity_at-requires c = (search rules, seek_here _ _ _ _ _ _ _ _ c.loop.invariant (omega arith))

pub returns-then-same_identity : goal.returns-then-same_identity
returns-then-same_identity c =
    let wide = slice_bytes c.args.image.now (λ k. omega (arith, c.type_inv.image k)) in
    seek_hit _ _ _ _ _ _ _ _ c.loop.invariant (omega arith) (search rules) wide (search rules) _ _ c.identity_at-mine.ensures c.identity_at.ensures
    (sym c.same_identity.ensures ∙ c.if-same_identity.true)

pub overflow_add-at : goal.overflow_add-at
overflow_add-at c =
    let h = seek_here _ _ _ _ _ _ _ _ c.loop.invariant (omega arith) in
    rw c.loop.invariant.sized (search rules)

pub loop-preserved : goal.loop-preserved
loop-preserved c =
    let wide = slice_bytes c.args.image.now (λ k. omega (arith, c.type_inv.image k)) in
    let e : c.args.n - (c.loop.counter + 1) ≡ c.args.n - c.loop.counter - 1 = omega arith in
    rw e (seek_miss _ _ _ _ _ _ _ _ c.loop.invariant (omega arith) (search rules) wide (search rules) _ _ c.identity_at-mine.ensures c.identity_at.ensures
    (sym c.same_identity.ensures ∙ c.if-same_identity.false))

pub returns : goal.returns
returns c = seek_end _ _ _ _ _ _ _ _ c.loop.invariant (omega arith)
