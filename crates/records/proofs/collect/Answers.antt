-- `records::collect` meets its contract. The invariant `Collect`: the identities collected so far and those of the slots that are left are all.
use mathlib.Core.Path.{◌≡◌}
use Prim.Native.Nat.{◌+◌, ◌-◌}
use native.Mathlib.Nat.{sub-zero}
use native.Mathlib.Omega.{arith}
use Rattle.records.proofs.Walks.{collect_end, collect_first, collect_free, collect_here, collect_used}
use borrow.Author.Rules.{rules}
use Rattle.records.proofs.collect.Goals as goal
use Rattle.records.proofs.collect.Goals.{then-word-eq1, else-word-eq1}

pub loop-slot-init : goal.loop-slot-init
loop-slot-init c = rw sub-zero (collect_first _ _ _ _ _ _ _ c.size_of-size.ensures (search rules) (search rules) (search rules))

pub identity_at-requires : goal.identity_at-requires
identity_at-requires c = (search rules, collect_here _ _ _ _ _ _ _ _ _ c.loop-slot.invariant (omega arith))

pub offset_bounds-ids-found : goal.offset_bounds-ids-found
offset_bounds-ids-found c = let v = c.loop-slot.invariant.few in search rules

pub bounds-ids-found : goal.bounds-ids-found
bounds-ids-found c = let v = c.loop-slot.invariant.few in omega arith

pub overflow_add-found : goal.overflow_add-found
overflow_add-found c = let v = c.loop-slot.invariant.few in search rules

pub overflow_add-at : goal.overflow_add-at
overflow_add-at c =
    let h = collect_here _ _ _ _ _ _ _ _ _ c.loop-slot.invariant (omega arith) in
    rw c.loop-slot.invariant.sized (search rules)

pub loop-slot-preserved : goal.loop-slot-preserved
loop-slot-preserved c =
    let e : c.args.n - (c.loop-slot.slot + 1) ≡ c.args.n - c.loop-slot.slot - 1 = omega arith in
    elim c.if-word-eq1.branch [
      | then-word-eq1 w ↦ rw (w.found-is, w.ids-is, e)
          (collect_used _ _ _ _ _ _ _ _ _ c.loop-slot.invariant _ (omega arith) w.if-word-eq1.true w.identity_at.ensures)
      | else-word-eq1 w ↦ rw (w.found-is, w.ids-is, e)
          (collect_free _ _ _ _ _ _ _ _ _ c.loop-slot.invariant (omega arith) w.if-word-eq1.false)
    ]

pub returns : goal.returns
returns c =
    let v = c.loop-slot.invariant in
    (omega (arith, v.few), v.long, collect_end _ _ _ _ _ _ _ _ _ v (omega arith))
