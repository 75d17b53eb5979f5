-- `records::slots_ok` meets its contract. The invariant `Walk`: the slots that are left tell what all tell, and the records before are marked.
use mathlib.Core.Path.{◌≡◌, sym, ap, ◌∙◌}
use Prim.Native.Nat.{◌+◌, ◌-◌, ◌<◌}
use native.Mathlib.Nat.{sub-zero}
use native.Mathlib.Omega.{arith}
use Rattle.records.specs.Marks.{mark_of}
use Rattle.records.proofs.Walks.{walk_breaks, walk_end, walk_first, walk_free, walk_here, walk_stained, walk_used}
use borrow.Author.Rules.{rules}
use Rattle.records.proofs.slots_ok.Goals as goal
use Rattle.records.proofs.slots_ok.Goals.{then-word-eq1+else-not-record_ok, else-word-eq1+else-not-slot_zero}

pub loop-slot-init : goal.loop-slot-init
loop-slot-init c = rw sub-zero (walk_first _ _ _ _ _ _ _ c.size_of-size.ensures (search rules) (search rules) (search rules))

pub record_ok-requires : goal.record_ok-requires
record_ok-requires c = (search rules, walk_here _ _ _ _ _ _ _ _ _ _ _ c.loop-slot.invariant (omega arith))

pub returns-then-not-record_ok : goal.returns-then-not-record_ok
returns-then-not-record_ok c =
    let passes-not = sym c.record_ok.ensures ∙ c.if-not-record_ok.true in
    let v = c.loop-slot.invariant in
    walk_breaks _ _ _ _ _ _ _ _ _ _ _ v (omega arith) c.if-word-eq1.true passes-not

pub identity_at-requires : goal.identity_at-requires
identity_at-requires c =
    let v = c.loop-slot.invariant in
    (search rules, walk_here _ _ _ _ _ _ _ _ _ _ _ v (omega arith))

pub put_mark-requires : goal.put_mark-requires
put_mark-requires c = omega (arith, c.loop-slot.invariant.few)

pub overflow_add-found : goal.overflow_add-found
overflow_add-found c = let v = c.loop-slot.invariant.few in search rules

pub slot_zero-requires : goal.slot_zero-requires
slot_zero-requires c = (search rules, walk_here _ _ _ _ _ _ _ _ _ _ _ c.loop-slot.invariant (omega arith))

pub returns-then-not-slot_zero : goal.returns-then-not-slot_zero
returns-then-not-slot_zero c =
    let zero-not = sym c.slot_zero.ensures ∙ c.if-not-slot_zero.true in
    let v = c.loop-slot.invariant in
    walk_stained _ _ _ _ _ _ _ _ _ _ _ v (omega arith) c.if-word-eq1.false zero-not

pub overflow_add-at : goal.overflow_add-at
overflow_add-at c =
    let h = walk_here _ _ _ _ _ _ _ _ _ _ _ c.loop-slot.invariant (omega arith) in
    rw c.loop-slot.invariant.sized (search rules)

pub loop-slot-preserved : goal.loop-slot-preserved
loop-slot-preserved c =
    let v = c.loop-slot.invariant in
    let l : 0 < c.args.n - c.loop-slot.slot = omega arith in
    let e : c.args.n - (c.loop-slot.slot + 1) ≡ c.args.n - c.loop-slot.slot - 1 = omega arith in
    elim c.if-word-eq1.branch [
      | then-word-eq1+else-not-record_ok w ↦
          let kept = sym w.record_ok.ensures ∙ w.if-not-record_ok.false in
          rw (w.marks-is, w.put_mark.ensures, w.found-is, e)
          (walk_used _ _ _ _ _ _ _ _ _ _ _ v _ l w.if-word-eq1.true kept (w.mark_of.ensures ∙ ap mark_of w.identity_at.ensures))
      | else-word-eq1+else-not-slot_zero w ↦ rw (w.marks-is, w.found-is, e)
          (walk_free _ _ _ _ _ _ _ _ _ _ _ v l w.if-word-eq1.false (sym w.slot_zero.ensures ∙ w.if-not-slot_zero.false))
    ]

pub returns : goal.returns
returns c = walk_end _ _ _ _ _ _ _ _ _ _ _ c.loop-slot.invariant (omega arith)
