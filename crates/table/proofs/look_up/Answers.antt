-- `table::look_up` meets its contract. The invariant is `Walk`: what is known when some slots are walked. The word gets smaller with each one that is taken
-- away.
use mathlib.Core.Path.{sym, ◌∙◌}
use Prim.Native.Nat.{◌-◌}
use native.Mathlib.Omega.{arith}
use lib.Bits.{and_le_r}
use Rattle.table.proofs.LookUp.{walk_first, walk_hit, walk_last, walk_miss, walk_room}
use borrow.Author.Rules.{rules}
use Rattle.table.proofs.look_up.Goals as goal

pub loop-left-init : goal.loop-left-init
loop-left-init c = walk_first _ _ _ _ _ _ c.u32_at-left.ensures.0

pub overflow_cast-slot : goal.overflow_cast-slot
overflow_cast-slot c = omega (arith, walk_room _ _ _ _ _ _ _ c.loop-left.invariant (omega arith) (omega arith))

pub overflow_mul-size : goal.overflow_mul-size
overflow_mul-size c = omega (arith, walk_room _ _ _ _ _ _ _ c.loop-left.invariant (omega arith) (omega arith))

pub overflow_add-size : goal.overflow_add-size
overflow_add-size c = omega (arith, walk_room _ _ _ _ _ _ _ c.loop-left.invariant (omega arith) (omega arith))

pub overflow_add-at : goal.overflow_add-at
overflow_add-at c = omega (arith, walk_room _ _ _ _ _ _ _ c.loop-left.invariant (omega arith) (omega arith))

pub same_key-requires : goal.same_key-requires
same_key-requires c = (search rules, omega (arith, walk_room _ _ _ _ _ _ _ c.loop-left.invariant (omega arith) (omega arith)))

pub overflow_add-result : goal.overflow_add-result
overflow_add-result c = omega (arith, walk_room _ _ _ _ _ _ _ c.loop-left.invariant (omega arith) (omega arith))

pub returns-then-same_key : goal.returns-then-same_key
returns-then-same_key c =
    walk_hit _ _ _ _ _ _ _ c.loop-left.invariant (omega arith) (omega arith) (search rules)
    (sym c.same_key.ensures ∙ c.if-same_key.true)

pub overflow_sub-left : goal.overflow_sub-left
overflow_sub-left c = omega arith

pub overflow_add-walked : goal.overflow_add-walked
overflow_add-walked c =
    let l = c.loop-left.invariant in
    omega (arith, l.within, walk_room _ _ _ _ _ _ _ l (omega arith) (omega arith))

pub loop-left-smaller : goal.loop-left-smaller
loop-left-smaller c =
    let l = c.loop-left.left in
    omega (arith, and_le_r l (l - 1))

pub loop-left-preserved : goal.loop-left-preserved
loop-left-preserved c =
    walk_miss _ _ _ _ _ _ _ c.loop-left.invariant (omega arith) (omega arith) (search rules)
    (sym c.same_key.ensures ∙ c.if-same_key.false)

pub returns : goal.returns
returns c = walk_last _ _ _ _ _ _ _ c.loop-left.invariant (omega arith)
