-- `table::next_used` meets its contract. The bits from k on are shifted down; the trailing zeros of what is left are the free slots passed.
use Prim.Native.Nat.{◌/◌, ◌^◌}
use native.Mathlib.Omega.{arith}
use lib.Count.{trailing_le}
use Rattle.table.proofs.Laws.{next_none_at, next_some_at}
use borrow.Author.Rules.{rules}
use Rattle.table.proofs.next_used.Goals as goal

pub returns-then-w-eq0 : goal.returns-then-w-eq0
returns-then-w-eq0 c = next_none_at _ _ _ c.u32_at.result (search rules) c.u32_at.ensures.0 c.if-w-eq0.true

pub overflow_cast-result : goal.overflow_cast-result
overflow_cast-result c = omega (arith, trailing_le 64 (c.u32_at.result / 2 ^ c.args.k))

pub overflow_add-result : goal.overflow_add-result
overflow_add-result c = omega (arith, trailing_le 64 (c.u32_at.result / 2 ^ c.args.k))

pub returns : goal.returns
returns c = next_some_at _ _ _ c.u32_at.result (search rules) c.u32_at.ensures.0 c.u32_at.ensures.1 c.if-w-eq0.false
