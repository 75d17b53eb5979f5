-- `layout::table_place` meets its contract. The offsets are those of the pieces from 5 on.
use native.Mathlib.Omega.{arith}
use Rattle.layout.proofs.Laws.{offset_below, table_is}
use borrow.Author.Rules.{rules}
use Rattle.layout.proofs.table_place.Goals as goal

pub overflow_add-result : goal.overflow_add-result
overflow_add-result c = omega (arith, offset_below c.args.k)

pub returns : goal.returns
returns c = rw c.block_place.ensures (table_is _ _ (search rules))
