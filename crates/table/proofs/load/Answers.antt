-- `table::load` meets its contract. The word, the records as one run, and zeros after are the three parts of the table written.
use native.Mathlib.Omega.{arith}
use Rattle.table.proofs.Laws.{one_le_shl64, rest_room, load_done}
use borrow.Author.Rules.{rules}
use Rattle.table.proofs.load.Goals as goal

pub overflow_sub-end : goal.overflow_sub-end
overflow_sub-end c = one_le_shl64 c.args.n (search rules)

pub overflow_mul-size-3 : goal.overflow_mul-size-3
overflow_mul-size-3 c =
    omega (
      arith,
      rest_room c.args.size
          c.args.n (omega arith),
    )

pub zero_fill-requires : goal.zero_fill-requires
zero_fill-requires c =
    omega (
      arith,
      rest_room c.args.size
          c.args.n (omega arith),
    )

pub returns : goal.returns
returns c =
    load_done _ _ _ _ _ _ _ _ _ (search rules) (search rules)
    c.put32.ensures
    c.copy_into.ensures c.zero_fill.ensures
