-- `table::store` meets its contract. The octets of slot k and the word are written: the table with that slot changed.
use native.Mathlib.Omega.{arith}
use Rattle.table.proofs.Regions.{slot_room}
use Rattle.table.proofs.Laws.{store_done}
use borrow.Author.Rules.{rules}
use Rattle.table.proofs.store.Goals as goal

pub overflow_mul-size : goal.overflow_mul-size
overflow_mul-size c =
    omega (arith, slot_room c.args.size c.args.k (omega arith))

pub overflow_add-size : goal.overflow_add-size
overflow_add-size c =
    omega (arith, slot_room c.args.size c.args.k (omega arith))

pub overflow_add-at : goal.overflow_add-at
overflow_add-at c =
    omega (arith, slot_room c.args.size c.args.k (omega arith))

pub copy_into-requires : goal.copy_into-requires
copy_into-requires c =
    omega (arith, slot_room c.args.size c.args.k (omega arith))

pub returns : goal.returns
returns c =
    store_done _ _ _ _ _ _ _ _ (search rules)
    c.requires.1 (search rules) (search rules)
    c.u32_at-w.ensures.0
    c.u32_at-w.ensures.1
    c.copy_into.ensures (rw c.from.ensures at c.put32.ensures)
