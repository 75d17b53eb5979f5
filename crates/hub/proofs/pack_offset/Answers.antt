-- `hub::pack_offset` meets its contract.
use native.Mathlib.Omega.{arith}
use borrow.Author.Rules.{rules}
use Rattle.hub.proofs.Entries.{packed_most}
use Rattle.hub.proofs.pack_offset.Goals as goal

pub overflow_add-result : goal.overflow_add-result
overflow_add-result c =
    let b = c in
    omega (arith, packed_most b.args.a b.requires.0, b.requires.1, c.pack.ensures, c.offset.ensures)
