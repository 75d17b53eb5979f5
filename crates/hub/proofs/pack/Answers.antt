-- `hub::pack` meets its contract.
use Prim.Native.Nat.{◌-◌}
use native.Mathlib.Omega.{arith}
use borrow.Author.Rules.{rules}
use Rattle.hub.proofs.Laws.{number_small}
use Rattle.hub.specs.Entries.{packed}
use Rattle.hub.proofs.pack.Goals as goal

pub overflow_add-result : goal.overflow_add-result
overflow_add-result c = omega (arith, c.number.ensures, c.count.ensures, number_small c.args.a)

pub returns : goal.returns
unfolding packed
returns c = rw (c.number.ensures, c.count.ensures)
