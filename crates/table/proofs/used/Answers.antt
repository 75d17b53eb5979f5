-- `table::used` meets its contract. The ones of the word are the table's entries.
use native.Mathlib.Omega.{arith}
use lib.Count.{ones-le}
use Rattle.table.proofs.Regions.{used_at}
use Rattle.table.proofs.used.Goals as goal

pub returns : goal.returns
returns c = (λ size. rw c.u32_at.ensures.0 (used_at _ _ size (omega arith)), ones-le 32 c.u32_at.result c.u32_at.ensures.1)
