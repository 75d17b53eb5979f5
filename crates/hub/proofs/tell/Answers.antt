-- `hub::tell` meets its contract: the words, their count and the status.
use native.Mathlib.Omega.{arith}
use mathlib.Core.Path.{refl}
use Rattle.hub.proofs.Why.{packed_small, tells, text_count}
use borrow.Author.Rules.{rules}
use Rattle.hub.proofs.tell.Goals as goal

pub pack-requires : goal.pack-requires
pack-requires c = text_count _ _ c.write_text-count.ensures.1

pub overflow_add-result : goal.overflow_add-result
overflow_add-result c = omega (arith, packed_small _ _ _ c.write_text-count.ensures.1 c.pack.ensures)

pub returns : goal.returns
returns c =
    tells _ _ _ _ _ _ _ c.requires c.write_text-count.ensures.0
    c.write_text-count.ensures.1 c.status-status.ensures c.pack.ensures refl
