-- `table::free_slot` meets its contract. The trailing zeros of the word's complement are the slots below the lowest free one; a full word has none.
use Rattle.table.proofs.Laws.{free_full, free_told, zeros_fit}
use Rattle.table.proofs.free_slot.Goals as goal

pub returns-then-w : goal.returns-then-w
returns-then-w c = λ size. free_full _ _ size c.u32_at-w.result c.u32_at-w.ensures.0 c.u32_at-w.ensures.1 c.if-w.true

pub overflow_cast-result : goal.overflow_cast-result
overflow_cast-result c = zeros_fit _

pub returns : goal.returns
returns c = λ size. free_told _ _ size c.u32_at-w.result c.u32_at-w.ensures.0 c.u32_at-w.ensures.1 c.if-w.false
