-- `octets::used_part` meets its contract. The beginning of the name that is as long as its used part is its used part.
use Rattle.octets.proofs.Laws.{take_used}
use Rattle.octets.proofs.used_part.Goals as goal

pub slice_bounds-result-end : goal.slice_bounds-result-end
slice_bounds-result-end c = rw (c.used_length-n.ensures, take_used)

pub returns : goal.returns
returns c = rw c.used_length-n.ensures (take_used _)
