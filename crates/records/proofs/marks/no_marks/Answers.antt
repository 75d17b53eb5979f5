-- `records::marks::no_marks` meets its contract. The invariant: both halves are alike, as they are of zeros and after each mark that is stored.
use Rattle.records.proofs.Marking.{zeros_doubled}
use Rattle.records.proofs.marks.no_marks.Goals as goal

pub loop-i-init : goal.loop-i-init
loop-i-init c = zeros_doubled
