-- `faults::long_term_keys` meets its contract: the list.
use mathlib.Core.Path.{refl, ◌∙◌}
use lib.Dec.{lit<, lit≤}
use borrow.Author.Rules.{rules}
use Rattle.records.proofs.Laws.{size2}
use Rattle.faults.proofs.Lists.{long_term_list}
use Rattle.faults.proofs.long_term_keys.Goals as goal

pub in_list-requires : goal.in_list-requires
in_list-requires c = (lit< tt, lit< tt, lit≤ tt, rw (size2 2 refl) (search rules))

pub returns : goal.returns
returns c = c.in_list.ensures ∙ long_term_list _ _ _ (c.check_later.ensures ∙ rw c.le_supported-le.ensures)
