-- `faults::identity_keys` meets its contract: the list.
use mathlib.Core.Path.{refl, ◌∙◌}
use lib.Dec.{lit<, lit≤}
use borrow.Author.Rules.{rules}
use Rattle.records.proofs.Laws.{size3}
use Rattle.faults.proofs.Lists.{identity_list}
use Rattle.faults.proofs.identity_keys.Goals as goal

pub in_list-requires : goal.in_list-requires
in_list-requires c = (lit< tt, lit< tt, lit≤ tt, rw (size3 3 refl) (search rules))

pub returns : goal.returns
returns c = c.in_list.ensures ∙ identity_list _ _ _ (c.check_later.ensures ∙ rw c.le_supported-le.ensures)
