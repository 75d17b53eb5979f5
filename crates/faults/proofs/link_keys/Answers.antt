-- `faults::link_keys` meets its contract: the debug flag, then the list.
use mathlib.Core.Path.{refl, ◌∙◌}
use lib.Dec.{lit<, lit≤}
use borrow.Author.Rules.{rules}
use Rattle.records.proofs.Laws.{size1}
use Rattle.faults.proofs.Lists.{link_list}
use Rattle.faults.proofs.link_keys.Goals as goal

pub in_list-requires : goal.in_list-requires
in_list-requires c = (lit< tt, lit< tt, lit≤ tt, rw (size1 1 refl) (search rules))

pub returns : goal.returns
returns c = c.in_list.ensures ∙ link_list _ _ _ _ c.check_at-head.ensures (c.check_later.ensures ∙ rw c.bredr_supported-bredr.ensures)
