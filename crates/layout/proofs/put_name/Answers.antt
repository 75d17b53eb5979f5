-- `layout::put_name` meets its contract. The name is a piece of the block, written whole.
use mathlib.Core.Path.{◌∙◌}
use Rattle.layout.specs.Places.{place_of, sizes}
use Rattle.octets.specs.Parts.{place_at}
use Rattle.layout.proofs.Change.{name_changed_lem}
use borrow.Author.Rules.{rules}
use Rattle.layout.proofs.put_name.Goals as goal

pub returns : goal.returns
unfolding place_of place_at sizes
returns c = (cc) ∙ name_changed_lem _ _ (search rules) _ (search rules)
