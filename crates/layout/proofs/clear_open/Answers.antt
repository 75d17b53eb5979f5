-- `layout::clear_open` meets its contract. Five zeros where the open command lies.
use mathlib.Core.Path.{◌∙◌}
use Rattle.layout.specs.Places.{place_of, sizes}
use Rattle.octets.specs.Parts.{place_at}
use Rattle.layout.proofs.Open.{open_cleared}
use borrow.Author.Rules.{rules}
use Rattle.layout.proofs.clear_open.Goals as goal

pub returns : goal.returns
unfolding place_of place_at sizes
returns c = (cc) ∙ open_cleared _ _ (search rules)
