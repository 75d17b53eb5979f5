-- `layout::put_settings` meets its contract. The settings are a piece of the block.
use mathlib.Core.Path.{◌∙◌}
use Rattle.layout.proofs.Change.{settings_changed_lem}
use Rattle.layout.specs.Places.{place_of, sizes}
use Rattle.octets.specs.Parts.{place_at}
use borrow.Author.Rules.{rules}
use Rattle.layout.proofs.put_settings.Goals as goal

-- src/lib.rt:170:1
pub returns : goal.returns
unfolding place_of place_at sizes
returns c = (cc) ∙ settings_changed_lem _ _ (search rules) _ (search rules)
