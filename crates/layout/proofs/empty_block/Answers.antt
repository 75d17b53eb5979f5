-- `layout::empty_block` meets its contract. Zeros over the whole block.
use mathlib.Core.Path.{refl, ◌∙◌}
use Rattle.model.specs.Lengths as Lengths
use Rattle.layout.proofs.Change.{block_emptied}
use borrow.Author.Rules.{rules}
use Rattle.layout.proofs.empty_block.Goals as goal

pub returns : goal.returns
returns c = (cc) ∙ block_emptied _ _ (search rules) Lengths.block refl
