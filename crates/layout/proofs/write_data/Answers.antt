-- `layout::write_data` meets its contract. The length, the data, zeros.
use mathlib.Core.Path.{◌∙◌}
use Rattle.layout.proofs.Writes.{data_put}
use borrow.Author.Rules.{rules}
use Rattle.layout.proofs.write_data.Goals as goal

-- src/lib.rt:378:1
pub returns : goal.returns
returns c = (cc) ∙ data_put _ _ _ (search rules)
