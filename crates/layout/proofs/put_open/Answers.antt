-- `layout::put_open` meets its contract. Code, parameters and zeros are the piece of the open command, in three writes.
use mathlib.Core.Path.{◌∙◌}
use Rattle.layout.proofs.Laws.{open_laid}
use borrow.Author.Rules.{rules}
use Rattle.layout.proofs.put_open.Goals as goal

pub returns : goal.returns
returns c = (cc) ∙ open_laid _ _ _ _ (search rules) (search rules)
