-- `layout::put_instance` meets its contract. The schedule and the data of the instance are pieces of the block.
use mathlib.Core.Path.{◌∙◌}
use Rattle.layout.proofs.Advertising.{instance_laid}
use borrow.Author.Rules.{rules}
use Rattle.layout.proofs.put_instance.Goals as goal

-- src/lib.rt:397:1
pub returns : goal.returns
returns c =
    let w = c.write_schedule.ensures in
    (cc) ∙ instance_laid _ _ (search rules) _ _ _ _ (search rules) (search rules) w.1 w.2
