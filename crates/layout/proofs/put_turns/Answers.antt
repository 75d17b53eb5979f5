-- `layout::put_turns` meets its contract. Settings, schedule and data are pieces of the block, each written at its place.
use mathlib.Core.Path.{◌∙◌}
use Rattle.layout.proofs.Advertising.{turns_laid}
use borrow.Author.Rules.{rules}
use Rattle.layout.proofs.put_turns.Goals as goal

-- src/lib.rt:359:1
pub returns : goal.returns
returns c =
    let w = c.write_schedule.ensures in
    c.clear_slots-2.ensures
    ∙ rw (
      c.clear_slots.ensures,
      w.0,
      c.write_settings.ensures,
      c.block_place-b.ensures,
    ) (turns_laid _ _ c.requires.0 _ _ _
    c.requires.1 (search rules) w.1 w.2)
