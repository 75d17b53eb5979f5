-- `layout::write_schedule` meets its contract. Durations, timeouts, the instance on air, the seconds left.
use mathlib.Core.Path.{◌∙◌}
use Rattle.layout.proofs.Writes.{schedule_put}
use borrow.Author.Rules.{rules}
use Rattle.layout.proofs.write_schedule.Goals as goal

-- src/lib.rt:322:1
pub returns : goal.returns
returns c = ((cc) ∙ schedule_put _ _ _ (search rules) (search rules), search rules, search rules)
