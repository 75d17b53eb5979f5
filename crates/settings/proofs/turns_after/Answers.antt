-- `settings::turns_after` meets its contract.
use Rattle.settings.proofs.Turns.{turned_off, turned_on}
use Rattle.settings.proofs.turns_after.Goals as goal

pub returns-then-not-new : goal.returns-then-not-new
returns-then-not-new c = turned_off _ _ _ _ c.if-not-new.true c.no_schedule.ensures

pub returns : goal.returns
returns c = turned_on _ _ _ _ c.if-not-new.false c.repower.ensures
