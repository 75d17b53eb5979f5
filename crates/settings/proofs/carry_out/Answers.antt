-- `settings::carry_out` meets its contract. Refused before Busy, or past those checks.
use Rattle.std.proofs.Common.{rules}
use Rattle.settings.proofs.Bridge.{ends_early, not_refused}
use Rattle.settings.proofs.carry_out.Goals as goal

pub returns-in-Refuse : goal.returns-in-Refuse
returns-in-Refuse c = λ u f. ends_early _ _ _ _ u _ _ _ (search rules) (search rules) _ _ _ f _ c.in-Refuse.is c.refuse.ensures.0 c.refuse.ensures.1

pub returns-in_default : goal.returns-in_default
returns-in_default c = λ u f. c.unless_busy.ensures u f (not_refused _ _ _ u _ _ _ f c.in_default.not-Refuse)
