-- `calls::timer_end` meets its contract.
use mathlib.Core.Path.{sym, ◌∙◌}
use native.Mathlib.Omega.{arith}
use Rattle.calls.proofs.Reading.{end_told, end_untold}
use Rattle.calls.proofs.timer_end.Goals as goal

pub overflow_add-result : goal.overflow_add-result
overflow_add-result c = omega (arith, c.requires.1)

pub returns-then-ends : goal.returns-then-ends
returns-then-ends c =
    end_told _ _ _ _ _ _ _ (sym c.ends.ensures ∙ c.if-ends.true) c.current_settings.ensures c.new_settings.ensures

pub returns : goal.returns
returns c = end_untold _ _ _ _ _ (sym c.ends.ensures ∙ c.if-ends.false)
