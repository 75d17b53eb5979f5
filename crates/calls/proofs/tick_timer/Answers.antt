-- `calls::tick_timer` meets its contract.
use native.Mathlib.Omega.{arith}
use Rattle.calls.proofs.Reading.{tick_rests, tick_still}
use Rattle.calls.proofs.tick_timer.Goals as goal

pub settings_at-before-requires : goal.settings_at-before-requires
settings_at-before-requires c = (c.requires.0.long, c.requires.0.below)

pub returns-then-before-eq0 : goal.returns-then-before-eq0
returns-then-before-eq0 c =
    tick_still _ _ _ _ c.requires.0 _ c.settings_at-before.ensures _ c.requires.1 c.if-before-eq0.true

pub put_settings-requires : goal.put_settings-requires
put_settings-requires c = c.requires.0

pub timer_end-requires : goal.timer_end-requires
timer_end-requires c = (
  omega (arith, c.requires.2),
  c.requires.3,
)

pub returns : goal.returns
returns c =
    tick_rests _ _ _ _ c.requires.0 _ _ c.settings_at-before.ensures c.counted-after.ensures _ _ _ _ c.requires.1 c.put_settings.ensures c.timer_end.ensures
