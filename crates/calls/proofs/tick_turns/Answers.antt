-- `calls::tick_turns` meets its contract.
use native.Mathlib.Omega.{arith}
use Rattle.calls.proofs.Reading.{sound, tick_turned}
use Rattle.calls.proofs.tick_turns.Goals as goal

pub settings_at-before-requires : goal.settings_at-before-requires
settings_at-before-requires c = (c.requires.0.long, c.requires.0.below)

pub advance-next-requires : goal.advance-next-requires
advance-next-requires c = sound _ _ c.requires.0 _ c.requires.1

pub put_turns-requires : goal.put_turns-requires
put_turns-requires c =
    (c.requires.0, c.requires.1)

pub timer_end-behind-requires : goal.timer_end-behind-requires
timer_end-behind-requires c = (
  omega (arith, c.requires.2),
  c.requires.3,
)

pub advertising_removed-requires : goal.advertising_removed-requires
advertising_removed-requires c =
    omega (
      arith,
      c.requires.2,
      c.timer_end-behind.ensures.0,
      c.reply-1.given,
    )

pub returns : goal.returns
returns c =
    tick_turned _ _ _ _ c.requires.0 _ _ c.settings_at-before.ensures c.counted-after.ensures _ _ _ _ _ _ _ _ c.requires.1 c.advance-next.ensures c.put_turns.ensures c.timer_end-behind.ensures c.advertising_removed.ensures
