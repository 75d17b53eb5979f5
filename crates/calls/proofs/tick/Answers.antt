-- `calls::tick` meets its contract.
use mathlib.Core.Path.{sym, ◌∙◌}
use Rattle.layout.proofs.Reading.{ready}
use Rattle.calls.proofs.Reading.{tick_absent}
use Rattle.calls.proofs.tick.Goals as goal

pub schedule_at-was-requires : goal.schedule_at-was-requires
schedule_at-was-requires c = (c.requires.1, c.requires.2)

pub tick_timer-requires : goal.tick_timer-requires
tick_timer-requires c = (
  ready _ _ c.requires.0 (sym c.present.ensures ∙ c.if-present.true),
  (rw c.schedule_at-was.ensures at c.if-was-eq0.true),
  c.requires.3,
  c.requires.4,
)

pub returns-then-was-eq0 : goal.returns-then-was-eq0
returns-then-was-eq0 c = c.tick_timer.ensures

pub tick_turns-requires : goal.tick_turns-requires
tick_turns-requires c = (
  ready _ _ c.requires.0 (sym c.present.ensures ∙ c.if-present.true),
  c.schedule_at-was.ensures,
  c.requires.3,
  c.requires.4,
)

pub returns-then-present : goal.returns-then-present
returns-then-present c = c.tick_turns.ensures

pub returns : goal.returns
returns c =
    tick_absent _ _ _ _ _ c.requires.0 c.requires.2 (sym c.present.ensures ∙ c.if-present.false)
