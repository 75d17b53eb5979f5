-- `advertising::on_air` meets its contract.
use mathlib.Core.Path.{refl, sym, ap, ◌∙◌}
use Rattle.advertising.proofs.Telling.{is_ready, on_air_most, told_absent, told_none}
use Rattle.model.specs.declared.Schedule.{Schedule}
use Rattle.advertising.proofs.Telling.{not_zero}
use Rattle.advertising.proofs.on_air.Goals as goal

-- src/lib.rt:183:13
pub schedule_at-t-requires : goal.schedule_at-t-requires
schedule_at-t-requires c = (
  c.requires.1,
  (is_ready _ _ c.requires.0
      (sym c.present.ensures ∙ c.if-present.true)).below,
)

-- src/lib.rt:185:13
pub returns-then-t-eq0 : goal.returns-then-t-eq0
returns-then-t-eq0 c = told_none _ _ _ _ _ (is_ready _ _ c.requires.0
    (sym c.present.ensures ∙ c.if-present.true)) c.schedule_at-t.ensures
    c.if-t-eq0.true refl

-- src/lib.rt:187:9
pub tell-requires : goal.tell-requires
tell-requires c =
    let r = (is_ready _ _ c.requires.0
    (sym c.present.ensures ∙ c.if-present.true)) in
    let e = c.schedule_at-t.ensures in (
      r,
      not_zero _ c.if-t-eq0.false,
      on_air_most _ _ _ r e,
      c.requires.2,
      ap
          (λ (t : Schedule). t.on_air) e,
    )

-- src/lib.rt:178:1
pub returns : goal.returns
returns c = told_absent _ _ _ _ c.requires.0 (sym c.present.ensures ∙ c.if-present.false) refl
