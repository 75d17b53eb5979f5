-- `settings::finish` meets its contract.
use mathlib.Core.Path.{ap}
use Prim.Native.Nat.{◌+◌}
use Rattle.settings.proofs.Reporting.{cleared_ready, cleared_settings, open_within, report_acted}
use borrow.Author.Rules.{rules}
use Rattle.settings.proofs.finish.Goals as goal

pub overflow_add-at : goal.overflow_add-at
overflow_add-at c = let b = open_within _ _ c.requires.0.below c.open_place-at.ensures in search rules

pub acted_settings-new-requires : goal.acted_settings-new-requires
acted_settings-new-requires c =
    let b = open_within _ _ c.requires.0.below c.open_place-at.ensures in search rules

pub apply-requires : goal.apply-requires
apply-requires c = (
  cleared_ready _ _ _ c.requires.0
      c.clear_open.ensures,
  search rules,
  cleared_settings _ _ _ _ c.requires.0
      c.clear_open.ensures
      c.settings_at-old.ensures,
)

pub returns : goal.returns
returns c =
    report_acted _ _ _ _ _ _ _ _ _ _ _
    c.requires.0 (search rules)
    c.requires.2
    c.requires.3 c.settings_at-old.ensures
    (ap (λ k. k + 2) c.open_place-at.ensures)
    c.acted_settings-new.ensures
    c.clear_open.ensures
    c.apply.ensures.0 c.apply.ensures.1
    c.apply.ensures.2
