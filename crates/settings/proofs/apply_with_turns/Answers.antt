-- `settings::apply_with_turns` meets its contract.
use mathlib.Core.Path.{ap}
use Rattle.model.specs.declared.Answer.TheVariants.{Done}
use Rattle.settings.proofs.Turns.{acted_written, acted_laid, told_short}
use borrow.Author.Rules.{rules}
use Rattle.settings.proofs.apply_with_turns.Goals as goal

pub advertising_removed-end-requires : goal.advertising_removed-end-requires
advertising_removed-end-requires c = let b = told_short _ _ _ _ _ c.tell-count.ensures.0 in search rules

pub returns : goal.returns
returns c =
    let e = c.schedule_at-was.ensures in
    let t = c.turns_after-next.ensures in
    let w = acted_written _ _ _ _ _ _ _ _ _ _ _ _ e t c.tell-count.ensures.0
    c.tell-count.ensures.1
    c.advertising_removed-end.ensures.1 c.advertising_removed-end.ensures.2 in (
      ap Done w.0,
      w.1,
      acted_laid _ _ _ _ _ _ _ e t
          c.put_turns.ensures,
    )
