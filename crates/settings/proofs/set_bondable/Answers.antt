-- `settings::set_bondable` meets its contract.
use Rattle.settings.proofs.Bridge.{bondable_length, bondable_refused, bondable_done}
use borrow.Author.Rules.{rules}
use Rattle.settings.proofs.set_bondable.Goals as goal
use Rattle.settings.proofs.set_bondable.Goals.{then-ps-ne1-via-then-ps-ne1, then-ps-ne1-via-else-ps-ne1+then-ps-gt1}

pub returns-then-ps-ne1 : goal.returns-then-ps-ne1
returns-then-ps-ne1 c =
    elim c.then-ps-ne1.branch [
      | then-ps-ne1-via-then-ps-ne1 w ↦ bondable_length _ _ _ _ _ _ (search rules) (search rules) w.if-ps-ne1.true c.refuse.ensures.0 c.refuse.ensures.1
      | then-ps-ne1-via-else-ps-ne1+then-ps-gt1 w ↦
          bondable_refused _ _ _ _ _ _ (search rules) (search rules) w.if-ps-ne1.false w.if-ps-gt1.true c.refuse.ensures.0 c.refuse.ensures.1
    ]

pub returns : goal.returns
returns c =
    bondable_done _ _ _ _ _ _ (search rules) (search rules) _ _ _ c.if-ps-ne1.false c.if-ps-gt1.false c.settings_at-old.ensures c.with_bondable-new.ensures
    c.apply_settings.ensures.0 c.apply_settings.ensures.1 c.apply_settings.ensures.2
