-- `settings::set_connectable` meets its contract.
use Rattle.settings.proofs.Turns.{connectable_acts}
use Rattle.settings.proofs.Bridge.{concluded, ends_length, connectable_size}
use borrow.Author.Rules.{rules}
use Rattle.settings.proofs.set_connectable.Goals as goal

pub returns-then-ps-ne1 : goal.returns-then-ps-ne1
returns-then-ps-ne1 c =
    ends_length _ _ _ _ _ _ _ _ (search rules) (search rules) _ connectable_size c.if-ps-ne1.true
    c.refuse.ensures.0 c.refuse.ensures.1

pub returns : goal.returns
returns c =
    concluded _ _ _ _ _ _ _ _ _ _ _ _ _ c.requires.0
    connectable_acts connectable_size
    c.if-ps-ne1.false
    c.settings_at-old.ensures
    c.decide_connectable-d.ensures
    c.effect_connectable-new.ensures c.carry_out.ensures
