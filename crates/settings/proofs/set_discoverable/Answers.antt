-- `settings::set_discoverable` meets its contract.
use Rattle.settings.proofs.Turns.{discoverable_acts}
use Rattle.settings.proofs.Bridge.{concluded, ends_length, discoverable_size}
use borrow.Author.Rules.{rules}
use Rattle.settings.proofs.set_discoverable.Goals as goal

pub returns-then-ps-ne3 : goal.returns-then-ps-ne3
returns-then-ps-ne3 c =
    ends_length _ _ _ _ _ _ _ _ (search rules) (search rules) _ discoverable_size c.if-ps-ne3.true
    c.refuse.ensures.0 c.refuse.ensures.1

pub returns : goal.returns
returns c =
    concluded _ _ _ _ _ _ _ _ _ _ _ _ _ c.requires.0
    discoverable_acts discoverable_size
    c.if-ps-ne3.false
    c.settings_at-old.ensures
    c.decide_discoverable-d.ensures
    c.effect_discoverable-new.ensures c.carry_out.ensures
