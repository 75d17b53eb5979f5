-- `settings::set_low_energy` meets its contract.
use Rattle.settings.proofs.Turns.{low_energy_acts}
use Rattle.settings.proofs.Bridge.{concluded, ends_length, low_energy_size}
use borrow.Author.Rules.{rules}
use Rattle.settings.proofs.set_low_energy.Goals as goal

pub returns-then-ps-ne1 : goal.returns-then-ps-ne1
returns-then-ps-ne1 c =
    ends_length _ _ _ _ _ _ _ _ (search rules) (search rules) _ low_energy_size c.if-ps-ne1.true
    c.refuse.ensures.0 c.refuse.ensures.1

pub returns : goal.returns
returns c =
    concluded _ _ _ _ _ _ _ _ _ _ _ _ _ c.requires.0
    low_energy_acts low_energy_size
    c.if-ps-ne1.false
    c.settings_at-old.ensures
    c.decide_low_energy-d.ensures
    c.effect_low_energy-new.ensures c.carry_out.ensures
