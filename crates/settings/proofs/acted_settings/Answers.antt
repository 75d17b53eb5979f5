-- `settings::acted_settings` meets its contract.
use native.Mathlib.Omega.{arith}
use Rattle.octets.proofs.Laws.{lent_part}
use Rattle.settings.specs.Opens.{opens_powered, opens_discoverable, opens_connectable, opens_low_energy}
use Rattle.settings.proofs.Bridge.{powered_size, discoverable_size, connectable_size, low_energy_size, bredr_size}
use Rattle.settings.proofs.Reporting.{makes_by, makes_last}
use Rattle.settings.proofs.acted_settings.Goals as goal

pub returns-in-5 : goal.returns-in-5
returns-in-5 c = makes_by _ _ _ _ _ _ _ _ _ opens_powered c.in-5.is powered_size (lent_part _ _ _) c.effect_powered.ensures

pub returns-in-6 : goal.returns-in-6
returns-in-6 c =
    makes_by _ _ _ _ _ _ _ _ _ opens_discoverable c.in-6.is discoverable_size (lent_part _ _ _) c.effect_discoverable.ensures

pub returns-in-7 : goal.returns-in-7
returns-in-7 c = makes_by _ _ _ _ _ _ _ _ _ opens_connectable c.in-7.is connectable_size (lent_part _ _ _) c.effect_connectable.ensures

pub returns-in-13 : goal.returns-in-13
returns-in-13 c = makes_by _ _ _ _ _ _ _ _ _ opens_low_energy c.in-13.is low_energy_size (lent_part _ _ _) c.effect_low_energy.ensures

pub returns-in_default : goal.returns-in_default
returns-in_default c =
    makes_last _ _ _ _ _ _ _ (λ e. omega arith) (λ e. omega arith) (λ e. omega arith) (λ e. omega arith) bredr_size (lent_part _ _ _) c.effect_bredr.ensures
