-- The commands that can be under way.
-- Assumes nothing.
use Rattle.std.specs.Prelude.{◌≡◌, ℕ}
use Rattle.model.specs.Codes as Codes
use Rattle.model.specs.declared.Settings.{Settings}
use Rattle.model.specs.Octets.{Octets}
use Rattle.model.specs.Rules.{RadioRule, set_powered, set_discoverable, set_connectable, set_low_energy, set_bredr}
use Rattle.octets.specs.Parts.{part}
use Rattle.rules.specs.Effects.{settings_effect}

-- by code and rule: Set Static Address never waits, and no other command does
pub data Opens : ℕ → RadioRule → Type 0 where
  opens_powered : Opens Codes.set_powered set_powered
  opens_discoverable : Opens Codes.set_discoverable set_discoverable
  opens_connectable : Opens Codes.set_connectable set_connectable
  opens_low_energy : Opens Codes.set_low_energy set_low_energy
  opens_bredr : Opens Codes.set_bredr set_bredr

-- `new` is what such a command, with its parameters at a place of s, makes of the settings `old`
abbrev pub Makes : ℕ → Octets → ℕ → Settings → Settings → Type 0
Makes code s at old new = (u : RadioRule) → Opens code u → new ≡ settings_effect u old (part s at u.size)
