-- The block of an index, part by part: what the model's test of a block comes to, where it lies in the state.
use Rattle.std.specs.Prelude.{ℕ, ◌+◌, Bool, ◌&&◌}
use Rattle.model.specs.Lengths as Lengths
use Rattle.model.specs.Octets.{Octets, u16}
use Rattle.model.specs.State.{settings_of}
use Rattle.model.specs.Tables.{table_rules}
use Rattle.model.specs.Image.{name_ok, radio_ok}
use Rattle.octets.specs.Parts.{part}
use Rattle.layout.specs.Places.{base, controller_of}
use Rattle.rules.specs.Decisions.{settings_ok}
use Rattle.checks.specs.Tables.{tables_octets_ok}
use Rattle.checks.specs.Open.{open_octets_ok}
use Rattle.checks.specs.Settings.{flags_octets_ok}
use Rattle.checks.specs.Advertising.{advertising_octets_ok}

-- the octets of block i
abbrev pub block_at : Octets → ℕ → Octets
block_at s i = part s (base i) Lengths.block

-- 1. A present controller's parts -----------------------------------------------------------------------------------------------------------------

-- the block of a present index is well formed: radio settings, settings, name, flags, open command, tables, advertising
unfoldable pub controller_octets_ok : Octets → ℕ → Bool
controller_octets_ok s i =
    radio_ok (controller_of s i).radio
    && (settings_ok (settings_of (controller_of s i))
    && (name_ok (controller_of s i).host.name
    && (flags_octets_ok s (base i)
    && (open_octets_ok (controller_of s i).radio (u16 s (base i + 1)) (part s (base i + 1 + 2) 3)
    && (tables_octets_ok (controller_of s i).radio.hardware table_rules s (base i + 293)
    && advertising_octets_ok (controller_of s i).radio.low_energy (controller_of s i).radio.powered s (base i + 4029))))))
