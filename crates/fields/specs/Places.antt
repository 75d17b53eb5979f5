-- The fixed part of a controller by the places of its fields: what it says, and where it ends. The octets begin with its index.
use Rattle.std.specs.Prelude.{ℕ, ◌+◌, ◌++◌, drop}
use Rattle.model.specs.declared.Hardware.{Hardware}
use Rattle.model.specs.declared.Settings.{Settings}
use Rattle.model.specs.declared.Version.{Version}
use Rattle.model.specs.Octets.{Octets, bit, number, octet}
use Rattle.model.specs.State.{no_timer}
use Rattle.model.specs.Image.{name_read, name_size}
use Rattle.model.specs.Reading.{Fixed, fixed_by, hardware_by}
use Rattle.octets.specs.Parts.{part}

-- the hardware: public address 6 octets, version 1, manufacturer 2, supported settings 4, behind the index (01, The image)
unfoldable pub hardware_in : Octets → Hardware
hardware_in o = hardware_by (part o 1 6) (part o 7 1) (part o 8 2) (part o 10 4)

-- the flags behind them
unfoldable pub flags_in : Octets → ℕ
flags_in o = number 0 (part o 14 4)

-- the static address behind the flags
unfoldable pub static_in : Octets → Octets
static_in o = part o 18 6

-- where the short name begins: behind the name
unfoldable pub short_place : Version → Octets → ℕ
short_place v o = 24 + name_size v 249 (drop 24 o)

-- where the fixed part ends: behind the short name
unfoldable pub fixed_end : Version → Octets → ℕ
fixed_end v o = short_place v o + name_size v 11 (drop (short_place v o) o)

-- name and short name
unfoldable pub names_in : Version → Octets → Octets
names_in v o = name_read v 249 (part o 24 (name_size v 249 (drop 24 o)))
    ++ name_read v 11 (part o (short_place v o) (name_size v 11 (drop (short_place v o) o)))

-- all that it says
unfoldable pub fixed_in : Version → Octets → Fixed
fixed_in v o = fixed_by v (octet o 0) (hardware_in o) (flags_in o) (static_in o) (names_in v o)

-- the settings that it gives: no power, no timer
unfoldable pub settings_in : Version → Octets → Settings
settings_in v o = record { radio = (fixed_in v o).radio; host = record { timer = no_timer; bondable = bit 4 (flags_in o) } }
