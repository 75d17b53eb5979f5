-- The hardware that plug is given.
-- Assumes nothing.
use Rattle.std.specs.Prelude.{ℕ}
use Rattle.model.specs.declared.Hardware.{Hardware}
use Rattle.model.specs.Octets.{Octets}

-- the hardware of these arguments
unfoldable pub hardware_given : Octets → ℕ → ℕ → ℕ → Hardware
hardware_given address version manufacturer supported = record { public_address = address; version = version; manufacturer = manufacturer; supported = supported }
