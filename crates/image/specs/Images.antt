-- The parts of a controller's image that the contracts cite, in the order in which they lie.
use Rattle.std.specs.Prelude.{ℕ, ◌∷◌, ◌++◌}
use Rattle.model.specs.declared.Settings.{Settings}
use Rattle.model.specs.Octets.{Octets, be16, be32}
use Rattle.model.specs.Image.{flag_word}

-- the flags of an image of version 2, from the settings: connectable, bondable, BR/EDR, Low Energy (01, The image; 02, E7)
unfoldable pub flags_in : Settings → ℕ
flags_in m = flag_word m.radio.connectable m.host.bondable m.radio.bredr m.radio.low_energy

-- the numbers of a controller's image, 11 octets: version, manufacturer, supported settings, flags (01, The image)
unfoldable pub numbers_image : Settings → Octets
numbers_image m = m.radio.hardware.version ∷ (be16 m.radio.hardware.manufacturer ++ (be32 m.radio.hardware.supported ++ be32 (flags_in m)))

-- index 1, public address 6, the numbers 11, static address 6
unfoldable pub fixed_image : ℕ → Settings → Octets
fixed_image i m = i ∷ (m.radio.hardware.public_address ++ (numbers_image m ++ m.radio.static_address))
