-- Controller information in the pieces in which the code writes it.
-- Assumes nothing.
use Rattle.std.specs.Prelude.{ℕ, [], ◌∷◌, ◌++◌}
use Rattle.model.specs.declared.Hardware.{Hardware}
use Rattle.model.specs.Octets.{Octets, le16, le32}
use Rattle.model.specs.State.{Controller, current_settings, settings_of}
use Rattle.model.specs.Immediate.{class_of}

-- what stands between the address and the name, with these current settings and hints
unfoldable pub information_head : Hardware → ℕ → ℕ → Octets
information_head f current hints = f.version ∷ (le16 f.manufacturer ++ (le32 f.supported ++ (le32 current ++ (0 ∷ 0 ∷ hints ∷ []))))

-- what is told of a controller, 280 octets
unfoldable pub information_of : Controller → Octets
information_of c =
    c.radio.hardware.public_address
    ++ (c.radio.hardware.version
    ∷ (le16 c.radio.hardware.manufacturer ++ (le32
    c.radio.hardware.supported ++ (le32 (current_settings (settings_of c)) ++ (class_of c.host ++ c.host.name)))))
