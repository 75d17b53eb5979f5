-- The fixed part of a controller by places of the image: what is read there is what the contracts say of the octets from its index on.
use Prim.Native.Nat.{ℕ, ◌+◌, ◌/◌, ◌%◌}
use native.Mathlib.Nat.{add-zero}
use mathlib.Core.Path.{◌≡◌, ap, ◌∙◌}
use mathlib.Core.Bool.{false}
use lib.ListN.{drop, get_or, take}
use lib.Seq.{drop-drop, get_or-drop, get_or-take}
use lib.Dec.{eqb, lit<}
use Rattle.model.specs.declared.Hardware.{Hardware}
use Rattle.model.specs.declared.Settings.{Settings}
use Rattle.model.specs.declared.Version.{Version}
use Rattle.model.specs.Octets.{Octets, bit, number, octet}
use Rattle.model.specs.State.{no_timer}
use Rattle.model.specs.Image.{bredr_read}
use Rattle.model.specs.Reading.{fixed_by, hardware_by}
use Rattle.octets.specs.Parts.{part}
use Rattle.fields.specs.Places.{fixed_in, flags_in, hardware_in, settings_in, static_in}

-- the hardware, by places of the image
unfoldable pub hardware_from : Octets → ℕ → Hardware
hardware_from image at = record {
  public_address = part image (at + 1) 6;
  version = get_or image (at + 7) 0;
  manufacturer = number 0 (part image (at + 8) 2);
  supported = number 0 (part image (at + 10) 4);
}

-- the octet at a place begins the octets from there on
pub at_first : (o : Octets) (k : ℕ) → get_or (drop k o) 0 0 ≡ get_or o k 0
at_first o k = get_or-drop k o 0 0 ∙ ap (λ (i : ℕ). get_or o i 0) (add-zero k)

-- the first of the octets from a place on
pub first_of : (o : Octets) (k : ℕ) → get_or (take 1 (drop k o)) 0 0 ≡ get_or o k 0
first_of o k = get_or-take 1 (drop k o) 0 0 (lit< tt) ∙ at_first o k

-- it is that of the contracts
pub hardware_from_lem : (image : Octets) (at : ℕ) → hardware_from image at ≡ hardware_in (drop at image)
unfolding hardware_from hardware_in hardware_by part octet
hardware_from_lem image at =
    rw (drop-drop 1 at image, drop-drop 8 at image, drop-drop 10 at image, drop-drop 7 at image, first_of image (at + 7))

-- the settings, by hardware and places of the image
unfoldable pub settings_from : Version → Hardware → Octets → ℕ → Settings
settings_from v f image at = record {
  radio = record {
    hardware = f;
    powered = false;
    connectable = eqb (number 0 (part image (at + 14) 4) / 2 % 2) 1;
    bredr = bredr_read v f (number 0 (part image (at + 14) 4));
    low_energy = eqb (number 0 (part image (at + 14) 4) / 512 % 2) 1;
    static_address = part image (at + 18) 6;
  };
  host = record { timer = no_timer; bondable = eqb (number 0 (part image (at + 14) 4) / 16 % 2) 1 };
}

-- they are those of the contracts
pub settings_from_lem : (v : Version) (f : Hardware) (image : Octets) (at : ℕ) → f ≡ hardware_in (drop at image)
    → settings_from v f image at ≡ settings_in v (drop at image)
unfolding settings_from settings_in fixed_in fixed_by flags_in static_in part bit
settings_from_lem v f image at e = rw (e, drop-drop 14 at image, drop-drop 18 at image)
