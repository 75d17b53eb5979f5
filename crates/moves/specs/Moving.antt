-- An image moved: what the pieces of the code write, in the model's words.
use Rattle.std.specs.Prelude.{ℕ, zero, suc, ◌+◌, ◌≡◌, Bool, true, false, ◌&&◌, List, [], ◌∷◌, ◌++◌, length, drop}
use Rattle.std.proofs.Math.Option.{none, some}
use Rattle.model.specs.declared.Answer.{Answer}
use Rattle.model.specs.declared.Hardware.{Hardware}
use Rattle.model.specs.declared.Settings.{Settings}
use Rattle.model.specs.declared.Version.{Version}
use Rattle.model.specs.declared.Version.TheVariants.{One, Two}
use Rattle.model.specs.Answers.{count_of, number_of, offset_of}
use Rattle.model.specs.Octets.{Octets, be32}
use Rattle.model.specs.State.{Table}
use Rattle.model.specs.Tables.{table_rules}
use Rattle.model.specs.Image.{bredr_flag, can_say, controller_image, flag_word}
use Rattle.model.specs.Moves.{Moved}
use Rattle.octets.specs.Parts.{part}
use Rattle.fields.specs.Places.{settings_in}
use Rattle.reading.specs.Contents.{Parsed, Placed, controller_in, tables_in}

-- the version that an image is moved from
unfoldable pub other : Version → Version
other One = Two
other Two = One

-- tables that keep every rule lie at a place of an image
abbrev pub TablesLie : Octets → ℕ → Type 0
TablesLie image at = (f : Hardware) × (m : Parsed (List Table)) × (tables_in f table_rules (drop at image) ≡ some m)

-- a controller that keeps every rule lies at a place of an image
abbrev pub Lies : Version → Octets → ℕ → Type 0
Lies v image at = (g : Parsed Placed) × (controller_in v (drop at image) ≡ some g)

-- n controllers, one behind the other
unfoldable pub controllers_in : Version → ℕ → Octets → List Placed
controllers_in v zero o = []
controllers_in v (suc n) o = elim (controller_in v o) [ none ↦ [] | some g ↦ g.value ∷ controllers_in v n g.behind ]

-- every one of them keeps the rules
unfoldable pub all_lie : Version → ℕ → Octets → Bool
all_lie v zero o = true
all_lie v (suc n) o = elim (controller_in v o) [ none ↦ false | some g ↦ all_lie v n g.behind ]

-- what a controller is in a version
unfoldable pub written : Version → Placed → Octets
written w g = controller_image w g.index g.controller

-- the flags that a version has for settings
abbrev pub flags_for : Version → Settings → ℕ
flags_for w m = flag_word m.radio.connectable m.host.bondable (bredr_flag w m.radio.bredr) m.radio.low_energy

-- the 24 octets of a controller before its names, at a place of the image, in a version: the flags as it has them, all else as it stands
unfoldable pub fixed_moved : Version → Octets → ℕ → Octets
fixed_moved w image at = part image at 14 ++ (be32 (flags_for w (settings_in (other w) (drop at image))) ++ part image (at + 18) 6)

-- a version can say every one of them
unfoldable pub all_said : Version → List Placed → Bool
all_said w [] = true
all_said w (g ∷ gs) = can_say w g.controller.radio && all_said w gs

-- a move answers r and makes of the output `before` the output `after`, as the model says
pub record Gives (m : Moved) (r : Answer) (before after : Octets) : Type 0 where
  pub answer : number_of r ≡ m.answer
  pub offset : offset_of r ≡ m.offset
  -- the count is the length of what is written
  pub count : count_of r ≡ length m.octets
  -- behind that the output is as it was
  pub output : after ≡ m.octets ++ drop (length m.octets) before
