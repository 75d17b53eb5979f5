-- Records where they lie: n slots of a record size from a place of any octets on, slot j in use if bit j of a word is set. The laws by
-- which a loop goes from slot to slot, and the word of a list, whose slots are all in use.
use Rattle.std.specs.Prelude.{ℕ, zero, suc, ◌+◌, ◌/◌, ◌%◌, Bool, true, ◌&&◌, ◌||◌, List, drop, eqb}
use Rattle.model.specs.Octets.{Octets, all_zero}
use Rattle.model.specs.Tables.{entries, chop}
use Rattle.model.specs.Layout.{slots_back}
use Rattle.octets.specs.Parts.{part}

-- the records in use among n slots of a size from a place on
abbrev pub records_at : Octets → (size place n w : ℕ) → List Octets
records_at s size place n w = entries (slots_back w (chop size n (drop place s)))

-- of n slots of a size from a place on, slot j in use if bit j of the word is set, the free ones are zero
unfoldable pub free_zero : Octets → (size place n w : ℕ) → Bool
free_zero s size place zero w = true
free_zero s size place (suc n) w = (eqb (w % 2) 1 || all_zero (part s place size)) && free_zero s size (place + size) n (w / 2)
