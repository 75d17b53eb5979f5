-- The laws by which a loop goes from slot to slot, and the word of a list, whose slots are all in use.
use Prim.Native.Nat.{ℕ, zero, suc, ◌+◌, ◌-◌, ◌*◌, ◌/◌, ◌%◌, ◌^◌, ◌<◌, ◌≤◌}
use native.Mathlib.Omega.{arith}
use native.Mathlib.Nat.{pow-suc}
use mathlib.Core.Path.{◌≡◌, refl, ap}
use mathlib.Core.Bool.{true}
use mathlib.Core.List.{List, [], ◌∷◌}
use lib.ListN.{take, drop}
use lib.Seq.{drop-drop}
use borrow.Author.Tests.{eq-eqb, ne_eqb}
use Rattle.model.specs.Octets.{Octets}
use Rattle.model.specs.Tables.{entries, chop}
use Rattle.model.specs.Layout.{slots_back}
use Rattle.octets.specs.Parts.{part}
use Rattle.records.specs.Slots.{records_at, free_zero}

-- a slot in use is the record there, and the rest
pub used_slot : (s : Octets) (size place n w : ℕ) → 0 < n → w % 2 ≡ 1
    → records_at s size place n w ≡ part s place size ∷ records_at s size (place + size) (n - 1) (w / 2)
unfolding entries slots_back chop part
used_slot s size place zero w l h = absurd (omega arith)
used_slot s size place (suc n) w l h = let e : suc n - 1 ≡ n = omega arith in rw (e, eq-eqb (w % 2) 1 h, drop-drop size place s)

-- a free slot is passed over
pub free_slot : (s : Octets) (size place n w : ℕ) → 0 < n → (w % 2 ≡ 1 → ⊥)
    → records_at s size place n w ≡ records_at s size (place + size) (n - 1) (w / 2)
unfolding entries slots_back chop
free_slot s size place zero w l h = absurd (omega arith)
free_slot s size place (suc n) w l h = let e : suc n - 1 ≡ n = omega arith in rw (e, ne_eqb (w % 2) 1 h, drop-drop size place s)

-- of no slots there are no records
pub no_more : (s : Octets) (size place n w : ℕ) → n ≤ 0 → records_at s size place n w ≡ []
unfolding entries slots_back chop
no_more s size place n w l = let e : n ≡ 0 = omega arith in rw e

-- where the word is zero, no slot is in use
pub no_slots : (size n : ℕ) (o : Octets) → entries (slots_back 0 (chop size n o)) ≡ []
unfolding entries slots_back chop
no_slots size zero o = refl
no_slots size (suc n) o = no_slots size n (drop size o)

-- The word of a list: it has n bits, all set.

-- a power of two is not zero
some_power : (n : ℕ) → 0 < 2 ^ n
some_power zero = omega arith
some_power (suc n) = rw pow-suc (omega (arith, some_power n))

-- its lowest bit is set
word_odd : (n : ℕ) → (2 ^ suc n - 1) % 2 ≡ 1
word_odd n = rw pow-suc (go (2 ^ n) (some_power n))
  where
    go : (x : ℕ) → 0 < x → (x * 2 - 1) % 2 ≡ 1
    go x h = omega arith

-- and the others are the word of a list of one less
word_half : (n : ℕ) → (2 ^ suc n - 1) / 2 ≡ 2 ^ n - 1
word_half n = rw pow-suc (go (2 ^ n) (some_power n))
  where
    go : (x : ℕ) → 0 < x → (x * 2 - 1) / 2 ≡ x - 1
    go x h = omega arith

-- so a list of n records is n slots that are all in use
pub list_records : (size n : ℕ) (o : Octets) → entries (slots_back (2 ^ n - 1) (chop size n o)) ≡ chop size n o
unfolding entries slots_back chop
list_records size zero o = refl
list_records size (suc n) o = rw (word_odd n, word_half n) (ap {B = List Octets} (λ l. take size o ∷ l) (list_records size n (drop size o)))

-- and none that is free is left to be zero
pub list_free : (s : Octets) (size place n : ℕ) → free_zero s size place n (2 ^ n - 1) ≡ true
unfolding free_zero
list_free s size place zero = refl
list_free s size place (suc n) = rw (word_odd n, word_half n) (list_free s size (place + size) n)
