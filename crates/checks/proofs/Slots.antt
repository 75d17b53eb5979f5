-- Slots of the lent state beside those that a table lays out.
use Prim.Native.Nat.{ℕ, zero, suc, ◌+◌, ◌*◌, ◌/◌, ◌%◌, ◌≤◌}
use native.Mathlib.Omega.{arith}
use native.Mathlib.Nat.{mul-suc, mul-zero}
use mathlib.Core.Path.{◌≡◌, refl, sym, ◌∙◌}
use mathlib.Core.Bool.{Bool, true, false, ◌||◌}
use mathlib.Core.List.{[], ◌++◌}
use mathlib.Core.Option.{none, some}
use lib.ListN.{length, drop, length-replicate}
use lib.Seq.{drop-drop}
use lib.Dec.{eqb}
use Rattle.model.specs.Octets.{Octets, all_zero, bytes, same, u32}
use Rattle.model.specs.Tables.{chop}
use Rattle.model.specs.Layout.{occupancy, region, slot_octets, slots, slots_back}
use Rattle.model.proofs.Model.Tables.{same_refl}
use Rattle.octets.specs.Parts.{part}
use Rattle.octets.proofs.Parts.{length_part}
use Rattle.octets.proofs.Numbers.{zeros_append}
use Rattle.records.specs.Slots.{free_zero}
use Rattle.table.specs.Slots.{table_at}
use Rattle.table.proofs.Regions.{word_at}
use Rattle.checks.proofs.Tests.{le32_part, part_add, same_append, same_zeros, u32_lt}

-- the slots, one and the rest
part_slots : (s : Octets) (size place n : ℕ) → part s place (size * suc n) ≡ part s place size ++ part s (place + size) (size * n)
part_slots s size place n = let e : size * suc n ≡ size + size * n = mul-suc size n ∙ omega arith in rw e (part_add s place size (size * n))

-- one slot: as it lies where it is in use, else zeros
slot_same : (r : Octets) (size : ℕ) (b : Bool) → length r ≡ size → same r (slot_octets size (elim b [ true ↦ some r | false ↦ none ])) ≡ b || all_zero r
unfolding slot_octets
slot_same r size true l = same_refl r
slot_same r size false l = same_zeros r size l

-- in use or free, a slot is laid out in as many octets as it has
slot_long : (r : Octets) (size : ℕ) (b : Bool) → length r ≡ size → length r ≡ length (slot_octets size (elim b [ true ↦ some r | false ↦ none ]))
unfolding slot_octets
slot_long r size true l = refl
slot_long r size false l = l ∙ sym (length-replicate {A = ℕ} size 0)

-- where no slots are left, there is nothing to compare
no_slots : (s : Octets) (size place : ℕ) → same (part s place (size * 0)) [] ≡ true
unfolding same part
no_slots s size place = rw mul-zero

-- slots are the one encoding of what they mean if the free ones are zero
slots_same : (s : Octets) (size place n w : ℕ) → place + size * n ≤ length s
    → same (part s place (size * n)) (slots size (slots_back w (chop size n (drop place s)))) ≡ free_zero s size place n w
unfolding free_zero slots slots_back chop part
slots_same s size place zero w h = no_slots s size place
slots_same s size place (suc n) w h =
    let e : size * suc n ≡ size * n + size = mul-suc size n in
    let r : Octets = part s place size in
    let l : length r ≡ size = length_part s place size (omega arith) in
    let d : drop size (drop place s) ≡ drop (place + size) s = drop-drop size place s in
    rw (part_slots s size place n, d)
    (same_append r (part s (place + size) (size * n)) (slot_octets size (elim (eqb (w % 2) 1) [ true ↦ some r | false ↦ none ]))
    (slots size (slots_back (w / 2) (chop size n (drop (place + size) s))))
    (slot_long r size (eqb (w % 2) 1) l)
    ∙ rw (slot_same r size (eqb (w % 2) 1) l, slots_same s size (place + size) n (w / 2) (omega arith)))

-- a table's octets are those of the table they mean, if its free slots are zero
pub region_same : (s : Octets) (at size : ℕ) → bytes s ≡ true → at + (4 + size * 32) ≤ length s
    → same (part s at (4 + size * 32)) (region size (table_at s at size)) ≡ free_zero s size (at + 4) 32 (u32 s at)
unfolding region table_at
region_same s at size w h =
    let o : occupancy (slots_back (u32 s at) (chop size 32 (drop (at + 4) s))) ≡ u32 s at = word_at s at size (u32_lt s at w) in
    let l : length (part s at 4) ≡ 4 = length_part s at 4 (omega arith) in
    rw (part_add s at 4 (size * 32), o, le32_part s at w (omega arith))
    (same_append (part s at 4) (part s (at + 4) (size * 32)) (part s at 4) (slots size (slots_back (u32 s at) (chop size 32 (drop (at + 4) s)))) refl
    ∙ rw (same_refl (part s at 4)) (slots_same s size (at + 4) 32 (u32 s at) (omega arith)))

-- where no slot is in use, all are zero
pub zero_rest : (s : Octets) (size at n : ℕ) → all_zero (part s at (size * n)) ≡ free_zero s size at n 0
unfolding free_zero all_zero part
zero_rest s size at zero = rw mul-zero
zero_rest s size at (suc n) = rw (part_slots s size at n, zeros_append (part s at size) (part s (at + size) (size * n)), zero_rest s size (at + size) n)
