-- Laws of tables where they lie: how writes to a slot and to the occupancy word change the table.
use mathlib.Core.Path.{◌≡◌, refl, ap, sym, ◌∙◌}
use Prim.Native.Nat.{ℕ, zero, suc, ◌+◌, ◌*◌, ◌-◌, ◌/◌, ◌%◌, ◌^◌, ◌≤◌, ◌<◌}
use native.Mathlib.Omega.{arith}
use native.Mathlib.Nat.{add-zero, mul-suc, mul-zero, pow-suc, mul-le-mul_left, one-le-pow, mod-eq_of_lt, div-div-eq-div-mul, div-add-mod', mul_comm, sub-zero}
use mathlib.Core.Bool.{Bool, true, false}
use mathlib.Core.List.{List, [], ◌∷◌, ◌++◌, map, append_assoc}
use mathlib.Core.Option.{Option, none, some}
use lib.ListN.{length, get_or, take, drop, set, replicate, length-append, length-replicate, take-append-drop, replicate-append-replicate}
use lib.Seq.{sets-eq, get_or-drop, drop-drop, drop_at, take_at, take-append_seam, take-add, length-take-le}
use lib.Pow.{pow-lt}
use lib.Bits.{bit_and, bit_or, or_step, and_step, or_zero_r, and_mask}
use lib.Count.{ones, count_trailing_zeros}
use borrow.Author.Tests.{eqb-false, eq-eqb, ne_eqb}
use lib.Dec.{eqb}
use Rattle.model.specs.Octets.{Octets, le32, u16, u32}
use Rattle.model.specs.State.{Table}
use Rattle.model.specs.Tables.{entries, loaded, chop, free}
use Rattle.model.specs.Layout.{occupancy, slot_octets, slots, region, slots_back, table_back}
use Rattle.model.proofs.Model.Tests.{equal, either}
use Rattle.model.proofs.Model.Region.{Sized, slot_write, occupancy_ones, occupancy_lt, occupancy_free}
use Rattle.model.proofs.Model.Tables.{length_chop}
use Rattle.octets.specs.Parts.{part, write_at}
use Rattle.octets.proofs.Parts.{length_part, length_write_at, write_split, write_left, write_right, write_whole}
use Rattle.table.specs.Slots.{Canonical, table_at}
use Rattle.model.proofs.Model.Decode.{slots_back_lem}
use Rattle.model.proofs.Model.Room.{length_le32}

-- 1. Octets written over octets -------------------------------------------------------------------------------------------------------------------

-- what a write leaves: the octets before it, what is written, the octets behind it
pub write_at_lem : (s : Octets) (at : ℕ) (w : Octets) → at + length w ≤ length s → write_at s at w ≡ take at s ++ (w ++ drop (at + length w) s)
unfolding write_at
write_at_lem s at w h = sets-eq w s at h ∙ append_assoc (take at s) w (drop (at + length w) s)

-- what is written is read back
pub part_write : (s : Octets) (at : ℕ) (w : Octets) → at + length w ≤ length s → part (write_at s at w) at (length w) ≡ w
unfolding part
part_write s at w h =
    let n : length (take at s) ≡ at = length-take-le at s (omega arith) in
    rw (write_at_lem s at w h, drop_at (take at s) (w ++ drop (at + length w) s) at n) (take-append_seam w (drop (at + length w) s))

-- what was read is written back: nothing changes
pub write_part : (s : Octets) (at n : ℕ) → at + n ≤ length s → write_at s at (part s at n) ≡ s
unfolding part
write_part s at n h =
    let e : length (take n (drop at s)) ≡ n = length_part s at n h in
    let f : drop (at + n) s ≡ drop n (drop at s) = sym (drop-drop n at s) in
    write_at_lem s at (take n (drop at s)) (rw e h) ∙ rw (e, f, take-append-drop n (drop at s)) (take-append-drop at s)

-- a write inside what was written
pub write_in_lem : (s : Octets) (at : ℕ) (x : Octets) (a : ℕ) (w : Octets) → at + length x ≤ length s → a + length w ≤ length x
    → write_at (write_at s at x) (at + a) w ≡ write_at s at (write_at x a w)
write_in_lem s at x a w h l =
    let n : length (take at s) ≡ at = length-take-le at s (omega arith) in
    let m : length (write_at x a w) ≡ length x = length_write_at x a w in
    let r : Octets = drop (at + length x) s in
    let e : write_at (take at s ++ (x ++ r)) (length (take at s) + a) w ≡ take at s ++ (write_at x a w ++ r) = write_right (take at s) (x ++ r) a w
    ∙ rw (write_left x r a w l) in
    let f : write_at (write_at s at x) (at + a) w ≡ take at s ++ (write_at x a w ++ r) = rw (write_at_lem s at x h) (rw n at e) in
    let g : write_at s at (write_at x a w) ≡ take at s ++ (write_at x a w ++ r) = write_at_lem s at (write_at x a w) (rw m h) ∙ rw m in
    f ∙ sym g

-- the whole of what was written, written over
pub write_over : (s : Octets) (at : ℕ) (x w : Octets) → at + length x ≤ length s → length w ≡ length x → write_at (write_at s at x) at w ≡ write_at s at w
write_over s at x w h e =
    let f : write_at (write_at s at x) (at + 0) w ≡ write_at s at (write_at x 0 w) = write_in_lem s at x 0 w h (omega arith) in
    (rw add-zero at f) ∙ rw (write_whole x w e)

-- 2. The occupancy word -------------------------------------------------------------------------------------------------------------------------

-- the bit of a slot
unfoldable slot_bit : Option Octets → ℕ
slot_bit none = 0
slot_bit (some r) = 1

-- it is 0 or 1
slot_bit_lt : (y : Option Octets) → slot_bit y < 2
unfolding slot_bit
slot_bit_lt none = omega arith
slot_bit_lt (some r) = omega arith

-- the first slot has the lowest bit of the word
occupancy_cons : (y : Option Octets) (t : Table) → occupancy (y ∷ t) ≡ occupancy t * 2 + slot_bit y
unfolding occupancy slot_bit
occupancy_cons none t = omega arith
occupancy_cons (some r) t = refl

-- the word of a slot and the rest, taken apart
word_half : (y : Option Octets) (w : ℕ) → (w * 2 + slot_bit y) / 2 ≡ w
word_half y w = omega (arith, slot_bit_lt y)

-- its lowest bit is that of the slot
word_odd : (y : Option Octets) (w : ℕ) → (w * 2 + slot_bit y) % 2 ≡ slot_bit y
word_odd y w = omega (arith, slot_bit_lt y)

-- a slot comes into use: its bit is joined in
pub occupancy_some : (t : Table) (k : ℕ) (x : Octets) → k < length t → occupancy (set t k (some x)) ≡ bit_or (occupancy t) (2 ^ k)
unfolding slot_bit
occupancy_some [] k x l = absurd (omega arith)
occupancy_some (y ∷ t) zero x l =
    rw (occupancy_cons (some x) t, occupancy_cons y t)
    (sym (or_step (occupancy t * 2 + slot_bit y) 1 ∙ rw (word_half y (occupancy t), word_odd y (occupancy t), or_zero_r) (omega (arith, slot_bit_lt y))))
occupancy_some (y ∷ t) (suc k) x l =
    let e : 2 ^ k * 2 / 2 ≡ 2 ^ k = omega arith in
    let f : 2 ^ k * 2 % 2 ≡ 0 = omega arith in
    rw (occupancy_cons y (set t k (some x)), occupancy_cons y t)
    (sym (or_step (occupancy t * 2 + slot_bit y) (2 ^ suc k)
    ∙ rw (pow-suc, word_half y (occupancy t), word_odd y (occupancy t), e, f, ← occupancy_some t k x (omega arith)) (omega (arith, slot_bit_lt y))))

-- a slot is freed: its bit is masked out
pub occupancy_none : (t : Table) (k : ℕ) → k < length t → occupancy (set t k none) ≡ bit_and (occupancy t) (2 ^ length t - 1 - 2 ^ k)
unfolding slot_bit
occupancy_none [] k l = absurd (omega arith)
occupancy_none (y ∷ t) zero l =
    let n : ℕ = length t in
    let p : 1 ≤ 2 ^ n = one-le-pow n 2 (omega arith) in
    let e : (2 ^ n * 2 - 1 - 1) / 2 ≡ 2 ^ n - 1 = omega arith in
    let f : (2 ^ n * 2 - 1 - 1) % 2 ≡ 0 = omega arith in
    let m : occupancy t % 2 ^ n ≡ occupancy t = mod-eq_of_lt (occupancy_lt t) in
    rw (occupancy_cons none t, occupancy_cons y t)
    (sym (and_step (occupancy t * 2 + slot_bit y) (2 ^ suc n - 1 - 1)
    ∙ rw (pow-suc, word_half y (occupancy t), word_odd y (occupancy t), e, f, and_mask (occupancy t) n, m) (omega arith)))
occupancy_none (y ∷ t) (suc k) l =
    let n : ℕ = length t in
    let l' : k < n = omega arith in
    let p : 2 ^ k < 2 ^ n = pow-lt l' in
    let e : (2 ^ n * 2 - 1 - 2 ^ k * 2) / 2 ≡ 2 ^ n - 1 - 2 ^ k = omega arith in
    let f : (2 ^ n * 2 - 1 - 2 ^ k * 2) % 2 ≡ 1 = omega arith in
    rw (occupancy_cons y (set t k none), occupancy_cons y t)
    (sym (and_step (occupancy t * 2 + slot_bit y) (2 ^ suc n - 1 - 2 ^ suc k)
    ∙ rw (pow-suc 2 n, pow-suc 2 k, word_half y (occupancy t), word_odd y (occupancy t), e, f, ← occupancy_none t k l') (omega (arith, slot_bit_lt y))))

-- where no slot is in use the word is zero
pub occupancy_nones : (n : ℕ) → occupancy (replicate n none) ≡ 0
unfolding occupancy
occupancy_nones zero = refl
occupancy_nones (suc n) = rw (occupancy_nones n)

-- 3. A table at a place -------------------------------------------------------------------------------------------------------------------------

-- slots read back by a word are as many as the pieces of octets they are read from
length_back : (w : ℕ) (rs : List Octets) → length (slots_back w rs) ≡ length rs
unfolding slots_back
length_back w [] = refl
length_back w (r ∷ rs) = ap suc (length_back (w / 2) rs)

-- the table at a place has 32 slots
pub length_table : (s : Octets) (at size : ℕ) → length (table_at s at size) ≡ 32
unfolding table_at
length_table s at size = length_back (u32 s at) (chop size 32 (drop (at + 4) s)) ∙ length_chop size 32 (drop (at + 4) s)

-- a bit that is not set is zero
zero_or : (x : ℕ) → x < 2 → (x ≡ 1 → ⊥) → x ≡ 0
zero_or zero l n = refl
zero_or (suc zero) l n = absurd (n refl)
zero_or (suc (suc x)) l n = absurd (omega arith)

-- slots read back by a word that has no bit beyond them have that word as their occupancy
word_back : (w : ℕ) (rs : List Octets) → w < 2 ^ length rs → occupancy (slots_back w rs) ≡ w
unfolding slots_back occupancy
word_back w [] h = omega arith
word_back w (r ∷ rs) h =
    let k : w < 2 ^ length rs * 2 = rw pow-suc at h in
    go (eqb (w % 2) 1) refl (word_back (w / 2) rs (omega arith))
  where
    go : (b : Bool) → eqb (w % 2) 1 ≡ b → occupancy (slots_back (w / 2) rs) ≡ w / 2
        → occupancy (elim b [ true ↦ some r | false ↦ none ] ∷ slots_back (w / 2) rs) ≡ w
    go true e ih = let q : w % 2 ≡ 1 = equal _ _ e in rw ih (omega arith)
    go false e ih = let q = eqb-false (w % 2) 1 e in let q2 : w % 2 ≡ 0 = zero_or (w % 2) (omega arith) q in rw ih (omega arith)

-- the word at the place is the table's occupancy
pub word_at : (s : Octets) (at size : ℕ) → u32 s at < 4294967296 → occupancy (table_at s at size) ≡ u32 s at
unfolding table_at
word_at s at size h = word_back (u32 s at) (chop size 32 (drop (at + 4) s)) (rw (length_chop size 32 (drop (at + 4) s)) h)

-- how many entries there are, from the word
pub used_at : (s : Octets) (at size : ℕ) → u32 s at < 4294967296 → ones (u32 s at) ≡ length (entries (table_at s at size))
used_at s at size h = rw (word_at s at size h) at (occupancy_ones (table_at s at size))

-- the lowest free slot, from the word
pub free_at : (s : Octets) (at size : ℕ) → u32 s at < 4294967296 → count_trailing_zeros 32 (4294967295 - u32 s at) ≡ free (table_at s at size)
free_at s at size h = (rw (length_table s at size, word_at s at size h) at (occupancy_free (table_at s at size)))

-- n slots from a place on, used by the bits of w, lowest first
unfoldable pub table_from : Octets → ℕ → ℕ → ℕ → ℕ → Table
table_from s size w place n = slots_back w (chop size n (drop place s))

-- a walk from a place on: one slot, and the rest
from_step : (s : Octets) (size w place m : ℕ)
    → table_from s size w place (suc m) ≡ elim (eqb (w % 2) 1) [ true ↦ some (part s place size) | false ↦ none ] ∷ table_from s size (w / 2) (place + size) m
unfolding table_from slots_back chop part
from_step s size w place m = rw (drop-drop size place s)

-- a slot whose bit is set holds the record at its place
pub from_used : (s : Octets) (size w place m : ℕ) → w % 2 ≡ 1 → table_from s size w place (suc m) ≡ some (part s place size)
    ∷ table_from s size (w / 2) (place + size) m
from_used s size w place m e = let q : eqb (w % 2) 1 ≡ true = eq-eqb (w % 2) 1 e in rw q at (from_step s size w place m)

-- a slot whose bit is not set is free
pub from_free : (s : Octets) (size w place m : ℕ) → w % 2 ≡ 0 → table_from s size w place (suc m) ≡ none ∷ table_from s size (w / 2) (place + size) m
from_free s size w place m e = let q : eqb (w % 2) 1 ≡ false = ne_eqb (w % 2) 1 (λ f. omega arith) in rw q at (from_step s size w place m)

-- where no slots are left, the walk is over
pub from_end : (s : Octets) (size w place : ℕ) → table_from s size w place 0 ≡ []
unfolding table_from slots_back chop
from_end s size w place = refl

-- with no bit left all slots are free
pub from_zero : (s : Octets) (size place n : ℕ) → table_from s size 0 place n ≡ replicate n none
from_zero s size place zero = from_end s size 0 place
from_zero s size place (suc n) = from_free s size 0 place n refl ∙ ap {B = Table} (λ l. none ∷ l) (from_zero s size (place + size) n)

-- from slot k on
pub drop_from : (s : Octets) (size w place n k : ℕ) → drop k (table_from s size w place n) ≡ table_from s size (w / 2 ^ k) (place + size * k) (n - k)
drop_from s size w place n zero =
    let e : w / 1 ≡ w = omega arith in
    let f : place + size * 0 ≡ place = omega arith in
    rw (e, f, sub-zero)
drop_from s size w place zero (suc k) =
    let e : 0 - suc k ≡ 0 = omega arith in
    rw (e, from_end s size w place, from_end s size (w / 2 ^ suc k) (place + size * suc k))
drop_from s size w place (suc n) (suc k) =
    let e : suc n - suc k ≡ n - k = omega arith in
    let f : place + size * suc k ≡ place + size + size * k = omega (arith, mul-suc size k) in
    let g : w / 2 ^ suc k ≡ w / 2 / 2 ^ k = rw (pow-suc, mul_comm) (sym (div-div-eq-div-mul w 2 (2 ^ k))) in
    rw (e, f, g, from_step s size w place n) (drop_from s size (w / 2) (place + size) n k)

-- a table is 32 slots from the end of its word on
pub table_from_lem : (s : Octets) (at size : ℕ) → table_from s size (u32 s at) (at + 4) 32 ≡ table_at s at size
unfolding table_from table_at
table_from_lem s at size = refl

-- its records have the size
sized_from : (s : Octets) (size w place n : ℕ) → place + size * n ≤ length s → Sized size (table_from s size w place n)
unfolding Sized slot_octets
sized_from s size w place zero h = rw (from_end s size w place) tt
sized_from s size w place (suc n) h =
    let l : place + size + size * n ≤ length s = omega (arith, mul-suc size n) in
    let e : length (part s place size) ≡ size = length_part s place size (omega arith) in
    rw (from_step s size w place n) (
      either {A = Option Octets} (λ y. length (slot_octets size y) ≡ size) (eqb (w % 2) 1) (λ q. e) (λ q. length-replicate size 0),
      sized_from s size
          (w / 2) (place + size) n l,
    )

-- so have those of a table that lies within the octets
pub sized_at : (s : Octets) (at size : ℕ) → at + (4 + size * 32) ≤ length s → Sized size (table_at s at size)
sized_at s at size h = rw (table_from_lem s at size) at (sized_from s size (u32 s at) (at + 4) 32 (omega arith))

-- 4. A table laid out and read back -----------------------------------------------------------------------------------------------------------------

-- a word at a place is the first word of the octets from there on
u32_drop : (s : Octets) (at : ℕ) → u32 s at ≡ u32 (drop at s) 0
unfolding u32 u16
u32_drop s at =
    let a : get_or (drop at s) 0 0 ≡ get_or s at 0 = get_or-drop at s 0 0 ∙ rw add-zero in
    let e : at + 3 ≡ at + 2 + 1 = omega arith in
    let d : get_or (drop at s) 3 0 ≡ get_or s (at + 2 + 1) 0 = get_or-drop at s 3 0 ∙ rw e in
    sym (rw (a, get_or-drop at s 1 0, get_or-drop at s 2 0, d))

-- the table, by the octets from its place on
pub table_drop : (s : Octets) (at size : ℕ) → table_at s at size ≡ table_back size (drop at s)
unfolding table_at table_back
table_drop s at size = rw (u32_drop s at, ← drop-drop 4 at s)

-- a word that was laid out is read back
u32_back : (n : ℕ) (x : Octets) → n < 4294967296 → u32 (le32 n ++ x) 0 ≡ n
unfolding u32 u16 le32
u32_back n x h =
    let a : n / 256 / 256 ≡ n / 65536 = div-div-eq-div-mul n 256 256 in
    let b : n / 65536 / 256 ≡ n / 16777216 = div-div-eq-div-mul n 65536 256 in
    let d1 : n / 65536 * 256 + n / 256 % 256 ≡ n / 256 = rw a at (div-add-mod' (n / 256) 256) in
    let d2 : n / 16777216 * 256 + n / 65536 % 256 ≡ n / 65536 = rw b at (div-add-mod' (n / 65536) 256) in
    let d3 : n / 16777216 % 256 ≡ n / 16777216 = omega arith in
    let d0 : n / 256 * 256 + n % 256 ≡ n = div-add-mod' n 256 in
    rw d3 (omega arith)

-- slots laid out in a row are cut apart again
chop_slots : (size : ℕ) (t : Table) (x : Octets) → Sized size t → chop size (length t) (slots size t ++ x) ≡ map (slot_octets size) t
unfolding slots chop Sized
chop_slots size [] x z = refl
chop_slots size (y ∷ t) x z =
    rw (append_assoc, take_at (slot_octets size y) (slots size t ++ x) size z.0, drop_at (slot_octets size y) (slots size t ++ x) size z.0)
    (ap {B = List Octets} (λ l. slot_octets size y ∷ l) (chop_slots size t x z.1))

-- the table of 32 slots that was laid out is read back
table_back_lem : (size : ℕ) (t : Table) (x : Octets) → Sized size t → length t ≡ 32 → table_back size (region size t ++ x) ≡ t
unfolding table_back region le32
table_back_lem size t x z l =
    let w : occupancy t < 2 ^ 32 = rw l at (occupancy_lt t) in
    let c : chop size 32 (slots size t ++ x) ≡ map (slot_octets size) t = rw l at (chop_slots size t x z) in
    let n : u32 (le32 (occupancy t) ++ (slots size t ++ x)) 0 ≡ occupancy t = u32_back (occupancy t) (slots size t ++ x) w in
    rw (n, c) (slots_back_lem size t)

-- slots laid out in a row take the record size each
pub length_slots : (size : ℕ) (t : Table) → Sized size t → length (slots size t) ≡ size * length t
unfolding Sized slots
length_slots size [] z = sym (mul-zero size)
length_slots size (y ∷ t) z = length-append (slot_octets size y) (slots size t) ∙ omega (arith, z.0, length_slots size t z.1, mul-suc size (length t))

-- a table of 32 such slots fills its region
pub length_region : (size : ℕ) (t : Table) → Sized size t → length t ≡ 32 → length (region size t) ≡ 4 + size * 32
unfolding region le32
length_region size t z l = let n : length (slots size t) ≡ size * 32 = length_slots size t z ∙ rw l in omega arith

-- a table of 32 slots written where a table lies: it lies there then, and in its one encoding
pub table_write : (s : Octets) (at size : ℕ) (t : Table) → at + (4 + size * 32) ≤ length s → Sized size t → length t ≡ 32
    → table_at (write_at s at (region size t)) at size ≡ t
table_write s at size t h z l =
    let n : length (region size t) ≡ 4 + size * 32 = length_region size t z l in
    let m : length (take at s) ≡ at = length-take-le at s (omega arith) in
    let r : Octets = drop (at + length (region size t)) s in
    let d : drop at (write_at s at (region size t)) ≡ region size t ++ r = rw (write_at_lem s at (region size t) (rw n h))
    (drop_at (take at s) (region size t ++ r) at m) in
    table_drop (write_at s at (region size t)) at size ∙ rw d (table_back_lem size t r z l)

-- the octets there are that one encoding
pub canonical_write : (s : Octets) (at size : ℕ) (t : Table) → at + (4 + size * 32) ≤ length s → Sized size t → length t ≡ 32
    → Canonical (write_at s at (region size t)) at size
canonical_write s at size t h z l =
    let n : length (region size t) ≡ 4 + size * 32 = length_region size t z l in
    let p : part (write_at s at (region size t)) at (length (region size t)) ≡ region size t = part_write s at (region size t) (rw n h) in
    rw (table_write s at size t h z l) (rw n at p)

-- the same where the octets of the table are there already
pub table_part : (s : Octets) (at size : ℕ) (t : Table) → at + (4 + size * 32) ≤ length s → Sized size t → length t ≡ 32
    → part s at (4 + size * 32) ≡ region size t → table_at s at size ≡ t
table_part s at size t h z l e =
    let w : write_at s at (region size t) ≡ s = rw (sym e) (write_part s at (4 + size * 32) h) in
    rw w at (table_write s at size t h z l)

-- 5. A slot written -------------------------------------------------------------------------------------------------------------------------------------

-- a word written over the word of a table leaves the slots
pub word_over : (w v : ℕ) (o : Octets) → write_at (le32 w ++ o) 0 (le32 v) ≡ le32 v ++ o
unfolding le32 write_at
word_over w v o = refl

-- slot k lies inside
pub slot_room : (size k : ℕ) → k < 32 → size * k + size ≤ size * 32
slot_room size k l = let m : size * suc k ≤ size * 32 = mul-le-mul_left size l in omega (arith, mul-suc size k)

-- the octets of a slot over slot k of a table
slots_write : (size : ℕ) (t : Table) (k : ℕ) (y : Option Octets) → Sized size t → length t ≡ 32 → k < 32 → length (slot_octets size y) ≡ size
    → write_at (slots size t) (size * k) (slot_octets size y) ≡ slots size (set t k y)
slots_write size t k y z l h e =
    let n : length (slots size t) ≡ size * 32 = length_slots size t z ∙ rw l in
    let r = slot_room size k h in
    let q = write_at_lem (slots size t) (size * k) (slot_octets size y) (rw (e, n) r) in
    q ∙ rw e (sym (slot_write size t k y z (rw l h)))

-- the same in a table with its word: the word is still the old one
region_slot : (size : ℕ) (t : Table) (k : ℕ) (y : Option Octets) → Sized size t → length t ≡ 32 → k < 32 → length (slot_octets size y) ≡ size
    → write_at (region size t) (4 + size * k) (slot_octets size y) ≡ le32 (occupancy t) ++ slots size (set t k y)
unfolding region
region_slot size t k y z l h e =
    let a : length (le32 (occupancy t)) ≡ 4 = length_le32 (occupancy t) in
    let w = write_right (le32 (occupancy t)) (slots size t) (size * k) (slot_octets size y) in
    (rw a at w) ∙ rw (slots_write size t k y z l h e)

-- slot k and then the word written: the table with that slot changed
slot_over : (s d : Octets) (at size : ℕ) (t : Table) (k : ℕ) (y : Option Octets) → at + (4 + size * 32) ≤ length s → Sized size t → length t ≡ 32
    → k < 32 → length (slot_octets size y) ≡ size
    → d ≡ write_at s at (region size t)
    → write_at (write_at d (at + (4 + size * k)) (slot_octets size y)) at (le32 (occupancy (set t k y))) ≡ write_at s at (region size (set t k y))
unfolding region
slot_over s d at size t k y h z n l e q =
    let x : Octets = slot_octets size y in
    let v : ℕ = occupancy (set t k y) in
    let o : Octets = le32 (occupancy t) ++ slots size (set t k y) in
    let m : length (region size t) ≡ 4 + size * 32 = length_region size t z n in
    let r = slot_room size k l in
    let f : write_at (region size t) (4 + size * k) x ≡ o = region_slot size t k y z n l e in
    let w : write_at (write_at s at (region size t)) (at + (4 + size * k)) x ≡ write_at s at (write_at (region size t) (4 + size * k) x) =
    write_in_lem s at (region size t) (4 + size * k) x (rw m h) (rw (m, e) (omega arith)) in
    let b : write_at d (at + (4 + size * k)) x ≡ write_at s at o = rw q (w ∙ rw f) in
    let i : length o ≡ 4 + size * 32 = ap length (sym f) ∙ length_write_at (region size t) (4 + size * k) x ∙ m in
    let j : write_at (write_at s at o) (at + 0) (le32 v) ≡ write_at s at (write_at o 0 (le32 v)) = write_in_lem
    s at o 0 (le32 v) (rw i h) (rw (length_le32 v, i) (omega arith)) in
    let j' : write_at (write_at s at o) at (le32 v) ≡ write_at s at (write_at o 0 (le32 v)) = rw add-zero at j in
    rw b (j' ∙ rw (word_over (occupancy t) v (slots size (set t k y))))

-- the same, of the table that lies there in its one encoding
pub slot_changed : (s : Octets) (at size k : ℕ) (y : Option Octets) → at + (4 + size * 32) ≤ length s → Canonical s at size → k < 32
    → length (slot_octets size y) ≡ size
    → write_at (write_at s (at + (4 + size * k)) (slot_octets size y)) at (le32 (occupancy (set (table_at s at size) k y))) ≡ write_at s at
    (region size (set (table_at s at size) k y))
slot_changed s at size k y h c l e =
    let a : write_at s at (region size (table_at s at size)) ≡ s = rw (sym c) (write_part s at (4 + size * 32) h) in
    slot_over s s at size (table_at s at size) k y h (sized_at s at size h) (length_table s at size) l e (sym a)

-- the record stored in slot k, by the word that the code writes
pub store_changed : (s : Octets) (at size k : ℕ) (x : Octets) → at + (4 + size * 32) ≤ length s → Canonical s at size → k < 32 → length x ≡ size
    → u32 s at < 4294967296
    → write_at (write_at s (at + (4 + size * k)) x) at (le32 (bit_or (u32 s at) (2 ^ k))) ≡ write_at s at (region size (set (table_at s at size) k (some x)))
unfolding slot_octets
store_changed s at size k x h c l e b =
    let n : length (table_at s at size) ≡ 32 = length_table s at size in
    let o : occupancy (set (table_at s at size) k (some x)) ≡ bit_or (u32 s at) (2 ^ k) = rw (word_at s at size b) at
    (occupancy_some (table_at s at size) k x (rw n l)) in
    rw o at (slot_changed s at size k (some x) h c l e)

-- slot k freed, by the word that the code writes
pub release_changed : (s : Octets) (at size k : ℕ) → at + (4 + size * 32) ≤ length s → Canonical s at size → k < 32 → u32 s at < 4294967296
    → write_at (write_at s (at + (4 + size * k)) (replicate size 0)) at (le32 (bit_and (u32 s at) (4294967295 - 2 ^ k))) ≡ write_at s at
    (region size (set (table_at s at size) k none))
unfolding slot_octets
release_changed s at size k h c l b =
    let n : length (table_at s at size) ≡ 32 = length_table s at size in
    let o : occupancy (set (table_at s at size) k none) ≡ bit_and (u32 s at) (4294967295 - 2 ^ k) = rw (word_at s at size b, n) at
    (occupancy_none (table_at s at size) k (rw n l)) in
    rw o at (slot_changed s at size k none h c l (length-replicate size 0))

-- 6. A whole table written --------------------------------------------------------------------------------------------------------------------------------

-- free slots in a row are all zeros
slots_nones : (size n : ℕ) → slots size (replicate n none) ≡ replicate (size * n) 0
unfolding slots slot_octets
slots_nones size zero = rw mul-zero
slots_nones size (suc n) =
    let e : size * suc n ≡ size + size * n = omega (arith, mul-suc size n) in
    rw (e, slots_nones size n) (replicate-append-replicate size (size * n) 0)

-- an empty table is all zeros
pub region_nones : (size : ℕ) → region size (replicate 32 none) ≡ replicate (4 + size * 32) 0
unfolding region le32
region_nones size = rw (occupancy_nones 32, slots_nones size 32) (replicate-append-replicate 4 (size * 32) 0)

-- the word of a list loaded: a one for each record
occupancy_run : (rs : List Octets) (m : ℕ) → occupancy (map some rs ++ replicate m none) ≡ 2 ^ length rs - 1
unfolding occupancy
occupancy_run [] m = occupancy_nones m
occupancy_run (r ∷ rs) m = rw (occupancy_run rs m, pow-suc) (omega (arith, one-le-pow (length rs) 2 (omega arith)))

-- and its slots: the records as one run, and zeros after
slots_run : (size n : ℕ) (o : Octets) (m : ℕ) → slots size (map some (chop size n o) ++ replicate m none) ≡ take (size * n) o ++ replicate (size * m) 0
unfolding slots slot_octets chop
slots_run size zero o m = rw mul-zero (slots_nones size m)
slots_run size (suc n) o m =
    let e : size * suc n ≡ size + size * n = omega (arith, mul-suc size n) in
    rw (e, take-add size (size * n) o, append_assoc, slots_run size n (drop size o) m)

-- the word, the records as one run, and zeros after: a list loaded
pub load_changed : (s : Octets) (at size : ℕ) (src : Octets) (from n : ℕ) → n ≤ 32 → from + size * n ≤ length src
    → write_at (write_at (write_at s at (le32 (2 ^ n - 1))) (at + 4) (part src from (size * n))) (at + (4 + size * n)) (replicate (size * (32 - n)) 0)
    ≡ write_at s at (region size (loaded (chop size n (drop from src))))
unfolding region loaded part le32
load_changed s at size src from n h l =
    let rs : List Octets = chop size n (drop from src) in
    let a : length rs ≡ n = length_chop size n (drop from src) in
    let w : Octets = le32 (2 ^ n - 1) in
    let run : Octets = take (size * n) (drop from src) in
    let zeros : Octets = replicate (size * (32 - n)) 0 in
    let b : length run ≡ size * n = length_part src from (size * n) l in
    let e : occupancy (map some rs ++ replicate (32 - n) none) ≡ 2 ^ n - 1 = occupancy_run rs (32 - n) ∙ rw a in
    let f : slots size (map some rs ++ replicate (32 - n) none) ≡ run ++ zeros = slots_run size n (drop from src) (32 - n) in
    let g : at + (4 + size * n) ≡ at + 4 + length run = rw b (omega arith) in
    let i : write_at s at (w ++ (run ++ zeros)) ≡ write_at (write_at s at w) (at + 4) (run ++ zeros) = write_split s at w (run ++ zeros) in
    let j : write_at (write_at s at w) (at + 4) (run ++ zeros) ≡ write_at (write_at (write_at s at w) (at + 4) run) (at + 4 + length run) zeros =
    write_split (write_at s at w) (at + 4) run zeros in
    rw (a, e, f, g) (sym (i ∙ j))
