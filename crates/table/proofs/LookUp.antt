-- The walk of a look-up: what is known when some slots are walked, step by step, and what it tells at its end.
use mathlib.Core.Path.{◌≡◌, refl, ap, sym, ◌∙◌}
use Prim.Native.Nat.{ℕ, zero, suc, ◌+◌, ◌*◌, ◌-◌, ◌/◌, ◌%◌, ◌^◌, ◌≤◌, ◌<◌, min}
use native.Mathlib.Omega.{arith}
use native.Mathlib.Nat.{zero-add, suc-add, pow-suc, mul_assoc, zero-mul}
use native.Mathlib.Numerals.{add-one}
use mathlib.Core.Bool.{Bool, true, false}
use mathlib.Core.List.{[], ◌∷◌, ◌++◌, append-nil}
use mathlib.Core.Option.{none, some}
use lib.ListN.{length, drop, replicate, take}
use lib.Dec.{eqb}
use lib.Pow.{shl-shr, shr_le, shr-shr, split}
use lib.Seq.{length-take-le, take-take}
use lib.Bits.{and_self, and_step, bit_and, shifted_even, shifted_half}
use lib.Count.{count_trailing_zeros, under}
use borrow.Author.Tests.{eq-eqb, le-ltb, lt-ltb, ne_eqb}
use Rattle.model.specs.Octets.{Octets, same, u32}
use Rattle.model.specs.State.{Table}
use Rattle.model.specs.Tables.{begins, holds}
use Rattle.model.specs.LookUp.{first_at, look_up, up_to_last, walked}
use Rattle.model.proofs.Model.LookUp.{first_le, walked_found, walked_none}
use Rattle.model.specs.declared.LookUp.{LookUp}
use Rattle.octets.specs.Parts.{part}
use Rattle.table.specs.Slots.{InUse, NextUsed, table_at}
use Rattle.table.proofs.Slots.{holds_first}
use Rattle.table.proofs.Regions.{length_table, slot_room}
use Rattle.table.proofs.Walk.{next_first, next_none, next_some, positive}
use Rattle.table.proofs.Laws.{drop_all}

-- 1. Bits -------------------------------------------------------------------------------------------------------------------------------------------

-- a word shifted up by k bits has k trailing zeros more
zeros_shifted : (k d v : ℕ) → count_trailing_zeros (k + d) (v * 2 ^ k) ≡ k + count_trailing_zeros d v
unfolding count_trailing_zeros
zeros_shifted zero d v =
    let e : v * 1 ≡ v = omega arith in
    rw (zero-add, e, zero-add)
zeros_shifted (suc k) d v = rw (suc-add, shifted_even v k, shifted_half v k, suc-add) (ap suc (zeros_shifted k d v))

-- a word and the word less one: the lowest one is gone, the ones above it stay
lowest_gone : (d v : ℕ) → 0 < v → v < 2 ^ d → bit_and v (v - 1) ≡ v / 2 ^ suc (count_trailing_zeros d v) * 2 ^ suc (count_trailing_zeros d v)
unfolding count_trailing_zeros
lowest_gone zero v p l = absurd (omega arith)
lowest_gone (suc d) v p l =
    let q : v < 2 ^ d * 2 = rw pow-suc at l in
    go (v % 2) refl (λ e. lowest_gone d (v / 2) (omega arith) (omega arith))
  where
    go : (b : ℕ) → v % 2 ≡ b
        → (v % 2 ≡ 0 → bit_and (v / 2) (v / 2 - 1) ≡ v / 2 / 2 ^ suc (count_trailing_zeros d (v / 2)) * 2 ^ suc (count_trailing_zeros d (v / 2)))
        → bit_and v (v - 1) ≡ v / 2 ^ suc (under b (count_trailing_zeros d (v / 2))) * 2 ^ suc (under b (count_trailing_zeros d (v / 2)))
    go zero e ih =
        let j : ℕ = suc (count_trailing_zeros d (v / 2)) in
        let h : (v - 1) / 2 ≡ v / 2 - 1 = omega arith in
        let m : min (v % 2) ((v - 1) % 2) ≡ 0 = omega arith in
        let f : v / 2 / 2 ^ j ≡ v / 2 ^ suc j = shr-shr v 1 j ∙ ap (λ (n : ℕ). v / 2 ^ n) (omega arith) in
        let g : bit_and (v / 2) (v / 2 - 1) ≡ v / 2 ^ suc j * 2 ^ j = rw f at (ih e) in
        let k : v / 2 ^ suc j * 2 ^ suc j ≡ v / 2 ^ suc j * 2 ^ j * 2 = ap (λ (n : ℕ). v / 2 ^ suc j * n) (pow-suc 2 j)
        ∙ sym (mul_assoc (v / 2 ^ suc j) (2 ^ j) 2) in
        and_step v (v - 1) ∙ rw (h, m, g) (omega (arith, k))
    go (suc zero) e ih =
        let h : (v - 1) / 2 ≡ v / 2 = omega arith in
        let m : min (v % 2) ((v - 1) % 2) ≡ 0 = omega arith in
        and_step v (v - 1) ∙ rw (h, m, and_self) (omega arith)
    go (suc (suc b)) e ih = absurd (omega arith)

-- the ones of a word from bit k on; those from a higher bit j on are the same, taken from either
ones_above : (w k j : ℕ) → k ≤ j → w / 2 ^ k * 2 ^ k / 2 ^ j ≡ w / 2 ^ j
ones_above w k j h =
    let e : k + (j - k) ≡ j = omega arith in
    let f : (x : ℕ) → x / 2 ^ k / 2 ^ (j - k) ≡ x / 2 ^ j = λ x. shr-shr x k (j - k) ∙ ap (λ (n : ℕ). x / 2 ^ n) e in
    sym (f (w / 2 ^ k * 2 ^ k)) ∙ ap (λ (x : ℕ). x / 2 ^ (j - k)) (shl-shr (w / 2 ^ k) k) ∙ f w

-- 2. The last slot in use --------------------------------------------------------------------------------------------------------------------------

-- a free slot in front counts where one behind it is in use
up_to_cons : (t : Table) (b : Bool) → eqb (up_to_last t) 0 ≡ b → up_to_last (none ∷ t) ≡ elim b [ true ↦ 0 | false ↦ suc (up_to_last t) ]
unfolding up_to_last
up_to_cons t b e = ap (λ (c : Bool). elim c [ true ↦ 0 | false ↦ suc (up_to_last t) ]) e

-- free slots and then one in use: all count up to that one
up_to_nones : (n : ℕ) (x : Octets) (t : Table) → up_to_last (replicate n none ++ (some x ∷ t)) ≡ n + suc (up_to_last t)
unfolding up_to_last
up_to_nones zero x t = rw zero-add
up_to_nones (suc n) x t =
    let e : up_to_last (replicate n none ++ (some x ∷ t)) ≡ n + suc (up_to_last t) = up_to_nones n x t in
    up_to_cons (replicate n none ++ (some x ∷ t)) false (ne_eqb (up_to_last (replicate n none ++ (some x ∷ t))) 0 (λ z. omega arith)) ∙ ap suc e
    ∙ sym (suc-add n (suc (up_to_last t)))

-- free slots alone do not
up_to_free : (n : ℕ) → up_to_last (replicate n none) ≡ 0
unfolding up_to_last
up_to_free zero = refl
up_to_free (suc n) = up_to_cons (replicate n none) true (eq-eqb (up_to_last (replicate n none)) 0 (up_to_free n))

-- 3. The walk ----------------------------------------------------------------------------------------------------------------------------------------

-- searching: a slot in use is the first match, or the first match is behind it
first_cons : (m : Octets → Bool) (x : Octets) (t : Table) (b : Bool) → m x ≡ b → first_at m (some x ∷ t) ≡ elim b [ true ↦ 0 | false ↦ suc (first_at m t) ]
unfolding first_at
first_cons m x t b e = ap (λ (c : Bool). elim c [ true ↦ 0 | false ↦ suc (first_at m t) ]) e

-- a record that lies at a place begins with the key exactly if the octets there are the key's
begins_part : (s key : Octets) (place size n : ℕ) → n ≤ size → begins n key (part s place size) ≡ same (part key 0 n) (part s place n)
unfolding begins part
begins_part s key place size n l = rw (take-take n size (drop place s) l)

-- a slot before which none matches, and which does, is told with the slots up to it
found_told : (m : Octets → Bool) (t : Table) (k : ℕ) → length t ≡ 32 → k ≡ first_at m t → k < 32
    → ◌≡◌ {A = LookUp} (record { slot = k; walked = k + 1 }) (look_up m t)
unfolding look_up
found_told m t k n e l =
    let h : holds m t ≡ true = holds_first m t ∙ lt-ltb (first_at m t) (length t) (omega arith) in
    let w : k + 1 ≡ walked m t = omega (arith, walked_found m t h) in
    rw (w, e)

-- where none matches, none is told, with the slots up to the last one in use
missed_told : (m : Octets → Bool) (t : Table) (k : ℕ) → length t ≡ 32 → 32 ≡ first_at m t → k ≡ up_to_last t
    → ◌≡◌ {A = LookUp} (record { slot = 32; walked = k }) (look_up m t)
unfolding look_up
missed_told m t k n e l =
    let h : holds m t ≡ false = holds_first m t ∙ le-ltb (first_at m t) (length t) (omega arith) in
    let w : k ≡ walked m t = l ∙ sym (walked_none m t h) in
    rw (w, ← e)

-- What is known when k slots are walked and the ones of the word from there on are left: no slot before k matches, and those left count from k on.
pub record Walk (s key : Octets) (at size n left k : ℕ) : Type 0 where
  pub within : k ≤ 32
  pub ones : left ≡ u32 s at / 2 ^ k * 2 ^ k
  pub first : k + first_at (begins n key) (drop k (table_at s at size)) ≡ first_at (begins n key) (table_at s at size)
  pub last : k + up_to_last (drop k (table_at s at size)) ≡ up_to_last (table_at s at size)

module _ (s key : Octets) (at size n : ℕ) where
  -- it starts with the whole word
  pub walk_first : (w : ℕ) → w ≡ u32 s at → Walk s key at size n w 0
  walk_first w e = record { within = omega arith; ones = omega arith; first = zero-add _; last = zero-add _ }

  -- a slot in use is the first match itself, or the first match is behind it
  here : (k : ℕ) → n ≤ size → InUse s at size k
      → first_at (begins n key) (drop k (table_at s at size))
      ≡ elim (same (part key 0 n) (part s (at + (4 + size * k)) n)) [ true ↦ 0 | false ↦ suc (first_at (begins n key) (drop (k + 1) (table_at s at size))) ]
  here k l u =
      let p : ℕ = at + (4 + size * k) in
      rw u (first_cons (begins n key) (part s p size) (drop (k + 1) (table_at s at size)) (same (part key 0 n) (part s p n)) (begins_part s key p size n l))

  module _ (left k : ℕ) (h : Walk s key at size n left k) where
    -- no one is left: no slot from k on is in use, and none before it has matched
    pub walk_last : left ≡ 0 → ◌≡◌ {A = LookUp} (record { slot = 32; walked = k }) (look_up (begins n key) (table_at s at size))
    unfolding first_at
    walk_last e =
        let t : Table = table_at s at size in
        let v : ℕ = u32 s at / 2 ^ k in
        let z : v ≡ 0 = sym (shl-shr v k) ∙ rw (← h.ones, e) (omega (arith, shr_le 0 k)) in
        let u = next_none s at size k h.within z in
        let d : drop 32 t ≡ [] = drop_all s at size 32 (omega arith) in
        let f : first_at (begins n key) (drop k t) ≡ 32 - k + first_at (begins n key) (drop 32 t) = next_first s at size k 32 u (begins n key) in
        let g : first_at (begins n key) (drop 32 t) ≡ 0 = rw d in
        let o : up_to_last (drop k t) ≡ 0 = rw (u.passed, d, append-nil) (up_to_free (32 - k)) in
        missed_told (begins n key) t k (length_table s at size) (omega (arith, h.first, h.within)) (omega (arith, h.last))

    module _ (wide : u32 s at < 4294967296) (more : 0 < left) where
      -- the lowest one that is left is that of the next slot in use
      walk_next : (k ≤ count_trailing_zeros 64 left) × (count_trailing_zeros 64 left < 32) × NextUsed s at size k (count_trailing_zeros 64 left)
      walk_next =
          let v : ℕ = u32 s at / 2 ^ k in
          let p : 0 < v = positive v (λ e. let z : left ≡ 0 = h.ones ∙ rw e (zero-mul (2 ^ k)) in omega arith) in
          let q : k + (64 - k) ≡ 64 = omega (arith, h.within) in
          let e : count_trailing_zeros 64 left ≡ k + count_trailing_zeros (64 - k) v = rw h.ones (rw q at (zeros_shifted k (64 - k) v)) in
          let f = next_some s at size k (64 - k) h.within (omega arith) wide p in
          rw e (omega arith, f.0, f.1)

      -- it lies in the table
      pub walk_room : (size * count_trailing_zeros 64 left + size ≤ size * 32) × (count_trailing_zeros 64 left < 32)
      walk_room = (slot_room size (count_trailing_zeros 64 left) walk_next.1, walk_next.1)

      -- no slot before it matches
      before : count_trailing_zeros 64 left + first_at (begins n key) (drop (count_trailing_zeros 64 left) (table_at s at size)) ≡ first_at (begins n key) (table_at s at size)
      before = omega (arith, h.first, walk_next.0, next_first s at size k (count_trailing_zeros 64 left) walk_next.2 (begins n key))

      -- its record begins with the key: it is found
      pub walk_hit : n ≤ size → same (part key 0 n) (part s (at + (4 + size * count_trailing_zeros 64 left)) n) ≡ true
          → ◌≡◌ {A = LookUp} (record { slot = count_trailing_zeros 64 left; walked = count_trailing_zeros 64 left + 1 }) (look_up (begins n key) (table_at s at size))
      walk_hit l e =
          let r : ℕ = count_trailing_zeros 64 left in
          let f : first_at (begins n key) (drop r (table_at s at size)) ≡ 0 = rw e at (here r l (walk_next.2.used walk_next.1)) in
          found_told (begins n key) (table_at s at size) r (length_table s at size) (omega (arith, before)) walk_next.1

      -- it does not: that slot is walked too, and its one is gone
      pub walk_miss : n ≤ size → same (part key 0 n) (part s (at + (4 + size * count_trailing_zeros 64 left)) n) ≡ false
          → Walk s key at size n (bit_and left (left - 1)) (count_trailing_zeros 64 left + 1)
      walk_miss l e =
          let t : Table = table_at s at size in
          let r : ℕ = count_trailing_zeros 64 left in
          let u = walk_next.2.used walk_next.1 in
          let f : first_at (begins n key) (drop r t) ≡ suc (first_at (begins n key) (drop (r + 1) t)) = rw e at (here r l u) in
          let p : up_to_last (drop k t) ≡ r - k + suc (up_to_last (drop (r + 1) t)) = rw (walk_next.2.passed, u)
          (up_to_nones (r - k) (part s (at + (4 + size * r)) size) (drop (r + 1) t)) in
          let o : left ≤ u32 s at = omega (arith, h.ones, split (u32 s at) k) in
          let a : left / 2 ^ (r + 1) ≡ u32 s at / 2 ^ (r + 1) = ap (λ (x : ℕ). x / 2 ^ (r + 1)) h.ones
          ∙ ones_above (u32 s at) k (r + 1) (omega (arith, walk_next.0)) in
          let b : bit_and left (left - 1) ≡ left / 2 ^ (r + 1) * 2 ^ (r + 1) = rw add-one (lowest_gone 64 left more (omega arith)) in
          record {
            within = omega (arith, walk_next.1);
            ones = rw (← a) b;
            first = omega (arith, before);
            last = omega (arith, h.last, walk_next.0);
          }

-- the records that begin with the first n octets of a key are those that begin with a key of these octets
cut_key : (key : Octets) (n : ℕ) (t : Table) → n ≤ length key → first_at (begins (length (take n key)) (take n key)) t ≡ first_at (begins n key) t
unfolding begins
cut_key key n t l =
    let e : length (take n key) ≡ n = length-take-le n key l in
    let f : take n (take n key) ≡ take n key = take-take n n key (omega arith) in
    rw e (ap (λ (x : Octets). first_at (λ r. same x (take n r)) t) f)

-- the slot that is told is the first that matches, or 32
pub slot_told : (s : Octets) (at size : ℕ) (key cut : Octets) (n : ℕ) (u : LookUp) → n ≤ length key → cut ≡ take n key
    → u ≡ look_up (begins (length cut) cut) (table_at s at size)
    → (u.slot ≡ first_at (begins n key) (table_at s at size)) × (u.slot ≤ 32)
unfolding look_up
slot_told s at size key cut n u l c e =
    let t : Table = table_at s at size in
    let f : u.slot ≡ first_at (begins (length cut) cut) t = ap (λ (x : LookUp). x.slot) e in
    let g : u.slot ≡ first_at (begins n key) t = f ∙ rw c (cut_key key n t l) in
    (g, omega (arith, first_le (begins n key) t, length_table s at size))
