-- Laws that the proofs of this crate cite, over plain lists and numbers, in the form in which the code leaves them.
use mathlib.Core.Path.{◌≡◌, refl, ap, sym, ◌∙◌}
use Prim.Native.Nat.{ℕ, ◌+◌, ◌*◌, ◌-◌, ◌/◌, ◌%◌, ◌^◌, ◌≤◌, ◌<◌, max}
use native.Mathlib.Omega.{arith}
use native.Mathlib.Nat.{mul-add, one-mul}
use mathlib.Core.Bool.{Bool}
use mathlib.Core.Bool.{Bool, true, false, not}
use mathlib.Core.List.{[], ◌∷◌}
use mathlib.Core.Option.{none, some}
use lib.ListN.{length, get_or, take, drop, set, replicate, length-set, drop_of_length-le}
use mir.Syntax.{w32, w64}
use mir.Val.{Fits}
use lib.Dec.{eqb, ltb}
use borrow.Author.Tests.{lt-ltb, ne_eqb}
use lib.Pow.{shl_exact, pow_pos}
use lib.Arith.{bin_ind}
use lib.Bits.{bit_and, bit_or, or_step, or_zero_r}
use lib.Count.{count_trailing_zeros, trailing_le, trailing_of_zero}
use Rattle.model.specs.Octets.{Octets, le32, octet, u32}
use Rattle.model.specs.Tables.{chop, entries, freed, loaded, free}
use Rattle.model.specs.Layout.{region}
use Rattle.model.proofs.Model.Region.{Sized}
use Rattle.std.proofs.Common.{None, Option, Some}
use Rattle.std.specs.Option.{is_some}
use Rattle.std.proofs.lemmas.Nat.Bits.{bit_at-trailing_zeros}
use Rattle.octets.specs.Parts.{part, write_at}
use Rattle.octets.proofs.Laws.{lent_part}
use Rattle.octets.proofs.Parts.{get_d_part, length_write_at}
use Rattle.table.specs.Slots.{Canonical, IsSlot, NextUsed, first_at, joined_by_or, table_at}
use Rattle.table.proofs.Slots.{freed_first, freed_none, entries_first, sized_none}
use Rattle.table.proofs.Regions.{free_at, store_changed, release_changed, load_changed, length_table, length_region, canonical_write}
use Rattle.table.proofs.Regions.{sized_at, table_write, write_over, write_part}
use Rattle.table.proofs.Walk.{next_some, next_none, next_entries, in_use_entries, positive}

-- places ------------------------------------------------------------------------------------------------------------------------------------------

-- the slots from slot n on
pub rest_room : (size n : ℕ) → n ≤ 32 → size * n + size * (32 - n) ≡ size * 32
rest_room size n l = let e : n + (32 - n) ≡ 32 = omega arith in sym (mul-add size n (32 - n)) ∙ rw e

-- the bit of a slot
pub one_shl : (k : ℕ) → k < 32 → 1 * 2 ^ k % 4294967296 ≡ 2 ^ k
one_shl k h = shl_exact {a = 1} 1 k 32 (omega arith) (omega arith) ∙ one-mul (2 ^ k)

-- the same in a word of 64 bits, where a shift by 32 is exact too
pub one_shl64 : (k : ℕ) → k ≤ 32 → 1 * 2 ^ k % 18446744073709551616 ≡ 2 ^ k
one_shl64 k h = shl_exact {a = 1} 1 k 64 (omega arith) (omega arith) ∙ one-mul (2 ^ k)

-- so one may be taken from it: the bits below are left
pub one_le_shl64 : (k : ℕ) → k ≤ 32 → 1 ≤ 1 * 2 ^ k % 18446744073709551616
one_le_shl64 k h = rw (one_shl64 k h) (pow_pos k)

-- numbers of 32 bits fit 64
pub zeros_fit : (w : ℕ) → Fits w64 (count_trailing_zeros 32 w)
zeros_fit w = omega (arith, trailing_le 32 w)

-- a full word
pub free_full : (s : Octets) (at size w : ℕ) → w ≡ u32 s at → w < 4294967296 → w ≡ 4294967295 → free (table_at s at size) ≡ 32
free_full s at size w e l f =
    let g : u32 s at ≡ 4294967295 = sym e ∙ f in
    let h : 4294967295 - u32 s at ≡ 0 = omega arith in
    sym (sym (trailing_of_zero 32) ∙ (rw h at (free_at s at size (omega arith))))

-- a word that is not full: its lowest zero
pub free_told : (s : Octets) (at size w : ℕ) → w ≡ u32 s at → w < 4294967296 → (w ≡ 4294967295 → ⊥)
    → (count_trailing_zeros 32 (4294967295 - w) ≡ free (table_at s at size)) × (count_trailing_zeros 32 (4294967295 - w) < 32)
free_told s at size w e l n =
    let p : 0 < 4294967295 - w = positive (4294967295 - w) (λ z. n (omega arith)) in
    (rw e (free_at s at size (omega arith)), (bit_at-trailing_zeros w32 (4294967295 - w) p (omega arith)).0)

-- writes ------------------------------------------------------------------------------------------------------------------------------------------

-- the record over slot k and its bit joined into the word: the table with the record in that slot
pub store_done : (s a b : Octets) (at size k : ℕ) (x : Octets) (w : ℕ) → at + (4 + size * 32) ≤ length s → Canonical s at size → k < 32
    → length x ≡ size → w ≡ u32 s at → w < 4294967296
    → a ≡ write_at s (at + (4 + size * k)) x → b ≡ write_at a at (le32 (bit_or w (1 * 2 ^ k % 4294967296)))
    → b ≡ write_at s at (region size (set (table_at s at size) k (some x)))
store_done s a b at size k x w h c l n e u p q =
    let f : 1 * 2 ^ k % 4294967296 ≡ 2 ^ k = one_shl k l in
    let g : b ≡ write_at (write_at s (at + (4 + size * k)) x) at (le32 (bit_or (u32 s at) (2 ^ k))) = rw (← f, ← e, ← p) q in
    g ∙ store_changed s at size k x h c l n (omega arith)

-- zeros over slot k and its bit masked out of the word: the table with that slot free
pub release_done : (s a b : Octets) (at size k w : ℕ) → at + (4 + size * 32) ≤ length s → Canonical s at size → k < 32 → w ≡ u32 s at → w < 4294967296
    → a ≡ write_at s (at + (4 + size * k)) (replicate size 0) → b ≡ write_at a at (le32 (bit_and w (4294967295 - 1 * 2 ^ k % 4294967296)))
    → b ≡ write_at s at (region size (set (table_at s at size) k none))
release_done s a b at size k w h c l e u p q =
    let f : 1 * 2 ^ k % 4294967296 ≡ 2 ^ k = one_shl k l in
    let g : b ≡ write_at (write_at s (at + (4 + size * k)) (replicate size 0)) at (le32 (bit_and (u32 s at) (4294967295 - 2 ^ k))) = rw (← f, ← e, ← p) q in
    g ∙ release_changed s at size k h c l (omega arith)

-- n ones as the word, the records of a list, zeros behind them: the list loaded
pub load_done : (s a b d : Octets) (at size : ℕ) (src : Octets) (from n : ℕ) → n ≤ 32 → from + size * n ≤ length src
    → a ≡ write_at s at (le32 (1 * 2 ^ n % 18446744073709551616 - 1)) → b ≡ write_at a (at + 4) (take (from + size * n - from) (drop from src))
    → d ≡ write_at b (at + (4 + size * n)) (replicate (size * (32 - n)) 0)
    → d ≡ write_at s at (region size (loaded (chop size n (drop from src))))
load_done s a b d at size src from n h l p q r =
    let f : 1 * 2 ^ n % 18446744073709551616 ≡ 2 ^ n = one_shl64 n h in
    let g : d ≡ write_at (write_at (write_at s at (le32 (2 ^ n - 1))) (at + 4) (part src from (size * n))) (at + (4 + size * n))
    (replicate (size * (32 - n)) 0) = rw (← f, ← p, ← lent_part, ← q) r in
    g ∙ load_changed s at size src from n h l

-- a walk ------------------------------------------------------------------------------------------------------------------------------------------

-- the next slot in use, from the word that was read
pub next_some_at : (s : Octets) (at k w : ℕ) → k ≤ 32 → w ≡ u32 s at → w < 4294967296 → (w / 2 ^ k ≡ 0 → ⊥)
    → ((size : ℕ) → NextUsed s at size k (k + count_trailing_zeros 64 (w / 2 ^ k))) × (k ≤ k + count_trailing_zeros 64 (w / 2 ^ k)) × (k + count_trailing_zeros 64 (w / 2 ^ k) < 32)
next_some_at s at k w h e l n =
    let p : 0 < u32 s at / 2 ^ k = rw e at (positive (w / 2 ^ k) n) in
    let q : (size : ℕ) → (k + count_trailing_zeros 64 (u32 s at / 2 ^ k) < 32)
    × NextUsed s at size k (k + count_trailing_zeros 64 (u32 s at / 2 ^ k)) = λ size. next_some s at size k 64 h (omega arith) (rw e at l) p in
    rw e (λ size. (q size).1, omega arith, (q 0).0)

-- no bit is left in the word: there is no next slot in use
pub next_none_at : (s : Octets) (at k w : ℕ) → k ≤ 32 → w ≡ u32 s at → w / 2 ^ k ≡ 0 → (size : ℕ) → NextUsed s at size k 32
next_none_at s at k w h e n = λ size. next_none s at size k h (rw e at n)

-- past the last slot
pub drop_all : (s : Octets) (at size k : ℕ) → 32 ≤ k → drop k (table_at s at size) ≡ []
drop_all s at size k l = drop_of_length-le (table_at s at size) {i = k} (rw (length_table s at size) l)

-- joining octets
or_half : (a b : ℕ) → bit_or a b / 2 ≡ bit_or (a / 2) (b / 2)
or_half a b = omega (arith, or_step a b)

-- their lowest bits are joined
or_odd : (a b : ℕ) → bit_or a b % 2 ≡ max (a % 2) (b % 2)
or_odd a b = omega (arith, or_step a b)

-- for a lowest bit it is all one which two are joined first
max_last : (w a b c : ℕ) → w + max (max a b) c ≡ w + max a (max b c)
max_last w a b c = omega arith

-- so it is for whole words
or_assoc : (a b c : ℕ) → bit_or (bit_or a b) c ≡ bit_or a (bit_or b c)
or_assoc a = bin_ind (λ (n : ℕ). (b c : ℕ) → bit_or (bit_or n b) c ≡ bit_or n (bit_or b c)) (λ b c. refl) step a
  where
    step : (n : ℕ) → ((b c : ℕ) → bit_or (bit_or (n / 2) b) c ≡ bit_or (n / 2) (bit_or b c)) → (b c : ℕ) → bit_or (bit_or n b) c ≡ bit_or n (bit_or b c)
    step n ih b c =
        let x : bit_or (bit_or n b) c ≡ bit_or (bit_or (n / 2) (b / 2)) (c / 2) * 2 + max (max (n % 2) (b % 2)) (c % 2) = or_step (bit_or n b) c
        ∙ rw (or_half n b, or_odd n b) in
        let y : bit_or n (bit_or b c) ≡ bit_or (n / 2) (bit_or (b / 2) (c / 2)) * 2 + max (n % 2) (max (b % 2) (c % 2)) = or_step n (bit_or b c)
        ∙ rw (or_half b c, or_odd b c) in
        let z : bit_or (bit_or (n / 2) (b / 2)) (c / 2) ≡ bit_or (n / 2) (bit_or (b / 2) (c / 2)) = ih (b / 2) (c / 2) in
        x ∙ rw z (max_last (bit_or (n / 2) (bit_or (b / 2) (c / 2)) * 2) (n % 2) (b % 2) (c % 2)) ∙ sym y

module _ (s : Octets) (at size place : ℕ) where
  -- what the walk keeps: the octets joined so far, joined with those of the records from slot k on, are those of all
  abbrev pub Joined : ℕ → ℕ → Type 0
  Joined hints k = bit_or hints (joined_by_or place (entries (drop k (table_at s at size)))) ≡ joined_by_or place (entries (table_at s at size))

  -- the octet of the next record is joined in, and the walk goes on behind its slot
  pub joined_turn : (hints k r : ℕ) → place < size → r < 32 → NextUsed s at size k r → Joined hints k
      → Joined (bit_or hints (get_or s (at + (4 + size * r) + place) 0)) (r + 1)
  unfolding octet
  joined_turn hints k r l h u e =
      let p : ℕ = at + (4 + size * r) in
      let o : get_or (part s p size) place 0 ≡ get_or s (p + place) 0 = get_d_part s p size place l in
      let f : entries (drop k (table_at s at size)) ≡ part s p size ∷ entries (drop (r + 1) (table_at s at size)) = next_entries s at size k r u
      ∙ in_use_entries s at size r (u.used h) in
      or_assoc hints (get_or s (p + place) 0) (joined_by_or place (entries (drop (r + 1) (table_at s at size)))) ∙ rw (← o) (rw f at e)

  -- no record is left: all are joined
  pub joined_last : (hints k : ℕ) → NextUsed s at size k 32 → Joined hints k → hints ≡ joined_by_or place (entries (table_at s at size))
  unfolding entries
  joined_last hints k u e =
      let d : drop 32 (table_at s at size) ≡ [] = drop_all s at size 32 (omega arith) in
      let n : entries (drop k (table_at s at size)) ≡ [] = next_entries s at size k 32 u ∙ rw d in
      let f : bit_or hints 0 ≡ joined_by_or place (entries (table_at s at size)) = rw n at e in
      sym (or_zero_r hints) ∙ f

-- freeing ---------------------------------------------------------------------------------------------------------------------------------------

-- While matching slots of the table of s₀ are freed one by one: s differs in the table only, which is laid out as one, and what is still to be freed.
pub record Freeing (m : Octets → Bool) (s₀ s : Octets) (at size : ℕ) : Type 0 where
  pub long : length s ≡ length s₀
  pub canonical : Canonical s at size
  pub now : s ≡ write_at s₀ at (region size (table_at s at size))
  pub left : freed m (table_at s at size) ≡ freed m (table_at s₀ at size)

-- at the start nothing is freed
pub freeing_first : (m : Octets → Bool) (s : Octets) (at size : ℕ) → at + (4 + size * 32) ≤ length s → Canonical s at size → Freeing m s s at size
freeing_first m s at size h c =
    let w : write_at s at (region size (table_at s at size)) ≡ s = rw (sym c) (write_part s at (4 + size * 32) h) in
    record { long = refl; canonical = c; now = sym w; left = refl }

module _ (m : Octets → Bool) (s₀ s d : Octets) (at size k : ℕ)
    (room : at + (4 + size * 32) ≤ length s₀)
    (found : k ≡ first_at m (table_at s at size))
    (lt : k < 32)
    (freeing : Freeing m s₀ s at size)
    (written : d ≡ write_at s at (region size (set (table_at s at size) k none)))
  where
    -- the table lies within s, which is as long as s₀
    inside : at + (4 + size * 32) ≤ length s
    inside = omega arith

    -- the table with slot k free has slots of the size
    sized : Sized size (set (table_at s at size) k none)
    sized = sized_none size (table_at s at size) k (sized_at s at size inside)

    -- and it has 32
    slots : length (set (table_at s at size) k none) ≡ 32
    slots = length-set (table_at s at size) k none ∙ length_table s at size

    -- it is the table that lies in d
    table : table_at d at size ≡ set (table_at s at size) k none
    table = rw written (table_write s at size (set (table_at s at size) k none) inside sized slots)

    -- the first match is freed, and what the loop keeps holds of d
    pub freeing_turn : Freeing m s₀ d at size
    freeing_turn =
        let n = length_region size (table_at s at size) (sized_at s at size inside) (length_table s at size) in
        let l = length_region size (set (table_at s at size) k none) sized slots in
        let o : write_at (write_at s₀ at (region size (table_at s at size))) at (region size (set (table_at s at size) k none)) ≡ write_at s₀ at
        (region size (set (table_at s at size) k none)) =
        write_over s₀ at (region size (table_at s at size)) (region size (set (table_at s at size) k none)) (rw n room) (l ∙ sym n) in
        let e : write_at s at (region size (set (table_at s at size) k none)) ≡ write_at s₀ at (region size (set (table_at s at size) k none)) = ap
        (λ (x : Octets). write_at x at (region size (set (table_at s at size) k none))) freeing.now ∙ o in
        record {
          long = ap length written ∙ length_write_at s at (region size (set (table_at s at size) k none)) ∙ freeing.long;
          canonical = rw written (canonical_write s at size (set (table_at s at size) k none) inside sized slots);
          now = rw table (written ∙ e);
          left = rw (table, found) (freed_first m (table_at s at size)) ∙ freeing.left;
        }

    -- and d has fewer entries, so the loop ends
    pub freeing_less : length (entries (table_at d at size)) < length (entries (table_at s at size))
    freeing_less =
        let n : length (table_at s at size) ≡ 32 = length_table s at size in
        let e = entries_first m (table_at s at size) (rw (n, ← found) lt) in
        rw (table, found) (omega arith)

-- at the end nothing matches any more: all that matched is freed
pub freeing_last : (m : Octets → Bool) (s₀ s : Octets) (at size : ℕ) → first_at m (table_at s at size) ≡ 32 → Freeing m s₀ s at size
    → s ≡ write_at s₀ at (region size (freed m (table_at s₀ at size)))
freeing_last m s₀ s at size e f =
    let n : length (table_at s at size) ≡ 32 = length_table s at size in
    let g : freed m (table_at s at size) ≡ table_at s at size = freed_none m (table_at s at size) (omega arith) in
    rw (← f.left, g) f.now

-- what callers are told -----------------------------------------------------------------------------------------------------------------------------

-- a slot is told if the model's number is one of the 32
pub told_some : (r : Option ℕ) (n : ℕ) → IsSlot r n → is_some r ≡ ltb n 32
told_some None n e = rw e
told_some (Some k) n e = sym (lt-ltb n 32 (omega arith))

-- and none if it is 32
pub told_none : (r : Option ℕ) (n : ℕ) (b : Bool) → is_some r ≡ not b → IsSlot r n → b ≡ eqb n 32
told_none None n true t e = rw e
told_none None n false t e = absurd (cc)
told_none (Some k) n true t e = absurd (cc)
told_none (Some k) n false t e = sym (ne_eqb n 32 (λ z. omega arith))
