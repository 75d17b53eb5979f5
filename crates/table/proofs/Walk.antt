-- A walk of the slots in use: where the next one is, and what is left of the table.
use mathlib.Core.Path.{◌≡◌, refl, ap, ◌∙◌}
use Prim.Native.Nat.{ℕ, zero, suc, ◌+◌, ◌*◌, ◌-◌, ◌/◌, ◌%◌, ◌^◌, ◌≤◌, ◌<◌}
use native.Mathlib.Omega.{arith}
use native.Mathlib.Nat.{zero-add, suc-add, mul-suc, pow-suc, mul-add}
use mathlib.Core.Bool.{Bool}
use mathlib.Core.List.{[], ◌∷◌, ◌++◌, append-nil}
use mathlib.Core.Option.{none, some}
use lib.ListN.{drop, replicate, length-replicate, drop_of_length-le}
use lib.Seq.{drop-drop, drop_at}
use lib.Pow.{shr_lt}
use lib.Count.{count_trailing_zeros, under}
use Rattle.model.specs.Octets.{Octets, u32}
use Rattle.model.specs.State.{Table}
use Rattle.model.specs.Tables.{entries}
use Rattle.octets.specs.Parts.{part}
use Rattle.table.specs.Slots.{InUse, NextUsed, first_at, table_at}
use Rattle.table.proofs.Regions.{length_table, from_used, from_free, from_zero, drop_from, table_from_lem, table_from}

-- a number that is not 0
pub positive : (v : ℕ) → (v ≡ 0 → ⊥) → 0 < v
positive zero f = absurd (f refl)
positive (suc v) f = omega arith

-- from a place on: the slots below the lowest bit are free, and the slot of that bit is in use
next_from : (s : Octets) (size d n v place : ℕ) → n ≤ d → 0 < v → v < 2 ^ n
    → (count_trailing_zeros d v < n)
    × (table_from s size v place n
    ≡ replicate (count_trailing_zeros d v) none ++ (some (part s (place + size * count_trailing_zeros d v) size)
    ∷ drop (suc (count_trailing_zeros d v)) (table_from s size v place n)))
unfolding count_trailing_zeros
next_from s size d zero v place h p l = absurd (omega arith)
next_from s size zero (suc n) v place h p l = absurd (omega arith)
next_from s size (suc d) (suc n) v place h p l =
    let q : v < 2 ^ n * 2 = rw pow-suc at l in
    go (v % 2) refl (λ e. next_from s size d n (v / 2) (place + size) (omega arith) (omega arith) (omega arith))
  where
    go : (b : ℕ) → v % 2 ≡ b
        → (v % 2 ≡ 0 → (count_trailing_zeros d (v / 2) < n)
        × (table_from s size (v / 2) (place + size) n
        ≡ replicate (count_trailing_zeros d (v / 2)) none
        ++ (some (part s (place + size + size * count_trailing_zeros d (v / 2)) size)
        ∷ drop (suc (count_trailing_zeros d (v / 2))) (table_from s size (v / 2) (place + size) n))))
        → (under b (count_trailing_zeros d (v / 2)) < suc n)
        × (table_from s size v place (suc n)
        ≡ replicate (under b (count_trailing_zeros d (v / 2))) none
        ++ (some (part s (place + size * under b (count_trailing_zeros d (v / 2))) size)
        ∷ drop (suc (under b (count_trailing_zeros d (v / 2)))) (table_from s size v place (suc n))))
    go zero e ih =
        let j : ℕ = count_trailing_zeros d (v / 2) in
        let f : place + size * suc j ≡ place + size + size * j = omega (arith, mul-suc size j) in
        (omega (arith, (ih e).0), rw (from_free s size v place n e, f) (ap {B = Table} (λ l. none ∷ l) (ih e).1))
    go (suc zero) e ih = let f : place + size * 0 ≡ place = omega arith in (omega arith, rw (from_used s size v place n e, f))
    go (suc (suc b)) e ih = absurd (omega arith)

-- what is left of a table from slot k on: the bits of its word and its slots from there on
drop_at_place : (s : Octets) (at size k : ℕ) → drop k (table_at s at size) ≡ table_from s size (u32 s at / 2 ^ k) (at + 4 + size * k) (32 - k)
drop_at_place s at size k = rw (table_from_lem s at size) at (drop_from s size (u32 s at) (at + 4) 32 k)

-- j free slots passed from slot k on, and then a record
walk_to : (t : Table) (k j : ℕ) (x : Octets) → drop k t ≡ replicate j none ++ (some x ∷ drop (suc j) (drop k t))
    → (drop k t ≡ replicate j none ++ drop (k + j) t) × (drop (k + j) t ≡ some x ∷ drop (k + j + 1) t)
walk_to t k j x e =
    let a : drop j (drop k t) ≡ drop (k + j) t = drop-drop j k t in
    let b : drop (suc j) (drop k t) ≡ drop (k + suc j) t = drop-drop (suc j) k t in
    let c : k + suc j ≡ k + j + 1 = omega arith in
    let d : drop j (replicate j none ++ (some x ∷ drop (suc j) (drop k t))) ≡ some x
    ∷ drop (suc j) (drop k t) = drop_at (replicate j none) (some x ∷ drop (suc j) (drop k t)) j (length-replicate j none) in
    let f : drop j (drop k t) ≡ some x ∷ drop (suc j) (drop k t) = ap (drop j) e ∙ d in
    (rw (← a, f) e, rw (← a, ← c, ← b) f)

-- the next slot in use, from the word; its zeros are counted in any width that has the bits of the slots left
pub next_some : (s : Octets) (at size k d : ℕ) → k ≤ 32 → 32 - k ≤ d → u32 s at < 4294967296 → 0 < u32 s at / 2 ^ k
    → (k + count_trailing_zeros d (u32 s at / 2 ^ k) < 32) × NextUsed s at size k (k + count_trailing_zeros d (u32 s at / 2 ^ k))
next_some s at size k d h o l p =
    let t : Table = table_at s at size in
    let v : ℕ = u32 s at / 2 ^ k in
    let j : ℕ = count_trailing_zeros d v in
    let x = drop_at_place s at size k in
    let e : 32 - k + k ≡ 32 = omega arith in
    let b : v < 2 ^ (32 - k) = shr_lt (32 - k) k (rw e l) in
    let q = next_from s size d (32 - k) v (at + 4 + size * k) o p b in
    let f : at + 4 + size * k + size * j ≡ at + (4 + size * (k + j)) = omega (arith, mul-add size k j) in
    let g : drop k t ≡ replicate j none ++ (some (part s (at + (4 + size * (k + j))) size) ∷ drop (suc j) (drop k t)) = rw (← x, f) at q.1 in
    let w = walk_to t k j (part s (at + (4 + size * (k + j))) size) g in
    let i : k + j - k ≡ j = omega arith in
    (omega (arith, q.0), record { passed = rw i w.0; used = λ r. w.1 })

-- there is none
pub next_none : (s : Octets) (at size k : ℕ) → k ≤ 32 → u32 s at / 2 ^ k ≡ 0 → NextUsed s at size k 32
next_none s at size k h e =
    let d : drop 32 (table_at s at size) ≡ [] = drop_of_length-le (table_at s at size) {i = 32} (rw (length_table s at size) (omega arith)) in
    let f : drop k (table_at s at size) ≡ replicate (32 - k) none = drop_at_place s at size k ∙ rw e (from_zero s size (at + 4 + size * k) (32 - k)) in
    record { passed = rw (f, d, append-nil); used = λ r. absurd (omega arith) }

-- the slots passed hold no records
entries_nones : (n : ℕ) (t : Table) → entries (replicate n none ++ t) ≡ entries t
unfolding entries
entries_nones zero t = refl
entries_nones (suc n) t = entries_nones n t

-- they put the first match off by their number
first_nones : (m : Octets → Bool) (n : ℕ) (t : Table) → first_at m (replicate n none ++ t) ≡ n + first_at m t
unfolding first_at
first_nones m zero t = rw zero-add
first_nones m (suc n) t = rw suc-add (ap suc (first_nones m n t))

-- a slot in use: its record, and what is left after it
pub in_use_entries : (s : Octets) (at size k : ℕ) → InUse s at size k → entries (drop k (table_at s at size)) ≡ part s (at + (4 + size * k)) size
    ∷ entries (drop (k + 1) (table_at s at size))
unfolding entries
in_use_entries s at size k u = rw u

-- a walk that has come to slot k goes on at r, the next slot in use: what is left
module _ (s : Octets) (at size k r : ℕ) (u : NextUsed s at size k r) where
  -- the records left are the same, for the slots passed are free
  pub next_entries : entries (drop k (table_at s at size)) ≡ entries (drop r (table_at s at size))
  next_entries = rw u.passed (entries_nones (r - k) (drop r (table_at s at size)))

  -- the first match from k on is the first from r on, put off by the slots passed
  pub next_first : (m : Octets → Bool) → first_at m (drop k (table_at s at size)) ≡ r - k + first_at m (drop r (table_at s at size))
  next_first m = rw u.passed (first_nones m (r - k) (drop r (table_at s at size)))
