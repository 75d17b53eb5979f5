-- The laws of marks: how they are stored twice over, how two that are the same are found, and that identities whose marks all differ are apart.
use Prim.Native.Nat.{ℕ, zero, suc, ◌+◌, ◌-◌, ◌<◌, ◌≤◌, min}
use native.Mathlib.Omega.{arith}
use native.Mathlib.Nat.{add-zero}
use native.Mathlib.Numerals.{add-one}
use mathlib.Core.Path.{◌≡◌, refl, sym, ap, ◌∙◌}
use mathlib.Core.Bool.{Bool, true, false, ◌||◌}
use mathlib.Core.List.{List, [], ◌∷◌, ◌++◌, map, append-nil}
use lib.ListN.{length, get_or, replicate, set, take, get_or-replicate, length-map, length-set}
use lib.Seq.{append_snoc, get_or-set_same, get_or-set_other, get_or-take, length-take-le, take-set-le, take-suc-set}
use lib.Dec.{eqb, leb, ltb}
use borrow.Author.Tests.{eq-eqb, ne_eqb, eqb-true, eqb-false, le-ltb, leb-true, leb-false, lt-ltb, ltb-true, ltb-false}
use Rattle.model.proofs.Model.Tests.{and_true, or_false, or_true}
use Rattle.records.specs.declared.Identity.{Identity}
use Rattle.records.specs.Identities.{among, apart, same_identity}
use Rattle.records.specs.Marks.{Doubled, Marked, mark_of, meet_any, meet_at, meet_from, meet_within, reach_of, with_mark}

-- 1. Storing --------------------------------------------------------------------------------------------------------------------------------

-- 64 zeros are alike
pub zeros_doubled : Doubled (replicate 64 0)
zeros_doubled = record {
  long = refl;
  again = λ j l. get_or-replicate {A = ℕ} 64 (j + 32) 0 0 (omega arith) ∙ sym (get_or-replicate {A = ℕ} 64 j 0 0 (omega arith));
}

module _ (ms : List ℕ) (i m : ℕ) (d : Doubled ms) (l : i < 32) where
  -- a mark stored stands behind the first i
  pub put_take : take (i + 1) (with_mark ms i m) ≡ take i ms ++ (m ∷ [])
  put_take = rw (add-one, take-set-le (suc i) (set ms i m) (i + 32) m (omega arith)) (take-suc-set ms i m (omega (arith, d.long)))

  -- at its own number both halves have it
  put_here : get_or (with_mark ms i m) (i + 32) 0 ≡ get_or (with_mark ms i m) i 0
  put_here =
      let n : i ≡ i + 32 → ⊥ = λ z. omega arith in
      get_or-set_same (set ms i m) (i + 32) m 0 (rw length-set (omega (arith, d.long)))
      ∙ sym (get_or-set_other (set ms i m) (i + 32) i m 0 n ∙ get_or-set_same ms i m 0 (omega (arith, d.long)))

  -- at another number both have what they had
  put_there : (j : ℕ) → j < 32 → (j ≡ i → ⊥) → get_or (with_mark ms i m) (j + 32) 0 ≡ get_or (with_mark ms i m) j 0
  put_there j h n =
      let a : j + 32 ≡ i + 32 → ⊥ = λ z. n (omega arith) in
      let b : j + 32 ≡ i → ⊥ = λ z. omega arith in
      let e : j ≡ i + 32 → ⊥ = λ z. omega arith in
      get_or-set_other (set ms i m) (i + 32) (j + 32) m 0 a
      ∙ get_or-set_other ms i (j + 32) m 0 b
      ∙ d.again j h
      ∙ sym (get_or-set_other (set ms i m) (i + 32) j m 0 e ∙ get_or-set_other ms i j m 0 n)

  -- so both halves are alike again
  pub put_doubled : Doubled (with_mark ms i m)
  put_doubled = record { long = rw (length-set, length-set) d.long; again = λ j h. go j h (eqb j i) refl }
    where
      go : (j : ℕ) → j < 32 → (b : Bool) → eqb j i ≡ b → get_or (with_mark ms i m) (j + 32) 0 ≡ get_or (with_mark ms i m) j 0
      go j h true e = rw (eqb-true j i e) put_here
      go j h false e = put_there j h (eqb-false j i e)

-- 2. Looking for two that are the same ------------------------------------------------------------------------------------------------------

module _ (ms : List ℕ) (d i : ℕ) (met : Bool) where
  -- the mark here, and those left
  meet_step : i < 32 → meet_from ms d i (32 - i) ≡ eqb (get_or ms i 0) (get_or ms (i + d) 0) || meet_from ms d (i + 1) (32 - (i + 1))
  unfolding meet_from
  meet_step l = let e : 32 - i ≡ suc (32 - (i + 1)) = omega arith in rw e

  -- it is the same as the one d behind it
  pub meet_same : i < 32 → get_or ms i 0 ≡ get_or ms (i + d) 0 → true || meet_from ms d (i + 1) (32 - (i + 1)) ≡ met || meet_from ms d i (32 - i)
  meet_same l e = sym (rw (meet_step l, eq-eqb (get_or ms i 0) (get_or ms (i + d) 0) e) (or_true met))

  -- it is another
  pub meet_other : i < 32 → (get_or ms i 0 ≡ get_or ms (i + d) 0 → ⊥) → met || meet_from ms d (i + 1) (32 - (i + 1)) ≡ met || meet_from ms d i (32 - i)
  meet_other l n = sym (rw (meet_step l, ne_eqb (get_or ms i 0) (get_or ms (i + d) 0) n))

  -- no mark is left
  pub meet_last : 32 ≤ i → met ≡ met || meet_from ms d i (32 - i)
  unfolding meet_from
  meet_last l = let e : 32 - i ≡ 0 = omega arith in rw e (go met)
    where
      go : (b : Bool) → b ≡ b || false
      go true = refl
      go false = refl

-- at the start all are left
pub meet_first : (ms : List ℕ) (d : ℕ) → false || meet_from ms d 0 (32 - 0) ≡ meet_at ms d
unfolding meet_at
meet_first ms d = refl

module _ (ms : List ℕ) (d end : ℕ) where
  -- this distance, and those left
  within_step : d < end → meet_within ms d (end - d) ≡ meet_at ms d || meet_within ms (d + 1) (end - (d + 1))
  unfolding meet_within
  within_step l = let e : end - d ≡ suc (end - (d + 1)) = omega arith in rw e

  -- two are the same at this distance
  pub within_hit : d < end → meet_at ms d ≡ true → true ≡ meet_within ms d (end - d)
  within_hit l e = sym (rw (within_step l, e))

  -- none are
  pub within_miss : d < end → meet_at ms d ≡ false → meet_within ms (d + 1) (end - (d + 1)) ≡ meet_within ms d (end - d)
  within_miss l e = sym (rw (within_step l, e))

  -- no distance is left
  pub within_last : end ≤ d → false ≡ meet_within ms d (end - d)
  unfolding meet_within
  within_last l = let e : end - d ≡ 0 = omega arith in rw e

-- at the start all distances are left
pub within_first : (ms : List ℕ) (n end : ℕ) → end ≡ reach_of n → meet_within ms 1 (end - 1) ≡ meet_any ms n
unfolding meet_any
within_first ms n end e = rw e

-- how far two of n marks can stand apart, by how many they are
pub reach_few : (n : ℕ) → n < 17 → reach_of n ≡ n
unfolding reach_of
reach_few n l = rw (lt-ltb n 17 l, reach_of)

-- the same, of many
pub reach_many : (n : ℕ) → 17 ≤ n → reach_of n ≡ 17
unfolding reach_of
reach_many n l = rw (le-ltb n 17 l, reach_of)

-- both at once
pub reach_min : (n : ℕ) → min n 17 ≡ reach_of n
reach_min n = go (ltb n 17) refl
  where
    go : (b : Bool) → ltb n 17 ≡ b → min n 17 ≡ reach_of n
    go true e = let l = ltb-true n 17 e in rw (reach_few n l) (omega arith)
    go false e = let l = ltb-false n 17 e in rw (reach_many n l) (omega arith)

-- 3. None are the same ----------------------------------------------------------------------------------------------------------------------

-- then none is the same as the one d behind it
from_none : (ms : List ℕ) (d i n t : ℕ) → meet_from ms d i n ≡ false → t < n → get_or ms (i + t) 0 ≡ get_or ms (i + t + d) 0 → ⊥
unfolding meet_from
from_none ms d i zero t f l e = omega arith
from_none ms d i (suc n) zero f l e = eqb-false _ _ (or_false (eqb (get_or ms i 0) (get_or ms (i + d) 0)) _ f).0 (rw add-zero at e)
from_none ms d i (suc n) (suc t) f l e =
    let a : i + suc t ≡ i + 1 + t = omega arith in
    from_none ms d (i + 1) n t (or_false (eqb (get_or ms i 0) (get_or ms (i + d) 0)) _ f).1 (omega arith) (rw a at e)

-- at any of the distances
within_none : (ms : List ℕ) (d n t : ℕ) → meet_within ms d n ≡ false → t < n → meet_at ms (d + t) ≡ false
unfolding meet_within
within_none ms d zero t f l = absurd (omega arith)
within_none ms d (suc n) zero f l = rw add-zero (or_false (meet_at ms d) _ f).0
within_none ms d (suc n) (suc t) f l =
    let a : d + suc t ≡ d + 1 + t = omega arith in
    rw a (within_none ms (d + 1) n t (or_false (meet_at ms d) _ f).1 (omega arith))

-- a distance of at most 16 that is less than n is one of those
reaches : (n t : ℕ) → t < n → t ≤ 16 → t < reach_of n
reaches n t l h = go (ltb n 17) refl
  where
    go : (b : Bool) → ltb n 17 ≡ b → t < reach_of n
    go true e = rw (reach_few n (ltb-true n 17 e)) l
    go false e = rw (reach_many n (ltb-false n 17 e)) (omega arith)

-- so no two of the first n are, one way round or the other
unlike : (ms : List ℕ) (n : ℕ) → Doubled ms → n ≤ 32 → meet_any ms n ≡ false → (i j : ℕ) → i < j → j < n → get_or ms i 0 ≡ get_or ms j 0 → ⊥
unfolding meet_any meet_at
unlike ms n d few f i j l h e = go (leb (j - i) 16) refl
  where
    at : (t a : ℕ) → 0 < t → t < reach_of n → a < 32 → get_or ms a 0 ≡ get_or ms (a + t) 0 → ⊥
    at t a p q r =
        let b : 1 + (t - 1) ≡ t = omega arith in
        let m : meet_at ms t ≡ false = rw b at (within_none ms 1 (reach_of n - 1) (t - 1) f (omega arith)) in
        let z : 0 + a ≡ a = omega arith in
        rw z at (from_none ms t 0 32 a m r)

    go : (b : Bool) → leb (j - i) 16 ≡ b → ⊥
    go true q =
        let z : i + (j - i) ≡ j = omega arith in
        at (j - i) i (omega arith) (reaches n (j - i) (omega arith) (leb-true (j - i) 16 q)) (omega arith) (rw z e)
    go false q =
        let m = leb-false (j - i) 16 q in
        let z : j + (32 - (j - i)) ≡ i + 32 = omega arith in
        at (32 - (j - i)) j (omega arith) (reaches n (32 - (j - i)) (omega arith) (omega arith)) (omega arith) (rw z (sym e ∙ sym (d.again i (omega arith))))

-- 4. Identities -----------------------------------------------------------------------------------------------------------------------------

-- identities that are one have one mark
same_mark : (a b : Identity) → same_identity a b ≡ true → mark_of a ≡ mark_of b
unfolding same_identity mark_of
same_mark a b e =
    let h = and_true (eqb a.low b.low) _ e in
    rw (eqb-true a.low b.low h.0, eqb-true a.high b.high h.1)

-- an identity with another mark than each of some is none of them
among_none : (a : Identity) (ds : List Identity) → ((j : ℕ) → j < length ds → mark_of a ≡ get_or (map mark_of ds) j 0 → ⊥) → among a ds ≡ false
unfolding among
among_none a [] n = refl
among_none a (b ∷ ds) n = go (same_identity a b) refl (among_none a ds (λ j l. n (suc j) (omega arith)))
  where
    go : (r : Bool) → same_identity a b ≡ r → among a ds ≡ false → r || among a ds ≡ false
    go true e i = absurd (n 0 (omega arith) (same_mark a b e))
    go false e i = i

-- identities no two of which have one mark are apart
apart_unlike : (ds : List Identity) → ((i j : ℕ) → i < j → j < length ds → get_or (map mark_of ds) i 0 ≡ get_or (map mark_of ds) j 0 → ⊥)
    → apart ds ≡ true
unfolding apart
apart_unlike [] n = refl
apart_unlike (a ∷ ds) n =
    let f : among a ds ≡ false = among_none a ds (λ j l. n 0 (suc j) (omega arith) (omega arith)) in
    rw f (apart_unlike ds (λ i j l h. n (suc i) (suc j) (omega arith) (omega arith)))

-- so identities whose marks were looked through are apart, where no two were the same
pub marks_apart : (ds : List Identity) (n : ℕ) (ms : List ℕ) → Marked ds n ms → meet_any ms n ≡ false → apart ds ≡ true
marks_apart ds n ms m f = apart_unlike ds told
  where
    mark : (i : ℕ) → i < n → get_or (map mark_of ds) i 0 ≡ get_or ms i 0
    mark i l = rw (← m.first) (get_or-take n ms i 0 l)

    told : (i j : ℕ) → i < j → j < length ds → get_or (map mark_of ds) i 0 ≡ get_or (map mark_of ds) j 0 → ⊥
    told i j l h e =
        let q : j < n = omega (arith, m.count) in
        unlike ms n m.doubled m.few f i j l q (sym (mark i (omega arith)) ∙ e ∙ mark j q)

-- 5. Marking one behind the other -------------------------------------------------------------------------------------------------------------

-- those marked so far and those left are all
abbrev pub Left : List ℕ → ℕ → List Identity → List Identity → Type 0
Left ms found rest ds = take found ms ++ map mark_of rest ≡ map mark_of ds

-- one more is marked
pub left_more : (ms : List ℕ) (found m : ℕ) (a : Identity) (rest ds : List Identity) → Doubled ms → found < 32 → m ≡ mark_of a
    → Left ms found (a ∷ rest) ds → Left (with_mark ms found m) (found + 1) rest ds
left_more ms found m a rest ds d l q e = rw (put_take ms found m d l, append_snoc (take found ms) m (map mark_of rest), q) e

-- none is left
pub left_done : (ms : List ℕ) (found : ℕ) (ds : List Identity) → Doubled ms → found ≤ 32 → Left ms found [] ds → Marked ds found ms
left_done ms found ds d l e =
    let t : take found ms ≡ map mark_of ds = sym (append-nil (take found ms)) ∙ e in
    let n : length (take found ms) ≡ found = length-take-le found ms (omega (arith, d.long)) in
    let q : length ds ≡ found = sym (length-map ds mark_of) ∙ sym (ap (λ (x : List ℕ). length x) t) ∙ n in
    record { few = l; count = q; first = t; doubled = d }
