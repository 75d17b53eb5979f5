-- The ring of five: the order in which the instances from a place on follow, and the search for the first that is there.
use mathlib.Core.Path.{◌≡◌, refl}
use Prim.Native.Nat.{ℕ, zero, suc, ◌+◌, ◌-◌, ◌≤◌, ◌<◌}
use native.Mathlib.Numerals.{add-one}
use native.Mathlib.Omega.{arith}
use mathlib.Core.List.{List, [], ◌∷◌, ◌++◌}
use lib.ListN.{get_or, take, drop}
use borrow.Author.Tests.{eq-eqb, ne_eqb}
use Rattle.model.specs.declared.Schedule.{Schedule}
use Rattle.model.specs.Advertising.{value_of, duration_of, present, first_present, following}
use Rattle.turns.specs.Ring.{next}

-- what holds of each of the five places
pub five : (P : ℕ → Type 0) → P 0 → P 1 → P 2 → P 3 → P 4 → (p : ℕ) → p < 5 → P p
five P a b c d e zero h = a
five P a b c d e (suc zero) h = b
five P a b c d e (suc (suc zero)) h = c
five P a b c d e (suc (suc (suc zero))) h = d
five P a b c d e (suc (suc (suc (suc zero)))) h = e
five P a b c d e (suc (suc (suc (suc (suc p))))) h = absurd (omega arith)

-- the place behind is a place
pub next_below : (p : ℕ) → p < 5 → next p < 5
unfolding next
next_below = five (λ p. next p < 5) (omega arith) (omega arith) (omega arith) (omega arith) (omega arith)

-- the order from place p on begins with instance p + 1, which stands last in the order from the next place on
pub ring : (p : ℕ) → p < 5 → (following p ≡ suc p ∷ drop 1 (following p)) × (following (next p) ≡ drop 1 (following p) ++ (suc p ∷ []))
unfolding next following
ring =
    five (λ p. (following p ≡ suc p ∷ drop 1 (following p)) × (following (next p) ≡ drop 1 (following p) ++ (suc p ∷ []))) (refl, refl) (refl, refl)
    (refl, refl) (refl, refl) (refl, refl)

-- the instances that follow instance p + 1 are those from the next place on
pub following_suc : (p : ℕ) → p < 5 → following (suc p) ≡ following (next p)
unfolding next following
following_suc = five (λ p. following (suc p) ≡ following (next p)) refl refl refl refl refl

-- behind 5 it begins with 1 again
pub following_last : (k : ℕ) → k ≡ 5 → following 0 ≡ following k
unfolding following
following_last k e = rw e

-- the next instances from place p on: instance p + 1, and the next ones from the next place on
pub take_ring : (c : ℕ) → c < 5 → (p : ℕ) → p < 5 → take (suc c) (following p) ≡ suc p ∷ take c (following (next p))
unfolding next following
take_ring = five (λ c. (p : ℕ) → p < 5 → take (suc c) (following p) ≡ suc p ∷ take c (following (next p)))
    (five _ refl refl refl refl refl)
    (five _ refl refl refl refl refl)
    (five _ refl refl refl refl refl)
    (five _ refl refl refl refl refl)
    (five _ refl refl refl refl refl)

-- five of them are all
pub take_five : (p : ℕ) → p < 5 → take 5 (following p) ≡ following p
unfolding following
take_five = five (λ p. take 5 (following p) ≡ following p) refl refl refl refl refl

-- an instance with a duration is there: it is the first
pub first_here : (s : Schedule) (k : ℕ) (ks : List ℕ) → (value_of s.durations k ≡ 0 → ⊥) → first_present s (k ∷ ks) ≡ k
unfolding first_present present duration_of
first_here s k ks n = rw (ne_eqb (value_of s.durations k) 0 n, first_present)

-- one without is absent: the first is among the others
pub first_past : (s : Schedule) (k : ℕ) (ks : List ℕ) → value_of s.durations k ≡ 0 → first_present s (k ∷ ks) ≡ first_present s ks
unfolding first_present present duration_of
first_past s k ks e = rw (eq-eqb (value_of s.durations k) 0 e, first_present)

-- The search: what is left of the order, from place i on, has the first one of the whole order
module _ (s : Schedule) (c i k : ℕ) (below : i < 5) (most : c ≤ 5) (inv : first_present s (take c (following i)) ≡ first_present s (following k)) where
  -- what is left, with the place that is looked at
  left_found : 0 < c → first_present s (suc i ∷ take (c - 1) (following (next i))) ≡ first_present s (following k)
  left_found h =
      let b : c - 1 < 5 = omega arith in
      let e : suc (c - 1) ≡ c = omega arith in
      rw (← take_ring (c - 1) b i below, e) inv

  -- the instance of this place is there
  pub found : 0 < c → (get_or s.durations i 0 ≡ 0 → ⊥) → i + 1 ≡ first_present s (following k)
  unfolding value_of
  found h n = rw (first_here s (suc i) (take (c - 1) (following (next i))) n, ← add-one) at (left_found h)

  -- it is absent
  pub missed : (j : ℕ) → j ≡ next i → 0 < c → get_or s.durations i 0 ≡ 0 → first_present s (take (c - 1) (following j)) ≡ first_present s (following k)
  unfolding value_of
  missed j n h e = rw n (rw (first_past s (suc i) (take (c - 1) (following (next i))) e) at (left_found h))

  -- no place is left
  pub none_found : c ≤ 0 → 0 ≡ first_present s (following k)
  unfolding first_present
  none_found h = let z : c ≡ 0 = omega arith in rw z at inv
