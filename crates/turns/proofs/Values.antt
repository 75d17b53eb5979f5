-- The values of the five instances, read and changed; instance k stands at place k - 1.
use mathlib.Core.Path.{◌≡◌, refl}
use Prim.Native.Nat.{ℕ, zero, suc, ◌-◌, ◌≤◌, ◌<◌}
use native.Mathlib.Omega.{arith}
use mathlib.Core.List.{List}
use lib.ListN.{length, get_or, set, length-set}
use lib.Seq.{get_or-set_same, set-set, set-get_or}
use Rattle.model.specs.Advertising.{value_of, with_value}

-- what stands at its place is the value of an instance
pub value_place : (l : List ℕ) (k : ℕ) → (k ≡ 0 → ⊥) → get_or l (k - 1) 0 ≡ value_of l k
unfolding value_of
value_place l zero h = absurd (h refl)
value_place l (suc p) h = let e : suc p - 1 ≡ p = omega arith in rw e

-- none has a value
pub value_none : (l : List ℕ) (k : ℕ) → k ≡ 0 → 0 ≡ value_of l k
unfolding value_of
value_none l k e = rw e

-- a value stored at its place is that of the instance
pub with_place : (l : List ℕ) (k x : ℕ) → 1 ≤ k → set l (k - 1) x ≡ with_value l k x
unfolding with_value
with_place l zero x h = absurd (omega arith)
with_place l (suc p) x h = let e : suc p - 1 ≡ p = omega arith in rw e

-- the value that was stored
pub value_with : (l : List ℕ) (k x : ℕ) → 0 < k → k ≤ length l → value_of (with_value l k x) k ≡ x
unfolding value_of with_value
value_with l zero x h b = absurd (omega arith)
value_with l (suc j) x h b = get_or-set_same l j x 0 b

-- the second of two values stands
pub with_twice : (l : List ℕ) (k x y : ℕ) → with_value (with_value l k x) k y ≡ with_value l k y
unfolding with_value
with_twice l zero x y = refl
with_twice l (suc j) x y = set-set l j x y

-- the value that an instance has anyway
pub with_same : (l : List ℕ) (k : ℕ) → with_value l k (value_of l k) ≡ l
unfolding value_of with_value
with_same l zero = refl
with_same l (suc j) = set-get_or l j 0

-- as many as before
pub length_with : (l : List ℕ) (k x : ℕ) → length (with_value l k x) ≡ length l
unfolding with_value
length_with l zero x = refl
length_with l (suc j) x = length-set l j x
