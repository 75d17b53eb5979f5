-- A number reads back from the digits that are written of it.
use Prim.Native.Nat.{ℕ, zero, suc, ◌+◌, ◌-◌, ◌*◌, ◌/◌, ◌%◌, ◌^◌, ◌<◌}
use native.Mathlib.Omega.{arith}
use native.Mathlib.Nat.{pow-suc}
use mathlib.Core.Path.{◌≡◌, refl}
use mathlib.Core.Bool.{Bool, true, false}
use mathlib.Core.List.{[], ◌∷◌, ◌++◌}
use lib.Dec.{ltb, ltb→lt}
use Rattle.model.specs.Octets.{Octets}
use Rattle.why.specs.Spelling.{decimal, digits}

-- the number that digits spell behind a number already read
unfoldable pub value_after : ℕ → Octets → ℕ
value_after n [] = n
value_after n (x ∷ xs) = value_after (n * 10 + (x - 48)) xs

-- the number that digits spell, the highest first
unfoldable pub value_of : Octets → ℕ
value_of xs = value_after 0 xs

-- one digit more at the end
value_more : (n : ℕ) (xs : Octets) (y : ℕ) → value_after n (xs ++ (y ∷ [])) ≡ value_after n xs * 10 + (y - 48)
unfolding value_after
value_more n [] y = refl
value_more n (x ∷ xs) y = value_more (n * 10 + (x - 48)) xs y

-- a number of at most k digits reads back from its last k
digits_back : (k n : ℕ) → n < 10 ^ k → value_after 0 (digits k n) ≡ n
unfolding digits value_after
digits_back zero n l = let z : n < 1 = l in omega arith
digits_back (suc k) n l = let up : n < 10 ^ k * 10 = rw pow-suc at l in go (ltb n 10) refl (digits_back k (n / 10) (omega arith))
  where
    go : (b : Bool) → ltb n 10 ≡ b → value_after 0 (digits k (n / 10)) ≡ n / 10
        → value_after 0 (elim b [ true ↦ (48 + n) ∷ [] | false ↦ digits k (n / 10) ++ ((48 + n % 10) ∷ []) ]) ≡ n
    go true e back = let z : n < 10 = ltb→lt n 10 (rw e tt) in omega arith
    go false e back = rw (value_more 0 (digits k (n / 10)) (48 + n % 10), back) (omega arith)

-- every number of at most 20 digits, so every number of 64 bits, reads back from its text
pub decimal_back : (n : ℕ) → n < 10 ^ 20 → value_of (decimal n) ≡ n
unfolding decimal value_of
decimal_back n l = digits_back 20 n l
