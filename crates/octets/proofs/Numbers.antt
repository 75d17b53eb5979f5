-- Numbers in octets, low octet first: read in pieces they are one number, and octets of one length that spell one number are the same octets.
use Prim.Native.Nat.{ℕ, suc, ◌+◌, ◌-◌, ◌*◌, ◌≤◌, ◌<◌}
use native.Mathlib.Omega.{arith}
use mathlib.Core.Path.{◌≡◌, refl, sym, ◌∙◌}
use mathlib.Core.Bool.{Bool, true, false, ◌&&◌}
use mathlib.Core.List.{[], ◌∷◌, ◌++◌}
use lib.ListN.{length, get_or}
use lib.Dec.{eqb, ltb}
use borrow.Author.Tests.{eq-eqb, ne_eqb, eqb-true, eqb-false}
use Rattle.model.specs.Octets.{Octets, all_zero, bytes, u16, u32}
use Rattle.model.proofs.Model.Tables.{byte_at}
use Rattle.model.proofs.Model.Tests.{and_off, and_true}
use Rattle.octets.specs.Parts.{part}
use Rattle.octets.specs.Numbers.{little}
use Rattle.octets.proofs.Laws.{part_add, part_suc}

-- 1. Reading -----------------------------------------------------------------------------------------------------------------------------------

-- the first octet of a part, and the others
little_suc : (s : Octets) (at n : ℕ) → at < length s → little (part s at (suc n)) ≡ get_or s at 0 + 256 * little (part s (at + 1) n)
unfolding little
little_suc s at n h = rw (part_suc s at n h)

-- its first two octets, and the others
little_two : (s : Octets) (at n : ℕ) → at + 2 ≤ length s → little (part s at (suc (suc n))) ≡ u16 s at + 65536 * little (part s (at + 2) n)
unfolding u16
little_two s at n h =
    let e : at + 1 + 1 ≡ at + 2 = omega arith in
    rw (little_suc s at (suc n) (omega arith), little_suc s (at + 1) n (omega arith), e) (omega arith)

-- its first four octets, and the others
little_four : (s : Octets) (at n : ℕ) → at + 4 ≤ length s
    → little (part s at (suc (suc (suc (suc n))))) ≡ u32 s at + 4294967296 * little (part s (at + 4) n)
unfolding u32
little_four s at n h =
    let e : at + 2 + 2 ≡ at + 4 = omega arith in
    rw (little_two s at (suc (suc n)) (omega arith), little_two s (at + 2) n (omega arith), e) (omega arith)

-- four octets alone
pub little_last : (s : Octets) (at : ℕ) → at + 4 ≤ length s → little (part s at 4) ≡ u32 s at
unfolding little part
little_last s at h = rw (little_four s at 0 h) (omega arith)

-- one octet alone
pub little_octet : (s : Octets) (at : ℕ) → at < length s → get_or s at 0 ≡ little (part s at 1)
unfolding little part
little_octet s at h = sym (little_suc s at 0 h ∙ omega arith)

-- two numbers of four octets, the low one first, are the number in eight
pub u64_is : (s : Octets) (at : ℕ) → at + 8 ≤ length s → u32 s at + 4294967296 * u32 s (at + 4) ≡ little (part s at 8)
u64_is s at h = rw (little_four s at 4 (omega arith), little_last s (at + 4) (omega arith))

-- numbers of four octets, of two and of one are the number in seven
pub u56_is : (s : Octets) (at : ℕ) → at + 7 ≤ length s → u32 s at + 4294967296 * (u16 s (at + 4) + 65536 * get_or s (at + 6) 0) ≡ little (part s at 7)
unfolding little part
u56_is s at h =
    let e : at + 4 + 2 ≡ at + 6 = omega arith in
    rw (little_four s at 3 (omega arith), little_two s (at + 4) 1 (omega arith), e, little_suc s (at + 6) 0 (omega arith)) (omega arith)

-- a number is zero exactly if all its octets are
pub little_zero : (o : Octets) → eqb (little o) 0 ≡ all_zero o
unfolding little all_zero
little_zero [] = refl
little_zero (x ∷ xs) = sym (rw (← little_zero xs) (go (eqb x 0) (eqb (little xs) 0) refl refl))
  where
    go : (a b : Bool) → eqb x 0 ≡ a → eqb (little xs) 0 ≡ b → a && b ≡ eqb (x + 256 * little xs) 0
    go true true e f = sym (eq-eqb (x + 256 * little xs) 0 (omega (arith, eqb-true x 0 e, eqb-true (little xs) 0 f)))
    go true false e f = sym (ne_eqb (x + 256 * little xs) 0 (λ z. eqb-false (little xs) 0 f (omega arith)))
    go false b e f = sym (ne_eqb (x + 256 * little xs) 0 (λ z. eqb-false x 0 e (omega arith)))

-- octets whose number is zero are zero
pub zero_word : (o : Octets) (x : ℕ) → x ≡ little o → x ≡ 0 → all_zero o ≡ true
zero_word o x e z = sym (little_zero o) ∙ rw (← e) (eq-eqb x 0 z)

-- two octets are zero exactly if their number is
pub zero_two : (s : Octets) (at : ℕ) → at + 2 ≤ length s → eqb (u16 s at) 0 ≡ all_zero (part s at 2)
unfolding little part
zero_two s at h =
    let e : little (part s at 2) ≡ u16 s at = rw (little_two s at 0 h) (omega arith) in
    rw (← e) (little_zero (part s at 2))

-- and four octets
pub zero_four : (s : Octets) (at : ℕ) → at + 4 ≤ length s → eqb (u32 s at) 0 ≡ all_zero (part s at 4)
zero_four s at h = rw (← little_last s at h) (little_zero (part s at 4))

-- zeros in two lists
pub zeros_append : (a b : Octets) → all_zero (a ++ b) ≡ all_zero a && all_zero b
unfolding all_zero
zeros_append [] b = refl
zeros_append (x ∷ a) b = rw (zeros_append a b) (go (eqb x 0) (all_zero a) (all_zero b))
  where
    go : (f g h : Bool) → f && (g && h) ≡ f && g && h
    go true g h = refl
    go false g h = refl

-- a part is zero exactly if its beginning and what follows are
pub zeros_part : (s : Octets) (at m n : ℕ) → all_zero (part s at (m + n)) ≡ all_zero (part s at m) && all_zero (part s (at + m) n)
zeros_part s at m n = rw (part_add s at m n) (zeros_append (part s at m) (part s (at + m) n))

module _ (s : Octets) (at m n x : ℕ) (e : eqb x 0 ≡ all_zero (part s at m)) where
  -- a part whose beginning is zero, by a number that was read there, is zero exactly if the rest is
  pub zero_goes : x ≡ 0 → all_zero (part s (at + m) n) ≡ all_zero (part s at (m + n))
  zero_goes z = sym (zeros_part s at m n ∙ rw (← e, eq-eqb x 0 z))

  -- and one whose beginning is not zero is not
  pub zero_stops : (x ≡ 0 → ⊥) → false ≡ all_zero (part s at (m + n))
  zero_stops z = sym (zeros_part s at m n ∙ rw (← e, ne_eqb x 0 z))

module _ (s : Octets) (at m n x : ℕ) (e : x ≡ little (part s (at + m) n)) where
  -- the zeros of a part, with those behind it, are all exactly if the number read there is zero
  pub zero_last : all_zero (part s at m) ≡ true → eqb x 0 ≡ all_zero (part s at (m + n))
  zero_last z = sym (zeros_part s at m n ∙ rw (z, ← little_zero (part s (at + m) n), ← e))

  -- so a number of zero adds to the zeros
  pub zero_more : all_zero (part s at m) ≡ true → x ≡ 0 → all_zero (part s at (m + n)) ≡ true
  zero_more z q = sym (zero_last z) ∙ eq-eqb x 0 q

  -- a part with another number than zero in it is not zero
  pub zero_fails : (size : ℕ) → (x ≡ 0 → ⊥) → m + n ≤ size → false ≡ all_zero (part s at size)
  zero_fails size z h =
      let q : size ≡ m + n + (size - (m + n)) = omega arith in
      let f : all_zero (part s (at + m) n) ≡ false = sym (little_zero (part s (at + m) n)) ∙ rw (← e) (ne_eqb x 0 z) in
      let g : all_zero (part s at (m + n)) ≡ false = zeros_part s at m n ∙ rw f (and_off (all_zero (part s at m))) in
      sym (rw q (zeros_part s at (m + n) (size - (m + n)) ∙ rw g))

-- 2. One number, one run of octets -----------------------------------------------------------------------------------------------------------------

-- octets of one length that spell one number are the same
pub little_one : (a b : Octets) → length a ≡ length b → bytes a ≡ true → bytes b ≡ true → little a ≡ little b → a ≡ b
unfolding little bytes
little_one [] [] l p q e = refl
little_one [] (y ∷ ys) l p q e = absurd (omega arith)
little_one (x ∷ xs) [] l p q e = absurd (omega arith)
little_one (x ∷ xs) (y ∷ ys) l p q e =
    let h : x < 256 = byte_at (x ∷ xs) 0 p in
    let g : y < 256 = byte_at (y ∷ ys) 0 q in
    let f : x ≡ y = omega arith in
    let r : xs ≡ ys = little_one xs ys (omega arith) (and_true (ltb x 256) _ p).1 (and_true (ltb y 256) _ q).1 (omega arith) in cc
