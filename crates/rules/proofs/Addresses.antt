-- Static random addresses, tested by the number that the 48 bits spell. Assumes nothing.
use Rattle.std.proofs.Common.{◌≡◌, ℕ, zero, suc, ◌+◌, ◌-◌, ◌*◌, ◌/◌, ◌%◌, ◌^◌, ◌<◌, ◌≤◌, Bool, true, false, not, ◌&&◌, ◌||◌, eqb, ltb, sym, refl, ap, ◌∙◌, mod-lt, pow-suc, zero-add, zero-mul, arith, pow_pos, ltb-false, ltb-true, eq-eqb, ne_eqb, eqb-true}
use native.Mathlib.Nat.{mod-one, div-div-eq-div-mul}
use lib.Pow.{mod-pow-add}
use borrow.Author.Tests.{eqb-false}
use Rattle.model.specs.Octets.{Octets, bit, some_one, some_zero, u16, u32}
use Rattle.model.specs.State.{address_bits, static_random}
use Rattle.octets.specs.Parts.{part}
use Rattle.octets.proofs.Parts.{u16_part, u32_part}

-- 1. Bits of a number -------------------------------------------------------------------------------------------------------------------------

-- the number that the lowest bits spell, by the highest of them and those below it
bits_suc : (k x : ℕ) → x % 2 ^ suc k ≡ (x / 2 ^ k % 2) * 2 ^ k + x % 2 ^ k
bits_suc k x = let e : suc k ≡ 1 + k = omega arith in ap (λ (n : ℕ). x % 2 ^ n) e ∙ mod-pow-add x 1 k

-- one of the n lowest bits is 1 exactly if the number they spell is not zero
some_one_is : (n x : ℕ) → some_one n x ≡ not (eqb (x % 2 ^ n) 0)
unfolding some_one bit
some_one_is zero x = rw (mod-one x)
some_one_is (suc k) x = rw (some_one_is k x, bits_suc k x) (go (x / 2 ^ k % 2) (x % 2 ^ k) (2 ^ k) (omega arith) (pow_pos k))
  where
    go : (b r p : ℕ) → b < 2 → 0 < p → (eqb b 1 || not (eqb r 0)) ≡ not (eqb (b * p + r) 0)
    go zero r p h l = rw (zero-mul p, zero-add r)
    go (suc zero) r p h l = rw (ne_eqb (1 * p + r) 0 (λ e. omega arith))
    go (suc (suc b)) r p h l = absurd (omega arith)

-- one of them is 0 exactly if that number is not the largest
some_zero_is : (n x : ℕ) → some_zero n x ≡ not (eqb (x % 2 ^ n) (2 ^ n - 1))
unfolding some_zero bit
some_zero_is zero x = rw (mod-one x)
some_zero_is (suc k) x =
    rw (some_zero_is k x, bits_suc k x, pow-suc 2 k) (go (x / 2 ^ k % 2) (x % 2 ^ k) (2 ^ k) (omega arith) (mod-lt x (pow_pos k)))
  where
    go : (b r p : ℕ) → b < 2 → r < p → (not (eqb b 1) || not (eqb r (p - 1))) ≡ not (eqb (b * p + r) (p * 2 - 1))
    go zero r p h l = rw (ne_eqb (0 * p + r) (p * 2 - 1) (λ e. omega arith))
    go (suc zero) r p h l = two (eqb r (p - 1)) refl
      where
        two : (v : Bool) → eqb r (p - 1) ≡ v → not v ≡ not (eqb (1 * p + r) (p * 2 - 1))
        two true e = rw (eq-eqb (1 * p + r) (p * 2 - 1) (omega (arith, eqb-true r (p - 1) e)))
        two false e = rw (ne_eqb (1 * p + r) (p * 2 - 1) (λ f. eqb-false r (p - 1) e (omega arith)))
    go (suc (suc b)) r p h l = absurd (omega arith)

-- of 48 bits the two highest are ones exactly if the number above the 46 others is 3
top_is : (x : ℕ) → x < 281474976710656 → bit 47 x && bit 46 x ≡ eqb (x / 70368744177664) 3
unfolding bit
top_is x h = rw (sym (div-div-eq-div-mul x 70368744177664 2)) (go (x / 70368744177664) (omega arith))
  where
    go : (q : ℕ) → q < 4 → eqb (q / 2 % 2) 1 && eqb (q % 2) 1 ≡ eqb q 3
    go zero h = refl
    go (suc zero) h = refl
    go (suc (suc zero)) h = refl
    go (suc (suc (suc zero))) h = refl
    go (suc (suc (suc (suc q)))) h = absurd (omega arith)

-- what that says of a number of 48 bits: both top bits are set and the bits below are not alike exactly if it lies between the two numbers where they are
between : (x : ℕ) → x < 281474976710656
    → eqb (x / 70368744177664) 3 && (not (eqb (x % 70368744177664) 0) && not (eqb (x % 70368744177664) 70368744177663))
    ≡ ltb 0xC00000000000 x && ltb x 0xFFFFFFFFFFFF
between x h = go (ltb 0xC00000000000 x) (ltb x 0xFFFFFFFFFFFF) (eqb x 0xC00000000000) refl refl refl
  where
    go : (a b c : Bool) → ltb 0xC00000000000 x ≡ a → ltb x 0xFFFFFFFFFFFF ≡ b → eqb x 0xC00000000000 ≡ c
        → eqb (x / 70368744177664) 3 && (not (eqb (x % 70368744177664) 0) && not (eqb (x % 70368744177664) 70368744177663)) ≡ a && b
    go true true c e f g =
        let l : 0xC00000000000 < x = ltb-true 0xC00000000000 x e in
        let m : x < 0xFFFFFFFFFFFF = ltb-true x 0xFFFFFFFFFFFF f in
        rw (
          eq-eqb (x / 70368744177664) 3 (omega arith),
          ne_eqb (x % 70368744177664) 0 (λ z. omega arith),
          ne_eqb (x % 70368744177664) 70368744177663 (λ z. omega arith),
        )
    go true false c e f g =
        let m : 0xFFFFFFFFFFFF ≤ x = ltb-false x 0xFFFFFFFFFFFF f in
        rw (
          eq-eqb (x / 70368744177664) 3 (omega arith),
          ne_eqb (x % 70368744177664) 0 (λ z. omega arith),
          eq-eqb (x % 70368744177664) 70368744177663 (omega arith),
        )
    go false b true e f g =
        let l : x ≡ 0xC00000000000 = eqb-true x 0xC00000000000 g in
        rw (eq-eqb (x / 70368744177664) 3 (omega arith), eq-eqb (x % 70368744177664) 0 (omega arith))
    go false b false e f g =
        let l : x ≤ 0xC00000000000 = ltb-false 0xC00000000000 x e in
        rw (ne_eqb (x / 70368744177664) 3 (λ z. eqb-false x 0xC00000000000 g (omega arith)))

-- 2. The address at a place -----------------------------------------------------------------------------------------------------------------------

-- an address rests on the first six octets of a part alone
address_of_lem : (s : Octets) (at n : ℕ) → 6 ≤ n → address_bits (part s at n) ≡ u32 s at + 4294967296 * u16 s (at + 4)
unfolding address_bits
address_of_lem s at n h = rw (u32_part s at n (omega arith), u16_part s at n 4 (omega arith))

-- so does what kind of address it is
pub static_of : (s : Octets) (at n : ℕ) → 6 ≤ n → static_random (part s at n) ≡ static_random (part s at 6)
unfolding static_random
static_of s at n h = rw (address_of_lem s at n h, address_of_lem s at 6 (omega arith))

-- the first six octets of a list are the address that the list begins with
pub static_whole : (s : Octets) → static_random (part s 0 6) ≡ static_random s
unfolding static_random address_bits
static_whole s = rw (address_of_lem s 0 6 (omega arith))

-- six octets by the number that they spell, read as one of four octets and one of two
pub static_is : (s : Octets) (at lo hi : ℕ) → (lo ≡ u32 s at) × (lo < 4294967296) → (hi ≡ u16 s (at + 4)) × (hi < 65536)
    → static_random (part s at 6) ≡ ltb 0xC00000000000 (lo + 4294967296 * hi) && ltb (lo + 4294967296 * hi) 0xFFFFFFFFFFFF
unfolding static_random
static_is s at lo hi (e, l) (f, h) =
    let x : ℕ = lo + 4294967296 * hi in
    let a : address_bits (part s at 6) ≡ x = rw (address_of_lem s at 6 (omega arith), ← e, ← f) in
    rw (a, top_is x (omega arith), some_one_is 46 x, some_zero_is 46 x) (between x (omega arith))
