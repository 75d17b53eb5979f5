-- Small laws of tests, parts and numbers.
use Prim.Native.Nat.{ℕ, zero, suc, ◌+◌, ◌*◌, ◌/◌, ◌%◌, ◌<◌, ◌≤◌}
use native.Mathlib.Omega.{arith}
use native.Mathlib.Nat.{div-div-eq-div-mul, mod-eq_of_lt}
use mathlib.Core.Path.{◌≡◌, refl, sym}
use mathlib.Core.Bool.{Bool, true, false, ◌&&◌}
use mathlib.Core.List.{[], ◌∷◌, ◌++◌}
use lib.ListN.{length, get_or, drop, replicate}
use lib.Seq.{take-add, drop-drop, drop-cons}
use lib.Dec.{eqb}
use lib.Pow.{low, high}
use Rattle.model.specs.Octets.{Octets, all_zero, bytes, le16, le32, same, u16, u32}
use Rattle.model.proofs.Model.Tables.{byte_at, bytes_drop, bytes_take}
use Rattle.octets.specs.Parts.{part}

-- two tests that follow from each other are one
pub one_test : (a b : Bool) → (a ≡ true → b ≡ true) → (b ≡ true → a ≡ true) → a ≡ b
one_test true b f g = sym (f refl)
one_test false true f g = g refl
one_test false false f g = refl

-- a test and one that passes are the test alone
pub and_on : (a : Bool) → a && true ≡ a
and_on true = refl
and_on false = refl

-- lists compared in two parts
pub same_append : (a b x y : Octets) → length a ≡ length x → same (a ++ b) (x ++ y) ≡ same a x && same b y
unfolding same
same_append [] b [] y e = refl
same_append [] b (p ∷ x) y e = absurd (omega arith)
same_append (p ∷ a) b [] y e = absurd (omega arith)
same_append (p ∷ a) b (q ∷ x) y e = rw (same_append a b x y (omega arith)) (go (eqb p q) (same a x) (same b y))
  where
    go : (f g h : Bool) → f && (g && h) ≡ f && g && h
    go true g h = refl
    go false g h = refl

-- octets compared with zeros
pub same_zeros : (o : Octets) (n : ℕ) → length o ≡ n → same o (replicate n 0) ≡ all_zero o
unfolding same all_zero
same_zeros [] zero e = refl
same_zeros [] (suc n) e = absurd (omega arith)
same_zeros (x ∷ o) zero e = absurd (omega arith)
same_zeros (x ∷ o) (suc n) e = rw (same_zeros o n (omega arith))

-- a part in two
pub part_add : (s : Octets) (at m n : ℕ) → part s at (m + n) ≡ part s at m ++ part s (at + m) n
unfolding part
part_add s at m n = rw (take-add m n (drop at s), drop-drop m at s)

-- a part of octets
pub part_bytes : (s : Octets) (at n : ℕ) → bytes s ≡ true → bytes (part s at n) ≡ true
unfolding part
part_bytes s at n w = bytes_take n (drop at s) (bytes_drop at s w)

-- numbers read from octets, and laid out again
pub u16_lt : (o : Octets) (k : ℕ) → bytes o ≡ true → u16 o k < 65536
unfolding u16
u16_lt o k h = omega (arith, byte_at o k h, byte_at o (k + 1) h)

-- a number of four octets is below 2^32
pub u32_lt : (o : Octets) (k : ℕ) → bytes o ≡ true → u32 o k < 4294967296
unfolding u32
u32_lt o k h = omega (arith, u16_lt o k h, u16_lt o (k + 2) h)

-- the low octet of a number, and the rest
cut : (n a m : ℕ) → n ≡ a + 256 * m → a < 256 → (n % 256 ≡ a) × (n / 256 ≡ m)
cut n a m e h = let f : n ≡ m * 256 + a = omega arith in (rw f (low m 8 h), rw f (high m 8 h))

-- a number made of two octets is laid out as those, the low one first
two_octets : (n a b : ℕ) → n ≡ a + 256 * b → a < 256 → b < 256 → le16 n ≡ a ∷ b ∷ []
unfolding le16
two_octets n a b e h i =
    let x = cut n a b e h in
    let y : b % 256 ≡ b = mod-eq_of_lt i in
    rw (x.0, x.1, y)

-- the same, of four octets
four_octets : (n a b c d : ℕ) → n ≡ a + 256 * b + 65536 * (c + 256 * d) → a < 256 → b < 256 → c < 256 → d < 256 → le32 n ≡ a ∷ b ∷ c ∷ d ∷ []
unfolding le32
four_octets n a b c d e h i j k =
    let x = cut n a (b + 256 * (c + 256 * d)) (omega arith) h in
    let y = cut (n / 256) b (c + 256 * d) x.1 i in
    let z = cut (n / 256 / 256) c d y.1 j in
    let p : n / 256 / 256 ≡ n / 65536 = div-div-eq-div-mul n 256 256 in
    let q : n / 65536 / 256 ≡ n / 16777216 = div-div-eq-div-mul n 65536 256 in
    let f : n / 65536 % 256 ≡ c = rw p at z.0 in
    let g : n / 16777216 ≡ d = rw (p, q) at z.1 in
    let m : d % 256 ≡ d = mod-eq_of_lt k in
    rw (x.0, y.0, f, g, m)

-- two octets read as a number and laid out again are as they were
pub le16_part : (s : Octets) (at : ℕ) → bytes s ≡ true → at + 2 ≤ length s → le16 (u16 s at) ≡ part s at 2
unfolding u16 part
le16_part s at h l =
    let a : at + 1 ≡ suc at = omega arith in
    rw (a, drop-cons s at 0 (omega arith), drop-cons s (suc at) 0 (omega arith))
    (two_octets _ (get_or s at 0) (get_or s (suc at) 0) refl (byte_at s at h) (byte_at s (suc at) h))

-- the same, of four octets
pub le32_part : (s : Octets) (at : ℕ) → bytes s ≡ true → at + 4 ≤ length s → le32 (u32 s at) ≡ part s at 4
unfolding u32 u16 part
le32_part s at h l =
    let a : at + 1 ≡ suc at = omega arith in
    let b : at + 2 ≡ suc (suc at) = omega arith in
    let c : suc (suc at) + 1 ≡ suc (suc (suc at)) = omega arith in
    rw (
      a,
      b,
      c,
      drop-cons s at 0 (omega arith),
      drop-cons s (suc at) 0 (omega arith),
      drop-cons s (suc (suc at)) 0 (omega arith),
      drop-cons s
          (suc (suc (suc at))) 0 (omega arith),
    )
    (four_octets _ (get_or s at 0) (get_or s (suc at) 0) (get_or s (suc (suc at)) 0) (get_or s (suc (suc (suc at))) 0) refl (byte_at s at h)
    (byte_at s (suc at) h) (byte_at s (suc (suc at)) h) (byte_at s (suc (suc (suc at))) h))
