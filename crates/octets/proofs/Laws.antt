-- Laws that the proofs of this crate cite, over plain lists and numbers.
use mathlib.Core.Path.{◌≡◌, refl, ap, sym}
use Prim.Native.Nat.{ℕ, suc, ◌+◌, ◌-◌, ◌/◌, ◌%◌, ◌≤◌, ◌<◌}
use native.Mathlib.Omega.{arith}
use native.Mathlib.Nat.{add-zero, sub-zero}
use native.Mathlib.Numerals.{add-one}
use mathlib.Core.Bool.{Bool, true, false, not, cond}
use mathlib.Core.List.{List, [], ◌∷◌, ◌++◌, append_assoc}
use Rattle.std.proofs.Common.{Some, None}
use lib.ListN.{length, get_or, take, drop, set, length-take, drop_of_length-le}
use lib.Seq.{drop-cons, take-add, drop-drop, sets-eq}
use lib.Dec.{eqb, ltb}
use borrow.Author.Tests.{eq-eqb, ne_eqb, ltb-false}
use borrow.Rule.Slice.PartMut.{put_mid}
use Rattle.std.specs.Int.{from_be_bytes, from_le_bytes, to_be_bytes, to_le_bytes, w16, w32}
use Rattle.std.specs.List.{list_all, position, position_or_len}
use Rattle.std.specs.Option.{unwrap_or}
use Rattle.model.specs.Octets.{Octets, be32, le16, le32, u16, u32, number, all_zero, same, used_part}
use Rattle.model.proofs.Model.Tests.{either}
use Rattle.octets.specs.Parts.{part, write_at}

-- READING -------------------------------------------------------------------------------------------------------------------------------------

-- two octets read, low octet first, are the model's number there
pub u16_is : (s : List ℕ) (at : ℕ) → from_le_bytes w16 (get_or s at 0 ∷ get_or s (at + 1) 0 ∷ []) ≡ u16 s at
unfolding u16
u16_is s at = omega arith

-- and four octets
pub u32_is : (s : List ℕ) (at : ℕ) → from_le_bytes w32 (get_or s at 0 ∷ get_or s (at + 1) 0 ∷ get_or s (at + 2) 0 ∷ get_or s (at + 3) 0 ∷ []) ≡ u32 s at
unfolding u32 u16
u32_is s at = let e : at + 2 + 1 ≡ at + 3 = omega arith in rw e (omega arith)

-- a part is its first octet and the part after it
pub part_suc : (s : List ℕ) (at n : ℕ) → at < length s → part s at (suc n) ≡ get_or s at 0 ∷ part s (at + 1) n
unfolding part
part_suc s at n h = rw (add-one, drop-cons s at 0)

-- two octets read are the part of two there
two_part : (s : List ℕ) (at : ℕ) → at + 2 ≤ length s → part s at 2 ≡ get_or s at 0 ∷ get_or s (at + 1) 0 ∷ []
unfolding part
two_part s at h = rw (add-one, drop-cons s at 0 (omega arith), drop-cons s (suc at) 0 (omega arith))

-- a part is its beginning and what follows
pub part_add : (s : List ℕ) (at m n : ℕ) → part s at (m + n) ≡ part s at m ++ part s (at + m) n
unfolding part
part_add s at m n = rw (take-add m n (drop at s), drop-drop m at s)

-- two octets read, high octet first, are the number that their part spells
pub be16_is : (s : List ℕ) (at : ℕ) → at + 2 ≤ length s → from_be_bytes w16 (get_or s at 0 ∷ get_or s (at + 1) 0 ∷ []) ≡ number 0 (part s at 2)
unfolding number
be16_is s at h = rw (two_part s at h) (omega arith)

-- and four octets
pub be32_is : (s : List ℕ) (at : ℕ) → at + 4 ≤ length s
    → from_be_bytes w32 (get_or s at 0 ∷ get_or s (at + 1) 0 ∷ get_or s (at + 2) 0 ∷ get_or s (at + 3) 0 ∷ []) ≡ number 0 (part s at 4)
unfolding number
be32_is s at h =
    let e : part s at 4 ≡ part s at 2 ++ part s (at + 2) 2 = part_add s at 2 2 in
    let f : at + 2 + 1 ≡ at + 3 = omega arith in
    rw (e, two_part s at (omega arith), two_part s (at + 2) (omega arith), f) (omega arith)

-- six octets read are the part of six there
pub six_is : (s : List ℕ) (at : ℕ) → at + 6 ≤ length s
    → get_or s at 0 ∷ get_or s (at + 1) 0 ∷ get_or s (at + 2) 0 ∷ get_or s (at + 3) 0 ∷ get_or s (at + 4) 0 ∷ get_or s (at + 5) 0 ∷ [] ≡ part s at 6
unfolding part
six_is s at h =
    let a : at + 1 ≡ suc at = omega arith in
    let b : at + 2 ≡ suc (suc at) = omega arith in
    let c : at + 3 ≡ suc (suc (suc at)) = omega arith in
    let d : at + 4 ≡ suc (suc (suc (suc at))) = omega arith in
    let e : at + 5 ≡ suc (suc (suc (suc (suc at)))) = omega arith in
    sym (rw (
      a,
      b,
      c,
      d,
      e,
      drop-cons s at 0 (omega arith),
      drop-cons s (suc at) 0 (omega arith),
      drop-cons s (suc (suc at)) 0 (omega arith),
      drop-cons s (suc (suc (suc at))) 0 (omega arith),
      drop-cons s (suc (suc (suc (suc at)))) 0 (omega arith),
      drop-cons s (suc (suc (suc (suc (suc at))))) 0 (omega arith),
    ))

-- WRITING -------------------------------------------------------------------------------------------------------------------------------------

-- the two octets of a number are the model's
pub le16_is : (v : ℕ) → to_le_bytes w16 (v % 65536) ≡ le16 v
unfolding le16
le16_is v =
    let a : v % 65536 % 256 ≡ v % 256 = omega arith in
    let b : v % 65536 / 256 % 256 ≡ v / 256 % 256 = omega arith in
    rw (a, b)

-- and four octets, low octet first
pub le32_is : (v : ℕ) → to_le_bytes w32 (v % 4294967296) ≡ le32 v
unfolding le32
le32_is v =
    let a : v % 4294967296 % 256 ≡ v % 256 = omega arith in
    let b : v % 4294967296 / 256 % 256 ≡ v / 256 % 256 = omega arith in
    let c : v % 4294967296 / 65536 % 256 ≡ v / 65536 % 256 = omega arith in
    let d : v % 4294967296 / 16777216 % 256 ≡ v / 16777216 % 256 = omega arith in
    rw (a, b, c, d)

-- and high octet first
pub be32_octets : (v : ℕ) → to_be_bytes w32 (v % 4294967296) ≡ be32 v
unfolding be32
be32_octets v =
    let a : v % 4294967296 % 256 ≡ v % 256 = omega arith in
    let b : v % 4294967296 / 256 % 256 ≡ v / 256 % 256 = omega arith in
    let c : v % 4294967296 / 65536 % 256 ≡ v / 65536 % 256 = omega arith in
    let d : v % 4294967296 / 16777216 % 256 ≡ v / 16777216 % 256 = omega arith in
    rw (d, c, b, a)

-- an octet stored is a write of one octet
pub one_is : (s : List ℕ) (at v : ℕ) → set s at v ≡ write_at s at (v ∷ [])
unfolding write_at
one_is s at v = refl

-- a run of octets stored in the middle is one write
pub mid_is : (s ys : List ℕ) (at k : ℕ) → length ys ≡ k → at + k ≤ length s → put_mid at k s ys ≡ write_at s at ys
unfolding write_at
mid_is s ys at k e h = rw (drop-drop k at s) (sym (rw (e, append_assoc) at (sets-eq ys s at (omega arith))))

-- copying, what is left to do: an octet stored, and the rest from the next place on, is the rest from here on
pub copy_turn : (s src : List ℕ) (at i : ℕ) → i < length src
    → write_at (set s (at + i) (get_or src i 0)) (at + (i + 1)) (drop (i + 1) src) ≡ write_at s (at + i) (drop i src)
unfolding write_at
copy_turn s src at i h =
    let f : at + (i + 1) ≡ suc (at + i) = omega arith in
    rw (f, add-one, drop-cons src i 0)

-- at the start all is left to do
pub copy_first : (s src : List ℕ) (at : ℕ) → write_at s (at + 0) (drop 0 src) ≡ write_at s at src
copy_first s src at = rw add-zero

-- at the end nothing is left to do
pub copy_last : (s src : List ℕ) (at i : ℕ) → length src ≤ i → s ≡ write_at s (at + i) (drop i src)
unfolding write_at
copy_last s src at i h = let e : drop i src ≡ [] = drop_of_length-le src {i = i} h in rw e

-- PARTS ---------------------------------------------------------------------------------------------------------------------------------------

-- the octets lent as `&s[at..at + n]` are the part of n from there on
pub lent_part : (s : List ℕ) (at n : ℕ) → take (at + n - at) (drop at s) ≡ part s at n
unfolding part
lent_part s at n = let e : at + n - at ≡ n = omega arith in rw e

-- comparing, what is left to compare: the octet here, and the rest
left : (s : List ℕ) (i n k : ℕ) → k < n → i + n ≤ length s → part s (i + k) (n - k) ≡ get_or s (i + k) 0 ∷ part s (i + (k + 1)) (n - (k + 1))
left s i n k h l =
    let e : n - k ≡ suc (n - (k + 1)) = omega arith in
    let f : i + (k + 1) ≡ i + k + 1 = omega arith in
    rw (e, f) (part_suc s (i + k) (n - (k + 1)) (omega arith))

-- where the octets here are the same, the rest tells
pub same_turn : (a b : List ℕ) (i j n k : ℕ) → k < n → i + n ≤ length a → j + n ≤ length b → get_or a (i + k) 0 ≡ get_or b (j + k) 0
    → same (part a (i + (k + 1)) (n - (k + 1))) (part b (j + (k + 1)) (n - (k + 1))) ≡ same (part a (i + k) (n - k)) (part b (j + k) (n - k))
unfolding same
same_turn a b i j n k h la lb e = sym (rw (left a i n k h la, left b j n k h lb, eq-eqb (get_or a (i + k) 0) (get_or b (j + k) 0) e))

-- where the octets here differ, the parts do
pub same_differs : (a b : List ℕ) (i j n k : ℕ) → k < n → i + n ≤ length a → j + n ≤ length b → (get_or a (i + k) 0 ≡ get_or b (j + k) 0 → ⊥)
    → false ≡ same (part a (i + k) (n - k)) (part b (j + k) (n - k))
unfolding same
same_differs a b i j n k h la lb e = sym (rw (left a i n k h la, left b j n k h lb, ne_eqb (get_or a (i + k) 0) (get_or b (j + k) 0) e))

-- at the start all is left to compare
pub same_first : (a b : List ℕ) (i j n : ℕ) → same (part a (i + 0) (n - 0)) (part b (j + 0) (n - 0)) ≡ same (part a i n) (part b j n)
same_first a b i j n = rw (add-zero, sub-zero, add-zero)

-- at the end nothing is left to compare
pub same_last : (a b : List ℕ) (i j n k : ℕ) → n ≤ k → true ≡ same (part a (i + k) (n - k)) (part b (j + k) (n - k))
unfolding same part
same_last a b i j n k h = let e : n - k ≡ 0 = omega arith in rw e

-- every octet is zero
pub all_zero_is : (a : Octets) → list_all (λ x. eqb x 0) a ≡ all_zero a
unfolding all_zero
all_zero_is [] = refl
all_zero_is (x ∷ a) = rw (all_zero_is a)

-- NAMES ---------------------------------------------------------------------------------------------------------------------------------------

-- a zero ends the used part
used_zero : (x : ℕ) (xs : Octets) → x ≡ 0 → used_part (x ∷ xs) ≡ []
unfolding used_part
used_zero x xs e = rw (eq-eqb x 0 e, used_part)

-- another octet belongs to it
used_more : (x : ℕ) (xs : Octets) → (x ≡ 0 → ⊥) → used_part (x ∷ xs) ≡ x ∷ used_part xs
unfolding used_part
used_more x xs n = rw (ne_eqb x 0 n, used_part)

-- it is the beginning of the name
pub take_used : (o : Octets) → take (length (used_part o)) o ≡ used_part o
unfolding used_part
take_used [] = refl
take_used (x ∷ xs) =
    either {A = Octets} (λ u. take (length u) (x ∷ xs) ≡ u) (eqb x 0) (λ _. refl) (λ _. ap {B = Octets} (λ u. x ∷ u) (take_used xs))

-- how many octets stand before the first zero
used_len : (o : Octets) → position_or_len (λ x. eqb x 0) o ≡ length (used_part o)
unfolding used_part
used_len [] = refl
used_len (x ∷ xs) = go (used_len xs) (eqb x 0)
  where
    go : position_or_len (λ y. eqb y 0) xs ≡ length (used_part xs)
        → (b : Bool) → cond (not b) (1 + position_or_len (λ y. eqb y 0) xs) 0 ≡ length (elim b as (λ _. Octets) [ true ↦ [] | false ↦ x ∷ used_part xs ])
    go e true = refl
    go e false = omega arith

-- the used part is no longer than the name
used_most : (o : Octets) → length (used_part o) ≤ length o
used_most o = omega (arith, length-take (length (used_part o)) o, ap length (take_used o))

-- the first zero ends it, or the end of the name
pub used_is : (o : Octets) → unwrap_or (position (λ x. eqb x 0) o) (length o) ≡ length (used_part o)
used_is o = rw used_len (go (ltb (length (used_part o)) (length o)) refl)
  where
    go : (b : Bool) → ltb (length (used_part o)) (length o) ≡ b → unwrap_or (cond b (Some (length (used_part o))) None) (length o) ≡ length (used_part o)
    go true e = refl
    go false e = omega (arith, used_most o, ltb-false (length (used_part o)) (length o) e)
