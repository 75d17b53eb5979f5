-- Numbers as big-endian octets, through octets and back; and the flags word.
use Rattle.std.specs.Prelude.{ℕ, ◌+◌, ◌*◌, ◌/◌, ◌%◌, ◌^◌, ◌<◌, ◌≡◌, refl, Bool, true, false, [], ◌∷◌, length}
use Rattle.std.proofs.Common.{arith, div-add-mod', lit<}
use Rattle.std.proofs.Math.Nat.{div-div-eq-div-mul}
use Rattle.model.specs.Octets.{Octets, be16, be32, bit, bytes, number}
use Rattle.model.specs.State.{flag}
use Rattle.model.specs.Image.{flag_word}
use Rattle.model.proofs.Model.Tables.{byte_at}

-- four octets of a number give it back
pub be32_back : (n : ℕ) → n < 2 ^ 32 → number 0 (be32 n) ≡ n
unfolding number be32
be32_back n h =
    let a : n / 256 / 256 ≡ n / 65536 = div-div-eq-div-mul n 256 256 in
    let b : n / 65536 / 256 ≡ n / 16777216 = div-div-eq-div-mul n 65536 256 in
    let d1 : n / 65536 * 256 + n / 256 % 256 ≡ n / 256 = rw a at (div-add-mod' (n / 256) 256) in
    let d2 : n / 16777216 * 256 + n / 65536 % 256 ≡ n / 65536 = rw b at (div-add-mod' (n / 65536) 256) in
    let d3 : n / 16777216 % 256 ≡ n / 16777216 = omega arith in
    let d0 : n / 256 * 256 + n % 256 ≡ n = div-add-mod' n 256 in
    rw d3 (omega arith)

-- two octets of a number give it back
pub be16_back : (n : ℕ) → n < 65536 → number 0 (be16 n) ≡ n
unfolding number be16
be16_back n h = omega arith

-- two octets are those of the number that they spell
pub be16_again : (o : Octets) → bytes o ≡ true → length o ≡ 2 → be16 (number 0 o) ≡ o
unfolding be16 number
be16_again [] w n = absurd (omega arith)
be16_again (x ∷ []) w n = absurd (omega arith)
be16_again (x ∷ y ∷ []) w n =
    let a : x < 256 = byte_at (x ∷ y ∷ []) 0 w in
    let b : y < 256 = byte_at (x ∷ y ∷ []) 1 w in
    let n : ℕ = number 0 (x ∷ y ∷ []) in
    let p : n / 256 % 256 ≡ x = omega arith in
    let q : n % 256 ≡ y = omega arith in
    cc
be16_again (x ∷ y ∷ z ∷ o) w n = absurd (omega arith)

-- four octets are those of the number that they spell
be32_octets : (x y z w : ℕ) → x < 256 → y < 256 → z < 256 → w < 256 → be32 (number 0 (x ∷ y ∷ z ∷ w ∷ [])) ≡ x ∷ y ∷ z ∷ w ∷ []
unfolding be32 number
be32_octets x y z w a b c d =
    let n : ℕ = number 0 (x ∷ y ∷ z ∷ w ∷ []) in
    let p : n / 16777216 % 256 ≡ x = omega arith in
    let q : n / 65536 % 256 ≡ y = omega arith in
    let r : n / 256 % 256 ≡ z = omega arith in
    let s : n % 256 ≡ w = omega arith in
    cc

-- the same of any four octets
pub be32_again : (o : Octets) → bytes o ≡ true → length o ≡ 4 → be32 (number 0 o) ≡ o
be32_again [] w n = absurd (omega arith)
be32_again (x ∷ []) w n = absurd (omega arith)
be32_again (x ∷ y ∷ []) w n = absurd (omega arith)
be32_again (x ∷ y ∷ z ∷ []) w n = absurd (omega arith)
be32_again (x ∷ y ∷ z ∷ v ∷ []) w n =
    let l : Octets = x ∷ y ∷ z ∷ v ∷ [] in be32_octets x y z v (byte_at l 0 w) (byte_at l 1 w) (byte_at l 2 w) (byte_at l 3 w)
be32_again (x ∷ y ∷ z ∷ v ∷ u ∷ o) w n = absurd (omega arith)

-- two octets make a number below 65536
pub number_two : (o : Octets) → bytes o ≡ true → length o ≡ 2 → number 0 o < 65536
unfolding number
number_two [] w n = absurd (omega arith)
number_two (x ∷ []) w n = absurd (omega arith)
number_two (x ∷ y ∷ []) w n = omega (arith, byte_at (x ∷ y ∷ []) 0 w, byte_at (x ∷ y ∷ []) 1 w)
number_two (x ∷ y ∷ z ∷ o) w n = absurd (omega arith)

-- four octets spell a number below 2^32
pub number_four : (o : Octets) → bytes o ≡ true → length o ≡ 4 → number 0 o < 2 ^ 32
unfolding number
number_four [] w n = absurd (omega arith)
number_four (a ∷ []) w n = absurd (omega arith)
number_four (a ∷ b ∷ []) w n = absurd (omega arith)
number_four (a ∷ b ∷ c ∷ []) w n = absurd (omega arith)
number_four (a ∷ b ∷ c ∷ d ∷ []) w n =
    let o : Octets = a ∷ b ∷ c ∷ d ∷ [] in omega (arith, byte_at o 0 w, byte_at o 1 w, byte_at o 2 w, byte_at o 3 w)
number_four (a ∷ b ∷ c ∷ d ∷ e ∷ o) w n = absurd (omega arith)

-- what is known of a flags word
pub record Flags (k b s l : Bool) : Type 0 where
  pub small : flag_word k b s l < 2 ^ 32
  pub one : bit 1 (flag_word k b s l) ≡ k
  pub four : bit 4 (flag_word k b s l) ≡ b
  pub seven : bit 7 (flag_word k b s l) ≡ s
  pub nine : bit 9 (flag_word k b s l) ≡ l

-- the flags word gives the four settings back, in all sixteen cases
pub flags_back : (k b s l : Bool) → Flags k b s l
unfolding flag_word flag bit
flags_back true true true true = record { small = lit< tt; one = refl; four = refl; seven = refl; nine = refl }
flags_back true true true false = record { small = lit< tt; one = refl; four = refl; seven = refl; nine = refl }
flags_back true true false true = record { small = lit< tt; one = refl; four = refl; seven = refl; nine = refl }
flags_back true true false false = record { small = lit< tt; one = refl; four = refl; seven = refl; nine = refl }
flags_back true false true true = record { small = lit< tt; one = refl; four = refl; seven = refl; nine = refl }
flags_back true false true false = record { small = lit< tt; one = refl; four = refl; seven = refl; nine = refl }
flags_back true false false true = record { small = lit< tt; one = refl; four = refl; seven = refl; nine = refl }
flags_back true false false false = record { small = lit< tt; one = refl; four = refl; seven = refl; nine = refl }
flags_back false true true true = record { small = lit< tt; one = refl; four = refl; seven = refl; nine = refl }
flags_back false true true false = record { small = lit< tt; one = refl; four = refl; seven = refl; nine = refl }
flags_back false true false true = record { small = lit< tt; one = refl; four = refl; seven = refl; nine = refl }
flags_back false true false false = record { small = lit< tt; one = refl; four = refl; seven = refl; nine = refl }
flags_back false false true true = record { small = lit< tt; one = refl; four = refl; seven = refl; nine = refl }
flags_back false false true false = record { small = lit< tt; one = refl; four = refl; seven = refl; nine = refl }
flags_back false false false true = record { small = lit< tt; one = refl; four = refl; seven = refl; nine = refl }
flags_back false false false false = record { small = lit< tt; one = refl; four = refl; seven = refl; nine = refl }
