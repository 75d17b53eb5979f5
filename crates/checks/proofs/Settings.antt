-- Hardware and settings: the octets are those that the model lays out.
use Prim.Native.Nat.{ℕ, zero, suc, ◌+◌, ◌<◌, ◌≤◌}
use native.Mathlib.Omega.{arith}
use mathlib.Core.Path.{◌≡◌, refl, ◌∙◌}
use mathlib.Core.Bool.{true, false, ◌&&◌}
use mathlib.Core.List.{[], ◌∷◌, ◌++◌}
use lib.ListN.{length, get_or}
use lib.Seq.{drop-cons}
use lib.Dec.{eqb, leb}
use borrow.Author.Tests.{lt-leb, ne_eqb}
use Rattle.model.specs.declared.Hardware.{Hardware}
use Rattle.model.specs.Octets.{Octets, bytes, le16, same}
use Rattle.model.specs.State.{flag}
use Rattle.model.specs.Layout.{hardware_part, settings_part}
use Rattle.model.proofs.Model.Tables.{same_refl}
use Rattle.octets.specs.Parts.{part}
use Rattle.octets.proofs.Parts.{length_part}
use Rattle.layout.proofs.Reading.{hardware_from, settings_from}
use Rattle.checks.proofs.Tests.{and_on, le16_part, le32_part, part_add, same_append}
use Rattle.checks.specs.Settings.{flags_octets_ok}

-- a part in two, the places as they are named
pub part_cut : (s : Octets) (a m n b l : ℕ) → b ≡ a + m → l ≡ m + n → part s a l ≡ part s a m ++ part s b n
part_cut s a m n b l e f = rw (e, f) (part_add s a m n)

-- one octet
pub one_octet : (s : Octets) (a : ℕ) → a < length s → part s a 1 ≡ get_or s a 0 ∷ []
unfolding part
one_octet s a h = rw (drop-cons s a 0 h)

-- six octets
six_octets : (s : Octets) (a b c d e f : ℕ) → b ≡ suc a → c ≡ suc b → d ≡ suc c → e ≡ suc d → f ≡ suc e → f < length s → part s a 6 ≡ get_or s a 0
    ∷ get_or s b 0 ∷ get_or s c 0 ∷ get_or s d 0 ∷ get_or s e 0 ∷ get_or s f 0 ∷ []
unfolding part
six_octets s a b c d e f g h i j k l =
    rw (
      k,
      j,
      i,
      h,
      g,
      drop-cons s a 0 (omega arith),
      drop-cons s (suc a) 0 (omega arith),
      drop-cons s (suc (suc a)) 0 (omega arith),
      drop-cons s (suc (suc (suc a))) 0 (omega arith),
      drop-cons s (suc (suc (suc (suc a)))) 0 (omega arith),
      drop-cons s (suc (suc (suc (suc (suc a))))) 0 (omega arith),
    )

-- 1. The hardware -----------------------------------------------------------------------------------------------------------------------------

-- the hardware's thirteen octets are the one encoding of what they mean, whatever they are
pub hardware_same : (s : Octets) (b : ℕ) → bytes s ≡ true → b + 19 ≤ length s → part s (b + 6) 13 ≡ hardware_part (hardware_from s b)
unfolding hardware_part hardware_from
hardware_same s b w h =
    rw (
      part_cut s (b + 6) 1 12 (b + 7) 13 (omega arith) refl,
      part_cut s (b + 7) 2 10 (b + 9) 12 (omega arith) refl,
      part_cut s (b + 9) 4 6 (b + 13) 10 (omega arith) refl,
      one_octet s (b + 6) (omega arith),
      ← le16_part s (b + 7) w (omega arith),
      ← le32_part s (b + 9) w (omega arith),
    )

-- 2. The settings -----------------------------------------------------------------------------------------------------------------------------

-- an octet is that of the flag it means if it is 0 or 1
flag_same : (x : ℕ) → eqb x (flag (eqb x 1) 1) ≡ leb x 1
unfolding flag
flag_same zero = refl
flag_same (suc zero) = refl
flag_same (suc (suc x)) = many x
  where
    many : (x : ℕ) → eqb (suc (suc x)) (flag (eqb (suc (suc x)) 1) 1) ≡ leb (suc (suc x)) 1
    many x =
        let e : eqb (suc (suc x)) 1 ≡ false = ne_eqb (suc (suc x)) 1 (λ q. omega arith) in
        let f : eqb (suc (suc x)) 0 ≡ false = ne_eqb (suc (suc x)) 0 (λ q. omega arith) in
        let g : leb (suc (suc x)) 1 ≡ false = lt-leb (suc (suc x)) 1 (omega arith) in
        rw (e, f, g)

-- the same, of six flags in a row
flags_same : (a b c d e f : ℕ) → same (a ∷ b ∷ c ∷ d ∷ e ∷ f ∷ [])
    (flag (eqb a 1) 1 ∷ flag (eqb b 1) 1 ∷ flag (eqb c 1) 1 ∷ flag (eqb d 1) 1 ∷ flag (eqb e 1) 1 ∷ flag (eqb f 1) 1 ∷ [])
    ≡ leb a 1 && (leb b 1 && (leb c 1 && (leb d 1 && (leb e 1 && leb f 1))))
unfolding same
flags_same a b c d e f = rw (flag_same a, flag_same b, flag_same c, flag_same d, flag_same e, flag_same f, and_on (leb f 1))

-- the settings that a block means take fourteen octets, as many as it has for them
pub settings_long : (s : Octets) (b : ℕ) (f : Hardware) → b + 33 ≤ length s → length (settings_part (settings_from s b f)) ≡ 14
unfolding settings_part settings_from le16
settings_long s b f h = omega (arith, length_part s (b + 27) 6 (omega arith))

-- those fourteen octets are the one encoding of what they mean if the flags are 0 or 1
pub settings_same : (s : Octets) (b : ℕ) (f : Hardware) → bytes s ≡ true → b + 33 ≤ length s
    → same (part s (b + 19) 14) (settings_part (settings_from s b f)) ≡ flags_octets_ok s b
unfolding settings_part settings_from flags_octets_ok
settings_same s b f w h =
    let o : ℕ → ℕ = λ k. get_or s k 0 in
    let fs : Octets = flag (eqb (o (b + 19)) 1) 1 ∷ flag (eqb (o (b + 20)) 1) 1 ∷ flag (eqb (o (b + 21)) 1) 1 ∷ flag (eqb (o (b + 22)) 1) 1
    ∷ flag (eqb (o (b + 23)) 1) 1 ∷ flag (eqb (o (b + 24)) 1) 1 ∷ [] in
    let r : Octets = part s (b + 25) 2 ++ part s (b + 27) 6 in
    let c : part s (b + 19) 14 ≡ part s (b + 19) 6 ++ r = rw
    (part_cut s (b + 19) 6 8 (b + 25) 14 (omega arith) refl, part_cut s (b + 25) 2 6 (b + 27) 8 (omega arith) refl) in
    let v : part s (b + 19) 6 ≡ o (b + 19) ∷ o (b + 20) ∷ o (b + 21) ∷ o (b + 22) ∷ o (b + 23) ∷ o (b + 24) ∷ [] =
    six_octets s (b + 19) (b + 20) (b + 21) (b + 22) (b + 23) (b + 24) (omega arith) (omega arith) (omega arith) (omega arith) (omega arith) (omega arith) in
    let g : same (part s (b + 19) 6 ++ r) (fs ++ r) ≡ same (part s (b + 19) 6) fs
    && same r r = same_append (part s (b + 19) 6) r fs r (length_part s (b + 19) 6 (omega arith)) in
    rw (c, le16_part s (b + 25) w (omega arith))
    (g ∙ rw (same_refl r, v, and_on (same (o (b + 19) ∷ o (b + 20) ∷ o (b + 21) ∷ o (b + 22) ∷ o (b + 23) ∷ o (b + 24) ∷ []) fs))
    (flags_same (o (b + 19)) (o (b + 20)) (o (b + 21)) (o (b + 22)) (o (b + 23)) (o (b + 24))))
