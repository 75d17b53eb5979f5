-- The rules of the fields, as the code tests them.
use Prim.Native.Nat.{ℕ, zero, suc, ◌+◌, ◌*◌, ◌-◌, ◌/◌, ◌%◌, ◌^◌, ◌≤◌, ◌<◌}
use native.Mathlib.Omega.{arith}
use Rattle.std.specs.List.{list_all}
use mathlib.Core.Path.{◌≡◌, refl, ◌∙◌}
use mathlib.Core.Bool.{Bool, not}
use mathlib.Core.List.{[], ◌∷◌}
use lib.ListN.{length, get_or, drop, take, length-drop, length-take}
use lib.Seq.{get_or-take, take-length}
use lib.Dec.{eqb}
use borrow.Author.Tests.{eq-eqb, ne_eqb, lt-ltb}
use Rattle.model.specs.declared.Hardware.{Hardware}
use Rattle.model.specs.declared.Version.{Version}
use Rattle.model.specs.declared.Version.TheVariants.{One, Two}
use Rattle.model.specs.Octets.{Octets, bit, octet}
use Rattle.model.specs.State.{flag}
use Rattle.model.specs.Image.{bredr_flag, bredr_read, flag_word, name_right, name_size, no_zero, switches_ok}
use Rattle.model.specs.Reading.{flags_right}

-- 1. Flags ------------------------------------------------------------------------------------------------------------------------------------

-- the value of a flag that is a bit
flag_bit : (k n m : ℕ) → flag (bit k n) m ≡ n / 2 ^ k % 2 * m
unfolding flag bit
flag_bit k n m = go (n / 2 ^ k % 2) (omega arith)
  where
    go : (r : ℕ) → r < 2 → flag (eqb r 1) m ≡ r * m
    go zero h = omega arith
    go (suc zero) h = omega arith
    go (suc (suc r)) h = absurd (omega arith)

-- the flags that version 1 has
pub flags_one : (v : Version) (n : ℕ) → v ≡ One
    → n / 2 % 2 * 2 + n / 16 % 2 * 16 + n / 512 % 2 * 512 ≡ flag_word (bit 1 n) (bit 4 n) (bredr_flag v (bit 7 n)) (bit 9 n)
unfolding flag_word bredr_flag flag
flags_one v n e = rw (e, flag_bit 1 n 2, flag_bit 4 n 16, flag_bit 9 n 512) (omega arith)

-- those of version 2
pub flags_two : (v : Version) (n : ℕ) → v ≡ Two
    → n / 2 % 2 * 2 + n / 16 % 2 * 16 + n / 128 % 2 * 128 + n / 512 % 2 * 512 ≡ flag_word (bit 1 n) (bit 4 n) (bredr_flag v (bit 7 n)) (bit 9 n)
unfolding flag_word bredr_flag
flags_two v n e = rw (e, flag_bit 1 n 2, flag_bit 4 n 16, flag_bit 7 n 128, flag_bit 9 n 512)

-- no other flag: then the settings tell
pub flags_known : (v : Version) (f : Hardware) (n w : ℕ) (b r : Bool) → w ≡ flag_word (bit 1 n) (bit 4 n) (bredr_flag v (bit 7 n)) (bit 9 n) → n ≡ w
    → b ≡ bredr_read v f n
    → r ≡ switches_ok f b (eqb (n / 512 % 2) 1) → r ≡ flags_right v f n
unfolding flags_right bit
flags_known v f n w b r e q d s = s ∙ rw (← e, eq-eqb n w q, d)

-- another flag
pub flags_unknown : (v : Version) (f : Hardware) (n w : ℕ) → w ≡ flag_word (bit 1 n) (bit 4 n) (bredr_flag v (bit 7 n)) (bit 9 n) → (n ≡ w → ⊥)
    → eqb n w ≡ flags_right v f n
unfolding flags_right
flags_unknown v f n w e q = rw (← e, ne_eqb n w q)

-- 2. Octets without a zero --------------------------------------------------------------------------------------------------------------------

-- no octet is zero if all are not
pub no_zero_all : (o : Octets) → list_all (λ x. not (eqb x 0)) o ≡ no_zero o
unfolding no_zero
no_zero_all [] = refl
no_zero_all (x ∷ o) = rw (no_zero_all o)

-- 3. Names ------------------------------------------------------------------------------------------------------------------------------------

-- a name's field has an octet at least
pub size_some : (v : Version) (room : ℕ) (o : Octets) → 0 < room → 0 < name_size v room o
unfolding name_size
size_some One room o h = h
size_some Two room o h = omega arith

-- the octets that are as many as its first one says are such a field
pub size_in : (v : Version) (room : ℕ) (o : Octets) → name_size v room o ≤ length o
    → name_size v room (take (name_size v room o) o) ≤ length (take (name_size v room o) o)
unfolding name_size octet
size_in One room o h = omega (arith, length-take room o)
size_in Two room o h = rw (get_or-take (suc (get_or o 0 0)) o 0 0 (omega arith)) (omega (arith, length-take (suc (get_or o 0 0)) o))

-- its length is below the room: then the other octets tell
pub right_two : (v : Version) (room : ℕ) (x : Octets) (r : Bool) → v ≡ Two → get_or x 0 0 < room → r ≡ no_zero (take (length x - 1) (drop 1 x))
    → r ≡ name_right v room x
unfolding name_right octet
right_two v room x r e l q =
    let d : take (length x - 1) (drop 1 x) ≡ drop 1 x = rw (← length-drop 1 x) (take-length (drop 1 x)) in
    q ∙ rw (d, e, lt-ltb (get_or x 0 0) room l)
