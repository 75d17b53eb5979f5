-- The digits of a number from the last one on, laid at the end of 20 octets.
use Prim.Native.Nat.{ℕ, zero, suc, ◌+◌, ◌-◌, ◌*◌, ◌/◌, ◌%◌, ◌^◌, ◌≤◌, ◌<◌}
use native.Mathlib.Omega.{arith}
use native.Mathlib.Nat.{pow-suc}
use mathlib.Core.Path.{◌≡◌, refl, sym, ap, ◌∙◌}
use mathlib.Core.List.{[], ◌∷◌, ◌++◌, append_assoc, append-nil}
use lib.Seq.{take_all}
use lib.ListN.{length, take, drop, set, length-drop, length-set, drop_of_length-le}
use borrow.Author.Tests.{le-ltb, lt-ltb}
use Rattle.model.specs.Octets.{Octets}
use Rattle.why.specs.Spelling.{decimal, digits}
use Rattle.octets.specs.Parts.{part, write_at}

-- a number below ten
digits_small : (k n : ℕ) → n < 10 → digits (suc k) n ≡ (48 + n) ∷ []
unfolding digits
digits_small k n l = rw (lt-ltb n 10 l, digits)

-- one from ten on
digits_large : (k n : ℕ) → 10 ≤ n → digits (suc k) n ≡ digits k (n / 10) ++ ((48 + n % 10) ∷ [])
unfolding digits
digits_large k n l = rw (le-ltb n 10 l, digits)

-- octets from a place on where another was put
drop_put : (k v : ℕ) (xs : Octets) → k < length xs → drop k (set xs k v) ≡ v ∷ drop (suc k) xs
drop_put k v [] l = absurd (omega arith)
drop_put zero v (x ∷ xs) l = refl
drop_put (suc k) v (x ∷ xs) l = drop_put k v xs (omega arith)

-- What is known where the digits behind a place are laid and `rest` is what is left in front of them: together they are the number's digits, and the
-- places in front are enough.
pub record Laid (n at rest : ℕ) (out : Octets) : Type 0 where
  pub least : 1 ≤ at
  pub most : at ≤ 20
  pub long : length out ≡ 20
  pub small : rest < 10 ^ at
  pub whole : digits at rest ++ drop at out ≡ decimal n

-- at the start all is left
pub laid_start : (n : ℕ) (out : Octets) → n < 2 ^ 64 → length out ≡ 20 → Laid n 20 n out
unfolding decimal
laid_start n out l e = record {
  least = omega arith;
  most = omega arith;
  long = e;
  small = omega arith;
  whole = ap (λ (x : Octets). digits 20 n ++ x) (drop_of_length-le out {i = 20} (omega arith)) ∙ append-nil (digits 20 n);
}

-- one digit more is laid
pub laid_next : (n at rest : ℕ) (out : Octets) → Laid n at rest out → 10 ≤ rest → Laid n (at - 1) (rest / 10) (set out (at - 1) (48 + rest % 10))
laid_next n zero rest out h l = absurd (omega (arith, h.least))
laid_next n (suc zero) rest out h l = let z : rest < 10 = h.small in absurd (omega arith)
laid_next n (suc (suc k)) rest out h l =
    let up : rest < 10 ^ suc k * 10 = rw pow-suc at h.small in
    let m = h.most in
    let e = h.long in
    let z : suc (suc k) - 1 ≡ suc k = omega arith in
    rw z (record {
      least = omega arith;
      most = omega arith;
      long = rw length-set e;
      small = omega arith;
      whole = rw (drop_put (suc k) (48 + rest % 10) out (omega arith))
          (sym (append_assoc (digits (suc k) (rest / 10)) ((48 + rest % 10) ∷ []) (drop (suc (suc k)) out))
          ∙ ap (λ (x : Octets). x ++ drop (suc (suc k)) out) (sym (digits_large (suc k) rest l)) ∙ h.whole);
    })

-- the first digit is laid, and all are there
pub laid_end : (n at rest : ℕ) (out : Octets) → Laid n at rest out → rest < 10
    → (drop (at - 1) (set out (at - 1) (48 + rest)) ≡ decimal n) × (length (set out (at - 1) (48 + rest)) ≡ 20) × (at - 1 < 20)
laid_end n zero rest out h l = absurd (omega (arith, h.least))
laid_end n (suc k) rest out h l =
    let m = h.most in
    let e = h.long in
    let z : suc k - 1 ≡ k = omega arith in
    rw z (
      drop_put k (48 + rest) out (omega arith) ∙ ap (λ (x : Octets). x ++ drop (suc k) out) (sym (digits_small k rest l)) ∙ h.whole,
      rw length-set e,
      omega arith,
    )

-- The digits, copied from where they were laid, are the number in decimal, and end behind as many octets.
pub decimal_written : (n first at : ℕ) (out d d' : Octets) → drop first out ≡ decimal n → length out ≡ 20 → first < 20
    → d' ≡ write_at d at (part out first (20 - first))
    → (d' ≡ write_at d at (decimal n)) × (at + (20 - first) ≡ at + length (decimal n)) × (at + (20 - first) ≤ at + 20)
unfolding part
decimal_written n first at out d d' e l b w =
    let k : length (drop first out) ≡ 20 - first = rw (length-drop, l) in
    let p : take (20 - first) (drop first out) ≡ decimal n = take_all (20 - first) (drop first out) (omega arith) ∙ e in
    (w ∙ rw p, rw (← e, k), omega arith)
