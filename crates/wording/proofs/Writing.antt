-- Words and digits written one behind the other: what the steps of the text leave, put together.
use Prim.Native.Nat.{ℕ, ◌+◌, ◌≤◌}
use native.Mathlib.Omega.{arith}
use native.Mathlib.Nat.{add_assoc}
use mathlib.Core.Path.{◌≡◌, refl, sym, ◌∙◌}
use mathlib.Core.List.{[], ◌++◌}
use lib.ListN.{length, length-append}
use Rattle.model.specs.Octets.{Octets}
use Rattle.octets.specs.Parts.{write_at}
use Rattle.octets.proofs.Parts.{write_split}

-- words written at a place, and where they end
abbrev pub Ends : (d d' : Octets) (at : ℕ) (w : Octets) (end : ℕ) → Type 0
Ends d d' at w end = (d' ≡ write_at d at w) × (end ≡ at + length w)

-- nothing written
pub ends_nothing : (d : Octets) (at : ℕ) → Ends d d at [] at
unfolding write_at
ends_nothing d at = (refl, omega arith)

-- words, and words behind them
pub ends_behind : (d d1 d2 : Octets) (at : ℕ) (v w : Octets) (e1 e2 : ℕ) → Ends d d1 at v e1 → Ends d1 d2 e1 w e2 → Ends d d2 at (v ++ w) e2
ends_behind d d1 d2 at v w e1 e2 a b =
    rw (write_split d at v w, length-append v w, ← a.0, ← a.1) (b.0, b.1 ∙ rw a.1 (add_assoc at (length v) (length w)))

-- words at the front, and words behind them
pub text_behind : (d d1 d2 v w : Octets) (e1 e2 : ℕ) → (d1 ≡ write_at d 0 v) × (e1 ≡ length v) → Ends d1 d2 e1 w e2
    → (d2 ≡ write_at d 0 (v ++ w)) × (e2 ≡ length (v ++ w))
text_behind d d1 d2 v w e1 e2 a b =
    let z : 0 + length v ≡ length v = omega arith in
    let y : 0 + length (v ++ w) ≡ length (v ++ w) = omega arith in
    rw y at (ends_behind d d1 d2 0 v w e1 e2 (a.0, a.1 ∙ sym z) b)

-- words that take at most so much room end within it
pub room : (at n : ℕ) {m : ℕ} → n ≤ m → at + n ≤ at + m
room at n h = omega arith
