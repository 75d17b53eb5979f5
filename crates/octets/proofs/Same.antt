-- Octets compared by the numbers that they spell: a piece at the front, and what is left.
use Prim.Native.Nat.{ℕ, zero, suc, ◌+◌, ◌-◌, ◌*◌, ◌≤◌, ◌<◌}
use native.Mathlib.Omega.{arith}
use mathlib.Core.Path.{◌≡◌, refl, ap, sym, ◌∙◌}
use mathlib.Core.Bool.{Bool, true, false, ◌&&◌}
use mathlib.Core.List.{[], ◌∷◌, ◌++◌}
use lib.ListN.{length, get_or}
use lib.Dec.{eqb}
use borrow.Author.Tests.{eq-eqb, ne_eqb, eqb-true, eqb-false}
use Rattle.model.specs.Octets.{Octets, same}
use Rattle.octets.specs.Parts.{part}
use Rattle.octets.specs.Numbers.{little}
use Rattle.octets.proofs.Laws.{part_add, part_suc}
use Rattle.octets.proofs.Parts.{length_part}

-- two numbers of digits below 256 are the same exactly if their lowest digits and the rest are
digits : (x y m n : ℕ) → x < 256 → y < 256 → eqb x y && eqb m n ≡ eqb (x + 256 * m) (y + 256 * n)
digits x y m n h l = go (eqb x y) (eqb m n) refl refl
  where
    go : (a b : Bool) → eqb x y ≡ a → eqb m n ≡ b → a && b ≡ eqb (x + 256 * m) (y + 256 * n)
    go true true e f = sym (eq-eqb (x + 256 * m) (y + 256 * n) (omega (arith, eqb-true x y e, eqb-true m n f)))
    go true false e f = sym (ne_eqb (x + 256 * m) (y + 256 * n) (λ z. eqb-false m n f (omega arith)))
    go false b e f = sym (ne_eqb (x + 256 * m) (y + 256 * n) (λ z. eqb-false x y e (omega arith)))

-- two lists in two pieces each, the first ones of one length
same_append : (x u y v : Octets) → length x ≡ length u → same (x ++ y) (u ++ v) ≡ same x u && same y v
unfolding same
same_append [] [] y v e = refl
same_append [] (d ∷ u) y v e = absurd (omega arith)
same_append (c ∷ x) [] y v e = absurd (omega arith)
same_append (c ∷ x) (d ∷ u) y v e = rw (same_append x u y v (omega arith)) (go (eqb c d) (same x u) (same y v))
  where
    go : (f g h : Bool) → f && (g && h) ≡ f && g && h
    go true g h = refl
    go false g h = refl

module _ (a b : Octets) (wa : (k : ℕ) → get_or a k 0 < 256) (wb : (k : ℕ) → get_or b k 0 < 256) where
  -- parts are the same exactly if the numbers that they spell are
  same_numbers : (i j m : ℕ) → i + m ≤ length a → j + m ≤ length b → same (part a i m) (part b j m) ≡ eqb (little (part a i m)) (little (part b j m))
  unfolding same little part
  same_numbers i j zero h l = refl
  same_numbers i j (suc m) h l =
      rw (part_suc a i m (omega arith), part_suc b j m (omega arith), same_numbers (i + 1) (j + 1) m (omega arith) (omega arith))
      (digits (get_or a i 0) (get_or b j 0) (little (part a (i + 1) m)) (little (part b (j + 1) m)) (wa i) (wb j))

  -- the first m octets, by numbers that were read there, and what is left of n
  module _ (i j m n x y : ℕ) (h : i + n ≤ length a) (l : j + n ≤ length b) (u : m ≤ n) (ex : x ≡ little (part a i m)) (ey : y ≡ little (part b j m)) where
    -- both pieces
    pieces : same (part a i n) (part b j n) ≡ eqb x y && same (part a (i + m) (n - m)) (part b (j + m) (n - m))
    pieces =
        let q : n ≡ m + (n - m) = omega arith in
        let e : length (part a i m) ≡ length (part b j m) = length_part a i m (omega arith) ∙ sym (length_part b j m (omega arith)) in
        let p : part a i n ≡ part a i m ++ part a (i + m) (n - m) = ap (part a i) q ∙ part_add a i m (n - m) in
        let o : part b j n ≡ part b j m ++ part b (j + m) (n - m) = ap (part b j) q ∙ part_add b j m (n - m) in
        let f : same (part a i m) (part b j m) ≡ eqb x y = rw (ex, ey) (same_numbers i j m (omega arith) (omega arith)) in
        rw (p, o) (same_append (part a i m) (part b j m) (part a (i + m) (n - m)) (part b (j + m) (n - m)) e ∙ rw f)

    -- where the numbers are the same, what is left tells
    pub same_goes : x ≡ y → same (part a (i + m) (n - m)) (part b (j + m) (n - m)) ≡ same (part a i n) (part b j n)
    same_goes e = sym (pieces ∙ rw (eq-eqb x y e))

    -- where they differ, the octets do
    pub same_stops : (x ≡ y → ⊥) → false ≡ same (part a i n) (part b j n)
    same_stops e = sym (pieces ∙ rw (ne_eqb x y e))

  -- the next m octets behind the first k: where their numbers are the same, what is left behind them tells
  pub same_next : (i j n k m x y : ℕ) → k ≤ n → i + n ≤ length a → j + n ≤ length b → m ≤ n - k → x ≡ little (part a (i + k) m) → y ≡ little (part b (j + k) m)
      → x ≡ y → same (part a (i + (k + m)) (n - (k + m))) (part b (j + (k + m)) (n - (k + m))) ≡ same (part a (i + k) (n - k)) (part b (j + k) (n - k))
  same_next i j n k m x y o h l u ex ey e =
      let p : i + (k + m) ≡ i + k + m = omega arith in
      let q : j + (k + m) ≡ j + k + m = omega arith in
      let r : n - (k + m) ≡ n - k - m = omega arith in
      rw (p, q, r) (same_goes (i + k) (j + k) m (n - k) x y (omega arith) (omega arith) u ex ey e)
