-- What stands behind the used part of a name: the used part begins the name, and a name with zeros behind it is the same exactly if it had them.
use Rattle.std.specs.Prelude.{ℕ, zero, suc, ◌-◌, ◌≤◌, ◌≡◌, refl, true, ◌&&◌, [], ◌∷◌, ◌++◌, length, take, drop, replicate, eqb}
use Rattle.std.proofs.Common.{arith, sym, ap, ◌∙◌, length-append, length-drop, take-append-drop, take_at, drop_at, length-take-le}
use Rattle.std.proofs.lemmas.List.{length-replicate}
use Rattle.model.specs.Octets.{Octets, all_zero, used_part}
use Rattle.model.specs.Image.{Two, name_back, names_back, padded, tail_zero}
use Rattle.model.proofs.Model.Tests.{and_true, both, either, equal}

-- the used part, and what stands behind it
pub used_begins : (n : Octets) → used_part n ++ drop (length (used_part n)) n ≡ n
unfolding used_part
used_begins [] = refl
used_begins (x ∷ n) = either (λ u. u ++ drop (length u) (x ∷ n) ≡ x ∷ n) (eqb x 0) (λ _. refl) (λ _. ap (λ (o : Octets). x ∷ o) (used_begins n))

-- it is no longer than the name
pub used_within : (n : Octets) → length (used_part n) ≤ length n
used_within n =
    omega (arith, ap {B = ℕ} length (used_begins n), length-append (used_part n) (drop (length (used_part n)) n))

-- octets that are all zero are so many zeros
zeros_are : (o : Octets) → all_zero o ≡ true → o ≡ replicate (length o) 0
unfolding all_zero
zeros_are [] e = refl
zeros_are (x ∷ o) e = let h = and_true (eqb x 0) _ e in rw (equal x 0 h.0) (ap (λ (l : Octets). 0 ∷ l) (zeros_are o h.1))

-- so many zeros are all zero
zeros_all : (n : ℕ) → all_zero (replicate n 0) ≡ true
unfolding all_zero
zeros_all zero = refl
zeros_all (suc n) = zeros_all n

-- a name with only zeros behind its used part is that part with zeros behind it
pub tail_padded : (room : ℕ) (n : Octets) → length n ≡ room → tail_zero n ≡ true → padded room (used_part n) ≡ n
unfolding tail_zero padded
tail_padded room n l e =
    let t : Octets = drop (length (used_part n)) n in
    let k : length t ≡ room - length (used_part n) = length-drop (length (used_part n)) n ∙ rw l in
    let z : t ≡ replicate (room - length (used_part n)) 0 = zeros_are t e ∙ ap (λ (j : ℕ). replicate j 0) k in
    rw (← z) (used_begins n)

-- the used part with zeros behind it has only zeros there
pub padded_tail : (room : ℕ) (n : Octets) → padded room (used_part n) ≡ n → tail_zero n ≡ true
unfolding tail_zero padded
padded_tail room n e =
    let u : Octets = used_part n in
    let d : drop (length u) (u ++ replicate (room - length u) 0) ≡ replicate (room - length u) 0 = drop_at u (replicate (room - length u) 0) (length u) refl in
    let q : drop (length u) n ≡ replicate (room - length u) 0 = ap (drop (length u)) (sym e) ∙ d in
    rw q (zeros_all (room - length u))

-- so many octets it has
padded_length : (room : ℕ) (n : Octets) → length n ≡ room → length (padded room (used_part n)) ≡ room
unfolding padded
padded_length room n l =
    length-append (used_part n) (replicate (room - length (used_part n)) 0)
    ∙ omega (arith, used_within n, length-replicate {A = ℕ} (room - length (used_part n)) 0)

-- A NAME THROUGH VERSION 2: as long as it was, the same up to its first zero, zeros from there on
pub name_through : (room : ℕ) (n : Octets) → length n ≡ room → (length (name_back Two room n) ≡ room)
    × (take (length (used_part n)) (name_back Two room n) ≡ take (length (used_part n)) n) × (all_zero (drop (length (used_part n)) (name_back Two room n)) ≡ true)
unfolding name_back padded
name_through room n l =
    let u : Octets = used_part n in
    let z : Octets = replicate (room - length u) 0 in
    let a : take (length u) (u ++ drop (length u) n) ≡ u = take_at u (drop (length u) n) (length u) refl in
    let b : take (length u) n ≡ u = ap (take (length u)) (sym (used_begins n)) ∙ a in
    (padded_length room n l, take_at u z (length u) refl ∙ sym b, rw (drop_at u z (length u) refl) (zeros_all (room - length u)))

-- name and short name: both are clean exactly if they come back the same
pub names_same : (n : Octets) → length n ≡ 260 → tail_zero (take 249 n) && tail_zero (drop 249 n) ≡ true → names_back Two n ≡ n
unfolding names_back name_back
names_same n l e =
    let h = and_true (tail_zero (take 249 n)) _ e in
    let a = tail_padded 249 (take 249 n) (length-take-le 249 n (omega arith)) h.0 in
    let b = tail_padded 11 (drop 249 n) (length-drop 249 n ∙ omega arith) h.1 in
    rw (a, b) (take-append-drop 249 n)

-- the other way
pub same_names : (n : Octets) → length n ≡ 260 → names_back Two n ≡ n → tail_zero (take 249 n) && tail_zero (drop 249 n) ≡ true
unfolding names_back name_back
same_names n l e =
    let a : Octets = padded 249 (used_part (take 249 n)) in
    let b : Octets = padded 11 (used_part (drop 249 n)) in
    let k : length a ≡ 249 = padded_length 249 (take 249 n) (length-take-le 249 n (omega arith)) in
    let p : a ≡ take 249 n = sym (take_at a b 249 k) ∙ ap (take 249) e in
    let q : b ≡ drop 249 n = sym (drop_at a b 249 k) ∙ ap (drop 249) e in
    both (padded_tail 249 (take 249 n) p) (padded_tail 11 (drop 249 n) q)
