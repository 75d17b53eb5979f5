-- The pair that `first_pair` names: two keys that are the same, first by the lower of the two and then by the higher one; there is one exactly if keys repeat.
use Rattle.std.specs.Prelude.{ℕ, zero, suc, ◌+◌, ◌-◌, ◌<◌, ◌≤◌, ◌≡◌, refl, Bool, true, false, ◌&&◌, ◌||◌, not, List, [], ◌∷◌, length, get_or, ltb}
use Rattle.std.proofs.Common.{arith, sym, ◌∙◌, ltb→lt, nltb→le}
use Rattle.model.specs.Octets.{Octets, same}
use Rattle.model.specs.Reasons.{Place, Nowhere, AtOctet, InRecord, Records}
use Rattle.model.specs.Tables.{any, distinct, first_pair, nowhere, pair_with}
use Rattle.model.proofs.Model.Tests.{no_way}

-- keys c and d, the lower first, are the same
abbrev pub Clash : List Octets → ℕ → ℕ → Type 0
Clash ks c d = (c < d) × (d < length ks) × (same (get_or ks c []) (get_or ks d []) ≡ true)

-- the first pair of keys that are the same, of keys that are numbered from n on: by the lower, then by the higher
abbrev pub IsFirst : List Octets → ℕ → Place → Type 0
IsFirst ks n Nowhere = (c d : ℕ) → Clash ks c d → ⊥
IsFirst ks n (AtOctet a) = ⊥
IsFirst ks n (InRecord a b) = ⊥
IsFirst ks n (Records a b) = (n ≤ a) × Clash ks (a - n) (b - n) × ((c d : ℕ) → Clash ks c d → (a ≤ n + c) × (a ≡ n + c → b ≤ n + d))

-- what comes of comparing key a with the keys that are numbered from b on: the first that is the same, or else `rest`
data Found (a : ℕ) (k : Octets) (b : ℕ) (js : List Octets) (rest : Place) : Place → Type 0 where
  -- key d of them is the first that is the same
  hit : (d m : ℕ) → m ≡ b + d → d < length js → same k (get_or js d []) ≡ true → ((e : ℕ) → e < d → same k (get_or js e []) ≡ false) → Found a k b js rest
      (Records a m)
  -- none is
  miss : ((e : ℕ) → e < length js → same k (get_or js e []) ≡ false) → Found a k b js rest rest

-- one key more in front, which is not the same
none_before : (k j : Octets) (js : List Octets) (m : ℕ) → same k j ≡ false → ((e : ℕ) → e < m → same k (get_or js e []) ≡ false) → (e : ℕ) → e < suc m
    → same k (get_or (j ∷ js) e []) ≡ false
none_before k j js m t f zero l = t
none_before k j js m t f (suc e) l = f e (omega arith)

-- so what is found among the others is found
found_further : (a : ℕ) (k : Octets) (b : ℕ) (j : Octets) (js : List Octets) (rest p : Place) → same k j ≡ false → Found a k (suc b) js rest p
    → Found a k b (j ∷ js) rest p
found_further a k b j js rest _ t (hit d m z l s f) = hit (suc d) m (omega arith) (omega arith) s (none_before k j js d t f)
found_further a k b j js rest _ t (miss f) = miss (none_before k j js (length js) t f)

-- that is what `pair_with` gives
found_pair : (a : ℕ) (k : Octets) (b : ℕ) (js : List Octets) (rest : Place) → Found a k b js rest (pair_with a k b js rest)
unfolding pair_with
found_pair a k b [] rest = miss (λ e l. absurd (omega arith))
found_pair a k b (j ∷ js) rest = go (same k j) refl (found_pair a k (suc b) js rest)
  where
    go : (x : Bool) → same k j ≡ x → Found a k (suc b) js rest (pair_with a k (suc b) js rest) → Found a k b (j ∷ js) rest
        (elim x [ true ↦ Records a b | false ↦ pair_with a k (suc b) js rest ])
    go true t f = hit 0 b (omega arith) (omega arith) t (λ e l. absurd (omega arith))
    go false t f = found_further a k b j js rest _ t f

-- a pair in front of which a key stands that no other is the same as
first_later : (n : ℕ) (k : Octets) (ks : List Octets) → ((e : ℕ) → e < length ks → same k (get_or ks e []) ≡ false) → (p : Place) → IsFirst ks (suc n) p
    → IsFirst (k ∷ ks) n p
first_later n k ks f Nowhere g = none
  where
    none : (c d : ℕ) → Clash (k ∷ ks) c d → ⊥
    none zero (suc d) l = no_way (sym l.2 ∙ f d (omega arith))
    none (suc c) (suc d) l = g c d (omega arith, omega arith, l.2)
    none zero zero l = omega arith
    none (suc c) zero l = omega arith
first_later n k ks f (AtOctet a) g = g
first_later n k ks f (InRecord a b) g = g
first_later n k ks f (Records a b) g =
    let x : a - n ≡ suc (a - suc n) = omega arith in
    let y : b - n ≡ suc (b - suc n) = omega arith in
    (omega arith, rw (x, y) (omega arith, omega arith, g.1.2), least)
  where
    least : (c d : ℕ) → Clash (k ∷ ks) c d → (a ≤ n + c) × (a ≡ n + c → b ≤ n + d)
    least zero (suc d) l = no_way (sym l.2 ∙ f d (omega arith))
    least (suc c) (suc d) l = let m = g.2 c d (omega arith, omega arith, l.2) in (omega arith, λ e. omega (arith, m.1 (omega arith)))
    least zero zero l = absurd (omega arith)
    least (suc c) zero l = absurd (omega arith)

-- a pair of the first key: no pair is before it
first_here : (n : ℕ) (k : Octets) (ks : List Octets) (d m : ℕ) → m ≡ suc n + d → ((e : ℕ) → e < d → same k (get_or ks e []) ≡ false)
    → (c e : ℕ) → Clash (k ∷ ks) c e → (n ≤ n + c) × (n ≡ n + c → m ≤ n + e)
first_here n k ks d m z f zero (suc e) l = (omega arith, λ _. go (ltb e d) refl)
  where
    go : (b : Bool) → ltb e d ≡ b → m ≤ n + suc e
    go true t = no_way (sym l.2 ∙ f e (ltb→lt e d (rw t tt)))
    go false t = let q : d ≤ e = nltb→le e d (rw t tt) in omega arith
first_here n k ks d m z f (suc c) e l = (omega arith, λ q. absurd (omega arith))
first_here n k ks d m z f zero zero l = absurd (omega arith)

-- the pair is the first (02, E3)
pub first_pair_lem : (n : ℕ) (ks : List Octets) → IsFirst ks n (first_pair n ks)
unfolding first_pair
first_pair_lem n [] = λ c d l. absurd (omega arith)
first_pair_lem n (k ∷ ks) = go (found_pair n k (suc n) ks (first_pair (suc n) ks)) (first_pair_lem (suc n) ks)
  where
    go : {p : Place} → Found n k (suc n) ks (first_pair (suc n) ks) p → IsFirst ks (suc n) (first_pair (suc n) ks) → IsFirst (k ∷ ks) n p
    go (hit d m z l s f) g =
        let x : n - n ≡ 0 = omega arith in
        let y : m - n ≡ suc d = omega arith in
        (omega arith, rw (x, y) (omega arith, omega arith, s), first_here n k ks d m z f)
    go (miss f) g = first_later n k ks f (first_pair (suc n) ks) g

-- a key that is not the same as any of the others has a pair only if they have one
no_pair_with : (a : ℕ) (k : Octets) (b : ℕ) (js : List Octets) (rest : Place) → nowhere (pair_with a k b js rest) ≡ (not (any (same k) js) && nowhere rest)
unfolding pair_with any nowhere
no_pair_with a k b [] rest = refl
no_pair_with a k b (j ∷ js) rest = go (same k j) (no_pair_with a k (suc b) js rest)
  where
    go : (x : Bool) → nowhere (pair_with a k (suc b) js rest) ≡ (not (any (same k) js) && nowhere rest)
        → nowhere (elim x [ true ↦ Records a b | false ↦ pair_with a k (suc b) js rest ]) ≡ (not (x || any (same k) js) && nowhere rest)
    go true e = refl
    go false e = e

-- a pair is named exactly if keys repeat
pub pair_if_repeated : (n : ℕ) (ks : List Octets) → nowhere (first_pair n ks) ≡ distinct ks
unfolding first_pair distinct nowhere
pair_if_repeated n [] = refl
pair_if_repeated n (k ∷ ks) = rw (no_pair_with n k (suc n) ks (first_pair (suc n) ks), pair_if_repeated (suc n) ks)
