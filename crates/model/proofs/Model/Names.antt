-- What is told of a name: no zero octet, at most 248 octets, and the state is as it was.
use Rattle.std.specs.Prelude.{ℕ, zero, suc, ◌≤◌, ◌<◌, ◌≡◌, refl, true, [], ◌∷◌, length, take, drop, eqb, ltb}
use Rattle.std.proofs.Common.{arith, sym, ◌∙◌, get_or-take, get_or-drop, lit<, lit≤, eq-eqb}
use Rattle.std.proofs.Math.Option.{Option, none, some}
use Rattle.model.specs.Octets.{Octets, octet, used_part}
use Rattle.model.specs.State.{Controller, PlainHub, controller_at, name_part, name_ends, short_name_ends}
use Rattle.model.specs.Image.{name_ok}
use Rattle.model.specs.Hub.{Outcome, answer_of, octets_of, state_of}
use Rattle.model.specs.WellFormed.{controller_ok}
use Rattle.model.specs.Layout.{decode}
use Rattle.model.specs.Meanings.{hub_name, name_out}
use Rattle.model.specs.Written.{ReadAnswer, told, wrong}
use Rattle.model.proofs.Model.Demand3.{state_well}
use Rattle.model.proofs.Model.Keeps.{well_fit}
use Rattle.model.proofs.Model.Parts.{controller_fit}
use Rattle.model.proofs.Model.Reading.{reading_answered, reading_holds, reading_same}
use Rattle.model.proofs.Model.Stays.{controller_ok_lem}
use Rattle.model.proofs.Model.Tests.{and_true, either, equal, no_way}

-- 1. The used part ----------------------------------------------------------------------------------------------------------------------------

-- a zero ends it
pub used_short : (o : Octets) (k : ℕ) → octet o k ≡ 0 → length (used_part o) ≤ k
unfolding used_part octet
used_short [] k e = omega arith
used_short (x ∷ xs) zero e = rw (eq-eqb x 0 e, used_part) (lit≤ tt)
used_short (x ∷ xs) (suc k) e =
    let r : length (used_part xs) ≤ k = used_short xs k e in
    either {A = Octets} (λ u. length u ≤ suc k) (eqb x 0) (λ _. omega arith) (λ _. omega arith)

-- it is no longer than the name
pub length_used : (o : Octets) → length (used_part o) ≤ length o
unfolding used_part
length_used [] = omega arith
length_used (x ∷ xs) =
    let r : length (used_part xs) ≤ length xs = length_used xs in
    either {A = Octets} (λ u. length u ≤ length (x ∷ xs)) (eqb x 0) (λ _. omega arith) (λ _. omega arith)

-- no octet of it is zero
pub used_no_zero : (o : Octets) (k : ℕ) → k < length (used_part o) → octet (used_part o) k ≡ 0 → ⊥
unfolding used_part octet
used_no_zero [] k = λ l e. omega arith
used_no_zero (x ∷ xs) zero =
    either {A = Octets} (λ u. 0 < length u → octet u 0 ≡ 0 → ⊥) (eqb x 0) (λ _ l _. omega arith) (λ n _ e. no_way (sym (eq-eqb x 0 e) ∙ n))
used_no_zero (x ∷ xs) (suc k) =
    let r : k < length (used_part xs) → octet (used_part xs) k ≡ 0 → ⊥ = used_no_zero xs k in
    either {A = Octets} (λ u. suc k < length u → octet u (suc k) ≡ 0 → ⊥) (eqb x 0) (λ _ l _. omega arith) (λ _ l e. r (omega arith) e)

-- a name and a short name that end with a zero have used parts of at most 248 octets
name_short : (which : ℕ) (n : Octets) → name_ok n ≡ true → length (used_part (name_part which n)) ≤ 248
unfolding name_part name_ok name_ends short_name_ends octet
name_short which n e =
    let a = and_true (eqb (octet n 248) 0) _ e in
    either {A = Octets} (λ u. length (used_part u) ≤ 248) (eqb which 0)
    (λ _. used_short (take 249 n) 248 (get_or-take 249 n 248 0 (lit< tt) ∙ equal (octet n 248) 0 a.0))
    (λ _. let l : length (used_part (take 11 (drop 249 n))) ≤ 10 =
    used_short (take 11 (drop 249 n)) 10 (get_or-take 11 (drop 249 n) 10 0 (lit< tt) ∙ get_or-drop 249 n 10 0 ∙ equal (octet n 259) 0 a.1) in omega arith)

-- 2. What is told -----------------------------------------------------------------------------------------------------------------------------

-- at an index: nothing, or a used part
module _ (P : Octets → Type 0) (nothing : P [])
    (used : (which : ℕ) (c : Controller) → controller_ok c ≡ true → P (used_part (name_part which c.host.name))) where
  -- by what stands at the index
  out_holds : (p : PlainHub) (which : ℕ) (x : Option Controller) → ((c : Controller) → x ≡ some c → controller_ok c ≡ true) → P (octets_of (name_out p which x))
  unfolding name_out octets_of
  out_holds p which none f = nothing
  out_holds p which (some c) f = either {A = Outcome} (λ o. P (octets_of o)) (ltb which 2) (λ _. used which c (f c refl)) (λ _. nothing)

  -- over the lent octets
  pub name_holds : (s : Octets) (i which room : ℕ) → P (hub_name s i which room).octets
  unfolding hub_name
  name_holds s i which room =
      reading_holds P s room _ nothing (λ t. out_holds (decode s).plain which (controller_at (decode s).plain i)
      (λ c x. controller_ok_lem (decode s).plain i c (well_fit (decode s) (state_well s t)).plain x))

-- AT MOST 248 OCTETS ARE TOLD, whatever the lent octets hold
pub name_most : (s : Octets) (i which room : ℕ) → length (hub_name s i which room).octets ≤ 248
name_most s i which room =
    name_holds (λ o. length o ≤ 248) (lit≤ tt)
    (λ w c e. name_short w c.host.name (and_true (eqb (length c.host.name) 260) _ (controller_fit c e).name).1) s i which room

-- NO OCTET TOLD IS ZERO
pub name_no_zero : (s : Octets) (i which room k : ℕ) → k < length (hub_name s i which room).octets → octet (hub_name s i which room).octets k ≡ 0 → ⊥
name_no_zero s i which room k =
    name_holds (λ o. k < length o → octet o k ≡ 0 → ⊥) (λ l _. omega arith) (λ w c e. used_no_zero (name_part w c.host.name) k) s i which room

-- what is told leaves the hub as it was
out_same : (p : PlainHub) (which : ℕ) (x : Option Controller) → state_of p (name_out p which x) ≡ p
unfolding name_out state_of
out_same p which none = refl
out_same p which (some c) = either {A = Outcome} (λ o. state_of p o ≡ p) (ltb which 2) (λ _. refl) (λ _. refl)

-- THE STATE IS AS IT WAS
pub name_same : (s : Octets) (i which room : ℕ) → (hub_name s i which room).state ≡ s
unfolding hub_name
name_same s i which room = reading_same s room _ (out_same (decode s).plain which (controller_at (decode s).plain i))

-- the part ends where a zero stands, or with the name
pub used_ends : (o : Octets) → length (used_part o) < length o → octet o (length (used_part o)) ≡ 0
unfolding used_part octet
used_ends [] = λ l. absurd (omega arith)
used_ends (x ∷ xs) =
    let r : length (used_part xs) < length xs → octet xs (length (used_part xs)) ≡ 0 = used_ends xs in
    either {A = Octets} (λ u. length u < length (x ∷ xs) → octet (x ∷ xs) (length u) ≡ 0) (eqb x 0) (λ e _. equal x 0 e) (λ _ l. r (omega arith))

-- what is answered, and that only answer 0 writes: by what stands at the index
out_answers : (p : PlainHub) (which : ℕ) (x : Option Controller) → ReadAnswer (answer_of (name_out p which x)) (octets_of (name_out p which x))
unfolding name_out answer_of octets_of
out_answers p which none = wrong
out_answers p which (some c) = either {A = Outcome} (λ o. ReadAnswer (answer_of o) (octets_of o)) (ltb which 2) (λ _. told) (λ _. wrong)

-- A NAME IS ANSWERED 0, 4, 5 OR 6, and only 0 writes
pub name_answered : (s : Octets) (i which room : ℕ) → ReadAnswer (hub_name s i which room).answer (hub_name s i which room).octets
unfolding hub_name
name_answered s i which room = reading_answered s room _ (out_answers (decode s).plain which (controller_at (decode s).plain i))
