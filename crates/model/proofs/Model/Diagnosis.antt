-- E8: what is told of an image that is not acceptable: a number from 71 to 77, and an offset in the image or at its end, which fits 32 bits.
use Rattle.std.specs.Prelude.{ℕ, ◌-◌, ◌^◌, ◌<◌, ◌≤◌, ◌≡◌, refl, ◌↔◌, Bool, true, false, List, [], ◌∷◌, length, get_or, take, drop, eqb, leb}
use Rattle.std.proofs.Common.{arith, ap, length-take-le}
use Rattle.std.proofs.Math.Option.{Option, none, some}
use Rattle.std.proofs.Math.ListN.{get_or-eq_default}
use Rattle.std.proofs.Math.Dec.{nleb→lt}
use Rattle.std.proofs.lemmas.Bool.{lt-leb}
use Rattle.model.specs.Octets.{Octets, bytes, number, octet}
use Rattle.model.specs.State.{PlainHub}
use Rattle.model.specs.Answers.{fault_number}
use Rattle.model.specs.Image.{Version, version_octet}
use Rattle.model.specs.Reading.{BadLength, BadVersion, Diagnosis, Item, Judged, acceptable, diagnose, either_version, fault_in, faulty, hub_of, items, judge}
use Rattle.model.specs.Reading.{judge_as, judge_items, load, only, state_in, walk}
use Rattle.model.proofs.Model.Fields.{le_of, leb_of}
use Rattle.model.proofs.Model.Load.{either_takes, fault_number_lem, only_takes}
use Rattle.model.proofs.Model.Numbers.{number_four}
use Rattle.model.proofs.Model.Tables.{bytes_take}
use Rattle.model.proofs.Model.Tests.{either, equal}

-- 1. None, or one -------------------------------------------------------------------------------------------------------------------------------

-- no fault, or a state
exactly_by : (j : Judged) → (fault_in j ≡ none) ↔ ((p : PlainHub) × (state_in j ≡ some p))
unfolding fault_in state_in
exactly_by (acceptable p) = (λ _. (p, refl), λ _. refl)
exactly_by (faulty k at) =
    (λ e. let z : ◌≡◌ {A = ℕ} 0 1 = cc in absurd (omega arith), λ x. let z : ◌≡◌ {A = ℕ} 0 1 = cc x.1 in absurd (omega arith))

-- NOTHING IS AT FAULT EXACTLY WHERE LOAD TAKES THE IMAGE
pub none_exactly : (o : Octets) → (diagnose either_version o ≡ none) ↔ ((p : PlainHub) × (load o ≡ some p))
unfolding diagnose load
none_exactly o = exactly_by (judge either_version o)

-- 2. Where ----------------------------------------------------------------------------------------------------------------------------------------

-- a place among n octets, or at their end
unfoldable pub Inside : ℕ → Judged → Type 0
Inside n (acceptable p) = Unit {0}
Inside n (faulty k at) = at ≤ n

-- an octet that is not zero is there
pub there : (o : Octets) (k : ℕ) → leb (octet o k) 4 ≡ false → k < length o
unfolding octet
there o k e = go (leb (length o) k) refl
  where
    go : (b : Bool) → leb (length o) k ≡ b → k < length o
    go true t =
        let z : get_or o k 0 ≡ 0 = get_or-eq_default o 0 (le_of (length o) k t) in
        let f : leb 0 4 ≡ false = rw z at e in
        let z : ◌≡◌ {A = ℕ} 0 1 = cc in absurd (omega arith)
    go false t = nleb→lt (length o) k (rw t tt)

-- the place of the first thing dropped
listed_inside : (n : ℕ) (p : PlainHub) (is : List Item) → Inside n (judge_items n p is)
unfolding judge_items Inside
listed_inside n p [] = tt
listed_inside n p (i ∷ is) = omega arith

-- every place that is told lies in the image or at its end
pub inside : (takes : ℕ → Option Version) (o : Octets) → Inside (length o) (judge takes o)
unfolding judge judge_as Inside
inside takes o = either {A = Judged} (Inside (length o)) (leb 5 (length o)) (λ l. by (takes (octet o 4)) l) (λ _. omega arith)
  where
    by : (x : Option Version) → leb 5 (length o) ≡ true → Inside (length o) (judge_as o x)
    by none l = omega (arith, le_of 5 (length o) l)
    by (some v) l =
        either {A = Judged} (Inside (length o)) (eqb (number 0 (take 4 o)) (length o))
        (λ _. either {A = Judged} (Inside (length o)) (leb (octet o 5) 4)
        (λ _. listed_inside (length o) (hub_of (walk v (drop 5 o))) (items (walk v (drop 5 o)))) (λ t. omega (arith, there o 5 t)))
        (λ _. omega arith)

-- more than a head is looked at only where the length field is the length, which has four octets
pub fits : (takes : ℕ → Option Version) (o : Octets) → bytes o ≡ true → Inside (2 ^ 32 - 1) (judge takes o)
unfolding judge judge_as Inside
fits takes o w =
    either {A = Judged} (Inside (2 ^ 32 - 1)) (leb 5 (length o)) (λ l. by (takes (octet o 4)) l) (λ t. omega (arith, nleb→lt 5 (length o) (rw t tt)))
  where
    wide : (j : Judged) → Inside (length o) j → length o < 2 ^ 32 → Inside (2 ^ 32 - 1) j
    wide (acceptable p) h l = tt
    wide (faulty k at) h l = omega arith

    by : (x : Option Version) → leb 5 (length o) ≡ true → Inside (2 ^ 32 - 1) (judge_as o x)
    by none l = omega arith
    by (some v) l =
        either {A = Judged} (Inside (2 ^ 32 - 1)) (eqb (number 0 (take 4 o)) (length o))
        (λ s. let e : number 0 (take 4 o) ≡ length o = equal (number 0 (take 4 o)) (length o) s in
        let m : length o < 2 ^ 32 = omega (
          arith,
          e,
          number_four (take 4 o) (bytes_take 4 o w) (length-take-le 4 o (omega (arith, le_of 5 (length o) l))),
        ) in
        either {A = Judged} (Inside (2 ^ 32 - 1)) (leb (octet o 5) 4)
        (λ _. let p : PlainHub = hub_of (walk v (drop 5 o)) in let is : List Item = items (walk v (drop 5 o)) in
        wide (judge_items (length o) p is) (listed_inside (length o) p is) m)
        (λ t. omega arith))
        (λ _. omega arith)

-- what is told of a fault, by what was judged
told_by : (n : ℕ) (j : Judged) (d : Diagnosis) → Inside n j → Inside (2 ^ 32 - 1) j → fault_in j ≡ some d
    → (71 ≤ d.number) × (d.number ≤ 77) × (d.offset ≤ n) × (d.offset < 2 ^ 32)
unfolding fault_in Inside
told_by n (acceptable p) d h l e = let z : ◌≡◌ {A = ℕ} 0 1 = cc in absurd (omega arith)
told_by n (faulty k at) d h l e =
    let q : record { number = fault_number k; offset = at } ≡ d = cc in
    let f = fault_number_lem k in
    rw (← q) (f.0, f.1, h, omega arith)

-- NUMBER AND PLACE of every fault
pub diagnosis_inside : (takes : ℕ → Option Version) (o : Octets) (d : Diagnosis) → bytes o ≡ true → diagnose takes o ≡ some d
    → (71 ≤ d.number) × (d.number ≤ 77) × (d.offset ≤ length o) × (d.offset < 2 ^ 32)
unfolding diagnose
diagnosis_inside takes o d w e = told_by (length o) (judge takes o) d (inside takes o) (fits takes o w) e

-- 3. The head, and the moves ----------------------------------------------------------------------------------------------------------------------

-- too short for a version octet
pub too_short : (takes : ℕ → Option Version) (o : Octets) → length o < 5 → judge takes o ≡ faulty BadLength (length o)
unfolding judge
too_short takes o l = rw (judge, lt-leb 5 (length o) l)

-- a version that is not taken
pub not_taken : (takes : ℕ → Option Version) (o : Octets) → 5 ≤ length o → takes (octet o 4) ≡ none → judge takes o ≡ faulty BadVersion 4
unfolding judge judge_as
not_taken takes o l t = rw (leb_of 5 (length o) l, judge, t)

-- one that is, and a length field that says another length
pub other_length : (takes : ℕ → Option Version) (v : Version) (o : Octets) → 5 ≤ length o → takes (octet o 4) ≡ some v
    → eqb (number 0 (take 4 o)) (length o) ≡ false → judge takes o ≡ faulty BadLength 0
unfolding judge judge_as
other_length takes v o l t s = rw (leb_of 5 (length o) l, judge, t, judge_as, s)

-- a move judges an image of the version that it moves from as load does
pub judged_alike : (v : Version) (o : Octets) → octet o 4 ≡ version_octet v → judge (only v) o ≡ judge either_version o
unfolding judge
judged_alike v o e =
    let q : only v (octet o 4) ≡ either_version (octet o 4) = rw (e, only_takes v, either_takes v) in
    let f : Option Version → Judged = λ x. elim (leb 5 (length o)) [ true ↦ judge_as o x | false ↦ faulty BadLength (length o) ] in
    ap f q
