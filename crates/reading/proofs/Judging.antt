-- What a whole image is found to be: by its head, and by what the walk through its controllers comes to.
use Rattle.std.specs.Prelude.{Result, Ok, Err}
use Prim.Native.Nat.{ℕ, suc, ◌-◌, ◌≤◌, ◌<◌}
use native.Mathlib.Omega.{arith}
use mathlib.Core.Path.{◌≡◌, sym, ap, ◌∙◌}
use mathlib.Core.List.{List, [], ◌∷◌, ◌++◌}
use mathlib.Core.Option.{Option, none, some}
use lib.ListN.{length, drop, get_or, drop_of_length-le, length-drop}
use lib.Seq.{drop-cons, get_or-drop}
use borrow.Author.Tests.{eq-eqb, le-leb, lt-leb, ne_eqb}
use Rattle.model.specs.declared.ImageFault.TheVariants.{BadIndex, BadLength, BadVersion}
use Rattle.model.specs.declared.Version.{Version}
use Rattle.model.specs.declared.Version.TheVariants.{One, Two}
use Rattle.model.specs.Octets.{Octets, number, octet}
use Rattle.model.specs.Image.{version_octet}
use Rattle.model.specs.Reading.{End, Item, Slots, Walk, cut, either_version, fault_at, faulty, goes_on, hub_of, item_at, items, judge, judge_as}
use Rattle.model.specs.Reading.{judge_items, last_item, not_whole, nothing_dropped, only, walk}
use Rattle.octets.specs.Parts.{part}
use Rattle.fields.specs.declared.FaultAt.{FaultAt}
use Rattle.fields.specs.Reads.{Begins}
use Rattle.reading.specs.Comes.{Comes, Judges, first_fault}

-- 1. The head ---------------------------------------------------------------------------------------------------------------------------------

-- the length field says another length
pub other_length : (o : Octets) (v : Version) → (number 0 (part o 0 4) ≡ length o → ⊥) → judge_as o (some v) ≡ faulty BadLength 0
unfolding judge_as part
other_length o v h = rw (ne_eqb _ _ h, judge_as)

-- the length field is right, the number of controllers too: what the walk comes to
judged_by : (o : Octets) (v : Version) → number 0 (part o 0 4) ≡ length o → octet o 5 ≤ 4
    → judge_as o (some v) ≡ judge_items (length o) (hub_of (walk v (drop 5 o))) (items (walk v (drop 5 o)))
unfolding judge_as part
judged_by o v e h = rw (eq-eqb _ _ e, judge_as, le-leb _ _ h)

-- the number of controllers is not there
pub no_count : (o : Octets) (v : Version) → number 0 (part o 0 4) ≡ length o → length o ≡ 5 → judge_as o (some v) ≡ faulty BadLength (length o)
unfolding octet walk nothing_dropped items last_item judge_items item_at not_whole fault_at
no_count o v e n =
    let d : drop 5 o ≡ [] = drop_of_length-le o {i = 5} (omega arith) in
    let f : get_or o 5 0 ≡ 0 = sym (get_or-drop 5 o 0 0) ∙ ap (λ (l : Octets). get_or l 0 0) d in
    let z : octet o 5 ≤ 4 = omega arith in
    let n : length o - 0 ≡ length o = omega arith in
    judged_by o v e z ∙ rw (d, n)

-- there are too many controllers
pub many : (o : Octets) (v : Version) → number 0 (part o 0 4) ≡ length o → 4 < get_or o 5 0 → judge_as o (some v) ≡ faulty BadIndex 5
unfolding judge_as part octet
many o v e h = rw (eq-eqb _ _ e, judge_as, lt-leb _ _ h)

-- 2. The walk ---------------------------------------------------------------------------------------------------------------------------------

-- what was walked has a fault
judged_fault : (image : Octets) (w : Walk Slots) (x : FaultAt) → Comes image w (Err x)
    → judge_items (length image) (hub_of w) (items w) ≡ faulty x.fault x.at
unfolding items judge_items last_item first_fault
judged_fault image w x = by w.dropped w.end
  where
    by : (d : List Item) (e : End) → Begins image (first_fault d e) x.fault x.at → judge_items (length image) (hub_of w) (d ++ last_item e) ≡ faulty x.fault x.at
    by (i ∷ is) e (y, q, a, b) = let f : i.fault ≡ y = cc in rw (f, a, b)
    by [] (cut i) (y, q, a, b) = let f : i.fault ≡ y = cc in rw (f, a, b)
    by [] (goes_on o) (y, q, a, b) = let z : ◌≡◌ {A = ℕ} 0 1 = cc in absurd (omega arith)

-- the walk of the controllers has a fault
pub found_fault : (o : Octets) (v : Version) (x : FaultAt) → number 0 (part o 0 4) ≡ length o → get_or o 5 0 ≤ 4
    → Comes o (walk v (drop 5 o)) (Err x) → judge_as o (some v) ≡ faulty x.fault x.at
unfolding octet
found_fault o v x e h g = judged_by o v e h ∙ judged_fault o (walk v (drop 5 o)) x g

-- octets are left over
pub left_over_lem : (o : Octets) (v : Version) (p : ℕ) → number 0 (part o 0 4) ≡ length o → get_or o 5 0 ≤ 4
    → Comes o (walk v (drop 5 o)) (Ok p) → p < length o → judge_as o (some v) ≡ faulty BadLength p
unfolding octet items last_item judge_items item_at fault_at
left_over_lem o v p e h (le, d, x) lt =
    let c : drop p o ≡ get_or o p 0 ∷ drop (suc p) o = drop-cons o p 0 lt in
    let y : (walk v (drop 5 o)).end ≡ goes_on (get_or o p 0 ∷ drop (suc p) o) = x ∙ ap goes_on c in
    let n : length o - suc (length (drop (suc p) o)) ≡ p = omega (arith, length-drop (suc p) o) in
    judged_by o v e h ∙ rw (d, y, n)

-- nothing is
pub all_right : (o : Octets) (v : Version) (p : ℕ) → 6 ≤ length o → octet o 4 ≡ version_octet v → number 0 (part o 0 4) ≡ length o → get_or o 5 0 ≤ 4
    → Comes o (walk v (drop 5 o)) (Ok p) → length o ≤ p → Judges o (judge_as o (some v)) (Ok v)
unfolding octet items last_item judge_items
all_right o v p six ver e h (le, d, x) ge =
    let c : drop p o ≡ [] = drop_of_length-le o {i = p} (omega arith) in
    let y : (walk v (drop 5 o)).end ≡ goes_on [] = x ∙ ap goes_on c in
    let i : (walk v (drop 5 o)).dropped ++ last_item (walk v (drop 5 o)).end ≡ [] = rw (d, y) in
    (six, ver, i, judged_by o v e h ∙ rw i)

-- 3. The version --------------------------------------------------------------------------------------------------------------------------------

-- there is no version octet
pub no_version : (takes : ℕ → Option Version) (o : Octets) → length o < 5 → judge takes o ≡ faulty BadLength (length o)
unfolding judge
no_version takes o h = rw (lt-leb _ _ h, judge)

-- the version octet is there
judged : (takes : ℕ → Option Version) (o : Octets) (x : Option Version) → 5 ≤ length o → takes (get_or o 4 0) ≡ x → judge takes o ≡ judge_as o x
unfolding judge octet
judged takes o x h t = rw (le-leb _ _ h, judge, t)

-- a version octet that is taken
pub taken : (takes : ℕ → Option Version) (o : Octets) (v : Version) (r : Result Version FaultAt) → 5 ≤ length o → takes (get_or o 4 0) ≡ some v
    → Judges o (judge_as o (some v)) r → Judges o (judge takes o) r
taken takes o v r h t j = rw (judged takes o (some v) h t) j

-- one that is not
pub not_taken : (takes : ℕ → Option Version) (o : Octets) → 5 ≤ length o → takes (get_or o 4 0) ≡ none → judge takes o ≡ faulty BadVersion 4
unfolding judge_as
not_taken takes o h t = judged takes o none h t

-- load takes version 1
pub takes_one : (n : ℕ) → n ≡ 1 → either_version n ≡ some One
unfolding either_version
takes_one n e = rw e

-- and version 2
pub takes_two : (n : ℕ) → n ≡ 2 → either_version n ≡ some Two
unfolding either_version
takes_two n e = rw e

-- and no other
pub takes_none : (n : ℕ) → (n ≡ 1 → ⊥) → (n ≡ 2 → ⊥) → either_version n ≡ none
unfolding either_version
takes_none n a b = rw (ne_eqb n 1 a, either_version, ne_eqb n 2 b)

-- a move takes its version
pub only_takes : (n : ℕ) (v : Version) → n ≡ version_octet v → only v n ≡ some v
unfolding only
only_takes n v e = rw (eq-eqb n (version_octet v) e, only)

-- and no other
pub only_not : (n : ℕ) (v : Version) → (n ≡ version_octet v → ⊥) → only v n ≡ none
unfolding only
only_not n v e = rw (ne_eqb n (version_octet v) e, only)
