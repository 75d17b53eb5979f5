-- Tables passed over, one after the other: by the count that each begins with, whatever the hardware is that they were read for.
use Prim.Native.Nat.{ℕ, suc, ◌+◌, ◌*◌, ◌≤◌, ◌<◌}
use native.Mathlib.Omega.{arith}
use native.Mathlib.Numerals.{add-one}
use mathlib.Core.Path.{◌≡◌, refl, sym, ◌∙◌}
use mathlib.Core.List.{List, [], ◌∷◌}
use mathlib.Core.Option.{some}
use lib.ListN.{length, drop, get_or, length-drop}
use lib.Seq.{drop-cons, drop-drop}
use Rattle.model.specs.declared.Hardware.{Hardware}
use Rattle.model.specs.Octets.{Octets}
use Rattle.model.specs.State.{Table}
use Rattle.model.specs.Tables.{TableRule, rule_at, table_rules}
use Rattle.model.specs.Reading.{goes_on, nothing_dropped, walk_tables}
use Rattle.reading.specs.Contents.{Parsed, clean, clean_by, tables_in}
use Rattle.reading.proofs.Steps.{clean_through, counted, table_first, through_clean}
use Rattle.reading.proofs.Walks.{rules_from}
use Rattle.moves.specs.Moving.{TablesLie}

-- the place behind a table of records of this size
unfoldable pub table_end : Octets → (size p : ℕ) → ℕ
table_end image size p = p + 1 + size * get_or image p 0

-- octets that begin with a count, where they lie
begin_at : (image : Octets) (p n : ℕ) (body : Octets) → drop p image ≡ n ∷ body → (p < length image) × (get_or image p 0 ≡ n) × (drop (p + 1) image ≡ body)
begin_at image p n body e =
    let l : length (drop p image) ≡ suc (length body) = rw e in
    let h : p < length image = omega (arith, length-drop p image) in
    let d : get_or image p 0 ∷ drop (suc p) image ≡ n ∷ body = sym (drop-cons image p 0 h) ∙ e in
    (h, cc, rw add-one cc)

-- a table that was found: it lies in the image, and the others are found behind it
record Passed (f : Hardware) (us : List TableRule) (image : Octets) (p q : ℕ) (behind : Octets) : Type 0 where
  here : p < length image
  within : q ≤ length image
  rest : Parsed (List Table)
  others : tables_in f us (drop q image) ≡ some rest
  same : rest.behind ≡ behind

-- one table
passed : (f : Hardware) (u : TableRule) (us : List TableRule) (image : Octets) (p : ℕ) (n : Parsed (List Table)) → tables_in f (u ∷ us) (drop p image) ≡ some n
    → Passed f us image p (table_end image u.size p) n.behind
unfolding tables_in table_end
passed f u us image p n e =
    let h = clean_through (walk_tables f (u ∷ us) (goes_on (drop p image))) n e in
    let t = table_first f u us (drop p image) n.behind h.0 in
    let c = counted u f (drop p image) t.0 t.1 in
    let b = begin_at image p c.count c.body c.octets in
    let y : t.0 ≡ drop (p + 1 + u.size * c.count) image = c.behind ∙ rw (← b.2) (drop-drop (u.size * c.count) (p + 1) image) in
    let l : length (drop (p + 1) image) ≡ length c.body = rw b.2 in
    rw b.1 (record {
      here = b.0;
      within = omega (arith, b.0, c.fits, length-drop (p + 1) image);
      rest = record { value = (walk_tables f us (goes_on t.0)).kept; behind = n.behind };
      others = rw (← y) (through_clean (walk_tables f us (goes_on t.0)) n.behind t.2);
      same = refl;
    })

-- what was found of all tables ends where the tables from table k on end, which lie from a place on
abbrev pub Left : Octets → (at p k : ℕ) → Type 0
Left image at p k = (f : Hardware) (m : Parsed (List Table)) → tables_in f table_rules (drop at image) ≡ some m
    → (n : Parsed (List Table)) × (tables_in f (drop k table_rules) (drop p image) ≡ some n) × (n.behind ≡ m.behind)

-- at first all are left
pub left_first : (image : Octets) (at : ℕ) → Left image at at 0
left_first image at f m e = (m, e, refl)

-- the first of those that are left
first_left : (image : Octets) (at p k : ℕ) → k < 6 → Left image at p k → (f : Hardware) (m : Parsed (List Table)) → tables_in f table_rules (drop at image) ≡ some m
    → Passed f (drop (k + 1) table_rules) image p (table_end image (rule_at k).size p) m.behind
first_left image at p k h left f m e =
    let l = left f m e in
    rw (← l.2) (passed f (rule_at k) (drop (k + 1) table_rules) image p l.0 (rw (rules_from k h) at l.1))

-- table k lies in the image
pub left_here : (image : Octets) (at p k size : ℕ) → TablesLie image at → k < 6 → size ≡ (rule_at k).size → Left image at p k
    → (p < length image) × (p + 1 + size * get_or image p 0 ≤ length image)
unfolding table_end
left_here image at p k size (f, m, e) h s left = let t = first_left image at p k h left f m e in rw s (t.here, t.within)

-- behind it the others are left
pub left_next : (image : Octets) (at p k size : ℕ) → k < 6 → size ≡ (rule_at k).size → Left image at p k → Left image at (p + 1 + size * get_or image p 0) (k + 1)
unfolding table_end
left_next image at p k size h s left f m e = let t = first_left image at p k h left f m e in rw s (t.rest, t.others, t.same)

-- none is left
pub left_none : (image : Octets) (at p k : ℕ) → k ≡ 6 → at ≤ p → p ≤ length image → Left image at p k
    → (f : Hardware) (m : Parsed (List Table)) → tables_in f table_rules (drop at image) ≡ some m → (at ≤ p) × (p ≤ length image) × (drop p image ≡ m.behind)
unfolding tables_in clean clean_by walk_tables nothing_dropped table_rules
left_none image at p k n lo hi left f m e =
    let l = left f m e in
    let q : some (record { value = []; behind = drop p image }) ≡ some l.0 = rw n at l.1 in
    (lo, hi, cc)
