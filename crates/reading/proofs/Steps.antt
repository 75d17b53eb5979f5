-- An image of which nothing is dropped, step by step: its tables one after the other, a controller by its fixed part and its tables, its controllers one
-- after the other.
use mathlib.Core.Path.{◌≡◌, refl, ap, sym, ◌∙◌}
use Prim.Native.Nat.{ℕ, zero, suc, ◌+◌, ◌*◌, ◌≤◌}
use native.Mathlib.Omega.{arith}
use native.Mathlib.Nat.{mul-suc, mul-zero}
use mathlib.Core.Bool.{true}
use mathlib.Core.List.{List, [], ◌∷◌, ◌++◌, append_assoc, append-nil}
use mathlib.Core.Option.{Option, none, some}
use lib.ListN.{length, drop, set, take, length-drop}
use lib.Seq.{drop-drop}
use lib.Dec.{leb}
use Rattle.model.specs.declared.Hardware.{Hardware}
use Rattle.model.specs.declared.Version.{Version}
use Rattle.model.specs.Octets.{Octets, bytes, octet}
use Rattle.model.specs.State.{Table}
use Rattle.model.specs.Tables.{TableRule, chop, loaded, table_rules}
use Rattle.model.specs.Reading.{End, Fixed, Item, Reading, Slots, Walk, also, before, controller_by, controller_then, cut, fixed_by, fixed_part, goes_on}
use Rattle.model.specs.Reading.{index_right, items, kept_then, nothing_dropped, record_fault, right, short, table_then, walk_controllers, walk_records, walk_table}
use Rattle.model.specs.Reading.{walk_tables, wrong}
use Rattle.model.specs.WellFormed.{controller_ok, table_ok, tables_ok}
use Rattle.model.proofs.Model.Fields.{le_of}
use Rattle.model.proofs.Model.Fixed.{fixed_right}
use Rattle.model.proofs.Model.Load.{end_bytes, tables_kept}
use Rattle.model.proofs.Model.SavedAgain.{Through, controllers_cut, none_of, tables_cut, through}
use Rattle.model.proofs.Model.Tests.{and_true, either, optional}
use Rattle.fields.specs.Places.{fixed_end, fixed_in, hardware_in}
use Rattle.fields.proofs.Says.{FieldsRight, fixed_low, fixed_rules, fixed_says}
use Rattle.reading.specs.Contents.{Parsed, Placed, clean, clean_by, controller_in, placed_by, placed_in, tables_in}

-- 1. A walk that drops nothing ------------------------------------------------------------------------------------------------------------------

-- what was found by a walk: it dropped nothing, and goes on behind
pub clean_through : {A : Type 0} (w : Walk A) (m : Parsed A) → clean w ≡ some m → Through w m.behind × (w.kept ≡ m.value)
unfolding clean clean_by
clean_through {A} w m e = go w.dropped w.end refl refl e
  where
    go : (is : List Item) (z : End) → w.dropped ≡ is → w.end ≡ z → clean_by w.kept is z ≡ some m → Through w m.behind × (w.kept ≡ m.value)
    go [] (goes_on o) d q e =
        let p : record { value = w.kept; behind = o } ≡ m = cc in
        (record { nothing = d; end = q ∙ ap (λ (x : Parsed A). goes_on x.behind) p }, ap (λ (x : Parsed A). x.value) p)
    go [] (cut i) d q e = let z : ◌≡◌ {A = ℕ} 0 1 = cc in absurd (omega arith)
    go (i ∷ is) z d q e = let z : ◌≡◌ {A = ℕ} 0 1 = cc in absurd (omega arith)

-- the other way: what such a walk kept was found
pub through_clean : {A : Type 0} (w : Walk A) (x : Octets) → Through w x → clean w ≡ some (record { value = w.kept; behind = x })
unfolding clean clean_by
through_clean w x h = rw (h.nothing, h.end)

-- 2. Tables -------------------------------------------------------------------------------------------------------------------------------------

-- records that are all kept are those into which the octets are cut, and what is behind them is left
pub records_chop : (u : TableRule) (f : Hardware) (n : ℕ) (kept : List Octets) (o x : Octets) → Through (walk_records u f n kept o) x
    → ((walk_records u f n kept o).kept ≡ kept ++ chop u.size n o) × (u.size * n ≤ length o) × (x ≡ drop (u.size * n) o)
unfolding walk_records nothing_dropped also chop
records_chop u f zero kept o x = λ h. let q : o ≡ x = cc h.end in (sym (append-nil kept), rw (mul-zero u.size) (omega arith), rw (mul-zero u.size) (sym q))
records_chop u f (suc n) kept o x =
    either {A = Walk (List Octets)} Cut (leb u.size (length o))
    (λ t. optional {B = Walk (List Octets)} Cut (record_fault u f kept (take u.size o))
    (λ k h. let g = records_chop u f n (kept ++ (take u.size o ∷ [])) (drop u.size o) x h in
    let m : u.size + u.size * n ≡ u.size * suc n = omega (arith, mul-suc u.size n) in (
      g.0 ∙ append_assoc kept (take u.size o ∷ []) (chop u.size n (drop u.size o)),
      omega (arith, le_of u.size (length o) t, length-drop u.size o, g.1),
      g.2 ∙ drop-drop (u.size * n) u.size o ∙ rw m,
    ))
    (λ k e h. let z : ◌≡◌ {A = ℕ} 0 1 = cc h.nothing in absurd (omega arith)))
    (λ t h. let z : ◌≡◌ {A = ℕ} 0 1 = cc h.end in absurd (omega arith))
  where
    Cut : Walk (List Octets) → Type 0
    Cut w = Through w x → (w.kept ≡ kept ++ (take u.size o ∷ chop u.size n (drop u.size o))) × (u.size * suc n ≤ length o)
        × (x ≡ drop (u.size * suc n) o)

-- one table of which nothing is dropped: its count, and its records
pub record Counted (u : TableRule) (o x : Octets) (w : Walk (List Octets)) : Type 0 where
  pub count : ℕ
  pub body : Octets
  pub octets : o ≡ count ∷ body
  pub few : count ≤ 32
  pub fits : u.size * count ≤ length body
  pub kept : w.kept ≡ chop u.size count body
  pub behind : x ≡ drop (u.size * count) body

-- the count is at most 32, and so many records lie behind it
pub counted : (u : TableRule) (f : Hardware) (o x : Octets) → Through (walk_table u f (goes_on o)) x → Counted u o x (walk_table u f (goes_on o))
unfolding walk_table nothing_dropped
counted u f [] x = λ h. let z : ◌≡◌ {A = ℕ} 0 1 = cc h.end in absurd (omega arith)
counted u f (n ∷ body) x =
    either {A = Walk (List Octets)} (λ w. Through w x → Counted u (n ∷ body) x w) (leb n 32)
    (λ t h. let g = records_chop u f n [] body x h in
    record { count = n; body = body; octets = refl; few = le_of n 32 t; fits = g.1; kept = g.0; behind = g.2 })
    (λ t h. let z : ◌≡◌ {A = ℕ} 0 1 = cc h.end in absurd (omega arith))

-- a table, and others behind it, of which nothing is dropped
pub table_first : (f : Hardware) (u : TableRule) (us : List TableRule) (o x : Octets) → Through (walk_tables f (u ∷ us) (goes_on o)) x
    → (y : Octets) × Through (walk_table u f (goes_on o)) y × Through (walk_tables f us (goes_on y)) x
unfolding walk_tables table_then before
table_first f u us o x h = go w.end refl h.nothing h.end
  where
    w : Walk (List Octets)
    w = walk_table u f (goes_on o)

    go : (e : End) → w.end ≡ e → w.dropped ++ (walk_tables f us e).dropped ≡ [] → (walk_tables f us e).end ≡ goes_on x
        → (y : Octets) × Through w y × Through (walk_tables f us (goes_on y)) x
    go (goes_on y) q d e =
        let n = none_of w.dropped (walk_tables f us (goes_on y)).dropped d in
        (y, record { nothing = n.0; end = q }, record { nothing = n.1; end = e })
    go (cut i) q d e = let z : ◌≡◌ {A = ℕ} 0 1 = cc (tables_cut f us i, e) in absurd (omega arith)

-- what was found of tables begins with the table of the first rule
pub record OneTable (f : Hardware) (u : TableRule) (us : List TableRule) (o : Octets) (m : Parsed (List Table)) : Type 0 where
  pub count : ℕ
  pub body : Octets
  pub rest : Parsed (List Table)
  pub octets : o ≡ count ∷ body
  pub few : count ≤ 32
  pub fits : u.size * count ≤ length body
  pub good : table_ok u f (loaded (chop u.size count body)) ≡ true
  pub others : tables_in f us (drop (u.size * count) body) ≡ some rest
  pub tables : loaded (chop u.size count body) ∷ rest.value ≡ m.value
  pub behind : rest.behind ≡ m.behind

-- ONE TABLE, and what was found of the others behind it
pub one_table : (f : Hardware) (u : TableRule) (us : List TableRule) (o : Octets) (m : Parsed (List Table)) → bytes o ≡ true → tables_in f (u ∷ us) o ≡ some m
    → OneTable f u us o m
unfolding tables_in walk_tables table_then before tables_ok end_bytes
one_table f u us o m w e =
    let h = clean_through (walk_tables f (u ∷ us) (goes_on o)) m e in
    let t = table_first f u us o m.behind h.0 in
    let c = counted u f o t.0 t.1 in
    let ok = and_true (table_ok u f (loaded (walk_table u f (goes_on o)).kept)) _ (tables_kept f (u ∷ us) (goes_on o) w).0 in
    let v : loaded (walk_table u f (goes_on o)).kept ∷ (walk_tables f us (goes_on t.0)).kept ≡ m.value = rw t.1.end at h.1 in
    record {
      count = c.count;
      body = c.body;
      rest = record { value = (walk_tables f us (goes_on t.0)).kept; behind = m.behind };
      octets = c.octets;
      few = c.few;
      fits = c.fits;
      good = rw c.kept at ok.0;
      others = rw (← c.behind) (through_clean (walk_tables f us (goes_on t.0)) m.behind t.2);
      tables = rw (← c.kept) v;
      behind = refl;
    }

-- 3. A controller -------------------------------------------------------------------------------------------------------------------------------

-- what was found of a controller: its fixed part by its fields, its tables, and what is behind them
pub record OneController (v : Version) (o : Octets) (g : Parsed Placed) : Type 0 where
  pub tables : Parsed (List Table)
  pub within : fixed_end v o ≤ length o
  pub long : 24 ≤ fixed_end v o
  pub rules : FieldsRight v o
  pub parsed : tables_in (hardware_in o) table_rules (drop (fixed_end v o) o) ≡ some tables
  pub index : g.value.index ≡ octet o 0
  pub value : g.value.controller ≡ controller_by (fixed_in v o) tables.value
  pub behind : g.behind ≡ tables.behind
  pub fine : controller_ok g.value.controller ≡ true

-- A CONTROLLER THAT WAS FOUND
pub one_controller : (v : Version) (o : Octets) (g : Parsed Placed) → bytes o ≡ true → controller_in v o ≡ some g → OneController v o g
unfolding controller_in placed_in placed_by fixed_in fixed_by tables_in end_bytes
one_controller v o g w e = by (fixed_part v 0 o) refl e
  where
    found : (c : Fixed) (x : Octets) → fixed_part v 0 o ≡ right c x → (m : Option (Parsed (List Table))) → tables_in c.radio.hardware table_rules x ≡ m
        → placed_by c m ≡ some g → OneController v o g
    found c x q none t e = let z : ◌≡◌ {A = ℕ} 0 1 = cc in absurd (omega arith)
    found c x q (some m) t e =
        let k = fixed_says v 0 o c x q in
        let p : record { value = record { index = c.index; controller = controller_by c m.value }; behind = m.behind } ≡ g = cc in
        let h = clean_through (walk_tables c.radio.hardware table_rules (goes_on x)) m t in
        let r = fixed_right v 0 o c x w q in
        let ok : tables_ok c.radio.hardware table_rules m.value ≡ true = rw h.1 at
        (tables_kept c.radio.hardware table_rules (goes_on x) r.behind).0 in
        record {
          tables = m;
          within = k.2;
          long = k.3;
          rules = fixed_rules v 0 o c x q;
          parsed = rw (k.0, k.1) at t;
          index = rw (← p, k.0);
          value = rw (← p, k.0);
          behind = rw (← p);
          fine = rw (← p) (r.fits m.value ok);
        }

    by : (r : Reading Fixed) → fixed_part v 0 o ≡ r → placed_in r ≡ some g → OneController v o g
    by (right c x) q e = found c x q (tables_in c.radio.hardware table_rules x) refl e
    by (wrong y c x) q e = let z : ◌≡◌ {A = ℕ} 0 1 = cc in absurd (omega arith)
    by (short y) q e = let z : ◌≡◌ {A = ℕ} 0 1 = cc in absurd (omega arith)

-- 4. The controllers ----------------------------------------------------------------------------------------------------------------------------

-- n more controllers after this one: it is found, its index is one that may follow, and the walk goes on behind it
pub record OneMore (v : Version) (n low : ℕ) (slots : Slots) (o : Octets) : Type 0 where
  pub one : Parsed Placed
  pub found : controller_in v o ≡ some one
  pub above : low ≤ one.value.index
  pub below : one.value.index ≤ 3
  pub rest : walk_controllers v (suc n) low slots (goes_on o)
      ≡ walk_controllers v n (suc one.value.index) (set slots one.value.index (some one.value.controller)) (goes_on one.behind)

-- the next controller of a walk that drops nothing
pub next_found : (v : Version) (n low : ℕ) (slots : Slots) (o x : Octets) → Through (walk_controllers v (suc n) low slots (goes_on o)) x → OneMore v n low slots o
unfolding walk_controllers controller_then kept_then also nothing_dropped controller_in placed_in placed_by tables_in index_right fixed_in fixed_by
next_found v n low slots o x h = by (fixed_part v low o) refl h
  where
    tables : Fixed → Octets → Walk (List Table)
    tables c y = walk_tables c.radio.hardware table_rules (goes_on y)

    more : Fixed → Octets → End → Walk Slots
    more c y e = walk_controllers v n (suc c.index) (set slots c.index (some (controller_by c (tables c y).kept))) e

    to : (c : Fixed) (y : Octets) → fixed_part v low o ≡ right c y → (e : End) → (tables c y).end ≡ e → (tables c y).dropped ++ (more c y e).dropped ≡ []
        → (more c y e).end ≡ goes_on x → OneMore v n low slots o
    to c y q (cut i) t d e = let z : ◌≡◌ {A = ℕ} 0 1 = cc (controllers_cut v n (suc c.index) (set slots c.index (some (controller_by c (tables c y).kept))) i, e) in absurd (omega arith)
    to c y q (goes_on r) t d e =
        let m = none_of (tables c y).dropped (more c y (goes_on r)).dropped d in
        let k = fixed_says v low o c y q in
        let i : index_right low c.index ≡ true = rw k.0 k.4 in
        let b = and_true (leb low c.index) _ i in
        record {
          one = record { value = record { index = c.index; controller = controller_by c (tables c y).kept }; behind = r };
          found = rw (fixed_low v low o c y q, through_clean (tables c y) r (record { nothing = m.0; end = t }));
          above = le_of low c.index b.0;
          below = le_of c.index 3 b.1;
          rest = rw (q, m.0, t);
        }

    by : (r : Reading Fixed) → fixed_part v low o ≡ r → Through (controller_then low slots o r (walk_controllers v n)) x → OneMore v n low slots o
    by (right c y) q h = to c y q (tables c y).end refl h.nothing h.end
    by (wrong y c z) q h = let z : ◌≡◌ {A = ℕ} 0 1 = cc h.nothing in absurd (omega arith)
    by (short y) q h = let z : ◌≡◌ {A = ℕ} 0 1 = cc h.end in absurd (omega arith)

-- ONE CONTROLLER MORE of an image of which nothing is dropped
pub one_more : (v : Version) (n low : ℕ) (slots : Slots) (o : Octets) → items (walk_controllers v (suc n) low slots (goes_on o)) ≡ [] → OneMore v n low slots o
one_more v n low slots o e = next_found v n low slots o [] (through (walk_controllers v (suc n) low slots (goes_on o)) e)
