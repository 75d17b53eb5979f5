-- An accepted image is written again octet for octet, in its version.
use Rattle.std.specs.Prelude.{ℕ, zero, suc, ◌+◌, ◌-◌, ◌<◌, ◌≤◌, ◌≡◌, refl, true, List, [], ◌∷◌, ◌++◌, map, length, get_or, take, drop, replicate, set, leb, ltb}
use Rattle.std.proofs.Common.{arith, add-zero, add-suc, suc-add, zero-add, ap, ◌∙◌, append_assoc, append-nil, length-append, length-drop, take-append-drop, length-set, drop-cons, get_or-set_other, length-take-le}
use Rattle.std.proofs.Math.Option.{Option, none, some}
use Rattle.model.specs.Octets.{Octets, be32, bytes, joined, number, octet}
use Rattle.model.specs.State.{Controller, Hardware, PlainHub, Table}
use Rattle.model.specs.Tables.{TableRule, loaded, table_rules}
use Rattle.model.specs.Image.{Version, controller_image, controller_images, image_of, table_image, version_octet}
use Rattle.model.specs.Reading.{End, Fixed, Item, Reading, Slots, Walk, also, before, controller_by, controller_then, cut, fixed_part, goes_on, hub_of, index_right, items, kept_then}
use Rattle.model.specs.Reading.{last_item, nothing_dropped, record_fault, right, short, table_then, walk, walk_controllers, walk_records, walk_table, walk_tables, wrong}
use Rattle.model.proofs.Model.Fields.{le_of}
use Rattle.model.proofs.Model.Fixed.{fixed_right}
use Rattle.model.proofs.Model.Load.{Accepted, end_bytes, tables_kept}
use Rattle.model.proofs.Model.Numbers.{be32_again}
use Rattle.model.proofs.Model.Tables.{bytes_drop, bytes_take, entries_loaded}
use Rattle.model.proofs.Model.Tests.{and_true, either, equal, optional}

-- 1. A walk that drops nothing ------------------------------------------------------------------------------------------------------------------

-- a walk that dropped nothing and came to these octets
pub record Through {A : Type 0} (w : Walk A) (x : Octets) : Type 0 where
  pub nothing : w.dropped ≡ []
  pub end : w.end ≡ goes_on x

-- two lists that are nothing together
pub none_of : {A : Type 0} (xs ys : List A) → xs ++ ys ≡ [] → (xs ≡ []) × (ys ≡ [])
none_of [] ys e = (refl, e)
none_of (x ∷ xs) ys e = let z : ◌≡◌ {A = ℕ} 0 1 = cc in absurd (omega arith)

-- no items: nothing was dropped, and nothing is left over
pub through : {A : Type 0} (w : Walk A) → items w ≡ [] → Through w []
unfolding items last_item
through {A} w e =
    let a = none_of w.dropped (last_item w.end) e in
    record { nothing = a.0; end = last w.end a.1 }
  where
    last : (z : End) → last_item z ≡ [] → z ≡ goes_on []
    last (goes_on []) e = refl
    last (goes_on (x ∷ o)) e = let z : ◌≡◌ {A = ℕ} 0 1 = cc in absurd (omega arith)
    last (cut i) e = let z : ◌≡◌ {A = ℕ} 0 1 = cc in absurd (omega arith)

-- octets joined with more at the end
joined_last : (l : List Octets) (a r o : Octets) → a ++ r ≡ o → joined (l ++ (a ∷ [])) ++ r ≡ joined l ++ o
unfolding joined
joined_last [] a r o e = rw (append-nil a, e)
joined_last (b ∷ l) a r o e = rw (append_assoc b (joined (l ++ (a ∷ []))) r, append_assoc b (joined l) o, joined_last l a r o e)

-- 2. Tables -----------------------------------------------------------------------------------------------------------------------------------

-- records after those kept before: all are kept, as they stood
records_again : (u : TableRule) (f : Hardware) (n : ℕ) (kept : List Octets) (o x : Octets) → Through (walk_records u f n kept o) x
    → (joined (walk_records u f n kept o).kept ++ x ≡ joined kept ++ o) × (length (walk_records u f n kept o).kept ≡ length kept + n)
unfolding walk_records nothing_dropped also
records_again u f zero kept o x = λ h. let q : o ≡ x = cc h.end in (rw q, omega arith)
records_again u f (suc n) kept o x =
    either {A = Walk (List Octets)} Again (leb u.size (length o))
    (λ t. optional {B = Walk (List Octets)} Again (record_fault u f kept (take u.size o))
    (λ k h. let g = records_again u f n (kept ++ (take u.size o ∷ [])) (drop u.size o) x h in
    (g.0 ∙ joined_last kept (take u.size o) (drop u.size o) o (take-append-drop u.size o), g.1 ∙ omega (arith, length-append kept (take u.size o ∷ []))))
    (λ k e h. let z : ◌≡◌ {A = ℕ} 0 1 = cc h.nothing in absurd (omega arith)))
    (λ t h. let z : ◌≡◌ {A = ℕ} 0 1 = cc h.end in absurd (omega arith))
  where
    Again : Walk (List Octets) → Type 0
    Again w = Through w x → (joined w.kept ++ x ≡ joined kept ++ o) × (length w.kept ≡ length kept + suc n)

-- the image of a loaded table
table_image_lem : (rs : List Octets) → table_image (loaded rs) ≡ length rs ∷ joined rs
unfolding table_image loaded
table_image_lem rs = rw (entries_loaded rs (32 - length rs))

-- one table
table_again : (u : TableRule) (f : Hardware) (o x : Octets) → Through (walk_table u f (goes_on o)) x → table_image (loaded (walk_table u f (goes_on o)).kept) ++ x ≡ o
unfolding walk_table nothing_dropped joined
table_again u f [] x = λ h. let z : ◌≡◌ {A = ℕ} 0 1 = cc h.end in absurd (omega arith)
table_again u f (n ∷ o) x =
    either {A = Walk (List Octets)} (λ w. Through w x → table_image (loaded w.kept) ++ x ≡ n ∷ o) (leb n 32)
    (λ t h. let g = records_again u f n [] o x h in rw (table_image_lem (walk_records u f n [] o).kept, g.0, g.1, zero-add n))
    (λ t h. let z : ◌≡◌ {A = ℕ} 0 1 = cc h.end in absurd (omega arith))

-- what was cut before the tables is cut behind them
pub tables_cut : (f : Hardware) (us : List TableRule) (i : Item) → (walk_tables f us (cut i)).end ≡ cut i
unfolding walk_tables table_then before walk_table nothing_dropped
tables_cut f [] i = refl
tables_cut f (u ∷ us) i = tables_cut f us i

-- all tables
pub tables_again : (f : Hardware) (us : List TableRule) (o x : Octets) → Through (walk_tables f us (goes_on o)) x → joined (map table_image (walk_tables f us (goes_on o)).kept) ++ x ≡ o
unfolding walk_tables table_then before nothing_dropped joined
tables_again f [] o x h = cc h.end
tables_again f (u ∷ us) o x h = go w.end refl h.nothing h.end (λ y. tables_again f us y x)
  where
    w : Walk (List Octets)
    w = walk_table u f (goes_on o)

    go : (e : End) → w.end ≡ e → w.dropped ++ (walk_tables f us e).dropped ≡ [] → (walk_tables f us e).end ≡ goes_on x
        → ((y : Octets) → Through (walk_tables f us (goes_on y)) x → joined (map table_image (walk_tables f us (goes_on y)).kept) ++ x ≡ y)
        → joined (map table_image (loaded w.kept ∷ (walk_tables f us e).kept)) ++ x ≡ o
    go (goes_on y) q d e ih =
        let n = none_of w.dropped (walk_tables f us (goes_on y)).dropped d in
        rw (append_assoc (table_image (loaded w.kept)) (joined (map table_image (walk_tables f us (goes_on y)).kept)) x, ih y (record { nothing = n.1; end = e }))
        (table_again u f o y (record { nothing = n.0; end = q }))
    go (cut i) q d e ih = let z : ◌≡◌ {A = ℕ} 0 1 = cc (tables_cut f us i, e) in absurd (omega arith)

-- 3. The indexes ------------------------------------------------------------------------------------------------------------------------------------

-- indexes that are all absent have no images
images_none : (v : Version) (k : ℕ) (l : Slots) → ((j : ℕ) → get_or {A = Option Controller} l j none ≡ none) → controller_images v k l ≡ []
unfolding controller_images
images_none v k [] h = refl
images_none v k (none ∷ l) h = images_none v (suc k) l (λ j. h (suc j))
images_none v k (some c ∷ l) h = let e : ◌≡◌ {A = Option Controller} (some c) none = h 0 in let z : ◌≡◌ {A = ℕ} 0 1 = cc in absurd (omega arith)

-- a controller put after all others adds its image at the end
pub images_set : (v : Version) (k i : ℕ) (l : Slots) (c : Controller) → i < length l → ((j : ℕ) → i ≤ j → get_or {A = Option Controller} l j none ≡ none)
    → controller_images v k (set l i (some c)) ≡ controller_images v k l ++ (controller_image v (k + i) c ∷ [])
unfolding controller_images
images_set v k i [] c n h = absurd (omega arith)
images_set v k zero (none ∷ l) c n h = let e : controller_images v (suc k) l ≡ [] = images_none v (suc k) l (λ j. h (suc j) (omega arith)) in rw (e, add-zero)
images_set v k zero (some d ∷ l) c n h = let e : ◌≡◌ {A = Option Controller} (some d) none = h 0 (omega arith) in let z : ◌≡◌ {A = ℕ} 0 1 = cc in absurd (omega arith)
images_set v k (suc i) (none ∷ l) c n h = rw (images_set v (suc k) i l c (omega arith) (λ j g. h (suc j) (omega arith)), suc-add, add-suc)
images_set v k (suc i) (some d ∷ l) c n h = rw (images_set v (suc k) i l c (omega arith) (λ j g. h (suc j) (omega arith)), suc-add, add-suc)

-- indexes that are absent from a place on are absent past one that is set there or later
pub free_set : (l : Slots) (i low : ℕ) (s : Option Controller) → low ≤ i → ((j : ℕ) → low ≤ j → get_or {A = Option Controller} l j none ≡ none) → (j : ℕ) → suc i ≤ j
    → get_or {A = Option Controller} (set l i s) j none ≡ none
free_set l i low s n h j g = get_or-set_other l i j s none (λ e. omega arith) ∙ h j (omega arith)

-- what was cut before the controllers is cut behind them
pub controllers_cut : (v : Version) (n low : ℕ) (found : Slots) (i : Item) → (walk_controllers v n low found (cut i)).end ≡ cut i
unfolding walk_controllers nothing_dropped
controllers_cut v zero low found i = refl
controllers_cut v (suc n) low found i = refl

-- n controllers, after those that stood there, are written as the octets that they were read from, and are n; their indexes are below 4
record Again (v : Version) (n low : ℕ) (found : Slots) (o x : Octets) (s : Slots) : Type 0 where
  octets : joined (controller_images v 0 s) ++ x ≡ joined (controller_images v 0 found) ++ o
  count : length (controller_images v 0 s) ≡ length (controller_images v 0 found) + n
  few : n + low ≤ 4

-- a controller that is kept, and those behind it
kept_again : (v : Version) (n low : ℕ) (found : Slots) (o y x : Octets) (c : Fixed) → bytes o ≡ true → length found ≡ 4 → low ≤ 4 → ((j : ℕ) → low ≤ j → get_or {A = Option Controller} found j none ≡ none)
    → fixed_part v low o ≡ right c y
    → ((low : ℕ) (found : Slots) (o : Octets) → bytes o ≡ true → length found ≡ 4 → low ≤ 4 → ((j : ℕ) → low ≤ j → get_or {A = Option Controller} found j none ≡ none)
    → Through (walk_controllers v n low found (goes_on o)) x → Again v n low found o x (walk_controllers v n low found (goes_on o)).kept)
    → Through (kept_then found c (walk_tables c.radio.hardware table_rules (goes_on y)) (walk_controllers v n)) x
    → Again v (suc n) low found o x (kept_then found c (walk_tables c.radio.hardware table_rules (goes_on y)) (walk_controllers v n)).kept
unfolding kept_then also index_right end_bytes
kept_again v n low found o y x c w four le free e ih h = go ws.end refl h.nothing h.end
  where
    ws : Walk (List Table)
    ws = walk_tables c.radio.hardware table_rules (goes_on y)

    s : Option Controller
    s = some (controller_by c ws.kept)

    more : End → Walk Slots
    more z = walk_controllers v n (suc c.index) (set found c.index s) z

    go : (z : End) → ws.end ≡ z → ws.dropped ++ (more z).dropped ≡ [] → (more z).end ≡ goes_on x → Again v (suc n) low found o x (more z).kept
    go (cut i) q d e = let z : ◌≡◌ {A = ℕ} 0 1 = cc (controllers_cut v n (suc c.index) (set found c.index s) i, e) in absurd (omega arith)
    go (goes_on r) q d t =
        let f = fixed_right v low o c y w e in
        let i = and_true (leb low c.index) _ f.index in
        let lo : low ≤ c.index = le_of low c.index i.0 in
        let hi : c.index ≤ 3 = le_of c.index 3 i.1 in
        let n2 = none_of ws.dropped (more (goes_on r)).dropped d in
        let im : controller_image v c.index (controller_by c ws.kept) ++ r ≡ o = f.again ws.kept r (tables_again c.radio.hardware table_rules y r (record { nothing = n2.0; end = q })) in
        let is : controller_images v 0 (set found c.index s) ≡ controller_images v 0 found ++ (controller_image v c.index (controller_by c ws.kept) ∷ []) =
        rw (zero-add c.index) at (images_set v 0 c.index found (controller_by c ws.kept) (omega arith) (λ j g. free j (omega arith))) in
        let b : bytes r ≡ true = rw q at (tables_kept c.radio.hardware table_rules (goes_on y) f.behind).1 in
        let g = ih (suc c.index) (set found c.index s) r b (length-set found c.index s ∙ four) (omega arith) (free_set found c.index low s lo free) (record { nothing = n2.1; end = t }) in
        record {
          octets = g.octets ∙ rw is (joined_last (controller_images v 0 found) (controller_image v c.index (controller_by c ws.kept)) r o im);
          count = g.count ∙ rw is (rw (length-append (controller_images v 0 found) (controller_image v c.index (controller_by c ws.kept) ∷ [])) (omega arith));
          few = omega (arith, g.few);
        }

-- all controllers
controllers_again : (v : Version) (n low : ℕ) (found : Slots) (o x : Octets) → bytes o ≡ true → length found ≡ 4 → low ≤ 4 → ((j : ℕ) → low ≤ j → get_or {A = Option Controller} found j none ≡ none)
    → Through (walk_controllers v n low found (goes_on o)) x → Again v n low found o x (walk_controllers v n low found (goes_on o)).kept
unfolding walk_controllers controller_then also nothing_dropped
controllers_again v zero low found o x w four le free h = let q : o ≡ x = cc h.end in record { octets = rw q; count = omega arith; few = omega arith }
controllers_again v (suc n) low found o x w four le free h = go (fixed_part v low o) refl h (λ l f p. controllers_again v n l f p x)
  where
    go : (r : Reading Fixed) → fixed_part v low o ≡ r → Through (controller_then low found o r (walk_controllers v n)) x
        → ((low : ℕ) (found : Slots) (o : Octets) → bytes o ≡ true → length found ≡ 4 → low ≤ 4 → ((j : ℕ) → low ≤ j → get_or {A = Option Controller} found j none ≡ none)
        → Through (walk_controllers v n low found (goes_on o)) x → Again v n low found o x (walk_controllers v n low found (goes_on o)).kept)
        → Again v (suc n) low found o x (controller_then low found o r (walk_controllers v n)).kept
    go (right c y) q h ih = kept_again v n low found o y x c w four le free q ih h
    go (wrong z c y) q h ih = let z : ◌≡◌ {A = ℕ} 0 1 = cc h.nothing in absurd (omega arith)
    go (short z) q h ih = let z : ◌≡◌ {A = ℕ} 0 1 = cc h.end in absurd (omega arith)

-- 4. The whole --------------------------------------------------------------------------------------------------------------------------------------

-- indexes that are all absent hold nothing at any place
pub get_d_nones : (n j : ℕ) → get_or {A = Option Controller} (replicate n none) j none ≡ none
get_d_nones zero j = refl
get_d_nones (suc n) zero = refl
get_d_nones (suc n) (suc j) = get_d_nones n j

-- the octets behind the version: the count and the images of the controllers; there are at most four
pub walk_again : (v : Version) (o : Octets) → bytes o ≡ true → Through (walk v o) [] → (length (controller_images v 0 (walk v o).kept) ∷ joined (controller_images v 0 (walk v o).kept) ≡ o) × (octet o 0 ≤ 4)
unfolding walk nothing_dropped octet bytes controller_images joined
walk_again v [] w h = let z : ◌≡◌ {A = ℕ} 0 1 = cc h.end in absurd (omega arith)
walk_again v (n ∷ o) w h =
    let g = controllers_again v n 0 (replicate 4 none) o [] (and_true (ltb n 256) _ w).1 refl (omega arith) (λ j _. get_d_nones 4 j) h in
    (rw (g.count, zero-add n, ← append-nil (joined (controller_images v 0 (walk_controllers v n 0 (replicate 4 none) (goes_on o)).kept)), g.octets), omega (arith, g.few))

-- an image by its length, its version and what is behind
image_again : (o : Octets) (version n : ℕ) (body : Octets) → bytes o ≡ true → 5 ≤ length o → number 0 (take 4 o) ≡ length o → octet o 4 ≡ version → n ∷ body ≡ drop 5 o
    → be32 (6 + length body) ++ (version ∷ n ∷ body) ≡ o
unfolding octet
image_again o version n body w l size ev e =
    let k : suc (length body) ≡ length o - 5 = ap {B = ℕ} length e ∙ length-drop 5 o in
    let m : 6 + length body ≡ number 0 (take 4 o) = omega arith in
    let h : 4 < length o = omega arith in
    rw (m, be32_again (take 4 o) (bytes_take 4 o w) (length-take-le 4 o (omega arith)), e, ← ev, ← drop-cons o 4 0 h) (take-append-drop 4 o)

-- AN ACCEPTED IMAGE IS WRITTEN AGAIN, octet for octet, in its version
pub written_again : (v : Version) (o : Octets) (p : PlainHub) → bytes o ≡ true → Accepted v o p → image_of v p ≡ o
unfolding image_of hub_of octet
written_again v o p w h =
    let a = walk_again v (drop 5 o) (bytes_drop 5 o w) (through (walk v (drop 5 o)) h.whole) in
    rw (← h.hub) (image_again o (version_octet v) _ _ w (le_of 5 (length o) h.long) (equal _ _ h.size) h.version a.0)
