-- E8: the fault that is told of an image is its first one in the order of the file (FirstFault), and nothing that stands before it is at fault.
use Rattle.std.specs.Prelude.{ℕ, zero, suc, ◌+◌, ◌-◌, ◌≤◌, ◌<◌, ◌≡◌, refl, Bool, true, false, List, [], ◌∷◌, ◌++◌, length, take, drop, replicate, set, eqb, leb}
use Rattle.std.proofs.Common.{arith, sym, ap, subst, ◌∙◌, length-drop, take-take, leb-false}
use Rattle.std.proofs.Math.Option.{Option, none, some}
use Rattle.model.specs.Octets.{Octets, number, octet}
use Rattle.model.specs.State.{Hardware, PlainHub, Table}
use Rattle.model.specs.Tables.{TableRule, loaded, table_rules}
use Rattle.model.specs.Image.{Version, name_read, name_right, name_size}
use Rattle.model.specs.Reading.{BadCount, BadField, BadIndex, End, Fault, Fixed, ImageFault, Item, Judged, Reader, Reading, Slots, Walk}
use Rattle.model.specs.Reading.{◌>>=◌, acceptable, also, before, controller_by, controller_then, cut, fault_at, faulty, field, fixed_part, give, go_on}
use Rattle.model.specs.Reading.{goes_on, hub_of, item_at, items, judge, judge_as, judge_items, kept_then, last_item, name_field, not_whole, nothing_dropped}
use Rattle.model.specs.Reading.{NoneBefore, diagnose, fault_in, fixed_by}
use Rattle.model.specs.Reading.{record_fault, right, short, spoilt, table_then, walk, walk_controllers, walk_records, walk_table, walk_tables, wrong}
use Rattle.model.proofs.Model.Fields.{le_of, leb_of}
use Rattle.model.specs.FirstFault.{Finder, controllers_then, count_then, fault_unless, field_then, first_fault, fixed_then, left_over, name_then, records_then}
use Rattle.model.specs.FirstFault.{tables_then, thing, told_of}
use Rattle.model.proofs.Model.Things.{Alike, Under, alike_at, alike_drop, first_ordered, thing_whole}
use Rattle.model.proofs.Model.Tests.{either}

-- 1. What the reading finds: fields -----------------------------------------------------------------------------------------------------------------

-- a thing, before what finds the same
thing_same : (size : Octets → ℕ) (ok : Octets → Option ImageFault) (f g : Octets → Finder) (o : Octets) → ((a x : Octets) → f a x ≡ g a x)
    → thing size ok f o ≡ thing size ok g o
unfolding thing
thing_same size ok f g o h = by (leb (size o) (length o)) (ok (take (size o) o))
  where
    by : (b : Bool) (c : Option ImageFault)
        → ◌≡◌ {A = Option Fault} (elim b [
          | true ↦ elim c [ none ↦ f (take (size o) o) (drop (size o) o) | some k ↦ some (fault_at k o) ]
          | false ↦ some not_whole
        ])
        (elim b [ true ↦ elim c [ none ↦ g (take (size o) o) (drop (size o) o) | some k ↦ some (fault_at k o) ] | false ↦ some not_whole ])
    by true none = h (take (size o) o) (drop (size o) o)
    by true (some k) = refl
    by false c = refl

-- the first fault of fields, and of what is behind them
unfoldable pub after : {A : Type 0} → Reading A → (A → Finder) → Option Fault
after (right a x) next = next a x
after (wrong z a x) next = some z
after (short z) next = some z

-- behind something wrong that stays the first fault
after_spoilt : {A : Type 0} (z : Fault) (r : Reading A) (next : A → Finder) → after (spoilt z r) next ≡ some z
unfolding after spoilt
after_spoilt z (right a x) next = refl
after_spoilt z (wrong y a x) next = refl
after_spoilt z (short y) next = refl

-- one reader, then another
after_on : {A B : Type 0} (r : Reading A) (f : A → Reader B) (next : B → Finder) → after (go_on r f) next ≡ after r (λ a x. after (f a x) next)
unfolding after go_on
after_on (right a x) f next = refl
after_on (wrong z a x) f next = after_spoilt z (f a x) next
after_on (short z) f next = refl

-- a field is a thing
field_thing : (size : Octets → ℕ) (k : ImageFault) (ok : Octets → Bool) (next : Octets → Finder) (o : Octets)
    → after (field (size o) k ok o) next ≡ thing size (λ x. fault_unless k (ok x)) next o
unfolding after field thing fault_unless
field_thing size k ok next o = by (leb (size o) (length o)) (ok (take (size o) o))
  where
    by : (b c : Bool)
        → after (elim b [
          | true ↦ elim c [ true ↦ right (take (size o) o) (drop (size o) o) | false ↦ wrong (fault_at k o) (take (size o) o) (drop (size o) o) ]
          | false ↦ short not_whole
        ]) next
        ≡ elim b [
          | true ↦ elim (fault_unless k c) [ none ↦ next (take (size o) o) (drop (size o) o) | some x ↦ some (fault_at x o) ]
          | false ↦ some not_whole
        ]
    by true true = refl
    by true false = refl
    by false c = refl

-- a field, and what follows
field_finds : {B : Type 0} (n : ℕ) (k : ImageFault) (ok : Octets → Bool) (f : Octets → Reader B) (next : B → Finder) (g : Octets → Finder)
    → ((a x : Octets) → after (f a x) next ≡ g a x) → (o : Octets) → after ((field n k ok >>= f) o) next ≡ field_then n k ok g o
unfolding ◌>>=◌ field_then
field_finds n k ok f next g h o =
    after_on (field n k ok o) f next ∙ field_thing (λ x. n) k ok (λ a x. after (f a x) next) o
    ∙ thing_same (λ x. n) (λ x. fault_unless k (ok x)) (λ a x. after (f a x) next) g o h

-- a name, and what follows
name_finds : {B : Type 0} (v : Version) (room : ℕ) (f : Octets → Reader B) (next : B → Finder) (g : Octets → Finder)
    → ((a x : Octets) → after (f (name_read v room a) x) next ≡ g a x) → (o : Octets) → after ((name_field v room >>= f) o) next ≡ name_then v room g o
unfolding ◌>>=◌ name_field give after name_then
name_finds v room f next g h o =
    after_on (name_field v room o) f next
    ∙ after_on (field (name_size v room o) BadField (name_right v room) o) (λ y. give (name_read v room y)) (λ a y. after (f a y) next)
    ∙ field_thing (name_size v room) BadField (name_right v room) (λ a y. after (f (name_read v room a) y) next) o
    ∙ thing_same (name_size v room) (λ x. fault_unless BadField (name_right v room x)) (λ a y. after (f (name_read v room a) y) next) g o h

-- the fixed part, and what follows
fixed_finds : (v : Version) (low : ℕ) (next : Fixed → Finder) (g : ℕ → Hardware → Finder)
    → ((c : Fixed) (x : Octets) → next c x ≡ g c.index c.radio.hardware x) → (o : Octets) → after (fixed_part v low o) next ≡ fixed_then v low g o
unfolding fixed_part fixed_then give after fixed_by
fixed_finds v low next g h =
    field_finds 1 BadIndex _ _ next _ λ i.
    field_finds 6 BadField _ _ next _ λ a.
    field_finds 1 BadField _ _ next _ λ e.
    field_finds 2 BadField _ _ next _ λ m.
    field_finds 4 BadField _ _ next _ λ s.
    field_finds 4 BadField _ _ next _ λ w.
    field_finds 6 BadField _ _ next _ λ t.
    name_finds v 249 _ next _ λ n.
    name_finds v 11 _ next _ λ k x.
    h _ x

-- 2. What the reading finds: records, tables, controllers ---------------------------------------------------------------------------------------------

-- the first fault of a walk, by its parts, and of what is behind it
unfoldable pub over_by : {A : Type 0} → A → List Item → End → (A → Finder) → Option Fault
over_by a (i ∷ is) e next = some i.fault
over_by a [] (cut i) next = some i.fault
over_by a [] (goes_on o) next = next a o

-- of a walk
unfoldable pub over : {A : Type 0} → Walk A → (A → Finder) → Option Fault
over w next = over_by w.kept w.dropped w.end next

-- a record is a thing
record_thing : (u : TableRule) (f : Hardware) (n : ℕ) (kept : List Octets) (next : List Octets → Finder) (o : Octets)
    → over (walk_records u f (suc n) kept o) next
    ≡ thing (λ x. u.size) (record_fault u f kept) (λ r x. over (walk_records u f n (kept ++ (r ∷ [])) x) next) o
unfolding over over_by walk_records thing also item_at nothing_dropped
record_thing u f n kept next o = by (leb u.size (length o)) (record_fault u f kept r)
  where
    r : Octets
    r = take u.size o

    x : Octets
    x = drop u.size o

    by : (b : Bool) (c : Option ImageFault)
        → over (elim b [
          | true ↦ elim c [
            | none ↦ walk_records u f n (kept ++ (r ∷ [])) x
            | some k ↦ also (item_at o (fault_at k o) ∷ []) (walk_records u f n kept x)
          ]
          | false ↦ nothing_dropped kept (cut (item_at o not_whole))
        ]) next
        ≡ elim b [ true ↦ elim c [ none ↦ over (walk_records u f n (kept ++ (r ∷ [])) x) next | some k ↦ some (fault_at k o) ] | false ↦ some not_whole ]
    by true none = refl
    by true (some k) = refl
    by false c = refl

-- records, and what follows
records_find : (u : TableRule) (f : Hardware) (n : ℕ) (kept : List Octets) (next : List Octets → Finder) (g : Finder)
    → ((rs : List Octets) (x : Octets) → next rs x ≡ g x) → (o : Octets) → over (walk_records u f n kept o) next ≡ records_then u f n kept g o
unfolding over over_by walk_records nothing_dropped records_then
records_find u f zero kept next g h o = h kept o
records_find u f (suc n) kept next g h o =
    record_thing u f n kept next o
    ∙ thing_same (λ x. u.size) (record_fault u f kept) _ _ o (λ r x. records_find u f n (kept ++ (r ∷ [])) next g h x)

-- a table begins with a thing, its count
table_thing : (u : TableRule) (f : Hardware) (next : List Octets → Finder) (o : Octets)
    → over (walk_table u f (goes_on o)) next
    ≡ thing (λ x. 1) (λ x. fault_unless BadCount (leb (octet x 0) 32)) (λ a x. over (walk_records u f (octet a 0) [] x) next) o
unfolding over over_by walk_table thing fault_unless item_at nothing_dropped octet
table_thing u f next [] = refl
table_thing u f next (n ∷ o) =
    by (leb n 32)
    ∙ sym (thing_whole (λ x. 1) (λ x. fault_unless BadCount (leb (octet x 0) 32)) (λ a x. over (walk_records u f (octet a 0) [] x) next) (n ∷ o)
    (leb_of 1 (suc (length o)) (omega arith)))
  where
    by : (b : Bool)
        → over (elim b [ true ↦ walk_records u f n [] o | false ↦ nothing_dropped [] (cut (item_at (n ∷ o) (fault_at BadCount (n ∷ o)))) ]) next
        ≡ elim (fault_unless BadCount b) [ none ↦ over (walk_records u f n [] o) next | some k ↦ some (fault_at k (n ∷ o)) ]
    by true = refl
    by false = refl

-- behind a cut no table is reached
tables_cut : (f : Hardware) (us : List TableRule) (i : Item) → ((walk_tables f us (cut i)).dropped ≡ []) × ((walk_tables f us (cut i)).end ≡ cut i)
unfolding walk_tables table_then before walk_table nothing_dropped
tables_cut f [] i = (refl, refl)
tables_cut f (u ∷ us) i = tables_cut f us i

-- what is kept may be said otherwise
over_as : {A B : Type 0} (g : A → B) (a : A) (d : List Item) (e : End) (next : B → Finder)
    → over_by (g a) d e next ≡ over_by a d e (λ b. next (g b))
unfolding over_by
over_as g a (i ∷ d) e next = refl
over_as g a [] (cut i) next = refl
over_as g a [] (goes_on o) next = refl

-- a table before others
table_then_lem : (f : Hardware) (u : TableRule) (us : List TableRule) (w : Walk (List Octets)) (next : List Table → Finder)
    → over (table_then w (walk_tables f us)) next ≡ over w (λ rs x. over (walk_tables f us (goes_on x)) (λ ts. next (loaded rs ∷ ts)))
unfolding over over_by table_then before
table_then_lem f u us w next = by w.dropped w.end
  where
    by : (d : List Item) (e : End)
        → over_by (loaded w.kept ∷ (walk_tables f us e).kept) (d ++ (walk_tables f us e).dropped) (walk_tables f us e).end next
        ≡ over_by w.kept d e (λ rs x. over (walk_tables f us (goes_on x)) (λ ts. next (loaded rs ∷ ts)))
    by (i ∷ d) e = refl
    by [] (cut i) = let c = tables_cut f us i in rw (c.0, c.1) refl
    by [] (goes_on x) =
        let t = walk_tables f us (goes_on x) in over_as (λ (ts : List Table). loaded w.kept ∷ ts) t.kept t.dropped t.end next

-- tables, and what follows
tables_find : (f : Hardware) (us : List TableRule) (next : List Table → Finder) (g : Finder)
    → ((ts : List Table) (x : Octets) → next ts x ≡ g x) → (o : Octets) → over (walk_tables f us (goes_on o)) next ≡ tables_then f us g o
unfolding over over_by walk_tables nothing_dropped tables_then count_then
tables_find f [] next g h o = h [] o
tables_find f (u ∷ us) next g h o =
    table_then_lem f u us (walk_table u f (goes_on o)) next
    ∙ table_thing u f (λ rs x. over (walk_tables f us (goes_on x)) (λ ts. next (loaded rs ∷ ts))) o
    ∙ thing_same (λ x. 1) (λ x. fault_unless BadCount (leb (octet x 0) 32)) _ _ o
    (λ a x. records_find u f (octet a 0) [] _ (tables_then f us g) (λ rs y. tables_find f us (λ ts. next (loaded rs ∷ ts)) g (λ ts z. h (loaded rs ∷ ts) z) y) x)

-- behind a cut no controller is reached
controllers_cut : (v : Version) (n low : ℕ) (found : Slots) (i : Item)
    → ((walk_controllers v n low found (cut i)).dropped ≡ []) × ((walk_controllers v n low found (cut i)).end ≡ cut i)
unfolding walk_controllers nothing_dropped
controllers_cut v zero low found i = (refl, refl)
controllers_cut v (suc n) low found i = (refl, refl)

-- what follows the fixed part of a controller: its tables, then n controllers more
more_of : Version → ℕ → Slots → (Slots → Finder) → Fixed → Octets → Option Fault
more_of v n found next c x =
    over (walk_tables c.radio.hardware table_rules (goes_on x))
    (λ ts y. over (walk_controllers v n (suc c.index) (set found c.index (some (controller_by c ts))) (goes_on y)) next)

-- a controller that is kept, before others
kept_then_lem : (v : Version) (n : ℕ) (found : Slots) (c : Fixed) (w : Walk (List Table)) (next : Slots → Finder)
    → over (kept_then found c w (walk_controllers v n)) next
    ≡ over w (λ ts y. over (walk_controllers v n (suc c.index) (set found c.index (some (controller_by c ts))) (goes_on y)) next)
unfolding over over_by kept_then also
kept_then_lem v n found c w next = by w.dropped w.end
  where
    more : List Table → End → Walk Slots
    more ts e = walk_controllers v n (suc c.index) (set found c.index (some (controller_by c ts))) e

    by : (d : List Item) (e : End) → over_by (more w.kept e).kept (d ++ (more w.kept e).dropped) (more w.kept e).end next
        ≡ over_by w.kept d e (λ ts y. over (more ts (goes_on y)) next)
    by (i ∷ d) e = refl
    by [] (cut i) = let h = controllers_cut v n (suc c.index) (set found c.index (some (controller_by c w.kept))) i in rw (h.0, h.1) refl
    by [] (goes_on y) = refl

-- a controller, before others
controller_then_lem : (v : Version) (n low : ℕ) (found : Slots) (o : Octets) (r : Reading Fixed) (next : Slots → Finder)
    → over (controller_then low found o r (walk_controllers v n)) next ≡ after r (more_of v n found next)
unfolding controller_then after more_of also nothing_dropped item_at over over_by
controller_then_lem v n low found o (right c x) next = kept_then_lem v n found c (walk_tables c.radio.hardware table_rules (goes_on x)) next
controller_then_lem v n low found o (wrong y c x) next = refl
controller_then_lem v n low found o (short y) next = refl

-- controllers, and what follows
controllers_find : (v : Version) (n low : ℕ) (found : Slots) (next : Slots → Finder) (g : Finder) → ((s : Slots) (x : Octets) → next s x ≡ g x)
    → (o : Octets) → over (walk_controllers v n low found (goes_on o)) next ≡ controllers_then v n low g o
unfolding walk_controllers nothing_dropped over over_by more_of controllers_then
controllers_find v zero low found next g h o = h found o
controllers_find v (suc n) low found next g h o =
    controller_then_lem v n low found o (fixed_part v low o) next
    ∙ fixed_finds v low (more_of v n found next) (λ i f. tables_then f table_rules (controllers_then v n (suc i) g))
    (λ c x. tables_find c.radio.hardware table_rules _ (controllers_then v n (suc c.index) g)
    (λ ts y. controllers_find v n (suc c.index) (set found c.index (some (controller_by c ts))) next g h y) x) o

-- 3. What the reading finds: the whole image ------------------------------------------------------------------------------------------------------------

-- what was judged of n octets tells the first fault
unfoldable Tells : ℕ → Judged → Option Fault → Type 0
Tells n (acceptable p) none = Unit {0}
Tells n (acceptable p) (some z) = ⊥
Tells n (faulty k at) none = ⊥
Tells n (faulty k at) (some z) = (k ≡ z.kind) × (at ≡ n - z.left)

-- by what is dropped of a walk
items_tell : (n : ℕ) (p : PlainHub) (s : Slots) (d : List Item) (e : End) → Tells n (judge_items n p (d ++ last_item e)) (over_by s d e (λ t. left_over))
unfolding Tells judge_items over_by left_over last_item item_at
items_tell n p s (i ∷ d) e = (refl, refl)
items_tell n p s [] (cut i) = (refl, refl)
items_tell n p s [] (goes_on []) = tt
items_tell n p s [] (goes_on (x ∷ o)) = (refl, refl)

-- what is judged of the octets behind the version octet, by the count and its place
abbrev counted : Version → ℕ → Octets → (count at : ℕ) → Judged
counted v n o c at = elim (leb c 4) [ true ↦ judge_items n (hub_of (walk v o)) (items (walk v o)) | false ↦ faulty BadIndex at ]

-- it tells their first fault
count_tells : (v : Version) (n : ℕ) (o : Octets) → Tells n (counted v n o (octet o 0) (n - length o)) (first_fault v o)
unfolding first_fault count_then octet walk items nothing_dropped last_item item_at not_whole fault_at judge_items Tells thing fault_unless over
count_tells v n [] = (refl, refl)
count_tells v n (c ∷ o) =
    rw (thing_whole (λ x. 1) (λ x. fault_unless BadIndex (leb (octet x 0) 4)) (λ x. controllers_then v (octet x 0) 0 left_over) (c ∷ o)
    (leb_of 1 (suc (length o)) (omega arith))) (by (leb c 4))
  where
    w : Walk Slots
    w = walk_controllers v c 0 (replicate 4 none) (goes_on o)

    by : (b : Bool)
        → Tells n (elim b [ true ↦ judge_items n (hub_of w) (items w) | false ↦ faulty BadIndex (n - length (c ∷ o)) ])
        (elim (fault_unless BadIndex b) [ none ↦ controllers_then v c 0 left_over o | some k ↦ some (fault_at k (c ∷ o)) ])
    by true =
        subst (Tells n (judge_items n (hub_of w) (items w))) (controllers_find v c 0 (replicate 4 none) (λ s. left_over) left_over (λ s x. refl) o)
        (items_tell n (hub_of w) w.kept w.dropped w.end)
    by false = (refl, refl)

-- 4. From the head on -------------------------------------------------------------------------------------------------------------------------------

-- the head is right: a version octet, of a version that is taken, and a length field that says the length
record Head (takes : ℕ → Option Version) (v : Version) (o : Octets) : Type 0 where
  long : 5 ≤ length o
  version : takes (octet o 4) ≡ some v
  size : eqb (number 0 (take 4 o)) (length o) ≡ true

-- so it is where a fault is told behind it
head_of : (takes : ℕ → Option Version) (o : Octets) (k : ImageFault) (at : ℕ) → 5 ≤ at → judge takes o ≡ faulty k at → (v : Version) × Head takes v o
unfolding judge judge_as
head_of takes o k at h =
    either {A = Judged} (λ j. j ≡ faulty k at → (v : Version) × Head takes v o) (leb 5 (length o)) (λ l. by (takes (octet o 4)) refl (le_of 5 (length o) l))
    (λ l e. let q : length o ≡ at = cc in absurd (omega (arith, leb-false 5 (length o) l)))
  where
    by : (x : Option Version) → takes (octet o 4) ≡ x → 5 ≤ length o → judge_as o x ≡ faulty k at → (v : Version) × Head takes v o
    by none t l = λ e. let q : ◌≡◌ {A = ℕ} 4 at = cc in absurd (omega arith)
    by (some v) t l =
        either {A = Judged} (λ j. j ≡ faulty k at → (v : Version) × Head takes v o) (eqb (number 0 (take 4 o)) (length o))
        (λ s e. (v, record { long = l; version = t; size = s }))
        (λ s e. let q : ◌≡◌ {A = ℕ} 0 at = cc in absurd (omega arith))

-- an octet among the first ones
octet_take : (k n : ℕ) (o : Octets) → k < n → octet (take n o) k ≡ octet o k
unfolding octet
octet_take k zero o h = absurd (omega arith)
octet_take k (suc n) [] h = refl
octet_take zero (suc n) (x ∷ o) h = refl
octet_take (suc k) (suc n) (x ∷ o) h = octet_take k n o (omega arith)

-- an octet behind others
octet_drop : (k : ℕ) (o : Octets) → octet (drop k o) 0 ≡ octet o k
unfolding octet
octet_drop zero o = refl
octet_drop (suc k) [] = refl
octet_drop (suc k) (x ∷ o) = octet_drop k o

-- what is judged of an image with such a head is its first fault
head_tells : (takes : ℕ → Option Version) (v : Version) (o : Octets) → Head takes v o → Tells (length o) (judge takes o) (first_fault v (drop 5 o))
unfolding judge judge_as
head_tells takes v o h =
    let n : length o - length (drop 5 o) ≡ 5 = omega (arith, length-drop 5 o, h.long) in
    rw (leb_of 5 (length o) h.long, judge, h.version, judge_as, h.size)
    (subst (λ (c : ℕ). Tells (length o) (counted v (length o) (drop 5 o) c 5) (first_fault v (drop 5 o))) (octet_drop 5 o)
    (subst (λ (at : ℕ). Tells (length o) (counted v (length o) (drop 5 o) (octet (drop 5 o) 0) at) (first_fault v (drop 5 o))) n
    (count_tells v (length o) (drop 5 o))))

-- the same octets before a place: the same head
head_same : (takes : ℕ → Option Version) (v : Version) (o q : Octets) (at : ℕ) → 5 ≤ at → length q ≡ length o → take at q ≡ take at o → Head takes v o
    → Head takes v q
head_same takes v o q at h n t e =
    let five : take 5 q ≡ take 5 o = sym (take-take 5 at q h) ∙ ap (λ (x : Octets). take 5 x) t ∙ take-take 5 at o h in
    let four : take 4 q ≡ take 4 o = sym (take-take 4 5 q (omega arith)) ∙ ap (λ (x : Octets). take 4 x) five ∙ take-take 4 5 o (omega arith) in
    let last : octet q 4 ≡ octet o 4 = sym (octet_take 4 5 q (omega arith)) ∙ ap (λ (x : Octets). octet x 4) five ∙ octet_take 4 5 o (omega arith) in
    record { long = rw n e.long; version = rw last e.version; size = rw (four, n) e.size }

-- a fault among octets that five stand before
under_some : (n : ℕ) (z : Fault) → Under n (some z) → (all : ℕ) → n + 5 ≡ all → 5 + z.left ≤ all
unfolding Under
under_some n z u all e = omega arith

-- a fault that is told, with its place
told_first : (n : ℕ) (k : ImageFault) (at : ℕ) (f : Option Fault) → Tells n (faulty k at) f → (z : Fault) × (f ≡ some z) × (at ≡ n - z.left)
unfolding Tells
told_first n k at none t = absurd t
told_first n k at (some z) t = (z, refl, t.1)

-- a fault under a number is none before the place
under_before : (n m at : ℕ) (j : Judged) (f : Option Fault) → at ≤ n - m → Tells n j f → Under m f → NoneBefore at j
unfolding Tells Under NoneBefore
under_before n m at (acceptable p) f h t u = tt
under_before n m at (faulty k x) none h t u = absurd t
under_before n m at (faulty k x) (some z) h t u = omega (arith, t.1)

-- what is told of what was judged, by the first fault
told_is : (n : ℕ) (j : Judged) (f : Option Fault) → Tells n j f → fault_in j ≡ told_of n f
unfolding Tells fault_in told_of
told_is n (acceptable p) none t = refl
told_is n (acceptable p) (some z) t = absurd t
told_is n (faulty k at) none t = absurd t
told_is n (faulty k at) (some z) t = rw (t.0, t.1) refl

-- THE FAULT THAT IS TOLD IS THE FIRST ONE
pub first_told : (takes : ℕ → Option Version) (v : Version) (o : Octets) → 5 ≤ length o → takes (octet o 4) ≡ some v
    → eqb (number 0 (take 4 o)) (length o) ≡ true → diagnose takes o ≡ told_of (length o) (first_fault v (drop 5 o))
unfolding diagnose
first_told takes v o l t s =
    told_is (length o) (judge takes o) (first_fault v (drop 5 o)) (head_tells takes v o (record { long = l; version = t; size = s }))

-- NOTHING BEFORE THE FAULT THAT IS TOLD IS AT FAULT: whatever else stands from there on, no fault is told before that place
pub none_before : (takes : ℕ → Option Version) (o q : Octets) (k : ImageFault) (at : ℕ) → judge takes o ≡ faulty k at → 5 ≤ at → length q ≡ length o
    → take at q ≡ take at o → NoneBefore at (judge takes q)
none_before takes o q k at e h n t =
    let hd = head_of takes o k at h e in
    let v : Version = hd.0 in
    let a = told_first (length o) k at (first_fault v (drop 5 o)) (rw e at (head_tells takes v o hd.1)) in
    by v hd.1 a.0 a.1 a.2
  where
    by : (v : Version) → Head takes v o → (z : Fault) → first_fault v (drop 5 o) ≡ some z → at ≡ length o - z.left → NoneBefore at (judge takes q)
    by v hd z f p =
        let b : Under (length (drop 5 o)) (some z) = subst (Under (length (drop 5 o))) f ((first_ordered v).bounded (drop 5 o)) in
        let l : 5 + z.left ≤ length o = under_some (length (drop 5 o)) z b (length o) (omega (arith, length-drop 5 o, hd.long)) in
        let m : length o - at ≡ z.left = omega arith in
        let w : Alike z.left o q = rw m at (alike_at at o q (omega arith) n t) in
        let u = (first_ordered v).first (drop 5 o) (drop 5 q) z (alike_drop z.left 5 o q w l) f in
        under_before (length q) z.left at (judge takes q) (first_fault v (drop 5 q)) (rw n (omega arith))
        (head_tells takes v q (head_same takes v o q at h n t hd)) u
