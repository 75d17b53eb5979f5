-- What a walk comes to, one table and one controller after the other: what is left to be walked gives what the whole gives.
use Rattle.std.specs.Prelude.{Result, Ok, Err}
use Prim.Native.Nat.{ℕ, zero, suc, ◌+◌, ◌-◌, ◌≤◌, ◌<◌}
use native.Mathlib.Omega.{arith}
use native.Mathlib.Numerals.{add-one}
use mathlib.Core.Path.{◌≡◌, refl, sym, ap, ◌∙◌}
use mathlib.Core.Bool.{true}
use mathlib.Core.List.{List, [], ◌∷◌, ◌++◌}
use mathlib.Core.Option.{none, some}
use lib.ListN.{length, drop, get_or, replicate, set, length-drop}
use lib.Seq.{drop-cons, drop-drop}
use lib.Dec.{leb}
use Rattle.model.specs.declared.Hardware.{Hardware}
use Rattle.model.specs.declared.ImageFault.{ImageFault}
use Rattle.model.specs.declared.Version.{Version}
use Rattle.model.specs.Octets.{Octets, number, octet}
use Rattle.model.specs.State.{Table}
use Rattle.model.specs.Tables.{TableRule, rule_at, table_rules, uuid_rule}
use Rattle.model.specs.Reading.{End, Fixed, Item, Reading, Slots, Walk, also, before, controller_by, controller_then, cut, fixed_by, fixed_part, goes_on}
use Rattle.model.specs.Reading.{hardware_by, index_right, item_at, kept_then, nothing_dropped, right, short, table_then, walk, walk_controllers, walk_table, walk_tables, wrong}
use Rattle.model.proofs.Model.Fields.{le_of}
use Rattle.model.proofs.Model.Tests.{and_true}
use Rattle.octets.specs.Parts.{part}
use Rattle.fields.specs.declared.FaultAt.{FaultAt}
use Rattle.fields.specs.Places.{fixed_in, hardware_in}
use Rattle.fields.specs.Reads.{Begins, Reads, fault_of}
use Rattle.fields.proofs.Places.{at_first}
use Rattle.fields.proofs.Says.{fixed_says}
use Rattle.reading.specs.Comes.{Comes, Continues, first_fault}

-- 1. Tables ---------------------------------------------------------------------------------------------------------------------------------

-- there is no fault where nothing was dropped and the walk goes on
no_fault : {P : Type 0} (image o : Octets) (k : ImageFault) (at : ℕ) → Begins image (first_fault [] (goes_on o)) k at → P
unfolding first_fault
no_fault image o k at b = let z : ◌≡◌ {A = ℕ} 0 1 = cc b.1 in absurd (omega arith)

-- a table that is right leaves the others to be walked from where it ends
pub tables_next : (image : Octets) (f : Hardware) (u : TableRule) (us : List TableRule) (p q : ℕ)
    → Comes image (walk_table u f (goes_on (drop p image))) (Ok q) → (r : Result ℕ FaultAt) → Comes image (walk_tables f us (goes_on (drop q image))) r
    → Comes image (walk_tables f (u ∷ us) (goes_on (drop p image))) r
unfolding walk_tables table_then before
tables_next image f u us p q h (Ok x) g = rw (h.1, h.2) g
tables_next image f u us p q h (Err x) g = rw (h.1, h.2) g

-- tables that are not reached change nothing: the walk has ended before them
tables_cut : (f : Hardware) (us : List TableRule) (i : Item) → ((walk_tables f us (cut i)).dropped ≡ []) × ((walk_tables f us (cut i)).end ≡ cut i)
unfolding walk_tables table_then before walk_table nothing_dropped
tables_cut f [] i = (refl, refl)
tables_cut f (u ∷ us) i = tables_cut f us i

-- a fault in the first part of a walk is that of the whole, where a walk that has ended goes no further
fault_first : {A : Type 0} (image : Octets) (k : ImageFault) (at : ℕ) (more : End → Walk A)
    → ((i : Item) → ((more (cut i)).dropped ≡ []) × ((more (cut i)).end ≡ cut i)) → (d : List Item) (x : End) → Begins image (first_fault d x) k at
    → Begins image (first_fault (d ++ (more x).dropped) (more x).end) k at
unfolding first_fault
fault_first image k at more h (i ∷ is) x b = b
fault_first image k at more h [] (cut i) b = let c = h i in rw (c.0, c.1) b
fault_first image k at more h [] (goes_on o) b = no_fault image o k at b

-- a table that has a fault gives it to the whole
pub tables_fault : (image : Octets) (f : Hardware) (u : TableRule) (us : List TableRule) (e : End) (x : FaultAt)
    → Comes image (walk_table u f e) (Err x) → Comes image (walk_tables f (u ∷ us) e) (Err x)
unfolding walk_tables table_then before
tables_fault image f u us e x =
    fault_first image x.fault x.at (walk_tables f us) (tables_cut f us) (walk_table u f e).dropped (walk_table u f e).end

-- the rules from table k on
pub rules_from : (k : ℕ) → k < 6 → drop k table_rules ≡ rule_at k ∷ drop (k + 1) table_rules
unfolding rule_at table_rules
rules_from k h = rw add-one (drop-cons table_rules k uuid_rule h)

-- what the tables from table k and a place on give is what all tables give
abbrev pub Left : Octets → (place supported p k : ℕ) → Type 0
Left image place supported p k = (f : Hardware) → f.supported ≡ supported → (r : Result ℕ FaultAt)
    → Comes image (walk_tables f (drop k table_rules) (goes_on (drop p image))) r → Comes image (walk_tables f table_rules (goes_on (drop place image))) r

-- at first all are left
pub left_first : (image : Octets) (place supported : ℕ) → Left image place supported place 0
left_first image place supported f e r g = g

-- what is told of table k at a place
abbrev pub TableAt : Octets → (supported p k : ℕ) → Result ℕ FaultAt → Type 0
TableAt image supported p k r = (f : Hardware) → f.supported ≡ supported → Comes image (walk_table (rule_at k) f (goes_on (drop p image))) r

-- one table is right: the place behind it lies in the image, and the other tables are left
pub left_next : (image : Octets) (place supported p k q : ℕ) → k < 6 → Left image place supported p k → TableAt image supported p k (Ok q)
    → (q ≤ length image) × Left image place supported q (k + 1)
left_next image place supported p k q h left t =
    let any : Hardware = record { public_address = []; version = 0; manufacturer = 0; supported = supported } in (
      (t any refl).0,
      λ f e r g. left f e r (rw (rules_from k h) (tables_next image f (rule_at k) (drop (k + 1) table_rules) p q (t f e) r g)),
    )

-- one table has a fault
pub left_fault : (image : Octets) (place supported p k : ℕ) (x : FaultAt) → k < 6 → Left image place supported p k
    → TableAt image supported p k (Err x)
    → (f : Hardware) → f.supported ≡ supported → Comes image (walk_tables f table_rules (goes_on (drop place image))) (Err x)
left_fault image place supported p k x h left t f e =
    left f e (Err x) (rw (rules_from k h) (tables_fault image f (rule_at k) (drop (k + 1) table_rules) (goes_on (drop p image)) x (t f e)))

-- none is left
pub left_none : (image : Octets) (place supported p k : ℕ) → k ≡ 6 → p ≤ length image → Left image place supported p k
    → (f : Hardware) → f.supported ≡ supported → Comes image (walk_tables f table_rules (goes_on (drop place image))) (Ok p)
unfolding walk_tables nothing_dropped table_rules
left_none image place supported p k n le left f e = left f e (Ok p) (rw n (le, refl, refl))

-- 2. One controller ------------------------------------------------------------------------------------------------------------------------------------

-- a fixed part at a place that was right: it lies in the image, and its index and its supported settings stand where they do
record FixedAt (image : Octets) (at : ℕ) (c : Fixed) : Type 0 where
  within : at + 24 ≤ length image
  index : c.index ≡ octet image at
  most : octet image at ≤ 3
  supported : number 0 (part image (at + 10) 4) ≡ c.radio.hardware.supported

-- by the law of such a fixed part
fixed_at : (image : Octets) (v : Version) (low at : ℕ) (c : Fixed) (x : Octets) → at ≤ length image → fixed_part v low (drop at image) ≡ right c x
    → FixedAt image at c
unfolding fixed_in fixed_by hardware_in hardware_by part index_right octet
fixed_at image v low at c x le e =
    let h = fixed_says v low (drop at image) c x e in
    let i : index_right low (octet (drop at image) 0) ≡ true = h.4 in
    let t = and_true (leb low (octet (drop at image) 0)) _ i in
    let n : octet (drop at image) 0 ≡ octet image at = at_first image at in
    record {
      within = omega (arith, h.2, h.3, length-drop at image);
      index = ap (λ (d : Fixed). d.index) h.0 ∙ n;
      most = omega (arith, le_of (octet (drop at image) 0) 3 t.1);
      supported = rw (h.0, drop-drop 10 at image);
    }

-- controllers that are not reached change nothing
controllers_cut : (v : Version) (n low : ℕ) (found : Slots) (i : Item)
    → ((walk_controllers v n low found (cut i)).dropped ≡ []) × ((walk_controllers v n low found (cut i)).end ≡ cut i)
unfolding walk_controllers nothing_dropped
controllers_cut v zero low found i = (refl, refl)
controllers_cut v (suc n) low found i = (refl, refl)

-- a controller whose fixed part is right, by what its tables come to
controller_tables : (image : Octets) (v : Version) (low at p : ℕ) (c : Fixed) → at ≤ length image → fixed_part v low (drop at image) ≡ right c (drop p image)
    → (r : Result ℕ FaultAt) → Comes image (walk_tables c.radio.hardware table_rules (goes_on (drop p image))) r → Continues image v low at r
unfolding walk_controllers controller_then kept_then also
controller_tables image v low at p c le e (Ok q) g =
    let h = fixed_at image v low at c (drop p image) le e in
    let w : Walk (List Table) = walk_tables c.radio.hardware table_rules (goes_on (drop p image)) in
    (g.0, omega (arith, h.within), h.most, controller_by c w.kept, λ n found. rw (e, controller_then, g.1, g.2, h.index))
controller_tables image v low at p c le e (Err x) g = λ n found.
    let w : Walk (List Table) = walk_tables c.radio.hardware table_rules (goes_on (drop p image)) in
    let put : Slots = set found c.index (some (controller_by c w.kept)) in
    rw (e, controller_then) (fault_first image x.fault x.at (walk_controllers v n (suc c.index) put) (controllers_cut v n (suc c.index) put) w.dropped w.end g)

-- the same, with the tables read for the supported settings that stand in the image
pub controller_by_lem : (image : Octets) (v : Version) (low at p : ℕ) → at ≤ length image → Reads image (fixed_part v low (drop at image)) (Ok p) → (r : Result ℕ FaultAt)
    → ((f : Hardware) → f.supported ≡ number 0 (part image (at + 10) 4) → Comes image (walk_tables f table_rules (goes_on (drop p image))) r)
    → Continues image v low at r
controller_by_lem image v low at p le (l, c, e) r t =
    controller_tables image v low at p c le e r (t c.radio.hardware (sym (fixed_at image v low at c (drop p image) le e).supported))

-- such a fixed part lies in the image
pub fixed_within : (image : Octets) (v : Version) (low at p : ℕ) → at ≤ length image → Reads image (fixed_part v low (drop at image)) (Ok p)
    → (at + 24 ≤ length image) × (p ≤ length image)
fixed_within image v low at p le (l, c, e) = ((fixed_at image v low at c (drop p image) le e).within, l)

-- a controller whose fixed part has a fault
pub controller_fault : (image : Octets) (v : Version) (low at : ℕ) (x : FaultAt) → Reads image (fixed_part v low (drop at image)) (Err x)
    → Continues image v low at (Err x)
unfolding walk_controllers controller_then also nothing_dropped item_at first_fault fault_of
controller_fault image v low at x b = λ n found. by n found (fixed_part v low (drop at image)) b
  where
    by : (n : ℕ) (found : Slots) (r : Reading Fixed) → Begins image (fault_of r) x.fault x.at
        → Comes image (controller_then low found (drop at image) r (walk_controllers v n)) (Err x)
    by n found (right c y) b = let z : ◌≡◌ {A = ℕ} 0 1 = cc b.1 in absurd (omega arith)
    by n found (wrong y c z) b = b
    by n found (short y) b = b

-- 3. The controllers -------------------------------------------------------------------------------------------------------------------------------------

-- how far the walk of the controllers has come: so many are left, of indexes from `low` on, and lie from a place on
abbrev pub Onward : Octets → Version → (left low at : ℕ) → Type 0
Onward image v left low at =
    (at ≤ length image) × (low ≤ 4) × (found : Slots) × (walk v (drop 5 image) ≡ walk_controllers v left low found (goes_on (drop at image)))

-- at first all are left
pub onward_first : (image : Octets) (v : Version) → 6 ≤ length image → Onward image v (get_or image 5 0) 0 6
unfolding walk
onward_first image v h = (h, omega arith, replicate 4 none, rw (drop-cons image 5 0 (omega arith)))

-- one controller is right
pub onward_next : (image : Octets) (v : Version) (left low at p : ℕ) → 0 < left → Onward image v left low at → Continues image v low at (Ok p)
    → Onward image v (left - 1) (get_or image at 0 + 1) p
unfolding octet
onward_next image v left low at p h (a, b, found, e) (le, lt, m, c, g) =
    let n : left ≡ suc (left - 1) = omega arith in
    let q : walk v (drop 5 image) ≡ walk_controllers v (suc (left - 1)) low found (goes_on (drop at image)) = rw n at e in
    (le, omega arith, set found (get_or image at 0) (some c), rw add-one (q ∙ g (left - 1) found))

-- one controller has a fault
pub onward_fault : (image : Octets) (v : Version) (left low at : ℕ) (x : FaultAt) → 0 < left → Onward image v left low at
    → Continues image v low at (Err x) → Comes image (walk v (drop 5 image)) (Err x)
onward_fault image v left low at x h (a, b, found, e) g =
    let n : left ≡ suc (left - 1) = omega arith in
    let q : walk v (drop 5 image) ≡ walk_controllers v (suc (left - 1)) low found (goes_on (drop at image)) = rw n at e in
    rw q (g (left - 1) found)

-- none is left
pub onward_none : (image : Octets) (v : Version) (left low at : ℕ) → left ≡ 0 → Onward image v left low at → Comes image (walk v (drop 5 image)) (Ok at)
unfolding walk_controllers nothing_dropped
onward_none image v left low at z (a, b, found, e) = let q = rw z at e in rw q (a, refl, refl)
