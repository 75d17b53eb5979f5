-- How far a walk comes at most: 255 controllers, each with a fixed part of at most 536 octets and six tables of at most 32 records. So it ends before octet
-- 2^21 of the input, however long that is, and every offset fits four octets.
use Prim.Native.Nat.{ℕ, zero, suc, ◌+◌, ◌-◌, ◌*◌, ◌^◌, ◌≤◌, ◌<◌}
use native.Mathlib.Omega.{arith}
use mathlib.Core.Path.{◌≡◌}
use mathlib.Core.Bool.{Bool, true}
use mathlib.Core.List.{List, [], ◌∷◌, ◌++◌}
use mathlib.Core.Option.{none}
use lib.ListN.{length, take, drop, replicate, length-drop}
use lib.Dec.{leb, ltb, ltb→lt}
use Rattle.model.specs.declared.Hardware.{Hardware}
use Rattle.model.specs.declared.ImageFault.{ImageFault}
use Rattle.model.specs.declared.ImageFault.TheVariants.{BadField, BadIndex}
use Rattle.model.specs.declared.Version.{Version}
use Rattle.model.specs.declared.Version.TheVariants.{One, Two}
use Rattle.model.specs.Octets.{Octets, bytes, octet}
use Rattle.model.specs.Tables.{TableRule, table_rules}
use Rattle.model.specs.Image.{name_read, name_right, name_size}
use Rattle.model.specs.Reading.{◌>>=◌, End, Fixed, Reader, Reading, Slots, Walk, also, before, controller_then, cut, field, fixed_part, give, go_on, goes_on, item_at}
use Rattle.model.specs.Reading.{kept_then, name_field, nothing_dropped, record_fault, right, short, spoilt, table_then, walk, walk_controllers, walk_records, walk_table}
use Rattle.model.specs.Reading.{walk_tables, wrong}
use Rattle.model.proofs.Model.Fields.{le_of}
use Rattle.model.proofs.Model.Load.{end_bytes, tables_kept}
use Rattle.model.proofs.Model.Tables.{bytes_drop}
use Rattle.model.proofs.Model.Tests.{and_true, either, optional}
use Rattle.salvage.proofs.Dropped.{AllSized, all_sized, left_of}

-- 1. Fields -------------------------------------------------------------------------------------------------------------------------------------

-- what is behind fields that were whole is octets, and at most k octets shorter
unfoldable pub Takes : {A : Type 0} → ℕ → Octets → Reading A → Type 0
Takes k o (right a x) = (bytes x ≡ true) × (length o ≤ k + length x)
Takes k o (wrong y a x) = (bytes x ≡ true) × (length o ≤ k + length x)
Takes k o (short y) = Unit {0}

-- of two readings, one after the other
takes_on : {A B : Type 0} (j k : ℕ) (o : Octets) (r : Reading A) (f : A → Reader B) → Takes j o r → ((a : A) (x : Octets) → bytes x ≡ true → Takes k x (f a x))
    → Takes (j + k) o (go_on r f)
unfolding Takes go_on spoilt
takes_on {B = B} j k o (right a x) f h g = on (f a x) (g a x h.0)
  where
    on : (r : Reading B) → Takes k x r → Takes (j + k) o r
    on (right b y) l = (l.0, omega (arith, h.1, l.1))
    on (wrong z b y) l = (l.0, omega (arith, h.1, l.1))
    on (short z) l = tt
takes_on {B = B} j k o (wrong z a x) f h g = on (f a x) (g a x h.0)
  where
    on : (r : Reading B) → Takes k x r → Takes (j + k) o (spoilt z r)
    on (right b y) l = (l.0, omega (arith, h.1, l.1))
    on (wrong z b y) l = (l.0, omega (arith, h.1, l.1))
    on (short z) l = tt
takes_on {B = B} j k o (short z) f h g = tt

-- of a field of at most k octets
field_takes : (k n : ℕ) (x : ImageFault) (ok : Octets → Bool) (o : Octets) → n ≤ k → bytes o ≡ true → Takes k o (field n x ok o)
unfolding field Takes
field_takes k n x ok o m w =
    let d : length (drop n o) ≡ length o - n = length-drop n o in
    let b : (bytes (drop n o) ≡ true) × (length o ≤ k + length (drop n o)) = (bytes_drop n o w, omega arith) in
    either {A = Reading Octets} (Takes k o) (leb n (length o)) (λ t. either {A = Reading Octets} (Takes k o) (ok (take n o)) (λ _. b) (λ _. b)) (λ t. tt)

-- of a field and what follows
then_takes : {B : Type 0} (j n : ℕ) (k : ImageFault) (ok : Octets → Bool) (f : Octets → Reader B) → ((a x : Octets) → bytes x ≡ true → Takes j x (f a x))
    → (o : Octets) → bytes o ≡ true → Takes (n + j) o ((field n k ok >>= f) o)
unfolding ◌>>=◌
then_takes j n k ok f h o w = takes_on n j o (field n k ok o) f (field_takes n n k ok o (omega arith) w) h

-- where nothing more is read
give_takes : {A : Type 0} (a : A) (o : Octets) → bytes o ≡ true → Takes 0 o (give a o)
unfolding Takes give
give_takes a o w = (w, omega arith)

-- a name has at most 256 octets, with its length octet in version 2
size_most : (v : Version) (room : ℕ) (o : Octets) → room ≤ 256 → bytes o ≡ true → name_size v room o ≤ 256
unfolding name_size octet bytes
size_most One room o m w = m
size_most Two room [] m w = omega arith
size_most Two room (x ∷ o) m w = omega (arith, ltb→lt x 256 (rw (and_true (ltb x 256) _ w).0 tt))

-- of a name and what follows
name_takes : {B : Type 0} (j : ℕ) (v : Version) (room : ℕ) (f : Octets → Reader B) → room ≤ 256 → ((a x : Octets) → bytes x ≡ true → Takes j x (f a x))
    → (o : Octets) → bytes o ≡ true → Takes (256 + 0 + j) o ((name_field v room >>= f) o)
unfolding ◌>>=◌ name_field
name_takes j v room f m h o w =
    let s : ℕ = name_size v room o in
    takes_on (256 + 0) j o (name_field v room o) f
    (takes_on 256 0 o (field s BadField (name_right v room) o) (λ x. give (name_read v room x)) (field_takes 256 s BadField (name_right v room) o (size_most v room o m w) w)
    (λ a. give_takes (name_read v room a))) h

-- a fixed part has at most 536 octets
fixed_takes : (v : Version) (low : ℕ) (o : Octets) → bytes o ≡ true → Takes 536 o (fixed_part v low o)
unfolding fixed_part
fixed_takes v low =
    then_takes 535 1 BadIndex _ _ λ i.
    then_takes 529 6 BadField _ _ λ a.
    then_takes 528 1 BadField _ _ λ e.
    then_takes 526 2 BadField _ _ λ m.
    then_takes 522 4 BadField _ _ λ s.
    then_takes 518 4 BadField _ _ λ g.
    then_takes 512 6 BadField _ _ λ t.
    name_takes 256 v 249 _ (omega arith) λ n.
    name_takes 0 v 11 _ (omega arith) λ k.
    give_takes _

-- 2. Tables and controllers -----------------------------------------------------------------------------------------------------------------------

-- n records of at most 36 octets
records_far : (u : TableRule) (f : Hardware) (n : ℕ) (kept : List Octets) (o : Octets) → u.size ≤ 36 → length o ≤ 36 * n + left_of (walk_records u f n kept o).end
unfolding walk_records nothing_dropped also item_at left_of
records_far u f zero kept o s = omega arith
records_far u f (suc n) kept o s =
    either {A = Walk (List Octets)} (λ w. length o ≤ 36 * suc n + left_of w.end) (leb u.size (length o))
    (λ t. let d : length (drop u.size o) ≡ length o - u.size = length-drop u.size o in
    optional {B = Walk (List Octets)} (λ w. length o ≤ 36 * suc n + left_of w.end) (record_fault u f kept (take u.size o))
    (λ _. omega (arith, records_far u f n (kept ++ (take u.size o ∷ [])) (drop u.size o) s))
    (λ k _. omega (arith, records_far u f n kept (drop u.size o) s)))
    (λ t. omega arith)

-- a table
table_far : (u : TableRule) (f : Hardware) (e : End) → u.size ≤ 36 → left_of e ≤ 1153 + left_of (walk_table u f e).end
unfolding walk_table nothing_dropped item_at left_of
table_far u f (cut i) s = omega arith
table_far u f (goes_on []) s = omega arith
table_far u f (goes_on (n ∷ o)) s =
    either {A = Walk (List Octets)} (λ w. suc (length o) ≤ 1153 + left_of w.end) (leb n 32)
    (λ t. omega (arith, records_far u f n [] o s, le_of n 32 t)) (λ _. omega arith)

-- tables
tables_far : (f : Hardware) (us : List TableRule) (e : End) → AllSized us → left_of e ≤ 1153 * length us + left_of (walk_tables f us e).end
unfolding walk_tables table_then before nothing_dropped AllSized
tables_far f [] e s = omega arith
tables_far f (u ∷ us) e s = omega (arith, table_far u f e s.1, tables_far f us (walk_table u f e).end s.2)

-- the six of a controller
six_far : (f : Hardware) (e : End) → left_of e ≤ 6918 + left_of (walk_tables f table_rules e).end
unfolding table_rules
six_far f e = omega (arith, tables_far f table_rules e all_sized)

-- a fixed part, its tables, and n controllers behind them
far_on : (n low : ℕ) (found : Slots) (o x : Octets) (f : Hardware) (more : ℕ → Slots → End → Walk Slots) → Takes {A = Hardware} 536 o (right f x)
    → ((low : ℕ) (found : Slots) (e : End) → end_bytes e ≡ true → left_of e ≤ 7454 * n + left_of (more low found e).end)
    → length o ≤ 7454 * suc n + left_of (more low found (walk_tables f table_rules (goes_on x)).end).end
unfolding left_of Takes end_bytes
far_on n low found o x f more l ih =
    let e : End = (walk_tables f table_rules (goes_on x)).end in
    omega (arith, six_far f (goes_on x), l.1, ih low found e (tables_kept f table_rules (goes_on x) l.0).1)

-- a controller and those behind it
controller_far : (v : Version) (n low : ℕ) (found : Slots) (o : Octets) (r : Reading Fixed) (more : ℕ → Slots → End → Walk Slots) → bytes o ≡ true → Takes 536 o r
    → ((low : ℕ) (found : Slots) (e : End) → end_bytes e ≡ true → left_of e ≤ 7454 * n + left_of (more low found e).end)
    → length o ≤ 7454 * suc n + left_of (controller_then low found o r more).end
unfolding controller_then kept_then also nothing_dropped item_at left_of Takes end_bytes
controller_far v n low found o (right c x) more w l ih = far_on n _ _ o x c.radio.hardware more l ih
controller_far v n low found o (wrong y c x) more w l ih = far_on n low found o x c.radio.hardware more l ih
controller_far v n low found o (short y) more w l ih = omega arith

-- n controllers
controllers_far : (v : Version) (n low : ℕ) (found : Slots) (e : End) → end_bytes e ≡ true → left_of e ≤ 7454 * n + left_of (walk_controllers v n low found e).end
unfolding walk_controllers nothing_dropped left_of end_bytes
controllers_far v zero low found e w = omega arith
controllers_far v (suc n) low found (cut i) w = omega arith
controllers_far v (suc n) low found (goes_on o) w =
    controller_far v n low found o (fixed_part v low o) (walk_controllers v n) w (fixed_takes v low o w) (controllers_far v n)

-- THE WHOLE, from the count of controllers on
pub walk_far : (v : Version) (o : Octets) → bytes o ≡ true → length o ≤ 1900771 + left_of (walk v o).end
unfolding walk nothing_dropped item_at left_of end_bytes bytes
walk_far v [] w = omega arith
walk_far v (n ∷ o) w =
    let h = and_true (ltb n 256) _ w in
    let m : n < 256 = ltb→lt n 256 (rw h.0 tt) in
    omega (arith, controllers_far v n 0 (replicate 4 none) (goes_on o) h.1)
