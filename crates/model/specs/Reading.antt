-- One reading of an image, in either version. It goes through the octets by the counts and lengths as they are written, keeps what keeps the rules, and notes
-- each thing that it drops, with its first fault. Load and the moves take an image of which nothing is dropped (01, The image; 02, E7); for any other they tell
-- the fault of the first thing dropped, and where that begins (02, E8).
use Rattle.std.specs.Prelude.{ℕ, zero, suc, ◌-◌, ◌≤◌, Bool, true, false, ◌&&◌, List, [], ◌∷◌, ◌++◌, map, length, take, drop, replicate, set, eqb, leb}
use Rattle.std.proofs.Math.Option.{Option, none, some}
pub use Rattle.model.specs.declared.ImageFault.{ImageFault}
pub use Rattle.model.specs.declared.ImageFault.TheVariants.{BadLength, BadVersion, BadIndex, BadField, BadCount, BadRecord, Repeated}
use Rattle.model.specs.Octets.{Octets, octet, bit, same, number}
use Rattle.model.specs.Answers.{fault_number}
use Rattle.model.specs.Advertising.{no_advertising}
use Rattle.model.specs.State.{Hardware, RadioSettings, Controller, PlainHub, Table, hardware_ok, no_timer}
use Rattle.model.specs.Reasons.{passes}
use Rattle.model.specs.Tables.{any, loaded, TableRule, record_ok, table_rules}
use Rattle.model.specs.Image.{Version, One, Two, version_octet, name_size, name_right, name_read, bredr_flag, bredr_read, flag_word, switches_ok, static_fits}

infixl 10 ◌>>=◌
-- What is at fault --------------------------------------------------------------------------------------------------------------------------------

-- a fault, and its place: how many octets there are from there to the end of the image
pub record Fault : Type 0 where
  pub kind : ImageFault
  pub left : ℕ

-- a fault of the thing that these octets begin with
unfoldable pub fault_at : ImageFault → Octets → Fault
fault_at k o = record { kind = k; left = length o }

-- the octets end before a thing is whole
unfoldable pub not_whole : Fault
not_whole = fault_at BadLength []

-- a thing that is dropped: how many octets there are from its first one on, and its first fault
pub record Item : Type 0 where
  pub left : ℕ
  pub fault : Fault

-- the thing that these octets begin with is dropped
unfoldable pub item_at : Octets → Fault → Item
item_at o x = record { left = length o; fault = x }

-- Fields, one after the other, each first whole, then right ---------------------------------------------------------------------------------

-- what reading fields comes to; a fault that is told is the first one
pub data Reading (A : Type 0) : Type 0 where
  right : A → Octets → Reading A  -- all whole and right: what they say, and the octets behind them
  wrong : Fault → A → Octets → Reading A  -- all whole, and a rule is broken
  short : Fault → Reading A  -- not whole

-- what reads fields from octets
abbrev pub Reader : Type 0 → Type 0
Reader A = Octets → Reading A

-- behind something wrong: that is the first fault
unfoldable pub spoilt : {A : Type 0} → Fault → Reading A → Reading A
spoilt x (right a o) = wrong x a o
spoilt x (wrong y a o) = wrong x a o
spoilt x (short y) = short x

-- going on with the octets behind, if there are such
unfoldable pub go_on : {A B : Type 0} → Reading A → (A → Reader B) → Reading B
go_on (right a o) f = f a o
go_on (wrong x a o) f = spoilt x (f a o)
go_on (short x) f = short x

-- one reader, then another
unfoldable pub ◌>>=◌ : {A B : Type 0} → Reader A → (A → Reader B) → Reader B
◌>>=◌ m f o = go_on (m o) f

-- nothing more is read
unfoldable pub give : {A : Type 0} → A → Reader A
give a o = right a o

-- a field of so many octets: it is whole, and then it keeps its rule, else a fault of this kind at its first octet
unfoldable pub field : ℕ → ImageFault → (Octets → Bool) → Reader Octets
field n k ok o = elim (leb n (length o)) [
  | true ↦ elim (ok (take n o)) [ true ↦ right (take n o) (drop n o) | false ↦ wrong (fault_at k o) (take n o) (drop n o) ]
  | false ↦ short not_whole
]

-- a field that has no rule
unfoldable pub free : Octets → Bool
free x = true

-- a name, as one field, in its version
unfoldable pub name_field : Version → (room : ℕ) → Reader Octets
name_field v room o = go_on (field (name_size v room o) BadField (name_right v room) o) (λ x. give (name_read v room x))

-- The fixed part of a controller ------------------------------------------------------------------------------------------------------------------

-- what it says
pub record Fixed : Type 0 where
  pub index : ℕ
  pub radio : RadioSettings
  pub bondable : Bool
  pub name : Octets

-- the hardware by the fields that say it
unfoldable pub hardware_by : (address version manufacturer supported : Octets) → Hardware
hardware_by a v m s = record { public_address = a; version = octet v 0; manufacturer = number 0 m; supported = number 0 s }

-- all that it says, by its fields; power is off (01, The image)
unfoldable pub fixed_by : Version → (index : ℕ) → Hardware → (flags : ℕ) → (static names : Octets) → Fixed
fixed_by v i f flags static n = record {
  index = i;
  radio = record {
    hardware = f;
    powered = false;
    connectable = bit 1 flags;
    bredr = bredr_read v f flags;
    low_energy = bit 9 flags;
    static_address = static;
  };
  bondable = bit 4 flags;
  name = n;
}

-- an index from `low` to 3: indexes ascend (01, The image)
unfoldable pub index_right : ℕ → ℕ → Bool
index_right low i = leb low i && leb i 3

-- no other flag than the version has (01, The image; 02, E7), and what BR/EDR and LE need
unfoldable pub flags_right : Version → Hardware → ℕ → Bool
flags_right v f n = eqb n (flag_word (bit 1 n) (bit 4 n) (bredr_flag v (bit 7 n)) (bit 9 n)) && switches_ok f (bredr_read v f n) (bit 9 n)

-- the fields in the order in which they stand, each with the number of its octets and its rule; names are as long as the version says (01, The image)
unfoldable pub fixed_part : Version → (low : ℕ) → Reader Fixed
fixed_part v low = do
  i ← field 1 BadIndex (λ x. index_right low (octet x 0))
  address ← field 6 BadField free
  version ← field 1 BadField free
  manufacturer ← field 2 BadField free
  supported ← field 4 BadField (λ x. hardware_ok (hardware_by address version manufacturer x))
  flags ← field 4 BadField (λ x. flags_right v (hardware_by address version manufacturer supported) (number 0 x))
  static ← field 6 BadField (λ x. static_fits (hardware_by address version manufacturer supported) x)
  name ← name_field v 249
  short_name ← name_field v 11
  give (fixed_by v (octet i 0) (hardware_by address version manufacturer supported) (number 0 flags) static (name ++ short_name))

-- The walk: what is kept, what is dropped -----------------------------------------------------------------------------------------------------------

-- how far a walk has come
pub data End : Type 0 where
  goes_on : Octets → End  -- to these octets
  cut : Item → End  -- no further: all from this thing on is dropped

-- what is kept, and what is dropped on the way
pub record Walk (A : Type 0) : Type 0 where
  pub kept : A
  pub dropped : List Item
  pub end : End

-- nothing is dropped here
unfoldable pub nothing_dropped : {A : Type 0} → A → End → Walk A
nothing_dropped a e = record { kept = a; dropped = []; end = e }

-- these are dropped too, before the others
unfoldable pub also : {A : Type 0} → List Item → Walk A → Walk A
also is w = record { kept = w.kept; dropped = is ++ w.dropped; end = w.end }

-- what is wrong with a record: it breaks its rule, or its controller may not have such; or else it repeats one that is kept (01, The image)
unfoldable pub record_fault : TableRule → Hardware → (kept : List Octets) → Octets → Option ImageFault
record_fault u f kept r = elim (record_ok u r && passes (u.support f)) [
  | true ↦ elim (any (same (u.key r)) (map u.key kept)) [ true ↦ some Repeated | false ↦ none ]
  | false ↦ some BadRecord
]

-- n records, behind those kept so far
unfoldable pub walk_records : TableRule → Hardware → ℕ → List Octets → Octets → Walk (List Octets)
walk_records u f zero kept o = nothing_dropped kept (goes_on o)
walk_records u f (suc n) kept o = elim (leb u.size (length o)) [
  | true ↦ elim (record_fault u f kept (take u.size o)) [
    | none ↦ walk_records u f n (kept ++ (take u.size o ∷ [])) (drop u.size o)
    | some k ↦ also (item_at o (fault_at k o) ∷ []) (walk_records u f n kept (drop u.size o))
  ]
  | false ↦ nothing_dropped kept (cut (item_at o not_whole))
]

-- a table: its count, at most 32, then so many records; one that is not reached is empty
unfoldable pub walk_table : TableRule → Hardware → End → Walk (List Octets)
walk_table u f (cut i) = nothing_dropped [] (cut i)
walk_table u f (goes_on []) = nothing_dropped [] (cut (item_at [] not_whole))
walk_table u f (goes_on (n ∷ o)) = elim (leb n 32) [
  | true ↦ walk_records u f n [] o
  | false ↦ nothing_dropped [] (cut (item_at (n ∷ o) (fault_at BadCount (n ∷ o))))
]

-- a table before others
unfoldable pub before : Walk (List Octets) → Walk (List Table) → Walk (List Table)
before w ws = record { kept = loaded w.kept ∷ ws.kept; dropped = w.dropped ++ ws.dropped; end = ws.end }

-- a table, and then the others from where it ends
unfoldable pub table_then : Walk (List Octets) → (End → Walk (List Table)) → Walk (List Table)
table_then w more = before w (more w.end)

-- the tables, each by its rule
unfoldable pub walk_tables : Hardware → List TableRule → End → Walk (List Table)
walk_tables f [] e = nothing_dropped [] e
walk_tables f (u ∷ us) e = table_then (walk_table u f e) (walk_tables f us)

-- the controller of a fixed part and tables; no timer runs (01, The image), and nothing is advertised (02, E1)
unfoldable pub controller_by : Fixed → List Table → Controller
controller_by c ts = record {
  radio = c.radio;
  host = record { settings = record { timer = no_timer; bondable = c.bondable }; name = c.name; tables = ts; advertising = no_advertising };
}

-- controllers, by index
abbrev pub Slots : Type 0
Slots = List (Option Controller)

-- a controller that is kept, with the tables that were walked, and those behind it; the next index is a higher one
unfoldable pub kept_then : Slots → Fixed → Walk (List Table) → (ℕ → Slots → End → Walk Slots) → Walk Slots
kept_then found c w more = also w.dropped (more (suc c.index) (set found c.index (some (controller_by c w.kept))) w.end)

-- A controller by its fixed part. If that is wrong, the controller is dropped as one thing, and its tables only tell where it ends; if it is not whole, all
-- from its index on is dropped.
unfoldable pub controller_then : ℕ → Slots → Octets → Reading Fixed → (ℕ → Slots → End → Walk Slots) → Walk Slots
controller_then low found o (right c x) more = kept_then found c (walk_tables c.radio.hardware table_rules (goes_on x)) more
controller_then low found o (wrong y c x) more = also (item_at o y ∷ []) (more low found (walk_tables c.radio.hardware table_rules (goes_on x)).end)
controller_then low found o (short y) more = nothing_dropped found (cut (item_at o y))

-- n controllers of ascending indexes from `low` on, put beside those found so far
unfoldable pub walk_controllers : Version → ℕ → ℕ → Slots → End → Walk Slots
walk_controllers v zero low found e = nothing_dropped found e
walk_controllers v (suc n) low found (cut i) = nothing_dropped found (cut i)
walk_controllers v (suc n) low found (goes_on o) = controller_then low found o (fixed_part v low o) (walk_controllers v n)

-- the octets behind the version: the number of controllers, then the controllers
unfoldable pub walk : Version → Octets → Walk Slots
walk v [] = nothing_dropped (replicate 4 none) (cut (item_at [] not_whole))
walk v (n ∷ o) = walk_controllers v n 0 (replicate 4 none) (goes_on o)

-- what ends a walk: a cut, or octets that are left over
unfoldable pub last_item : End → List Item
last_item (goes_on []) = []
last_item (goes_on (x ∷ o)) = item_at (x ∷ o) (fault_at BadLength (x ∷ o)) ∷ []
last_item (cut i) = i ∷ []

-- all that is dropped, in the order of the image
unfoldable pub items : {A : Type 0} → Walk A → List Item
items w = w.dropped ++ last_item w.end

-- the hub of what is kept, with clock zero
unfoldable pub hub_of : Walk Slots → PlainHub
hub_of w = record { clock = 0; controllers = w.kept }

-- Acceptable, or what is wrong ----------------------------------------------------------------------------------------------------------------------

-- what an image comes to: the state that it gives, or its first fault, with the offset at which that begins
pub data Judged : Type 0 where
  acceptable : PlainHub → Judged
  faulty : ImageFault → (offset : ℕ) → Judged

-- acceptable if nothing is dropped; n octets are the whole image
unfoldable pub judge_items : ℕ → PlainHub → List Item → Judged
judge_items n p [] = acceptable p
judge_items n p (i ∷ is) = faulty i.fault.kind (n - i.fault.left)

-- an image of this version, of at least five octets: its length, the number of controllers, then all else
unfoldable pub judge_as : Octets → Option Version → Judged
judge_as o none = faulty BadVersion 4
judge_as o (some v) = elim (eqb (number 0 (take 4 o)) (length o)) [
  | true ↦ elim (leb (octet o 5) 4) [
    | true ↦ judge_items (length o) (hub_of (walk v (drop 5 o))) (items (walk v (drop 5 o)))
    | false ↦ faulty BadIndex 5
  ]
  | false ↦ faulty BadLength 0
]

-- the version octet is whole, and then of a version that is taken: `takes` says which are
unfoldable pub judge : (takes : ℕ → Option Version) → Octets → Judged
judge takes o = elim (leb 5 (length o)) [ true ↦ judge_as o (takes (octet o 4)) | false ↦ faulty BadLength (length o) ]

-- load takes both versions (02, E7)
unfoldable pub either_version : ℕ → Option Version
either_version n = elim (eqb n 1) [ true ↦ some One | false ↦ elim (eqb n 2) [ true ↦ some Two | false ↦ none ] ]

-- a move takes the one that it moves from (02, E7)
unfoldable pub only : Version → ℕ → Option Version
only v n = elim (eqb n (version_octet v)) [ true ↦ some v | false ↦ none ]

-- the state of an acceptable image
unfoldable pub state_in : Judged → Option PlainHub
state_in (acceptable p) = some p
state_in (faulty k at) = none

-- the state that an image gives, with clock zero; none if the image is not acceptable (01, The image)
unfoldable pub load : Octets → Option PlainHub
load o = state_in (judge either_version o)

-- What is wrong with an image (02, E8) -----------------------------------------------------------------------------------------------------------------

-- a fault by its number, and the offset at which the first thing at fault begins
pub record Diagnosis : Type 0 where
  pub number : ℕ
  pub offset : ℕ

-- the fault that was found, if one was
unfoldable pub fault_in : Judged → Option Diagnosis
fault_in (acceptable p) = none
fault_in (faulty k at) = some (record { number = fault_number k; offset = at })

-- what is wrong with an image that is to have a version that is taken, if anything is
unfoldable pub diagnose : (takes : ℕ → Option Version) → Octets → Option Diagnosis
diagnose takes o = fault_in (judge takes o)

-- no fault begins before an offset
unfoldable pub NoneBefore : ℕ → Judged → Type 0
NoneBefore at (acceptable p) = Unit {0}
NoneBefore at (faulty k x) = at ≤ x

-- Named on an `unfolding` line, this opens every definition of the module: for examples that are computed.
unfoldable pub open_reading : Unit {0}
unfolding fault_at not_whole item_at spoilt go_on ◌>>=◌ give field free name_field hardware_by fixed_by index_right flags_right fixed_part nothing_dropped also record_fault
    walk_records walk_table before table_then walk_tables controller_by kept_then controller_then walk_controllers walk last_item items hub_of judge_items judge_as judge
    either_version only state_in load fault_in diagnose NoneBefore
open_reading = tt
