-- The first thing at fault in the order of the file (02, E8): fields, counts and records one behind the other, each first whole, then right. It keeps nothing
-- and ends at the first fault. Load and the moves find a fault by the reading that also says what is kept (Reading); that it is this one is a theorem.
use Rattle.std.specs.Prelude.{ℕ, zero, suc, ◌-◌, Bool, true, false, List, [], ◌∷◌, ◌++◌, length, take, drop, leb}
use Rattle.std.proofs.Math.Option.{Option, none, some}
use Rattle.model.specs.Octets.{Octets, octet, number}
use Rattle.model.specs.State.{Hardware, hardware_ok}
use Rattle.model.specs.Answers.{fault_number}
use Rattle.model.specs.Tables.{TableRule, table_rules}
use Rattle.model.specs.Image.{Version, name_size, name_right, static_fits}
use Rattle.model.specs.Reading.{BadCount, BadField, BadIndex, BadLength, Diagnosis, Fault, ImageFault, fault_at, flags_right, free, hardware_by, index_right}
use Rattle.model.specs.Reading.{not_whole, record_fault}

-- what finds the first fault of octets, if there is one
abbrev pub Finder : Type 0
Finder = Octets → Option Fault

-- a fault of this kind, unless a test holds
unfoldable pub fault_unless : ImageFault → Bool → Option ImageFault
fault_unless k true = none
fault_unless k false = some k

-- A thing of so many octets, and what is behind it, which may depend on it. If the thing is not whole, that is the fault, at the end of the file; then, if it is
-- not right, its own fault, at its first octet (02, E8).
unfoldable pub thing : (size : Octets → ℕ) → (Octets → Option ImageFault) → (Octets → Finder) → Finder
thing size ok next o = elim (leb (size o) (length o)) [
  | true ↦ elim (ok (take (size o) o)) [ none ↦ next (take (size o) o) (drop (size o) o) | some k ↦ some (fault_at k o) ]
  | false ↦ some not_whole
]

-- a field of n octets with its rule
unfoldable pub field_then : ℕ → ImageFault → (Octets → Bool) → (Octets → Finder) → Finder
field_then n k ok next = thing (λ o. n) (λ x. fault_unless k (ok x)) next

-- a name, as long as its version says
unfoldable pub name_then : Version → (room : ℕ) → (Octets → Finder) → Finder
name_then v room next = thing (name_size v room) (λ x. fault_unless BadField (name_right v room x)) next

-- a count in one octet, at most so much
unfoldable pub count_then : ImageFault → (most : ℕ) → (ℕ → Finder) → Finder
count_then k most next = thing (λ o. 1) (λ x. fault_unless k (leb (octet x 0) most)) (λ x. next (octet x 0))

-- the fixed part of a controller: index, public address, version, manufacturer, supported settings, flags, static address, name, short name; the rule of a field
-- may look at those before it (01, The image)
unfoldable pub fixed_then : Version → (low : ℕ) → (ℕ → Hardware → Finder) → Finder
fixed_then v low next =
    field_then 1 BadIndex (λ x. index_right low (octet x 0)) λ i.
    field_then 6 BadField free λ address.
    field_then 1 BadField free λ version.
    field_then 2 BadField free λ manufacturer.
    field_then 4 BadField (λ x. hardware_ok (hardware_by address version manufacturer x)) λ supported.
    field_then 4 BadField (λ x. flags_right v (hardware_by address version manufacturer supported) (number 0 x)) λ flags.
    field_then 6 BadField (λ x. static_fits (hardware_by address version manufacturer supported) x) λ static.
    name_then v 249 λ name.
    name_then v 11 λ short_name.
    next (octet i 0) (hardware_by address version manufacturer supported)

-- n records behind those that were right: a fault of its own, then a repeat of one of these
unfoldable pub records_then : TableRule → Hardware → ℕ → List Octets → Finder → Finder
records_then u f zero kept next = next
records_then u f (suc n) kept next = thing (λ o. u.size) (record_fault u f kept) (λ r. records_then u f n (kept ++ (r ∷ [])) next)

-- tables, each its count and as many records
unfoldable pub tables_then : Hardware → List TableRule → Finder → Finder
tables_then f [] next = next
tables_then f (u ∷ us) next = count_then BadCount 32 (λ n. records_then u f n [] (tables_then f us next))

-- n controllers of ascending indexes from `low` on
unfoldable pub controllers_then : Version → (n low : ℕ) → Finder → Finder
controllers_then v zero low next = next
controllers_then v (suc n) low next = fixed_then v low (λ i f. tables_then f table_rules (controllers_then v n (suc i) next))

-- octets that are left over, by the first of them
unfoldable pub left_over : Finder
left_over [] = none
left_over (x ∷ o) = some (fault_at BadLength (x ∷ o))

-- the first fault behind the version octet: the count of controllers, the controllers, what is left over
unfoldable pub first_fault : Version → Finder
first_fault v = count_then BadIndex 4 (λ n. controllers_then v n 0 left_over)

-- a fault by its number and its offset, in an image of n octets
unfoldable pub told_of : ℕ → Option Fault → Option Diagnosis
told_of n none = none
told_of n (some z) = some (record { number = fault_number z.kind; offset = n - z.left })
