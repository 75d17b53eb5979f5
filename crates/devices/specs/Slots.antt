-- What the commands on the tables of UUIDs, blocked devices and devices say beyond the model's words.
-- Assumes nothing.
use Rattle.std.specs.Prelude.{ℕ, Bool, true, false, ◌||◌, [], ◌∷◌, ◌++◌, ◌&&◌, not, List, take, eqb, ltb}
use Rattle.model.specs.Events as Events
use Rattle.model.specs.Octets.{Octets, octet, all_zero, event, command_complete}
use Rattle.model.specs.State.{Table}
use Rattle.model.specs.Reasons.{Check, refused_at}
use Rattle.model.specs.declared.Reason.TheVariants.{AddressTypeAbove2, AddressZeroNotBredr}
use Rattle.model.specs.Tables.{begins, entries, holds, free}
use Rattle.table.specs.Slots.{first_at, joined_by_or}

-- the slot that a record goes to: that of the first match, else the lowest free one
unfoldable pub slot_for : (Octets → Bool) → Table → ℕ
slot_for m t = elim (holds m t) [ true ↦ first_at m t | false ↦ free t ]

-- the records that go: all, or those with the first n octets of the key
abbrev pub named : Bool → ℕ → Octets → Octets → Bool
named all n key = λ r. all || begins n key r

-- all hints of a table of UUIDs, joined by or
abbrev pub hints_of : Table → ℕ
hints_of t = joined_by_or 16 (entries t)

-- the class with these hints
abbrev pub class_with : ℕ → Octets
class_with hints = 0 ∷ 0 ∷ hints ∷ []

-- Class Of Device Changed, if the hints changed (01, Commands, paragraph on events)
unfoldable pub changed_class : ℕ → ℕ → ℕ → Octets
changed_class index old new = elim (eqb old new) [ true ↦ [] | false ↦ event Events.class_changed index (class_with new) ]

-- what Add UUID and Remove UUID write when they act: a reply with the class (01, Commands, 0x0010), then the event (paragraph on events)
unfoldable pub class_reply : ℕ → ℕ → ℕ → ℕ → Octets
class_reply index code old new = command_complete index code 0 (class_with new) ++ changed_class index old new

-- the values of Remove Device: one of three types, and a zero address, which stands for all, only as a BR/EDR address (01, Commands, 0x0034)
unfoldable pub removal_checks : Octets → List Check
removal_checks ps = (refused_at 6 (ltb 2 (octet ps 6)) AddressTypeAbove2) ∷
    (refused_at 6 (all_zero (take 6 ps) && not (eqb (octet ps 6) 0)) AddressZeroNotBredr) ∷ []
