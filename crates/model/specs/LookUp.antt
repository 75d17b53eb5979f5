-- The look-up of a record in a table: in which slot it stands, and how many slots are walked to know that (02, E4).
use Rattle.std.specs.Prelude.{ℕ, suc, Bool, true, false, [], ◌∷◌, eqb}
use Rattle.std.proofs.Math.Option.{none, some}
pub use Rattle.model.specs.declared.LookUp.{LookUp}
use Rattle.model.specs.Octets.{Octets}
use Rattle.model.specs.State.{Table}
use Rattle.model.specs.Tables.{holds, uuids}

-- the first slot whose record matches; the number of slots where none does
unfoldable pub first_at : (Octets → Bool) → Table → ℕ
first_at m [] = 0
first_at m (none ∷ t) = suc (first_at m t)
first_at m (some r ∷ t) = elim (m r) [ true ↦ 0 | false ↦ suc (first_at m t) ]

-- the number of slots up to the last one in use, which is counted in: a free slot counts where one behind it is in use
unfoldable pub up_to_last : Table → ℕ
up_to_last [] = 0
up_to_last (none ∷ t) = elim (eqb (up_to_last t) 0) [ true ↦ 0 | false ↦ suc (up_to_last t) ]
up_to_last (some r ∷ t) = suc (up_to_last t)

-- the slots walked: up to the one found, which is counted in, and where none matches up to the last one in use (02, E4)
unfoldable pub walked : (Octets → Bool) → Table → ℕ
walked m t = elim (holds m t) [ true ↦ suc (first_at m t) | false ↦ up_to_last t ]

-- both, as a look-up tells them
unfoldable pub look_up : (Octets → Bool) → Table → LookUp
look_up m t = record { slot = first_at m t; walked = walked m t }

-- how many octets a record is looked for by, in table k: a UUID has 16, an address and its type have 7 (01, Commands, paragraph on loads, 0x0010)
unfoldable pub key_length : ℕ → ℕ
key_length k = elim (eqb k uuids) [ true ↦ 16 | false ↦ 7 ]

-- Named on an `unfolding` line, this opens every definition of the module: for examples that are computed.
unfoldable pub open_lookup : Unit {0}
unfolding first_at up_to_last walked look_up key_length
open_lookup = tt
