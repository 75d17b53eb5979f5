-- What the look-up for a host says of a table of a controller.
use Rattle.std.specs.Prelude.{ℕ, ◌≤◌, ◌≡◌}
use Rattle.model.specs.Octets.{Octets}
use Rattle.model.specs.State.{table_of}
use Rattle.model.specs.Tables.{begins}
use Rattle.model.specs.LookUp.{key_length, look_up}
use Rattle.model.specs.declared.LookUp.{LookUp}
use Rattle.layout.specs.Places.{controller_of}

-- u is the look-up of the key in table k of the controller at index i; both its numbers are at most 32, the number of slots
pub record LooksUp (s : Octets) (i k : ℕ) (key : Octets) (u : LookUp) : Type 0 where
  pub looked : u ≡ look_up (begins (key_length k) key) (table_of (controller_of s i).host k)
  pub slot : u.slot ≤ 32
  pub walked : u.walked ≤ 32
