-- The state filled from an image: the names and the tables of the controller that stands there.
use Rattle.std.specs.Prelude.{ℕ, suc, ◌+◌, ◌≤◌, Bool, true, false, List, [], ◌∷◌, length, drop}
use Rattle.std.proofs.Math.Option.{Option, none, some}
use Rattle.model.specs.declared.Version.{Version}
use Rattle.model.specs.declared.Version.TheVariants.{One, Two}
use Rattle.model.specs.Octets.{Octets}
use Rattle.model.specs.State.{Controller, Table, with_host, with_table}
use Rattle.model.specs.Image.{name_size}
use Rattle.fields.specs.Places.{fixed_end, short_place}

-- a reader found something
unfoldable pub found : {A : Type 0} → Option A → Bool
found none = false
found (some a) = true

-- how many octets of a name's field stand before the name: in version 2 its length octet (02, E7)
unfoldable pub length_octets : Version → ℕ
length_octets One = 0
length_octets Two = 1

-- the names' fields are whole, and no name is longer than its room
pub record NamesFit (v : Version) (o : Octets) : Type 0 where
  pub within : fixed_end v o ≤ length o
  pub name : name_size v 249 (drop 24 o) ≤ 249 + length_octets v
  pub short : name_size v 11 (drop (short_place v o) o) ≤ 11 + length_octets v

-- the controller with these tables from place k on
unfoldable pub with_tables : Controller → ℕ → List Table → Controller
with_tables c k [] = c
with_tables c k (t ∷ ts) = with_tables (with_host c (with_table c.host k t)) (suc k) ts
