-- What acceptable octets hold: tables, and a controller, and the octets behind them; nothing where a rule is broken.
use Rattle.std.specs.Prelude.{ℕ, List, [], ◌∷◌}
use Rattle.std.proofs.Math.Option.{Option, none, some}
use Rattle.model.specs.declared.Hardware.{Hardware}
use Rattle.model.specs.declared.Version.{Version}
use Rattle.model.specs.Octets.{Octets}
use Rattle.model.specs.State.{Controller, Table}
use Rattle.model.specs.Tables.{TableRule, table_rules}
use Rattle.model.specs.Reading.{End, Fixed, Item, Reading, Walk, controller_by, cut, fixed_part, goes_on, right, short, walk_tables, wrong}

-- what was read, and the octets behind it
pub record Parsed (A : Type 0) : Type 0 where
  pub value : A
  pub behind : Octets

-- what was kept, if nothing was dropped and the walk goes on
unfoldable pub clean_by : {A : Type 0} → A → List Item → End → Option (Parsed A)
clean_by a [] (goes_on o) = some (record { value = a; behind = o })
clean_by a [] (cut i) = none
clean_by a (i ∷ is) e = none

-- the same of a walk
unfoldable pub clean : {A : Type 0} → Walk A → Option (Parsed A)
clean w = clean_by w.kept w.dropped w.end

-- the tables of these rules that octets begin with
unfoldable pub tables_in : Hardware → List TableRule → Octets → Option (Parsed (List Table))
tables_in f us o = clean (walk_tables f us (goes_on o))

-- a controller, and its index
pub record Placed : Type 0 where
  pub index : ℕ
  pub controller : Controller

-- a controller by its fixed part and its tables
unfoldable pub placed_by : Fixed → Option (Parsed (List Table)) → Option (Parsed Placed)
placed_by c none = none
placed_by c (some m) = some (record { value = record { index = c.index; controller = controller_by c m.value }; behind = m.behind })

-- the same by what reading its fixed part came to
unfoldable pub placed_in : Reading Fixed → Option (Parsed Placed)
placed_in (right c x) = placed_by c (tables_in c.radio.hardware table_rules x)
placed_in (wrong y c x) = none
placed_in (short y) = none

-- the controller that octets begin with, with any index up to 3
unfoldable pub controller_in : Version → Octets → Option (Parsed Placed)
controller_in v o = placed_in (fixed_part v 0 o)
