-- The parts of a well-formed controller, and a table put in the place of another.
use Rattle.std.specs.Prelude.{ℕ, zero, suc, ◌<◌, ◌≡◌, refl, true, ◌&&◌, ◌||◌, not, List, [], ◌∷◌, length, get_or, set, eqb, ltb}
use Rattle.std.proofs.Common.{arith, sym, ap, ltb→lt}
use Rattle.model.specs.Octets.{all_zero, bytes}
use Rattle.model.specs.State.{Controller, Hardware, RadioSettings, Table, bredr_supported, hardware_ok, le_supported, static_address_ok}
use Rattle.model.specs.State.{table_of, with_host, with_table}
use Rattle.model.specs.Tables.{TableRule}
use Rattle.model.specs.Tables.{rule_at, table_rules, uuid_rule}
use Rattle.model.specs.Image.{name_ok, radio_ok, static_fits, switches_ok}
use Rattle.model.specs.WellFormed.{advertising_ok, controller_ok, table_ok, tables_ok, timer_ok, widths_ok}
use Rattle.model.proofs.Model.Tests.{and_true, both, equal, no_way}

-- well formed, taken apart
pub record ControllerFit (c : Controller) : Type 0 where
  pub radio : radio_ok c.radio ≡ true
  pub static_address : eqb (length c.radio.static_address) 6 ≡ true
  pub name : eqb (length c.host.name) 260 && name_ok c.host.name ≡ true
  pub tables : tables_ok c.radio.hardware table_rules c.host.tables ≡ true
  pub timer : timer_ok c ≡ true
  pub widths : widths_ok c ≡ true
  pub advertising : advertising_ok c.radio.low_energy c.radio.powered c.host.advertising ≡ true

-- the parts of a well-formed controller
pub controller_fit : (c : Controller) → controller_ok c ≡ true → ControllerFit c
unfolding controller_ok
controller_fit c e =
    let a = and_true (radio_ok c.radio) _ e in
    let b = and_true (eqb (length c.radio.static_address) 6) _ a.1 in
    let d = and_true (eqb (length c.host.name) 260 && name_ok c.host.name) _ b.1 in
    let f = and_true (tables_ok c.radio.hardware table_rules c.host.tables) _ d.1 in
    let g = and_true (timer_ok c) _ f.1 in
    let k = and_true (widths_ok c) _ g.1 in
    record { radio = a.0; static_address = b.0; name = d.0; tables = f.0; timer = g.0; widths = k.0; advertising = k.1 }

-- a controller with these parts is well formed
pub fit_controller : (c : Controller) → ControllerFit c → controller_ok c ≡ true
unfolding controller_ok
fit_controller c h = both h.radio (both h.static_address (both h.name (both h.tables (both h.timer (both h.widths h.advertising)))))

-- well-formed radio settings, taken apart
pub record RadioFit (r : RadioSettings) : Type 0 where
  pub hardware : hardware_ok r.hardware ≡ true
  pub bredr : not r.bredr || bredr_supported r.hardware ≡ true
  pub one : r.bredr || r.low_energy ≡ true
  pub low : le_supported r.hardware || not r.low_energy ≡ true
  pub support : le_supported r.hardware || all_zero r.static_address ≡ true
  pub static_address : static_address_ok r.static_address ≡ true

-- the parts of well-formed radio settings
pub radio_fit : (r : RadioSettings) → radio_ok r ≡ true → RadioFit r
unfolding radio_ok switches_ok static_fits
radio_fit r e =
    let a = and_true (hardware_ok r.hardware) _ e in
    let b = and_true (switches_ok r.hardware r.bredr r.low_energy) _ a.1 in
    let d = and_true (not r.bredr || bredr_supported r.hardware) _ b.0 in
    let f = and_true (r.bredr || r.low_energy) _ d.1 in
    let g = and_true (le_supported r.hardware || all_zero r.static_address) _ b.1 in
    record { hardware = a.0; bredr = d.0; one = f.0; low = f.1; support = g.0; static_address = g.1 }

-- radio settings with these parts are well formed
pub fit_radio : (r : RadioSettings) → RadioFit r → radio_ok r ≡ true
unfolding radio_ok switches_ok static_fits
fit_radio r h = both h.hardware (both (both h.bredr (both h.one h.low)) (both h.support h.static_address))

-- the widths of a controller's numbers
pub record Widths (c : Controller) : Type 0 where
  pub version : ltb c.radio.hardware.version 256 ≡ true
  pub manufacturer : ltb c.radio.hardware.manufacturer 65536 ≡ true
  pub public_address : bytes c.radio.hardware.public_address ≡ true
  pub static_address : bytes c.radio.static_address ≡ true
  pub name : bytes c.host.name ≡ true
  pub seconds : ltb c.host.settings.timer.seconds 65536 ≡ true

-- the widths of a well-formed controller's numbers
pub widths_fit : (c : Controller) → controller_ok c ≡ true → Widths c
unfolding widths_ok
widths_fit c e =
    let a = and_true (ltb c.radio.hardware.version 256 && ltb c.radio.hardware.manufacturer 65536) _ (controller_fit c e).widths in
    let b = and_true (ltb c.radio.hardware.version 256) _ a.0 in
    let d = and_true (bytes c.radio.hardware.public_address && bytes c.radio.static_address) _ a.1 in
    let f = and_true (bytes c.radio.hardware.public_address) _ d.0 in
    let g = and_true (bytes c.host.name) _ d.1 in
    record { version = b.0; manufacturer = b.1; public_address = f.0; static_address = f.1; name = g.0; seconds = g.1 }

-- numbers of these widths
pub fit_widths : (c : Controller) → Widths c → widths_ok c ≡ true
unfolding widths_ok
fit_widths c w = both (both w.version w.manufacturer) (both (both w.public_address w.static_address) (both w.name w.seconds))

-- the lengths of a controller's octets, and the width of its supported settings
pub record Lengths (c : Controller) : Type 0 where
  pub public_address : length c.radio.hardware.public_address ≡ 6
  pub static_address : length c.radio.static_address ≡ 6
  pub name : length c.host.name ≡ 260
  pub supported : c.radio.hardware.supported < 65536

-- those of a well-formed controller
pub lengths : (c : Controller) → controller_ok c ≡ true → Lengths c
unfolding radio_ok hardware_ok
lengths c e =
    let h = controller_fit c e in
    let a = and_true (eqb (length c.radio.hardware.public_address) 6) _ (and_true (hardware_ok c.radio.hardware) _ h.radio).0 in
    let b = and_true (ltb c.radio.hardware.supported 65536) _ a.1 in
    record {
      public_address = equal _ _ a.0;
      static_address = equal _ _ h.static_address;
      name = equal _ _ (and_true (eqb (length c.host.name) 260) _ h.name).0;
      supported = ltb→lt _ _ (rw b.0 tt);
    }

-- the table at a place keeps the rule at that place
tables_at : (f : Hardware) (d : TableRule) (us : List TableRule) (ts : List Table) (k : ℕ) → tables_ok f us ts ≡ true → k < length us
    → table_ok (get_or us k d) f (get_or ts k []) ≡ true
unfolding tables_ok
tables_at f d [] ts k e lt = absurd (omega arith)
tables_at f d (u ∷ us) [] k e lt = no_way (sym e)
tables_at f d (u ∷ us) (t ∷ ts) zero e lt = (and_true (table_ok u f t) _ e).0
tables_at f d (u ∷ us) (t ∷ ts) (suc k) e lt = tables_at f d us ts k (and_true (table_ok u f t) _ e).1 (omega arith)

-- a new table that keeps the rule of its place may stand there
pub tables_set : (f : Hardware) (d : TableRule) (us : List TableRule) (ts : List Table) (k : ℕ) (t : Table) → tables_ok f us ts ≡ true
    → table_ok (get_or us k d) f t ≡ true → tables_ok f us (set ts k t) ≡ true
unfolding tables_ok
tables_set f d [] [] k t e n = refl
tables_set f d [] (s ∷ ts) k t e n = no_way (sym e)
tables_set f d (u ∷ us) [] k t e n = no_way (sym e)
tables_set f d (u ∷ us) (s ∷ ts) zero t e n = both n (and_true (table_ok u f s) _ e).1
tables_set f d (u ∷ us) (s ∷ ts) (suc k) t e n = let h = and_true (table_ok u f s) _ e in both h.0 (tables_set f d us ts k t h.1 n)

-- the table at a place of a well-formed controller
pub table_ok_lem : (c : Controller) (k : ℕ) → controller_ok c ≡ true → k < 6 → table_ok (rule_at k) c.radio.hardware (table_of c.host k) ≡ true
unfolding rule_at table_of table_rules
table_ok_lem c k e lt = tables_at c.radio.hardware uuid_rule table_rules c.host.tables k (controller_fit c e).tables lt

-- a controller with another table at a place, if that keeps its rule
pub table_changed : (c : Controller) (k : ℕ) (t : Table) → controller_ok c ≡ true → table_ok (rule_at k) c.radio.hardware t ≡ true
    → controller_ok (with_host c (with_table c.host k t)) ≡ true
unfolding with_host with_table rule_at timer_ok widths_ok
table_changed c k t e n =
    let h = controller_fit c e in
    fit_controller (with_host c (with_table c.host k t)) (record {
      radio = h.radio;
      static_address = h.static_address;
      name = h.name;
      timer = h.timer;
      widths = h.widths;
      advertising = h.advertising;
      tables = tables_set c.radio.hardware uuid_rule table_rules c.host.tables k t h.tables n;
    })

-- as many tables as rules
pub tables_many : (f : Hardware) (us : List TableRule) (ts : List Table) → tables_ok f us ts ≡ true → length ts ≡ length us
unfolding tables_ok
tables_many f [] [] e = refl
tables_many f [] (t ∷ ts) e = no_way (sym e)
tables_many f (u ∷ us) [] e = no_way (sym e)
tables_many f (u ∷ us) (t ∷ ts) e = ap suc (tables_many f us ts (and_true (table_ok u f t) _ e).1)
