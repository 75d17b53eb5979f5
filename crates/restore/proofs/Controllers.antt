-- One controller of an image: its hardware, its settings, its names and its tables, put into the state one after the other.
use mathlib.Core.Path.{◌≡◌, refl, sym, ◌∙◌}
use Prim.Native.Nat.{ℕ, suc, ◌+◌, ◌≤◌, ◌<◌}
use native.Mathlib.Omega.{arith}
use mathlib.Core.Bool.{true, false, ◌&&◌}
use mathlib.Core.List.{List, [], ◌∷◌, append-nil}
use mathlib.Core.Option.{none, some}
use lib.ListN.{length, drop, replicate, length-drop, drop_of_length-le}
use lib.Seq.{drop-drop, sets, sets-eq}
use lib.Dec.{eqb}
use Rattle.model.specs.declared.Hardware.{Hardware}
use Rattle.model.specs.declared.Settings.{Settings}
use Rattle.model.specs.declared.Version.{Version}
use Rattle.model.specs.Octets.{Octets, bytes}
use Rattle.model.specs.State.{Controller, Table, no_tables, plugged, with_host, with_name, with_table}
use Rattle.model.specs.Advertising.{no_advertising}
use Rattle.model.specs.Tables.{table_rules}
use Rattle.model.specs.Image.{name_ok}
use Rattle.model.specs.Reading.{controller_by, fixed_by}
use Rattle.model.specs.WellFormed.{controller_ok, hardware_wide, tables_ok, timer_ok}
use Rattle.model.specs.Hub.{under_way}
use Rattle.model.specs.Layout.{decode, encode}
use Rattle.model.specs.Meanings.{state_ok}
use Rattle.model.proofs.Model.Demand3.{state_well}
use Rattle.model.proofs.Model.Parts.{controller_fit, fit_controller, fit_widths, lengths, tables_many, widths_fit}
use Rattle.model.proofs.Model.Stays.{plugged_ok}
use Rattle.model.proofs.Model.Tables.{bytes_drop}
use Rattle.model.proofs.Model.Tests.{both}
use Rattle.rules.specs.Effects.{with_settings}
use Rattle.layout.specs.Places.{Ready, controller_of, open_at, present_at, put_controller}
use Rattle.layout.proofs.Reading.{absent_open}
use Rattle.fields.specs.Places.{fixed_end, fixed_in, hardware_in, names_in, settings_in}
use Rattle.reading.specs.Contents.{Parsed, Placed, controller_in, tables_in}
use Rattle.restore.specs.Filling.{NamesFit, found, with_tables}
use Rattle.reading.proofs.Steps.{OneController, one_controller}
use Rattle.restore.proofs.Filling.{Holds, found_some, held_controller, held_open, held_put, held_ready, some_found}
use Rattle.restore.proofs.Names.{names_fit}

-- 1. A controller made of parts -------------------------------------------------------------------------------------------------------------------

-- the controller of an image's fixed part, with a name and tables
unfoldable pub controller_with : Version → Octets → Octets → List Table → Controller
controller_with v o name ts = record
    { radio = (settings_in v o).radio; host = record { settings = (settings_in v o).host; name = name; tables = ts; advertising = no_advertising } }

-- it is that of the model
with_names : (v : Version) (o : Octets) (ts : List Table) → controller_by (fixed_in v o) ts ≡ controller_with v o (names_in v o) ts
unfolding controller_by controller_with settings_in fixed_in fixed_by
with_names v o ts = refl

-- its hardware
with_hardware : (v : Version) (o n : Octets) (ts : List Table) → (controller_with v o n ts).radio.hardware ≡ hardware_in o
unfolding controller_with settings_in fixed_in fixed_by
with_hardware v o n ts = refl

-- a valid controller with another name and no tables is valid
pub bare_fine : (c : Controller) (n : Octets) → controller_ok c ≡ true → controller_ok (plugged c.radio.hardware) ≡ true → eqb (length n) 260
    && name_ok n ≡ true → bytes n ≡ true
    → controller_ok (record
    { radio = c.radio; host = record { settings = c.host.settings; name = n; tables = no_tables; advertising = c.host.advertising } }) ≡ true
unfolding plugged timer_ok
bare_fine c n e k z b =
    let f = controller_fit c e in
    let x = widths_fit c e in
    let g = controller_fit (plugged c.radio.hardware) k in
    let d : Controller = record
    { radio = c.radio; host = record { settings = c.host.settings; name = n; tables = no_tables; advertising = c.host.advertising } } in
    fit_controller d (record {
      radio = f.radio;
      static_address = f.static_address;
      name = z;
      tables = g.tables;
      timer = f.timer;
      widths =
          fit_widths d (record {
            version = x.version;
            manufacturer = x.manufacturer;
            public_address = x.public_address;
            static_address =
                x.static_address;
            name = b;
            seconds = x.seconds;
          });
      advertising = f.advertising;
    })

-- a controller with tables from place k on has those in the places of the others
with_tables_lem : (c : Controller) (k : ℕ) (ts : List Table)
    → with_tables c k ts ≡ record {
      radio = c.radio;
      host = record
          { settings = c.host.settings; name = c.host.name; tables = sets c.host.tables k ts; advertising = c.host.advertising };
    }
unfolding with_tables with_host with_table
with_tables_lem c k [] = refl
with_tables_lem c k (t ∷ ts) = with_tables_lem (with_host c (with_table c.host k t)) (suc k) ts

-- all tables in the places of as many others
all_tables : (xs ts : List Table) → length ts ≡ length xs → sets xs 0 ts ≡ ts
all_tables xs ts e =
    let d : drop (length ts) xs ≡ [] = drop_of_length-le xs {i = length ts} (omega arith) in
    let z : 0 + length ts ≡ length ts = omega arith in
    sets-eq ts xs 0 (omega arith) ∙ rw (z, d) (append-nil ts)

-- six tables put into six places
pub six_tables : (f : Hardware) (c : Controller) (ts : List Table) → tables_ok f table_rules ts ≡ true → c.host.tables ≡ no_tables
    → with_tables c 0 ts ≡ record
    { radio = c.radio; host = record { settings = c.host.settings; name = c.host.name; tables = ts; advertising = c.host.advertising } }
unfolding table_rules no_tables
six_tables f c ts e n = with_tables_lem c 0 ts ∙ rw (n, all_tables no_tables ts (tables_many f table_rules ts e))

-- 2. The writes that make it ----------------------------------------------------------------------------------------------------------------------

-- hardware as wide as its type, of a valid controller
hardware_wide_lem : (c : Controller) → controller_ok c ≡ true → hardware_wide c.radio.hardware ≡ true
unfolding hardware_wide
hardware_wide_lem c e = let x = widths_fit c e in both (both x.version x.manufacturer) x.public_address

module _ (s₀ : Octets) (i : ℕ) (v : Version) (o : Octets) (g : Parsed Placed) (ok : state_ok s₀ ≡ true) (l : i < 4) (gone : present_at s₀ i ≡ false)
    (y : OneController v o g) where
  -- the controller that was read
  read_fine : controller_ok (controller_with v o (names_in v o) y.tables.value) ≡ true
  read_fine = rw (← with_names v o y.tables.value, ← y.value) y.fine

  -- what the hardware alone makes
  plug_fine : controller_ok (plugged (hardware_in o)) ≡ true
  unfolding controller_with settings_in fixed_in fixed_by
  plug_fine = plugged_ok (hardware_in o) y.rules.hardware (hardware_wide_lem (controller_with v o (names_in v o) y.tables.value) read_fine)

  -- the address has six octets
  pub address_six : length (hardware_in o).public_address ≡ 6
  unfolding plugged
  address_six = (lengths (plugged (hardware_in o)) plug_fine).public_address

  -- after the hardware
  pub hardware_held : (s : Octets) → s ≡ encode (put_controller (decode s₀) i (plugged (hardware_in o))) → Holds (decode s₀) i s (plugged (hardware_in o))
  unfolding open_at under_way
  hardware_held s e = record { well = state_well s₀ ok; below = l; idle = absent_open s₀ i l gone; fine = plug_fine; state = e }

  -- after the settings
  pub settings_held : (s t : Octets) → Holds (decode s₀) i s (plugged (hardware_in o))
      → t ≡ encode (put_controller (decode s) i (with_settings (controller_of s i) (settings_in v o)))
      → Holds (decode s₀) i t (controller_with v o (replicate 260 0) no_tables)
  unfolding with_settings plugged controller_with settings_in fixed_in fixed_by
  settings_held s t x e =
      let d : Controller = controller_with v o (replicate 260 0) no_tables in
      let k : controller_ok d ≡ true = bare_fine (controller_with v o (names_in v o) y.tables.value) (replicate 260 0) read_fine plug_fine
      (controller_fit (plugged (hardware_in o)) plug_fine).name (widths_fit (plugged (hardware_in o)) plug_fine).name in
      let b : controller_of s i ≡ plugged (hardware_in o) = held_controller (decode s₀) i s (plugged (hardware_in o)) x in
      held_put (decode s₀) i s (plugged (hardware_in o)) x t d k (rw b at e)

  -- after the names
  pub names_held : (s t : Octets) → Holds (decode s₀) i s (controller_with v o (replicate 260 0) no_tables)
      → t ≡ encode (put_controller (decode s) i (with_host (controller_of s i) (with_name (controller_of s i).host (names_in v o))))
      → Holds (decode s₀) i t (controller_with v o (names_in v o) no_tables)
  unfolding with_host with_name controller_with settings_in fixed_in fixed_by
  names_held s t x e =
      let w : Controller = controller_with v o (names_in v o) y.tables.value in
      let d : Controller = controller_with v o (names_in v o) no_tables in
      let k : controller_ok d ≡ true = bare_fine w (names_in v o) read_fine plug_fine (controller_fit w read_fine).name (widths_fit w read_fine).name in
      let b : controller_of s i ≡ controller_with v o (replicate 260 0) no_tables = held_controller (decode s₀) i s
      (controller_with v o (replicate 260 0) no_tables) x in
      held_put (decode s₀) i s (controller_with v o (replicate 260 0) no_tables) x t d k (rw b at e)

  -- then the tables may be read
  pub tables_found : (s : Octets) → Holds (decode s₀) i s (controller_with v o (names_in v o) no_tables)
      → tables_in (controller_of s i).radio.hardware table_rules (drop (fixed_end v o) o) ≡ some y.tables
  tables_found s x = rw (held_controller (decode s₀) i s (controller_with v o (names_in v o) no_tables) x, with_hardware v o (names_in v o) no_tables) y.parsed

  -- and after them the state has the controller
  pub tables_held : (s t : Octets) → Holds (decode s₀) i s (controller_with v o (names_in v o) no_tables)
      → t ≡ encode (put_controller (decode s) i (with_tables (controller_of s i) 0 y.tables.value))
      → t ≡ encode (put_controller (decode s₀) i g.value.controller)
  unfolding controller_with
  tables_held s t x e =
      let d : Controller = controller_with v o (names_in v o) no_tables in
      let w : Controller = controller_with v o (names_in v o) y.tables.value in
      let b : controller_of s i ≡ d = held_controller (decode s₀) i s d x in
      let z : with_tables d 0 y.tables.value ≡ g.value.controller = six_tables w.radio.hardware d y.tables.value
      (controller_fit w read_fine).tables refl ∙ rw (y.value, with_names v o y.tables.value) in
      (held_put (decode s₀) i s d x t g.value.controller y.fine (rw (b, z) at e)).state

-- 3. The controller at a place of an image ------------------------------------------------------------------------------------------------------------

-- the index is absent in a well-formed state, and at that place of the image a controller was found
pub record Awaited (v : Version) (s₀ : Octets) (i : ℕ) (image : Octets) (at : ℕ) : Type 0 where
  pub ok : state_ok s₀ ≡ true
  pub below : i < 4
  pub gone : present_at s₀ i ≡ false
  pub wide : bytes image ≡ true
  pub some : found (controller_in v (drop at image)) ≡ true

module _ (v : Version) (s₀ : Octets) (i : ℕ) (image : Octets) (at : ℕ) (a : Awaited v s₀ i image at) where
  -- what was found
  one_found : (g : Parsed Placed) × OneController v (drop at image) g
  one_found =
      let q = found_some (controller_in v (drop at image)) a.some in
      (q.0, one_controller v (drop at image) q.0 (bytes_drop at image a.wide) q.1)

  -- its fields of fixed size lie in the image
  pub fixed_room : at + 24 ≤ length image
  fixed_room = let y = one_found.1 in omega (arith, y.within, y.long, length-drop at image)

  -- so do its names
  pub names_room : NamesFit v (drop at image)
  names_room = let y = one_found.1 in names_fit v (drop at image) y.within y.rules

  module _ (m : Settings) (em : m ≡ settings_in v (drop at image)) where
    -- the hardware that was read
    read_hardware : m.radio.hardware ≡ hardware_in (drop at image)
    unfolding settings_in fixed_in fixed_by
    read_hardware = rw em

    -- the address has six octets
    pub address_long : length m.radio.hardware.public_address ≡ 6
    address_long = rw read_hardware (address_six s₀ i v (drop at image) one_found.0 a.ok a.below a.gone one_found.1)

    module _ (s₁ : Octets) (e₁ : s₁ ≡ encode (put_controller (decode s₀) i (plugged m.radio.hardware))) where
      -- after the hardware
      after_hardware : (g : Parsed Placed) → OneController v (drop at image) g → Holds (decode s₀) i s₁ (plugged (hardware_in (drop at image)))
      after_hardware g y = hardware_held s₀ i v (drop at image) g a.ok a.below a.gone y s₁ (rw read_hardware at e₁)

      -- the settings may be written
      pub hardware_ready : Ready s₁ i
      hardware_ready = held_ready (decode s₀) i s₁ (plugged (hardware_in (drop at image))) (after_hardware one_found.0 one_found.1)

      module _ (s₂ : Octets) (e₂ : s₂ ≡ encode (put_controller (decode s₁) i (with_settings (controller_of s₁ i) m))) where
        -- after the settings
        after_settings : (g : Parsed Placed) → OneController v (drop at image) g
            → Holds (decode s₀) i s₂ (controller_with v (drop at image) (replicate 260 0) no_tables)
        after_settings g y = settings_held s₀ i v (drop at image) g a.ok a.below a.gone y s₁ s₂ (after_hardware g y) (rw em at e₂)

        -- the names may be written
        pub settings_ready : Ready s₂ i
        settings_ready = held_ready (decode s₀) i s₂ (controller_with v (drop at image) (replicate 260 0) no_tables) (after_settings one_found.0 one_found.1)

        module _ (s₃ : Octets) (p : ℕ) (ep : p ≡ at + fixed_end v (drop at image))
            (e₃ : s₃ ≡ encode (put_controller (decode s₂) i (with_host (controller_of s₂ i) (with_name (controller_of s₂ i).host (names_in v (drop at image)))))) where
          -- after the names
          after_names : (g : Parsed Placed) → OneController v (drop at image) g
              → Holds (decode s₀) i s₃ (controller_with v (drop at image) (names_in v (drop at image)) no_tables)
          after_names g y = names_held s₀ i v (drop at image) g a.ok a.below a.gone y s₂ s₃ (after_settings g y) e₃

          -- where the tables lie
          tables_there : (g : Parsed Placed) (y : OneController v (drop at image) g)
              → tables_in (controller_of s₃ i).radio.hardware table_rules (drop p image) ≡ some y.tables
          tables_there g y =
              rw (ep, ← drop-drop (fixed_end v (drop at image)) at image)
              (tables_found s₀ i v (drop at image) g a.ok a.below a.gone y s₃ (after_names g y))

          -- the tables may be filled
          pub names_ready : Ready s₃ i × (open_at s₃ i ≡ none)
              × (found (tables_in (controller_of s₃ i).radio.hardware table_rules (drop p image)) ≡ true)
          names_ready =
              let d : Controller = controller_with v (drop at image) (names_in v (drop at image)) no_tables in
              let x = after_names one_found.0 one_found.1 in (
                held_ready (decode s₀) i s₃ d x,
                held_open (decode s₀) i s₃ d x,
                some_found (tables_in (controller_of s₃ i).radio.hardware table_rules (drop p image)) one_found.1.tables
                    (tables_there one_found.0 one_found.1),
              )

          -- after the tables, the state has the controller
          pub controller_filled : (s₄ : Octets) (r : ℕ)
              → ((t : Parsed (List Table)) → tables_in (controller_of s₃ i).radio.hardware table_rules (drop p image) ≡ some t
              → (s₄ ≡ encode (put_controller (decode s₃) i (with_tables (controller_of s₃ i) 0 t.value))) × (drop r image ≡ t.behind))
              → (g : Parsed Placed) → controller_in v (drop at image) ≡ some g → (s₄ ≡ encode (put_controller (decode s₀) i g.value.controller))
              × (drop r image ≡ g.behind)
          controller_filled s₄ r f g e =
              let y = one_controller v (drop at image) g (bytes_drop at image a.wide) e in
              let z = f y.tables (tables_there g y) in
              (tables_held s₀ i v (drop at image) g a.ok a.below a.gone y s₃ s₄ (after_names g y) z.0, z.1 ∙ sym y.behind)
