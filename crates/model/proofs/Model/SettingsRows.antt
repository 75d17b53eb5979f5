-- Each settings command that can be Busy keeps a controller well formed: one lemma to a command.
use Rattle.std.specs.Prelude.{ℕ, ◌+◌, ◌≡◌, refl, Bool, true, false, ◌&&◌, ◌||◌, not, List, ◌∷◌, length, eqb, ltb}
use Rattle.std.proofs.Common.{arith, sym}
use Rattle.std.proofs.Math.Option.{Option, none, some}
use Rattle.model.specs.Octets.{Octets, all_zero, bytes, octet, u16}
use Rattle.model.specs.Advertising.{Schedule, no_advertising, repowered}
use Rattle.model.specs.State.{Controller, Host, RadioSettings, bredr_supported, le_supported, no_timer}
use Rattle.model.specs.State.{with_bredr, with_connectable, with_low_energy, with_powered}
use Rattle.model.specs.State.{with_static_address}
use Rattle.model.specs.State.{with_advertising, with_schedule, with_timer}
use Rattle.model.specs.Reasons.{Check, Reason, first_of}
use Rattle.model.specs.Rules.{RadioRule, on, set_connectable}
use Rattle.model.specs.Rules.{set_bredr, set_discoverable, set_low_energy, set_powered, set_static_address}
use Rattle.model.specs.Image.{radio_ok}
use Rattle.model.specs.WellFormed.{addressed, advertising_ok, controller_ok, settings_fit, timer_ok, widths_ok}
use Rattle.model.proofs.Model.Advertising.{advertising_fit, le_on_lem, no_advertising_ok, rescheduled_ok}
use Rattle.model.proofs.Model.Schedule.{repowered_ok}
use Rattle.model.proofs.Model.Parts.{controller_fit, fit_controller, fit_radio, fit_widths, radio_fit, widths_fit}
use Rattle.model.proofs.Model.Tables.{byte_at, lt_true}
use Rattle.model.proofs.Model.Tests.{and_true, both, either, no_way, not-false, not-true, or_true}

-- 1. What a settings command must keep -------------------------------------------------------------------------------------------------------

-- the effect of a settings command that no check refuses leaves the controller well formed
unfoldable pub KeepsRadio : RadioRule → Type 0
KeepsRadio r = (c : Controller) (ps : Octets) → controller_ok c ≡ true → bytes ps ≡ true → eqb (length ps) r.size ≡ true
    → first_of (r.before_busy c.radio ps) ≡ none → first_of (r.after_busy c.radio ps) ≡ none
    → controller_ok (r.effect c ps) ≡ true

-- of checks of which none applies, the first does not, and none of the rest
pub first_none : (c : Check) (cs : List Check) → first_of (c ∷ cs) ≡ none → (c.fails ≡ false) × (first_of cs ≡ none)
unfolding first_of
first_none c cs e = go c.fails e
  where
    go : (b : Bool) → ◌≡◌ {A = Option Reason} (elim b [ true ↦ some c.reason | false ↦ first_of cs ]) none → (b ≡ false) × (first_of cs ≡ none)
    go true e = let z : ◌≡◌ {A = ℕ} 0 1 = cc in absurd (omega arith)
    go false e = (refl, e)

-- two octets make a number below 65,536
pub wide16 : (o : Octets) (k : ℕ) → bytes o ≡ true → ltb (u16 o k) 65536 ≡ true
unfolding u16
wide16 o k w = lt_true (u16 o k) 65536 (omega (arith, byte_at o k w, byte_at o (k + 1) w))

-- 2. The commands ----------------------------------------------------------------------------------------------------------------------------

-- a controller with new radio settings and a new host part of the same name and tables, if settings and advertising fit
anew : (c : Controller) (r : RadioSettings) (s : Host) → controller_ok c ≡ true → radio_ok r ≡ true → eqb (length r.static_address) 6 ≡ true
    → r.hardware ≡ c.radio.hardware
    → s.name ≡ c.host.name → s.tables ≡ c.host.tables
    → timer_ok (record { radio = r; host = s }) ≡ true → bytes r.static_address ≡ true → ltb s.settings.timer.seconds 65536 ≡ true
    → advertising_ok r.low_energy r.powered s.advertising ≡ true → controller_ok (record { radio = r; host = s }) ≡ true
anew c r s e er es ef en et ec bs bt ea =
    let h = controller_fit c e in
    let x = widths_fit c e in
    let ew : widths_ok (record { radio = r; host = s }) ≡ true = fit_widths (record { radio = r; host = s }) (record {
      version = rw ef x.version;
      manufacturer = rw ef x.manufacturer;
      public_address = rw ef x.public_address;
      static_address = bs;
      name = rw en x.name;
      seconds = bt;
    }) in
    fit_controller (record { radio = r; host = s })
    (record { radio = er; static_address = es; name = rw en h.name; tables = rw (ef, et) h.tables; timer = ec; widths = ew; advertising = ea })

-- the rules on settings, with another power setting
fit_powered : (d k z w x o : Bool) → settings_fit d k z w (not x) ≡ true → not o && not z ≡ false → o && x ≡ false → settings_fit d k z o (not x) ≡ true
unfolding settings_fit
fit_powered d k z w x true h e l = let a = and_true (not d || k) _ h in let b = and_true (z || (w && d)) _ a.1 in rw (a.0, l) (seconds z w d b.0)
  where
    seconds : (z w d : Bool) → z || (w && d) ≡ true → (z || d) && true ≡ true
    seconds true w d t = refl
    seconds false true d t = rw t
    seconds false false d t = no_way (sym t)
fit_powered d k z w x false h e l = let a = and_true (not d || k) _ h in rw (a.0, not-false z e)

-- the rules on settings, with another discoverable and timer
fit_discoverable : (d k z w a v y : Bool) → settings_fit d k z w a ≡ true → v && not y ≡ false → not w && not y ≡ false → not v && not k ≡ false
    → settings_fit (not v) k y w a ≡ true
unfolding settings_fit
fit_discoverable d k z w a v y h e1 e2 e3 =
    let b = and_true (z || (w && d)) _ (and_true (not d || k) _ h).1 in
    rw b.1 (both (conn v k e3) (both (seconds v y w e1 e2) refl))
  where
    conn : (v k : Bool) → not v && not k ≡ false → not (not v) || k ≡ true
    conn true k e = refl
    conn false k e = not-false k e

    seconds : (v y w : Bool) → v && not y ≡ false → not w && not y ≡ false → y || (w && not v) ≡ true
    seconds v true w e f = refl
    seconds true false w e f = no_way e
    seconds false false true e f = refl
    seconds false false false e f = no_way f

-- Set Powered
pub keeps_powered : KeepsRadio set_powered
unfolding KeepsRadio set_powered with_powered with_timer with_schedule with_advertising no_timer timer_ok radio_ok addressed settings_fit
keeps_powered c ps e w z n l =
    let h = controller_fit c e in
    let t : Schedule = repowered (on ps) c.radio.powered c.host.advertising.schedule in
    let a = rescheduled_ok _ _ c.radio.low_energy (on ps) c.host.advertising t h.advertising
    (repowered_ok _ (on ps) _ _ (advertising_fit _ _ _ h.advertising).schedule) in
    either (λ s. controller_ok (record { radio = with_powered c.radio (on ps); host = with_schedule s t }) ≡ true)
    (not (on ps) && not (eqb c.host.settings.timer.seconds 0))
    {x = with_timer c.host no_timer} {y = c.host}
    (λ t. anew c (with_powered c.radio (on ps)) _ e h.radio h.static_address refl refl refl
    (rw (not-true (on ps) (and_true _ _ t).0)) (widths_fit c e).static_address refl a)
    (λ t. anew c (with_powered c.radio (on ps)) _ e h.radio h.static_address refl refl refl
    (fit_powered c.host.settings.timer.discoverable (c.radio.connectable && c.radio.bredr) (eqb c.host.settings.timer.seconds 0)
    c.radio.powered
    (all_zero c.radio.hardware.public_address && all_zero c.radio.static_address) (on ps) h.timer t (first_none _ _ l).0)
    (widths_fit c e).static_address (widths_fit c e).seconds a)

-- what two checks do not refuse has both
neither : (v a b : Bool) → not v && not a ≡ false → not v && not b ≡ false → not v && not (a && b) ≡ false
neither true a b e f = refl
neither false true b e f = f
neither false false b e f = no_way e

-- Set Discoverable
pub keeps_discoverable : KeepsRadio set_discoverable
unfolding KeepsRadio set_discoverable with_timer timer_ok
keeps_discoverable c ps e w z n l =
    let h = controller_fit c e in
    let b = first_none _ _ (first_none _ _ n).1 in
    let d = first_none _ _ (first_none _ _ (first_none _ _ b.1).1).1 in
    let r = first_none _ _ l in
    anew c c.radio _ e h.radio h.static_address refl refl refl
    (fit_discoverable _ _ _ _ _ (eqb (octet ps 0) 0) (eqb (u16 ps 1) 0) h.timer b.0 d.0
    (neither (eqb (octet ps 0) 0) c.radio.connectable c.radio.bredr r.0 (first_none _ _ r.1).0))
    (widths_fit c e).static_address (wide16 ps 1 w) h.advertising

-- discoverable where both settings let it be on: each of them does
let_by_second : (d a b : Bool) → not d || (a && b) ≡ true → not d || b ≡ true
let_by_second true true b e = e
let_by_second true false b e = no_way (sym e)
let_by_second false a b e = refl

-- the same of the first, beside one that is on
let_by_first : (d a b : Bool) → not d || (a && b) ≡ true → not d || (a && true) ≡ true
let_by_first true true b e = refl
let_by_first true false b e = e
let_by_first false a b e = refl

-- Set Connectable
pub keeps_connectable : KeepsRadio set_connectable
unfolding KeepsRadio set_connectable with_connectable with_timer no_timer timer_ok radio_ok addressed settings_fit
keeps_connectable c ps e w z n l =
    let h = controller_fit c e in
    let a = and_true (not c.host.settings.timer.discoverable || (c.radio.connectable && c.radio.bredr)) _ h.timer in
    let b = and_true (eqb c.host.settings.timer.seconds 0 || (c.radio.powered && c.host.settings.timer.discoverable)) _ a.1 in
    either (λ s. controller_ok (record { radio = with_connectable c.radio (on ps); host = s }) ≡ true) (on ps)
    (λ t. anew c (with_connectable c.radio (on ps)) c.host e h.radio h.static_address refl refl refl
    (rw t (both (let_by_second c.host.settings.timer.discoverable c.radio.connectable c.radio.bredr a.0) (both b.0 b.1)))
    (widths_fit c e).static_address
    (widths_fit c e).seconds h.advertising)
    (λ t. anew c (with_connectable c.radio (on ps)) (with_timer c.host no_timer) e h.radio h.static_address refl refl refl b.1
    (widths_fit c e).static_address refl h.advertising)

-- Set Low Energy
pub keeps_low_energy : KeepsRadio set_low_energy
unfolding KeepsRadio set_low_energy with_low_energy with_advertising timer_ok addressed
keeps_low_energy c ps e w z n l =
    let h = controller_fit c e in
    let f = radio_fit c.radio h.radio in
    let le : le_supported c.radio.hardware ≡ true = not-false _ (first_none _ _ (first_none _ _ n).1).0 in
    let k : radio_ok (with_low_energy c.radio (on ps)) ≡ true = fit_radio (with_low_energy c.radio (on ps)) (record {
      hardware = f.hardware;
      bredr = f.bredr;
      one = one c.radio.bredr (on ps) (first_none _ _ (first_none _ _ l).1).0;
      low = rw le;
      support = f.support;
      static_address = f.static_address;
    }) in
    let fits : (s : Host) → s.settings ≡ c.host.settings → s.name ≡ c.host.name → s.tables ≡ c.host.tables
    → advertising_ok (on ps) c.radio.powered s.advertising ≡ true → controller_ok
    (record { radio = with_low_energy c.radio (on ps); host = s }) ≡ true =
    λ s es en et ea. anew c (with_low_energy c.radio (on ps)) s e k h.static_address refl en et (rw es h.timer) (widths_fit c e).static_address
    (rw es (widths_fit c e).seconds) ea in
    either (λ s. controller_ok (record { radio = with_low_energy c.radio (on ps); host = s }) ≡ true) (on ps)
    (λ t. fits c.host refl refl refl (rw t (le_on_lem _ _ c.host.advertising h.advertising)))
    (λ t. fits (with_advertising c.host no_advertising) refl refl refl (no_advertising_ok (on ps) c.radio.powered))
  where
    one : (b o : Bool) → not o && not b ≡ false → b || o ≡ true
    one true o e = refl
    one false true e = refl
    one false false e = no_way e

-- Set BR/EDR
pub keeps_bredr : KeepsRadio set_bredr
unfolding KeepsRadio set_bredr with_bredr with_timer no_timer timer_ok addressed settings_fit
keeps_bredr c ps e w z n l =
    let h = controller_fit c e in
    let f = radio_fit c.radio h.radio in
    let a = and_true (not c.host.settings.timer.discoverable || (c.radio.connectable && c.radio.bredr)) _ h.timer in
    let b = and_true (eqb c.host.settings.timer.seconds 0 || (c.radio.powered && c.host.settings.timer.discoverable)) _ a.1 in
    let br : bredr_supported c.radio.hardware ≡ true = not-false _ (first_none _ _ (first_none _ _ n).1).0 in
    let le : c.radio.low_energy ≡ true = not-false _ (first_none _ _ (first_none _ _ (first_none _ _ l).1).1).0 in
    let sup : not (on ps) || bredr_supported c.radio.hardware ≡ true = rw br (or_true (not (on ps))) in
    let one : on ps || c.radio.low_energy ≡ true = rw le (or_true (on ps)) in
    let k : radio_ok (with_bredr c.radio (on ps)) ≡ true = fit_radio (with_bredr c.radio (on ps))
    (record { hardware = f.hardware; bredr = sup; one = one; low = f.low; support = f.support; static_address = f.static_address }) in
    either (λ s. controller_ok (record { radio = with_bredr c.radio (on ps); host = s }) ≡ true) (on ps)
    (λ t. anew c (with_bredr c.radio (on ps)) c.host e k h.static_address refl refl refl
    (rw t (both (let_by_first c.host.settings.timer.discoverable c.radio.connectable c.radio.bredr a.0) (both b.0 b.1)))
    (widths_fit c e).static_address (widths_fit c e).seconds h.advertising)
    (λ t. anew c (with_bredr c.radio (on ps)) (with_timer c.host no_timer) e k h.static_address refl refl refl b.1
    (widths_fit c e).static_address refl h.advertising)

-- Set Static Address
pub keeps_static_address : KeepsRadio set_static_address
unfolding KeepsRadio set_static_address with_static_address timer_ok addressed settings_fit
keeps_static_address c ps e w z n l =
    let h = controller_fit c e in
    let f = radio_fit c.radio h.radio in
    let a = first_none _ _ n in
    let off : c.radio.powered ≡ false = (first_none _ _ l).0 in
    let le : le_supported c.radio.hardware ≡ true = not-false _ (first_none _ _ a.1).0 in
    anew c (with_static_address c.radio ps) c.host e
    (fit_radio (with_static_address c.radio ps)
    (record { hardware = f.hardware; bredr = f.bredr; one = f.one; low = f.low; support = rw le; static_address = not-false _ a.0 }))
    z refl refl refl (rw off (rw off at h.timer)) w (widths_fit c e).seconds h.advertising
