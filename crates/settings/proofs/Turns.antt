-- The settings before and after tell what a settings command makes of the turns of the advertising; where power and Low Energy stay, so do the turns.
-- Assumes nothing.
use Rattle.std.proofs.Math.Bool.{beq}
use mathlib.Core.Path.{◌≡◌, refl, sym, ap, ◌∙◌}
use Prim.Native.Nat.{ℕ, ◌+◌, ◌≤◌}
use native.Mathlib.Omega.{arith}
use mathlib.Core.Bool.{Bool, true, false, not, ◌&&◌, ◌||◌}
use mathlib.Core.List.{List, [], ◌∷◌, ◌++◌, append-nil}
use lib.ListN.{length, length-append, replicate}
use lib.Dec.{eqb}
use borrow.Author.Tests.{eqb-true}
use Rattle.model.specs.declared.RadioSettings.{RadioSettings}
use Rattle.model.specs.declared.Schedule.{Schedule}
use Rattle.model.specs.declared.Settings.{Settings}
use Rattle.model.specs.Octets.{Octets, all_zero}
use Rattle.model.specs.Advertising.{advertising_removed, duration_of, first_present, following, instances, lasting, no_schedule, passed_on}
use Rattle.model.specs.Advertising.{powered_off, present, removed_of, repowered, rescheduled, turn_to, value_of}
use Rattle.model.specs.State.{Controller, current_settings, settings_of, with_host, with_schedule, with_advertising, with_powered, with_low_energy, with_connectable}
use Rattle.model.specs.State.{with_bredr, with_static_address}
use Rattle.model.specs.Rules.{RadioRule, on, set_powered, set_discoverable, set_connectable, set_low_energy, set_bredr, set_static_address}
use Rattle.model.specs.WellFormed.{controller_ok, schedule_ok, times_fit, times_ok, turn_ok}
use Rattle.model.proofs.Model.Tests.{and_true, equal, no_way, not-false, not-true}
use Rattle.model.proofs.Model.Schedule.{schedule_fit, off_while_off, times_many}
use Rattle.model.proofs.Model.Advertising.{advertising_fit, none_removed, rescheduled_same}
use Rattle.model.proofs.Model.Parts.{controller_fit}
use Rattle.rules.specs.Effects as Effects
use Rattle.rules.specs.Effects.{with_settings, with_turns, controller_with, settings_effect, turns_effect}
use Rattle.rules.proofs.Ties.{OnlySettings, powered_only, discoverable_only, connectable_only, low_energy_only, bredr_only_lem, static_address_only}
use Rattle.rules.proofs.Ties.{powered_turns, discoverable_turns, connectable_turns, low_energy_turns, bredr_turns, static_address_turns}
use Rattle.replies.specs.Frames.{settings_reply}
use Rattle.replies.proofs.Laws.{settings_short, then}
use Rattle.replies.proofs.Advertising.{removed_most}
use Rattle.octets.specs.Parts.{write_at}
use Rattle.model.specs.Layout.{decode, encode}
use Rattle.model.specs.declared.Answer.{Answer}
use Rattle.model.specs.declared.Answer.TheVariants.{Done}
use Rattle.layout.specs.Places.{Ready, controller_of, put_controller}
use Rattle.layout.proofs.Change.{controller_fine}
use Rattle.settings.specs.Turns.{acted_controller, acted_reply, schedule_of, turns_after}

-- 1. Without Low Energy ---------------------------------------------------------------------------------------------------------------------------

-- a list of five in which all are zero
zeros : (l : List ℕ) → length l ≡ 5 → all_zero l ≡ true → l ≡ replicate 5 0
unfolding all_zero
zeros l n e = rw n at (go l e)
  where
    go : (k : List ℕ) → all_zero k ≡ true → k ≡ replicate (length k) 0
    go [] f = refl
    go (x ∷ k) f = let a = and_true (eqb x 0) _ f in rw (eqb-true x 0 a.0, ← go k a.1)

-- absent instances have no timeouts
no_timeouts : (ds ts : List ℕ) → times_ok ds ts ≡ true → all_zero ds ≡ true → all_zero ts ≡ true
unfolding times_ok times_fit all_zero
no_timeouts [] [] e z = refl
no_timeouts [] (t ∷ ts) e z = no_way (sym e)
no_timeouts (d ∷ ds) [] e z = no_way (sym e)
no_timeouts (d ∷ ds) (t ∷ ts) e z =
    let a = and_true (eqb d 0) _ z in
    let b = and_true (times_fit d t) _ e in
    let f : not (eqb d 0) || eqb t 0 ≡ true = (and_true (not (eqb d 0) || eqb t 0) _ b.0).0 in
    let g : eqb t 0 ≡ true = rw a.0 at f in
    rw (g, all_zero) (no_timeouts ds ts b.1 a.1)

-- with no instance there, none is on air
none_on_air : (w : Bool) (t : Schedule) → all_zero t.durations ≡ true → turn_ok w t ≡ true → (t.on_air ≡ 0) × (t.left ≡ 0)
unfolding turn_ok
none_on_air w t z e =
    let a = and_true (eqb t.on_air 0) _ (go w e) in
    (eqb-true _ _ a.0, eqb-true _ _ a.1)
  where
    go : (v : Bool) → turn_ok v t ≡ true → eqb t.on_air 0 && eqb t.left 0 ≡ true
    go true f = rw (z, turn_ok) at f
    go false f = f

-- schedules of the same parts
by_parts : {ds es ts us : List ℕ} {k j n m : ℕ} → ds ≡ es → ts ≡ us → k ≡ j → n ≡ m
    → ◌≡◌ {A = Schedule} (record { durations = ds; timeouts = ts; on_air = k; left = n }) (record { durations = es; timeouts = us; on_air = j; left = m })
by_parts a b c d = cc

-- without Low Energy no instance is there, and none is on air
pub none_there : (w : Bool) (t : Schedule) → schedule_ok false w t ≡ true → t ≡ no_schedule
unfolding no_schedule
none_there w t e =
    let h = schedule_fit false w t e in
    let n : length t.durations ≡ 5 = equal _ _ h.five in
    let m : length t.timeouts ≡ 5 = times_many _ _ h.times ∙ n in
    let a = none_on_air w t h.le h.turn in
    by_parts (zeros t.durations n h.le) (zeros t.timeouts m (no_timeouts _ _ h.times h.le)) a.0 a.1

-- no change of power brings one
still_none : (x y : Bool) → repowered x y no_schedule ≡ no_schedule
unfolding repowered no_schedule powered_off lasting passed_on turn_to first_present following present duration_of value_of
still_none true true = refl
still_none true false = refl
still_none false y = refl

-- 2. What the settings tell of the turns ----------------------------------------------------------------------------------------------------------

-- with Low Energy as it was, the turns go by power
by_power : (l w x : Bool) (t : Schedule) → schedule_ok l w t ≡ true
    → ◌≡◌ {A = Schedule} (repowered x w t) (elim l [ true ↦ repowered x w t | false ↦ no_schedule ])
by_power true w x t e = refl
by_power false w x t e = rw (none_there w t e) (still_none x w)

-- with power as it was, too, they stay
as_they_are : (l w : Bool) (t : Schedule) → schedule_ok l w t ≡ true → repowered w w t ≡ t
unfolding repowered
as_they_are l true t e = refl
as_they_are l false t e = off_while_off l t e

-- so where power and Low Energy stay
pub turns_stay : (old new : RadioSettings) (t : Schedule) → schedule_ok old.low_energy old.powered t ≡ true → old.powered ≡ new.powered
    → old.low_energy ≡ new.low_energy → turns_after old new t ≡ t
unfolding turns_after
turns_stay old new t e p l =
    rw (← p, ← l) (sym (by_power old.low_energy old.powered old.powered t e) ∙ as_they_are old.low_energy old.powered t e)

-- Set Low Energy, on or off
by_low_energy : (l w x : Bool) (t : Schedule) → schedule_ok l w t ≡ true
    → ◌≡◌ {A = Schedule} (elim x [ true ↦ t | false ↦ no_schedule ]) (elim x [ true ↦ repowered w w t | false ↦ no_schedule ])
by_low_energy l w true t e = sym (as_they_are l w t e)
by_low_energy l w false t e = refl

-- the turns of a controller that keeps its rules
turns_fine : (c : Controller) → controller_ok c ≡ true → schedule_ok c.radio.low_energy c.radio.powered c.host.advertising.schedule ≡ true
turns_fine c e = (advertising_fit _ _ c.host.advertising (controller_fit c e).advertising).schedule

-- what a command makes of the turns is what the settings before and after tell
abbrev Turned : RadioRule → Controller → Octets → Type 0
Turned u c ps =
    turns_effect u (settings_of c) c.host.advertising.schedule ps
    ≡ turns_after (settings_of c).radio (settings_effect u (settings_of c) ps).radio c.host.advertising.schedule

-- Set Powered
powered_turned : (c : Controller) (ps : Octets) → controller_ok c ≡ true → Turned set_powered c ps
unfolding settings_effect settings_of Effects.controller_of controller_with set_powered with_powered turns_after
powered_turned c ps e =
    powered_turns (settings_of c) c.host.advertising.schedule ps
    ∙ by_power c.radio.low_energy c.radio.powered (on ps) c.host.advertising.schedule (turns_fine c e)

-- Set Low Energy
low_energy_turned : (c : Controller) (ps : Octets) → controller_ok c ≡ true → Turned set_low_energy c ps
unfolding settings_effect settings_of Effects.controller_of controller_with set_low_energy with_low_energy turns_after
low_energy_turned c ps e =
    low_energy_turns (settings_of c) c.host.advertising.schedule ps
    ∙ by_low_energy c.radio.low_energy c.radio.powered (on ps) c.host.advertising.schedule (turns_fine c e)

-- Set Discoverable
discoverable_turned : (c : Controller) (ps : Octets) → controller_ok c ≡ true → Turned set_discoverable c ps
unfolding settings_effect settings_of Effects.controller_of controller_with set_discoverable
discoverable_turned c ps e =
    discoverable_turns (settings_of c) c.host.advertising.schedule ps
    ∙ sym (turns_stay c.radio c.radio c.host.advertising.schedule (turns_fine c e) refl refl)

-- Set Connectable
connectable_turned : (c : Controller) (ps : Octets) → controller_ok c ≡ true → Turned set_connectable c ps
unfolding settings_effect settings_of Effects.controller_of controller_with set_connectable with_connectable
connectable_turned c ps e =
    connectable_turns (settings_of c) c.host.advertising.schedule ps
    ∙ sym (turns_stay c.radio (with_connectable c.radio (on ps)) c.host.advertising.schedule (turns_fine c e) refl refl)

-- Set BR/EDR
bredr_turned : (c : Controller) (ps : Octets) → controller_ok c ≡ true → Turned set_bredr c ps
unfolding settings_effect settings_of Effects.controller_of controller_with set_bredr with_bredr
bredr_turned c ps e =
    bredr_turns (settings_of c) c.host.advertising.schedule ps
    ∙ sym (turns_stay c.radio (with_bredr c.radio (on ps)) c.host.advertising.schedule (turns_fine c e) refl refl)

-- Set Static Address
static_address_turned : (c : Controller) (ps : Octets) → controller_ok c ≡ true → Turned set_static_address c ps
unfolding settings_effect settings_of Effects.controller_of controller_with set_static_address with_static_address
static_address_turned c ps e =
    static_address_turns (settings_of c) c.host.advertising.schedule ps
    ∙ sym (turns_stay c.radio (with_static_address c.radio ps) c.host.advertising.schedule (turns_fine c e) refl refl)

-- 3. What a command that acts makes of a controller -----------------------------------------------------------------------------------------------

-- it changes the settings, and the turns as they tell
pub record Acts (u : RadioRule) (c : Controller) (ps : Octets) : Type 0 where
  pub settings : settings_of (u.effect c ps) ≡ settings_effect u (settings_of c) ps
  pub whole : u.effect c ps ≡ acted_controller c (settings_of c) (settings_effect u (settings_of c) ps)

-- so of a rule that changes settings and turns alone
acts : (u : RadioRule) (c : Controller) (ps : Octets) → OnlySettings u c ps → Turned u c ps → Acts u c ps
unfolding acted_controller
acts u c ps only turned = record { settings = only.settings; whole = only.whole ∙ rw turned }

-- Set Powered
pub powered_acts : (c : Controller) (ps : Octets) → controller_ok c ≡ true → Acts set_powered c ps
powered_acts c ps e = acts set_powered c ps (powered_only c ps) (powered_turned c ps e)

-- Set Discoverable
pub discoverable_acts : (c : Controller) (ps : Octets) → controller_ok c ≡ true → Acts set_discoverable c ps
discoverable_acts c ps e = acts set_discoverable c ps (discoverable_only c ps e) (discoverable_turned c ps e)

-- Set Connectable
pub connectable_acts : (c : Controller) (ps : Octets) → controller_ok c ≡ true → Acts set_connectable c ps
connectable_acts c ps e = acts set_connectable c ps (connectable_only c ps e) (connectable_turned c ps e)

-- Set Low Energy
pub low_energy_acts : (c : Controller) (ps : Octets) → controller_ok c ≡ true → Acts set_low_energy c ps
low_energy_acts c ps e = acts set_low_energy c ps (low_energy_only c ps e) (low_energy_turned c ps e)

-- Set BR/EDR
pub bredr_acts : (c : Controller) (ps : Octets) → controller_ok c ≡ true → Acts set_bredr c ps
bredr_acts c ps e = acts set_bredr c ps (bredr_only_lem c ps e) (bredr_turned c ps e)

-- Set Static Address
pub static_address_acts : (c : Controller) (ps : Octets) → controller_ok c ≡ true → Acts set_static_address c ps
static_address_acts c ps e = acts set_static_address c ps (static_address_only c ps e) (static_address_turned c ps e)

-- 4. Where power and Low Energy stay --------------------------------------------------------------------------------------------------------------

-- the turns of the controller once a command has acted
pub acted_turns : (c : Controller) (old new : Settings)
    → (acted_controller c old new).host.advertising.schedule ≡ turns_after old.radio new.radio c.host.advertising.schedule
unfolding acted_controller with_turns with_host with_schedule with_advertising rescheduled
acted_turns c old new = refl

-- to change the settings alone is all
pub stays_controller : (c : Controller) (old new : Settings) → controller_ok c ≡ true
    → turns_after old.radio new.radio c.host.advertising.schedule ≡ c.host.advertising.schedule → with_settings c new ≡ acted_controller c old new
unfolding acted_controller with_settings with_turns with_host with_schedule with_advertising
stays_controller c old new e t = rw (t, rescheduled_same _ _ c.host.advertising (controller_fit c e).advertising)

-- and no event stands behind New Settings
pub stays_reply : (i code : ℕ) (old new : Settings) (c : Controller)
    → turns_after old.radio new.radio c.host.advertising.schedule ≡ c.host.advertising.schedule
    → settings_reply i code (current_settings old) (current_settings new) ≡ acted_reply i code old new c.host.advertising.schedule
unfolding acted_reply advertising_removed
stays_reply i code old new c t =
    let n : removed_of i c.host.advertising.schedule c.host.advertising.schedule instances ≡ [] = none_removed i c.host.advertising in
    rw (t, n, append-nil)

-- what is written is at most 58 octets: the reply 13, New Settings 10, Advertising Removed 35
pub acted_short : (i code : ℕ) (old new : Settings) (t : Schedule) → length (acted_reply i code old new t) ≤ 58
unfolding acted_reply
acted_short i code old new t =
    let a = settings_short i code (current_settings old) (current_settings new) in
    let b = removed_most i t (turns_after old.radio new.radio t) in
    rw length-append (omega (arith, a, b))

-- 5. From what the steps leave --------------------------------------------------------------------------------------------------------------------

-- Low Energy is off
pub turned_off : (old new : RadioSettings) (was next : Schedule) → not new.low_energy ≡ true → next ≡ no_schedule → next ≡ turns_after old new was
unfolding turns_after
turned_off old new was next off e = rw (not-true new.low_energy off) e

-- it is on: by power
pub turned_on : (old new : RadioSettings) (was next : Schedule) → not new.low_energy ≡ false → next ≡ repowered new.powered old.powered was
    → next ≡ turns_after old new was
unfolding turns_after
turned_on old new was next off e = rw (not-false new.low_energy off) e

-- two settings of which the test says that they are the same
pub same_is : (a b : Bool) → beq a b ≡ true → a ≡ b
same_is true true e = refl
same_is true false e = sym e
same_is false true e = e
same_is false false e = refl

-- the reply alone is at most 23 octets
pub told_short : (i code old new count : ℕ) → count ≡ length (settings_reply i code old new) → count ≤ 23
told_short i code old new count e = rw e (settings_short i code old new)

-- the events behind the reply
pub acted_written : (s : Octets) (i code : ℕ) (old new : Settings) (was next : Schedule) (d d₁ d₂ : Octets) (count end : ℕ)
    → was ≡ schedule_of s i → next ≡ turns_after old.radio new.radio was
    → count ≡ length (settings_reply i code (current_settings old) (current_settings new))
    → d₁ ≡ write_at d 0 (settings_reply i code (current_settings old) (current_settings new)) → end ≡ count + length (removed_of i was next instances)
    → d₂ ≡ write_at d₁ count (removed_of i was next instances)
    → (end ≡ length (acted_reply i code old new (schedule_of s i))) × (d₂ ≡ write_at d 0 (acted_reply i code old new (schedule_of s i)))
unfolding acted_reply
acted_written s i code old new was next d d₁ d₂ count end ew en ec e₁ ee e₂ =
    let a = settings_reply i code (current_settings old) (current_settings new) in
    let b = removed_of i was next instances in
    let x : b ≡ removed_of i (schedule_of s i) (turns_after old.radio new.radio (schedule_of s i)) instances = rw (en, ew) in
    let n : end ≡ length (a ++ b) = ee ∙ rw (ec, length-append) in
    let w : d₂ ≡ write_at d 0 (a ++ b) = e₂ ∙ rw (e₁, ec) (then d 0 a b (length a) (omega arith)) in
    (n ∙ rw x, w ∙ rw x)

-- the settings and the turns laid out
pub acted_laid : (s s' : Octets) (i : ℕ) (old new : Settings) (was next : Schedule) → was ≡ schedule_of s i → next ≡ turns_after old.radio new.radio was
    → s' ≡ encode (put_controller (decode s) i (with_turns (with_settings (controller_of s i) new) next))
    → s' ≡ encode (put_controller (decode s) i (acted_controller (controller_of s i) old new))
unfolding acted_controller
acted_laid s s' i old new was next ew en es = es ∙ rw (en, ew)

-- power and Low Energy stay: the settings alone are written
pub stays_acted : (s s' : Octets) (i code : ℕ) (old new : Settings) (d d' : Octets) (r : Answer) → Ready s i → old ≡ settings_of (controller_of s i)
    → old.radio.powered ≡ new.radio.powered → old.radio.low_energy ≡ new.radio.low_energy
    → r ≡ Done (length (settings_reply i code (current_settings old) (current_settings new)))
    → d' ≡ write_at d 0 (settings_reply i code (current_settings old) (current_settings new))
    → s' ≡ encode (put_controller (decode s) i (with_settings (controller_of s i) new))
    → (r ≡ Done (length (acted_reply i code old new (schedule_of s i)))) × (d' ≡ write_at d 0 (acted_reply i code old new (schedule_of s i)))
    × (s' ≡ encode (put_controller (decode s) i (acted_controller (controller_of s i) old new)))
unfolding settings_of
stays_acted s s' i code old new d d' r g eo p l er ed es =
    let c = controller_of s i in
    let ok = controller_fine s i g in
    let q : old.radio ≡ c.radio = ap (λ (m : Settings). m.radio) eo in
    let f : schedule_ok old.radio.low_energy old.radio.powered (schedule_of s i) ≡ true = rw q (turns_fine c ok) in
    let t = turns_stay old.radio new.radio (schedule_of s i) f p l in
    let x = stays_reply i code old new c t in
    (er ∙ rw x, ed ∙ rw x, es ∙ rw (stays_controller c old new ok t))
