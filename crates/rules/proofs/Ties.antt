-- How the decisions and effects of this crate stand to the model's rules: what a caller needs to say the model's words of a decision taken by value.
-- Assumes nothing.
use Rattle.std.proofs.Common.{◌≡◌, ℕ, Bool, true, false, not, ◌&&◌, eqb, List, [], ◌∷◌, length, replicate, refl, arith, eq-eqb}
use mathlib.Core.Option.{Option, none, some}
use Rattle.model.specs.Octets.{Octets}
use Rattle.model.specs.Advertising.{Advertising, data_kept, no_advertising, no_schedule, repowered, rescheduled, seconds}
use Rattle.model.specs.declared.RadioSettings.{RadioSettings}
use Rattle.model.specs.declared.Schedule.{Schedule}
use Rattle.model.specs.declared.Settings.{Settings}
use Rattle.model.specs.State.{Host, Controller, no_timer, settings_of, with_host, with_timer, with_bondable, with_powered, with_bredr, with_connectable, with_low_energy}
use Rattle.model.specs.State.{with_advertising, with_schedule, with_static_address}
use Rattle.model.specs.Reasons.{Check, first_of, no_reason, passes, status_of}
use Rattle.model.specs.declared.Reason.{Reason}
use Rattle.model.specs.Rules.{RadioRule, radio, on, set_powered, set_discoverable, set_bredr, set_connectable, set_low_energy, set_static_address}
use Rattle.model.specs.Hub.{starts_by, countdown, tick}
use Rattle.model.specs.WellFormed.{advertising_ok, controller_ok, timer_ok}
use Rattle.model.proofs.Model.Advertising.{five_each, rescheduled_same}
use Rattle.model.proofs.Model.Parts.{controller_fit}
use Rattle.rules.specs.Decisions.{wait_or_act, after_busy_of, before_busy_of, decision, is_started, settings_ok}
use Rattle.rules.specs.Effects.{with_settings, with_turns, controller_of, controller_with, settings_effect, settings_timer, settings_bondable}
use Rattle.rules.specs.Effects.{turns_effect}
use Rattle.rules.specs.declared.Decision.TheVariants.{Refuse, Reject, Wait, Act}

-- 0 is not 1: for the cases in which one decision would be two
clash : {A : Type 0} → ◌≡◌ {A = ℕ} 0 1 → A
clash e = absurd (omega arith)

-- DECISIONS -----------------------------------------------------------------------------------------------------------------------------------

-- One lemma for each answer, over the first reason before Busy, the first after it, and whether the command waits.

-- a command waits if no reason stands and it is one that the radio carries out
wait_test : (a b : Option Reason) (w : Bool) → (no_reason a && (no_reason b && w)) ≡ is_started (before_busy_of (after_busy_of w b) a)
unfolding no_reason is_started before_busy_of after_busy_of wait_or_act
wait_test (some x) b w = refl
wait_test none (some y) w = refl
wait_test none none true = refl
wait_test none none false = refl

-- what a start asks beside the length is that the decision is to wait
pub wait_is : (r : RadioRule) (x : RadioSettings) (ps : Octets)
    → (passes (r.before_busy x ps) && (passes (r.after_busy x ps) && r.waits x ps)) ≡ is_started (decision r x ps)
unfolding passes decision
wait_is r x ps = wait_test (first_of (r.before_busy x ps)) (first_of (r.after_busy x ps)) (r.waits x ps)

-- so with parameters of the right length a command would now be started exactly if the decision is to wait
pub starts_is : (r : RadioRule) (x : RadioSettings) (ps : Octets) → length ps ≡ r.size → starts_by x ps (some (radio r)) ≡ is_started (decision r x ps)
unfolding starts_by
starts_is r x ps l = rw (eq-eqb (length ps) r.size l) (wait_is r x ps)

-- the first of the checks that fails, and its status
pub record Fails (cs : List Check) (status : ℕ) : Type 0 where
  pub reason : Reason
  pub first : first_of cs ≡ some reason
  pub told : status_of reason ≡ status

-- a decision tells which checks fail: what the model's verdict goes by
refused : (cs ds : List Check) (w : Bool) (s : ℕ) (a b : Option Reason) → first_of cs ≡ a → first_of ds ≡ b
    → before_busy_of (after_busy_of w b) a ≡ Refuse s → Fails cs s
unfolding before_busy_of after_busy_of wait_or_act
refused cs ds w s (some x) b ea eb e = record { reason = x; first = ea; told = cc }
refused cs ds w s none (some y) ea eb e = clash (cc)
refused cs ds true s none none ea eb e = clash (cc)
refused cs ds false s none none ea eb e = clash (cc)

-- so of a command's rule: Refuse is the status of the first check before Busy that fails
pub refuse_fails : (r : RadioRule) (x : RadioSettings) (ps : Octets) (s : ℕ) → decision r x ps ≡ Refuse s → Fails (r.before_busy x ps) s
unfolding decision
refuse_fails r x ps s e =
    refused (r.before_busy x ps) (r.after_busy x ps) (r.waits x ps) s (first_of (r.before_busy x ps)) (first_of (r.after_busy x ps)) refl refl e

-- the same, of Reject: nothing fails before Busy, and a check after it does
rejected : (cs ds : List Check) (w : Bool) (s : ℕ) (a b : Option Reason) → first_of cs ≡ a → first_of ds ≡ b → before_busy_of (after_busy_of w b) a ≡ Reject s
    → (first_of cs ≡ none) × Fails ds s
unfolding before_busy_of after_busy_of wait_or_act
rejected cs ds w s (some x) b ea eb e = clash (cc)
rejected cs ds w s none (some y) ea eb e = (ea, record { reason = y; first = eb; told = cc })
rejected cs ds true s none none ea eb e = clash (cc)
rejected cs ds false s none none ea eb e = clash (cc)

-- so of a command's rule
pub reject_fails : (r : RadioRule) (x : RadioSettings) (ps : Octets) (s : ℕ) → decision r x ps ≡ Reject s → (first_of (r.before_busy x ps) ≡ none)
    × Fails (r.after_busy x ps) s
unfolding decision
reject_fails r x ps s e =
    rejected (r.before_busy x ps) (r.after_busy x ps) (r.waits x ps) s (first_of (r.before_busy x ps)) (first_of (r.after_busy x ps)) refl refl e

-- the same, of Wait and Act: nothing fails, and the rule says which of the two
passed : (cs ds : List Check) (w v : Bool) (a b : Option Reason) → first_of cs ≡ a → first_of ds ≡ b → before_busy_of (after_busy_of w b) a ≡ wait_or_act v
    → (first_of cs ≡ none) × (first_of ds ≡ none) × (w ≡ v)
unfolding before_busy_of after_busy_of wait_or_act
passed cs ds w true (some x) b ea eb e = clash (cc)
passed cs ds w false (some x) b ea eb e = clash (cc)
passed cs ds w true none (some y) ea eb e = clash (cc)
passed cs ds w false none (some y) ea eb e = clash (cc)
passed cs ds true true none none ea eb e = (ea, eb, refl)
passed cs ds false false none none ea eb e = (ea, eb, refl)
passed cs ds true false none none ea eb e = clash (cc)
passed cs ds false true none none ea eb e = clash (cc)

-- so of a command's rule where the decision is to wait
pub wait_passes : (r : RadioRule) (x : RadioSettings) (ps : Octets) → decision r x ps ≡ Wait → (first_of (r.before_busy x ps) ≡ none)
    × (first_of (r.after_busy x ps) ≡ none) × (r.waits x ps ≡ true)
unfolding decision wait_or_act
wait_passes r x ps e =
    passed (r.before_busy x ps) (r.after_busy x ps) (r.waits x ps) true (first_of (r.before_busy x ps)) (first_of (r.after_busy x ps)) refl refl e

-- and where it is to act at once
pub act_passes : (r : RadioRule) (x : RadioSettings) (ps : Octets) → decision r x ps ≡ Act → (first_of (r.before_busy x ps) ≡ none)
    × (first_of (r.after_busy x ps) ≡ none) × (r.waits x ps ≡ false)
unfolding decision wait_or_act
act_passes r x ps e =
    passed (r.before_busy x ps) (r.after_busy x ps) (r.waits x ps) false (first_of (r.before_busy x ps)) (first_of (r.after_busy x ps)) refl refl e

-- EFFECTS -------------------------------------------------------------------------------------------------------------------------------------

-- by the two cases of whether the timer ends
abbrev either : Bool → Host → Host → Host
either b x y = elim b [ true ↦ x | false ↦ y ]

-- a controller of radio settings and a host part
abbrev made : RadioSettings → Host → Controller
made r h = record { radio = r; host = h }

-- the host part of a controller with these settings and turns, and nothing else
abbrev bare : Controller → Host
bare c = (controller_with (settings_of c) c.host.advertising.schedule).host

-- the same with no turns
abbrev plain : Controller → Host
plain c = (controller_of (settings_of c)).host

-- a settings command changes the settings and the turns alone, and what it makes of them rests on them and the parameters alone
pub record OnlySettings (r : RadioRule) (c : Controller) (ps : Octets) : Type 0 where
  pub settings : settings_of (r.effect c ps) ≡ settings_effect r (settings_of c) ps
  pub turns : (r.effect c ps).host.advertising.schedule ≡ turns_effect r (settings_of c) c.host.advertising.schedule ps
  pub whole : r.effect c ps ≡ with_turns (with_settings c (settings_effect r (settings_of c) ps))
      (turns_effect r (settings_of c) c.host.advertising.schedule ps)

-- the turns as they are: nothing changes
same_turns : (c : Controller) (m : Settings) → controller_ok c ≡ true → with_settings c m ≡ with_turns (with_settings c m) c.host.advertising.schedule
unfolding with_settings with_turns with_host with_schedule with_advertising
same_turns c m e = rw (rescheduled_same _ _ c.host.advertising (controller_fit c e).advertising)

-- no turns: no data are left
no_data : (os : List Octets) → length os ≡ 5 → ◌≡◌ {A = List Octets} (data_kept (replicate 5 0) os) (replicate 5 [])
unfolding data_kept
no_data (a ∷ b ∷ c ∷ d ∷ e ∷ []) n = refl
no_data [] n = absurd (omega arith)
no_data (a ∷ []) n = absurd (omega arith)
no_data (a ∷ b ∷ []) n = absurd (omega arith)
no_data (a ∷ b ∷ c ∷ []) n = absurd (omega arith)
no_data (a ∷ b ∷ c ∷ d ∷ []) n = absurd (omega arith)
no_data (a ∷ b ∷ c ∷ d ∷ e ∷ f ∷ os) n = absurd (omega arith)

-- so no advertising is
none_left : (l w : Bool) (a : Advertising) → advertising_ok l w a ≡ true → rescheduled a no_schedule ≡ no_advertising
unfolding rescheduled no_schedule no_advertising
none_left l w a e = let f = five_each l w a e in rw (no_data a.adv_data f.adv_data, no_data a.scan_rsp f.scan_rsp)

-- Set Powered changes the settings and the turns alone, by them alone
pub powered_only : (c : Controller) (ps : Octets) → OnlySettings set_powered c ps
unfolding settings_effect turns_effect controller_of controller_with settings_of with_settings with_turns with_host with_schedule with_advertising set_powered
    with_powered with_timer rescheduled
powered_only c ps =
    record {
      settings = settings (not (on ps) && not (eqb c.host.settings.timer.seconds 0));
      turns = refl;
      whole = whole (not (on ps) && not (eqb c.host.settings.timer.seconds 0));
    }
  where
    r : RadioSettings
    r = with_powered c.radio (on ps)

    t : Schedule
    t = repowered (on ps) c.radio.powered c.host.advertising.schedule

    settings : (x : Bool) → settings_of (made r (with_schedule (either x (with_timer c.host no_timer) c.host) t)) ≡ settings_of
        (made r (with_schedule (either x (with_timer (plain c) no_timer) (plain c)) t))
    settings true = refl
    settings false = refl

    whole : (x : Bool) → made r (with_schedule (either x (with_timer c.host no_timer) c.host) t) ≡ with_turns
        (with_settings c (settings_of (made r (with_schedule (either x (with_timer (plain c) no_timer) (plain c)) t)))) t
    whole true = refl
    whole false = refl

-- the same, of Set Discoverable
pub discoverable_only : (c : Controller) (ps : Octets) → controller_ok c ≡ true → OnlySettings set_discoverable c ps
unfolding settings_effect turns_effect controller_of controller_with settings_of with_settings set_discoverable with_timer
discoverable_only c ps e = record { settings = refl; turns = refl; whole = same_turns c (settings_effect set_discoverable (settings_of c) ps) e }

-- the same, of Set Connectable
pub connectable_only : (c : Controller) (ps : Octets) → controller_ok c ≡ true → OnlySettings set_connectable c ps
unfolding settings_effect turns_effect controller_of controller_with settings_of with_settings set_connectable with_connectable with_timer
connectable_only c ps e = record { settings = settings (on ps); turns = turns (on ps); whole = whole (on ps) }
  where
    r : RadioSettings
    r = with_connectable c.radio (on ps)

    settings : (x : Bool) → settings_of (made r (either x c.host (with_timer c.host no_timer))) ≡ settings_of
        (made r (either x (plain c) (with_timer (plain c) no_timer)))
    settings true = refl
    settings false = refl

    turns : (x : Bool) → (made r (either x c.host (with_timer c.host no_timer))).host.advertising.schedule ≡
        (made r (either x (bare c) (with_timer (bare c) no_timer))).host.advertising.schedule
    turns true = refl
    turns false = refl

    whole : (x : Bool) → made r (either x c.host (with_timer c.host no_timer)) ≡ with_turns
        (with_settings c (settings_of (made r (either x (plain c) (with_timer (plain c) no_timer)))))
        (made r (either x (bare c) (with_timer (bare c) no_timer))).host.advertising.schedule
    whole true = same_turns c (settings_of (made r (plain c))) e
    whole false = same_turns c (settings_of (made r (with_timer (plain c) no_timer))) e

-- the same, of Set Low Energy
pub low_energy_only : (c : Controller) (ps : Octets) → controller_ok c ≡ true → OnlySettings set_low_energy c ps
unfolding settings_effect turns_effect controller_of controller_with settings_of with_settings with_turns with_host with_schedule set_low_energy with_low_energy
    with_advertising no_advertising
low_energy_only c ps e = record { settings = settings (on ps); turns = turns (on ps); whole = whole (on ps) }
  where
    r : RadioSettings
    r = with_low_energy c.radio (on ps)

    settings : (x : Bool) → settings_of (made r (either x c.host (with_advertising c.host no_advertising))) ≡ settings_of
        (made r (either x (plain c) (with_advertising (plain c) no_advertising)))
    settings true = refl
    settings false = refl

    turns : (x : Bool) → (made r (either x c.host (with_advertising c.host no_advertising))).host.advertising.schedule ≡
        (made r (either x (bare c) (with_advertising (bare c) no_advertising))).host.advertising.schedule
    turns true = refl
    turns false = refl

    whole : (x : Bool) → made r (either x c.host (with_advertising c.host no_advertising)) ≡ with_turns
        (with_settings c (settings_of (made r (either x (plain c) (with_advertising (plain c) no_advertising)))))
        (made r (either x (bare c) (with_advertising (bare c) no_advertising))).host.advertising.schedule
    whole true = same_turns c (settings_of (made r (plain c))) e
    whole false = rw (none_left _ _ c.host.advertising (controller_fit c e).advertising)

-- the same, of Set BR/EDR
pub bredr_only_lem : (c : Controller) (ps : Octets) → controller_ok c ≡ true → OnlySettings set_bredr c ps
unfolding settings_effect turns_effect controller_of controller_with settings_of with_settings set_bredr with_bredr with_timer
bredr_only_lem c ps e = record { settings = settings (on ps); turns = turns (on ps); whole = whole (on ps) }
  where
    r : RadioSettings
    r = with_bredr c.radio (on ps)

    settings : (x : Bool) → settings_of (made r (either x c.host (with_timer c.host no_timer))) ≡ settings_of
        (made r (either x (plain c) (with_timer (plain c) no_timer)))
    settings true = refl
    settings false = refl

    turns : (x : Bool) → (made r (either x c.host (with_timer c.host no_timer))).host.advertising.schedule ≡
        (made r (either x (bare c) (with_timer (bare c) no_timer))).host.advertising.schedule
    turns true = refl
    turns false = refl

    whole : (x : Bool) → made r (either x c.host (with_timer c.host no_timer)) ≡ with_turns
        (with_settings c (settings_of (made r (either x (plain c) (with_timer (plain c) no_timer)))))
        (made r (either x (bare c) (with_timer (bare c) no_timer))).host.advertising.schedule
    whole true = same_turns c (settings_of (made r (plain c))) e
    whole false = same_turns c (settings_of (made r (with_timer (plain c) no_timer))) e

-- the same, of Set Static Address
pub static_address_only : (c : Controller) (ps : Octets) → controller_ok c ≡ true → OnlySettings set_static_address c ps
unfolding settings_effect turns_effect controller_of controller_with settings_of with_settings set_static_address with_static_address
static_address_only c ps e = record { settings = refl; turns = refl; whole = same_turns c (settings_effect set_static_address (settings_of c) ps) e }

-- Set Bondable, and the clock
pub bondable_only : (c : Controller) (b : Bool) → with_host c (with_bondable c.host b) ≡ with_settings c (settings_bondable (settings_of c) b)
unfolding with_host with_bondable with_settings settings_bondable settings_of
bondable_only c b = refl

-- the clock changes the timer and the turns alone
pub tick_only : (step : ℕ) (c : Controller) → tick step c ≡ with_turns
    (with_settings c (settings_timer (settings_of c) (countdown step c.host.settings.timer))) (seconds step c.host.advertising.schedule)
unfolding tick with_host with_timer with_settings with_turns with_schedule with_advertising settings_timer settings_of
tick_only step c = refl

-- what Set Powered makes of the turns
pub powered_turns : (m : Settings) (t : Schedule) (ps : Octets) → turns_effect set_powered m t ps ≡ repowered (on ps) m.radio.powered t
unfolding turns_effect controller_with set_powered with_schedule with_advertising rescheduled
powered_turns m t ps = refl

-- what Set Low Energy makes of them
pub low_energy_turns : (m : Settings) (t : Schedule) (ps : Octets) → turns_effect set_low_energy m t ps ≡ elim (on ps) [ true ↦ t | false ↦ no_schedule ]
unfolding turns_effect controller_with set_low_energy with_advertising no_advertising
low_energy_turns m t ps = go (on ps)
  where
    go : (x : Bool) → (either x (controller_with m t).host (with_advertising (controller_with m t).host no_advertising)).advertising.schedule
        ≡ elim x [ true ↦ t | false ↦ no_schedule ]
    go true = refl
    go false = refl

-- Set Discoverable leaves them
pub discoverable_turns : (m : Settings) (t : Schedule) (ps : Octets) → turns_effect set_discoverable m t ps ≡ t
unfolding turns_effect controller_with set_discoverable with_timer
discoverable_turns m t ps = refl

-- so does Set Connectable
pub connectable_turns : (m : Settings) (t : Schedule) (ps : Octets) → turns_effect set_connectable m t ps ≡ t
unfolding turns_effect controller_with set_connectable with_timer
connectable_turns m t ps = go (on ps)
  where
    go : (x : Bool) → (either x (controller_with m t).host (with_timer (controller_with m t).host no_timer)).advertising.schedule ≡ t
    go true = refl
    go false = refl

-- and Set BR/EDR
pub bredr_turns : (m : Settings) (t : Schedule) (ps : Octets) → turns_effect set_bredr m t ps ≡ t
unfolding turns_effect controller_with set_bredr with_timer
bredr_turns m t ps = go (on ps)
  where
    go : (x : Bool) → (either x (controller_with m t).host (with_timer (controller_with m t).host no_timer)).advertising.schedule ≡ t
    go true = refl
    go false = refl

-- and Set Static Address
pub static_address_turns : (m : Settings) (t : Schedule) (ps : Octets) → turns_effect set_static_address m t ps ≡ t
unfolding turns_effect controller_with set_static_address
static_address_turns m t ps = refl

-- WELL FORMED ---------------------------------------------------------------------------------------------------------------------------------

-- the three rules of discoverable, timer and power are seen in a controller's settings alone
pub timer_ok_is : (c : Controller) → timer_ok c ≡ settings_ok (settings_of c)
unfolding timer_ok settings_ok settings_of
timer_ok_is c = refl
