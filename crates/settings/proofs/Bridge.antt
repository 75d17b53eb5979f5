-- From what the steps of a settings command leave to what the model says of it, over plain values.
-- Assumes nothing.
use mathlib.Core.Path.{◌≡◌, refl, ap, sym, ◌∙◌}
use Prim.Native.Nat.{ℕ, ◌≤◌, ◌<◌}
use native.Mathlib.Omega.{arith}
use mathlib.Core.Bool.{Bool, true, false}
use mathlib.Core.List.{◌++◌, append_assoc}
use mathlib.Core.Option.{none, some}
use lib.ListN.{length, get_or}
use lib.Dec.{eqb}
use borrow.Author.Tests.{eq-eqb, ne_eqb, lt-ltb, le-ltb}
use Rattle.model.specs.Statuses as Statuses
use Rattle.model.specs.Codes as Codes
use Rattle.model.specs.Lengths as Lengths
use Rattle.model.specs.declared.Settings.{Settings}
use Rattle.model.specs.declared.RadioSettings.{RadioSettings}
use Rattle.model.specs.Octets.{Octets, octet, u16, le32, command_complete, command_status}
use Rattle.model.specs.Advertising.{advertising_removed}
use Rattle.model.specs.State.{Controller, current_settings, settings_of, with_host, with_bondable}
use Rattle.model.specs.Reasons.{status_of, first_of}
use Rattle.model.specs.declared.Reason.TheVariants.{ValueAbove1}
use Rattle.model.specs.Rules.{refuse, done, RadioRule, on, new_settings, set_powered, set_discoverable, set_connectable, set_low_energy, set_bredr}
use Rattle.model.specs.Rules.{set_static_address, act}
use Rattle.model.specs.Rules.{unless}
use Rattle.model.specs.Immediate.{set_bondable, sized}
use Rattle.model.specs.Hub.{with_open}
use Rattle.model.specs.WellFormed.{controller_ok}
use Rattle.model.specs.Layout.{encode, decode}
use Rattle.model.proofs.Model.Tests.{no_way}
use Rattle.octets.specs.Parts.{write_at}
use Rattle.layout.specs.Places.{Ready, controller_of, place_of, put_controller}
use Rattle.layout.proofs.Change.{controller_fine}
use Rattle.layout.proofs.Open.{open_nothing, open_command}
use Rattle.replies.specs.Answers.{Gives}
use Rattle.replies.specs.Frames.{settings_reply, changed_event}
use Rattle.model.specs.declared.Answer.{Answer}
use Rattle.model.specs.declared.Answer.TheVariants.{Done, Started, Refused}
use Rattle.replies.proofs.Laws.{settings_short}
use Rattle.rules.specs.declared.Decision.{Decision}
use Rattle.rules.specs.declared.Decision.TheVariants.{Refuse, Reject, Wait, Act}
use Rattle.rules.specs.Decisions.{decision}
use Rattle.rules.specs.Effects.{with_settings, settings_bondable, settings_effect}
use Rattle.rules.proofs.Ties.{refuse_fails, reject_fails, wait_passes, act_passes, bondable_only}
use Rattle.outcomes.specs.Outcomes.{immediate_command, radio_command}
use Rattle.outcomes.proofs.Endings.{immediate_length, immediate_status, immediate_done_lem, radio_length, radio_early, radio_busy, radio_late}
use Rattle.outcomes.proofs.Endings.{radio_started, radio_done}
use Rattle.settings.specs.Turns.{acted_controller, acted_reply, schedule_of, turns_after}
use Rattle.settings.specs.Follows.{Follows, CarriesOut}
use Rattle.settings.proofs.Turns.{Acts, acted_short, acted_turns}

-- 1. The reply ------------------------------------------------------------------------------------------------------------------------------------

-- what is written when a command acts, in the model's words
pub reply_is : (i code : ℕ) (c e : Controller) → settings_reply i code (current_settings (settings_of c)) (current_settings (settings_of e))
    ≡ command_complete i code 0 (le32 (current_settings (settings_of e))) ++ new_settings i c e
unfolding settings_reply changed_event new_settings
reply_is i code c e = refl

-- the same with the turns of the advertising: Advertising Removed stands behind New Settings
pub acted_is : (i code : ℕ) (c e : Controller) (old new : Settings) → old ≡ settings_of c → settings_of e ≡ new → e ≡ acted_controller c old new
    → acted_reply i code old new c.host.advertising.schedule
    ≡ command_complete i code 0 (le32 (current_settings (settings_of e)))
    ++ (new_settings i c e ++ advertising_removed i c.host.advertising e.host.advertising)
unfolding acted_reply advertising_removed
acted_is i code c e old new eo en ee =
    let x : settings_reply i code (current_settings old) (current_settings new) ≡ command_complete i code 0 (le32 (current_settings (settings_of e)))
    ++ new_settings i c e = rw (eo, ← en) (reply_is i code c e) in
    let t : e.host.advertising.schedule ≡ turns_after old.radio new.radio c.host.advertising.schedule =
    ap (λ (k : Controller). k.host.advertising.schedule) ee ∙ acted_turns c old new in
    rw (x, ← t, append_assoc)

-- 2. Set Bondable ---------------------------------------------------------------------------------------------------------------------------------

-- a value above 1 is refused
bondable_bad : (i : ℕ) (c : Controller) (ps : Octets) → 1 < get_or ps 0 0 → act set_bondable i c ps ≡ refuse ValueAbove1
unfolding set_bondable octet first_of unless
bondable_bad i c ps h = rw (lt-ltb 1 (get_or ps 0 0) h)

-- 0 or 1 is done at once: Current_Settings is returned, and New Settings follows on change
bondable_good : (i : ℕ) (c : Controller) (ps : Octets) → get_or ps 0 0 ≤ 1
    → act set_bondable i c ps
    ≡ done (le32 (current_settings (settings_of (with_host c (with_bondable c.host (on ps))))))
    (new_settings i c (with_host c (with_bondable c.host (on ps)))) (with_bondable c.host (on ps))
unfolding set_bondable octet first_of unless with_host
bondable_good i c ps h = rw (le-ltb 1 (get_or ps 0 0) h)

-- one octet of parameters, or another number
bondable_one : (ps : Octets) → length ps ≡ 1 → set_bondable.size ps ≡ true
unfolding set_bondable sized
bondable_one ps e = eq-eqb (length ps) 1 e

-- any other number of octets fails the length test
bondable_other : (ps : Octets) → (length ps ≡ 1 → ⊥) → set_bondable.size ps ≡ false
unfolding set_bondable sized
bondable_other ps e = ne_eqb (length ps) 1 e

-- the code's test of the value is the model's
on_is : (ps : Octets) → eqb (get_or ps 0 0) 1 ≡ on ps
unfolding on octet
on_is ps = refl

-- to set bondable in the host is to set it in the settings
bondable_settings : (c : Controller) (b : Bool) → settings_of (with_host c (with_bondable c.host b)) ≡ settings_bondable (settings_of c) b
unfolding settings_of with_host with_bondable settings_bondable
bondable_settings c b = refl

module _ (s : Octets) (i : ℕ) (ps d d' : Octets) (r : Answer) (given : Ready s i) (big : Lengths.reply_buffer ≤ length d) where
  -- another length
  pub bondable_length : (length ps ≡ 1 → ⊥) → r ≡ Refused 9 → d' ≡ write_at d 0 (command_status i Codes.set_bondable Statuses.invalid_parameters)
      → Gives (immediate_command s i Codes.set_bondable ps set_bondable) r d d' s
  bondable_length e n w = immediate_length s i Codes.set_bondable ps set_bondable d d' r given big (bondable_other ps e) n w

  -- another value
  pub bondable_refused : length ps ≡ 1 → 1 < get_or ps 0 0 → r ≡ Refused 9
      → d' ≡ write_at d 0 (command_status i Codes.set_bondable Statuses.invalid_parameters)
      → Gives (immediate_command s i Codes.set_bondable ps set_bondable) r d d' s
  unfolding status_of set_bondable
  bondable_refused e h n w =
      immediate_status s i Codes.set_bondable ps set_bondable d d' r given big (bondable_one ps e) ValueAbove1 refl (bondable_bad i (controller_of s i) ps h) n w

  -- done
  pub bondable_done : (s' : Octets) (old new : Settings) → length ps ≡ 1 → get_or ps 0 0 ≤ 1 → old ≡ settings_of (controller_of s i)
      → new ≡ settings_bondable old (eqb (get_or ps 0 0) 1)
      → r ≡ Done (length (settings_reply i Codes.set_bondable (current_settings old) (current_settings new)))
      → d' ≡ write_at d 0 (settings_reply i Codes.set_bondable (current_settings old) (current_settings new))
      → s' ≡ encode (put_controller (decode s) i (with_settings (controller_of s i) new)) → Gives
      (immediate_command s i Codes.set_bondable ps set_bondable) r d d' s'
  bondable_done s' old new l h eo en er ed es =
      let c = controller_of s i in
      let e = with_host c (with_bondable c.host (on ps)) in
      let m : new ≡ settings_bondable (settings_of c) (on ps) = en ∙ rw (eo, on_is ps) in
      let x : settings_reply i Codes.set_bondable (current_settings old) (current_settings new) ≡ command_complete i Codes.set_bondable 0
      (le32 (current_settings (settings_of e))) ++ new_settings i c e =
      rw (m, eo, ← bondable_settings c (on ps)) (reply_is i Codes.set_bondable c e) in
      let k : s' ≡ encode (put_controller (decode s) i e) = es ∙ rw (m, ← bondable_only c (on ps)) in
      let short = settings_short i Codes.set_bondable (current_settings old) (current_settings new) in
      immediate_done_lem s i Codes.set_bondable ps set_bondable d d' r given big (bondable_one ps l) s' (le32 (current_settings (settings_of e)))
      (new_settings i c e) (with_bondable c.host (on ps))
      (length (settings_reply i Codes.set_bondable (current_settings old) (current_settings new))) (bondable_good i c ps h) er (rw x) (omega arith) (ed ∙ rw x) k

-- 3. The commands that can be Busy ----------------------------------------------------------------------------------------------------------------

module _ (s : Octets) (i code : ℕ) (ps : Octets) (u : RadioRule) (d d' : Octets) (r : Answer) (given : Ready s i) (big : Lengths.reply_buffer ≤ length d) where
  -- another length
  pub ends_length : (n : ℕ) → n ≡ u.size → (length ps ≡ n → ⊥) → r ≡ Refused 9 → d' ≡ write_at d 0 (command_status i code Statuses.invalid_parameters)
      → Gives (radio_command s i code ps u) r d d' s
  ends_length n z e a w = radio_length s i code ps u d d' r given big (ne_eqb (length ps) u.size (λ q. e (q ∙ sym z))) a w

  module _ (x : Decision) (old new : Settings) (f : Follows u s i ps x old new) where
    -- the parameters pass the length test of the rule
    size : eqb (length ps) u.size ≡ true
    size = eq-eqb (length ps) u.size f.sized

    -- refused before Busy
    pub ends_early : (st : ℕ) → x ≡ Refuse st → r ≡ Refused 9 → d' ≡ write_at d 0 (command_status i code st) → Gives (radio_command s i code ps u) r d d' s
    ends_early st e n w =
        let g = refuse_fails u (controller_of s i).radio ps st (f.decided ∙ e) in
        radio_early s i code ps u d d' r given big size g.reason g.first n (w ∙ rw g.told)

    -- Busy
    pub ends_busy : first_of (u.before_busy (controller_of s i).radio ps) ≡ none → (u16 s (place_of i 1) ≡ 0 → ⊥) → r ≡ Refused 9
        → d' ≡ write_at d 0 (command_status i code Statuses.busy)
        → Gives (radio_command s i code ps u) r d d' s
    ends_busy p o n w = radio_busy s i code ps u d d' r given big size p _ (open_command s i given o) n w

    -- Rejected
    pub ends_late : (st : ℕ) → x ≡ Reject st → u16 s (place_of i 1) ≡ 0 → r ≡ Refused 9 → d' ≡ write_at d 0 (command_status i code st)
        → Gives (radio_command s i code ps u) r d d' s
    ends_late st e o n w =
        let g = reject_fails u (controller_of s i).radio ps st (f.decided ∙ e) in
        radio_late s i code ps u d d' r given big size g.0 (open_nothing s i given o) g.1.reason g.1.first n (w ∙ rw g.1.told)

    -- started
    pub ends_started : x ≡ Wait → u16 s (place_of i 1) ≡ 0 → r ≡ Started → (s' : Octets)
        → s' ≡ encode (with_open (decode s) i (some (record { code = code; params = ps }))) → d' ≡ d
        → Gives (radio_command s i code ps u) r d d' s'
    ends_started e o n s' k w =
        let g = wait_passes u (controller_of s i).radio ps (f.decided ∙ e) in
        radio_started s i code ps u d d' r given big size g.0 (open_nothing s i given o) g.1 g.2 n s' k w

    -- done at once
    pub ends_acted : x ≡ Act → u16 s (place_of i 1) ≡ 0 → (s' : Octets) → r ≡ Done (length (acted_reply i code old new (schedule_of s i)))
        → d' ≡ write_at d 0 (acted_reply i code old new (schedule_of s i))
        → s' ≡ encode (put_controller (decode s) i (acted_controller (controller_of s i) old new))
        → Gives (radio_command s i code ps u) r d d' s'
    ends_acted e o s' n w k =
        let g = act_passes u (controller_of s i).radio ps (f.decided ∙ e) in
        let c = controller_of s i in
        let y = acted_is i code c (u.effect c ps) old new f.before f.after f.whole in
        let short = acted_short i code old new (schedule_of s i) in
        radio_done s i code ps u d d' r given big size g.0 (open_nothing s i given o) g.1 g.2 s' (acted_reply i code old new (schedule_of s i))
        (length (acted_reply i code old new (schedule_of s i))) n y refl (omega arith) w (k ∙ rw f.whole)

-- a decision of another kind is past the checks before Busy
module _ (s : Octets) (i : ℕ) (ps : Octets) (u : RadioRule) (x : Decision) (old new : Settings) (f : Follows u s i ps x old new) where
  -- a command that would be Rejected has passed the checks before Busy
  pub reject_past : (st : ℕ) → x ≡ Reject st → first_of (u.before_busy (controller_of s i).radio ps) ≡ none
  reject_past st e = (reject_fails u (controller_of s i).radio ps st (f.decided ∙ e)).0

  -- the same, of one that would wait for the radio
  pub wait_past : x ≡ Wait → first_of (u.before_busy (controller_of s i).radio ps) ≡ none
  wait_past e = (wait_passes u (controller_of s i).radio ps (f.decided ∙ e)).0

  -- the same, of one that would act at once
  pub act_past : x ≡ Act → first_of (u.before_busy (controller_of s i).radio ps) ≡ none
  act_past e = (act_passes u (controller_of s i).radio ps (f.decided ∙ e)).0

  -- so each decision but one to refuse is
  pub not_refused : ((st : ℕ) → x ≡ Refuse st → ⊥) → first_of (u.before_busy (controller_of s i).radio ps) ≡ none
  not_refused n = go x refl
    where
      go : (y : Decision) → x ≡ y → first_of (u.before_busy (controller_of s i).radio ps) ≡ none
      go (Refuse st) e = absurd (n st e)
      go (Reject st) e = reject_past st e
      go Wait e = wait_past e
      go Act e = act_past e

-- 4. The five ---------------------------------------------------------------------------------------------------------------------------------------

-- from the decision and the effect by value to the end that they share
pub concluded : (s : Octets) (i code : ℕ) (ps : Octets) (u : RadioRule) (d d' s' : Octets) (r : Answer) (x : Decision) (old new : Settings) (n : ℕ)
    → Ready s i → ((c : Controller) (qs : Octets) → controller_ok c ≡ true → Acts u c qs) → n ≡ u.size → length ps ≡ n
    → old ≡ settings_of (controller_of s i) → x ≡ decision u old.radio ps → new ≡ settings_effect u old ps
    → CarriesOut s i code ps x old new r d d' s' → Gives (radio_command s i code ps u) r d d' s'
unfolding settings_of
concluded s i code ps u d d' s' r x old new n given does z l eo ex en all =
    let c = controller_of s i in
    let only = does c ps (controller_fine s i given) in
    let a : settings_effect u (settings_of c) ps ≡ new = sym (en ∙ rw eo) in
    let y : decision u c.radio ps ≡ x = sym (ex ∙ rw eo) in
    all u (record { sized = l ∙ z; decided = y; before = eo; after = only.settings ∙ a; whole = only.whole ∙ rw (a, eo) })

-- Set Powered takes one octet of parameters, the value
pub powered_size : 1 ≡ set_powered.size
unfolding set_powered
powered_size = refl

-- Set Discoverable takes three, the value and the timeout
pub discoverable_size : 3 ≡ set_discoverable.size
unfolding set_discoverable
discoverable_size = refl

-- Set Connectable takes one, the value
pub connectable_size : 1 ≡ set_connectable.size
unfolding set_connectable
connectable_size = refl

-- Set Low Energy takes one, the value
pub low_energy_size : 1 ≡ set_low_energy.size
unfolding set_low_energy
low_energy_size = refl

-- Set BR/EDR too
pub bredr_size : 1 ≡ set_bredr.size
unfolding set_bredr
bredr_size = refl

-- Set Static Address takes six, the address
pub static_address_size : 6 ≡ set_static_address.size
unfolding set_static_address
static_address_size = refl

-- Set Static Address never waits for the radio
pub static_address_never_waits : (x : RadioSettings) (ps : Octets) (d : Decision) → d ≡ decision set_static_address x ps → d ≡ Wait → length ps ≤ 3
unfolding set_static_address
static_address_never_waits x ps d e w = no_way (sym (wait_passes set_static_address x ps (sym e ∙ w)).2)
