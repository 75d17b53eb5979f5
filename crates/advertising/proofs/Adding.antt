-- An instance added or changed: what is kept, and how Add Advertising ends.
use Prim.Native.Nat.{ℕ, ◌+◌, ◌-◌, ◌≤◌}
use native.Mathlib.Omega.{arith}
use mathlib.Core.Path.{◌≡◌, refl, sym, ap, ◌∙◌}
use mathlib.Core.Bool.{Bool, true, false}
use mathlib.Core.List.{[], ◌∷◌, ◌++◌, append-nil}
use mathlib.Core.Option.{none, some}
use lib.ListN.{length, get_or, take, drop, length-append, length-drop, length-take}
use lib.Seq.{take_all}
use lib.Dec.{lit≤}
use Rattle.model.specs.Codes as Codes
use Rattle.model.specs.Events as Events
use Rattle.model.specs.Lengths as Lengths
use Rattle.model.specs.Statuses as Statuses
use Rattle.model.specs.declared.Answer.{Answer}
use Rattle.model.specs.declared.Answer.TheVariants.{Done, Refused}
use Rattle.model.specs.declared.RadioSettings.{RadioSettings}
use Rattle.model.specs.declared.Schedule.{Schedule}
use Rattle.model.specs.Advertising.{added_instance, advertising_added, present, whole_turn}
use Rattle.model.specs.Octets.{Octets, command_complete, command_status, event, le16, octet, u16}
use Rattle.model.specs.declared.Settings.{Settings}
use Rattle.model.specs.State.{Controller, settings_of, with_advertising, with_host}
use Rattle.model.proofs.Model.Advertising.{advertising_fit}
use Rattle.model.proofs.Model.Schedule.{on_air_five}
use Rattle.layout.proofs.Advertising.{advertising_fine}
use Rattle.model.specs.Reasons.{first_of, status_of}
use Rattle.model.specs.declared.Reason.{Reason}
use Rattle.model.specs.Rules.{Immediate, done, refuse, act, unless}
use Rattle.model.specs.Immediate.{add_advertising, advertised, advertising_checks}
use Rattle.model.specs.Layout.{decode, encode}
use Rattle.model.proofs.Model.Room.{length_complete}
use Rattle.octets.specs.Parts.{part, write_at}
use Rattle.octets.proofs.Parts.{write_split}
use Rattle.layout.specs.Advertising.{with_instance_data}
use Rattle.layout.specs.Places.{Ready, controller_of, put_controller}
use Rattle.replies.specs.Answers.{Gives}
use Rattle.outcomes.specs.Outcomes.{immediate_command}
use Rattle.outcomes.proofs.Endings.{immediate_done_lem, immediate_length, immediate_status}
use Rattle.std.specs.Prelude.{Option, Some}
use Rattle.advertising.specs.Refusals.{status_if}
use Rattle.advertising.proofs.Refusals.{checks_passed, size_true, some_refuses}

-- 1. What is kept -----------------------------------------------------------------------------------------------------------------------------

-- the octets from a place to the end
to_end : (ps : Octets) (m : ℕ) → part ps m (length ps - m) ≡ drop m ps
unfolding part
to_end ps m = take_all (length ps - m) (drop m ps) (rw length-drop (omega arith))

-- the turns and data of the packet
pub kept : (s : Octets) (i : ℕ) (ps : Octets) (powered : Bool) (k d t n : ℕ) (next : Schedule) (a b s' : Octets)
    → k ≡ get_or ps 0 0 → d ≡ whole_turn (u16 ps 5) → t ≡ u16 ps 7 → n ≡ 11 + get_or ps 9 0
    → next ≡ added_instance powered k d t (controller_of s i).host.advertising.schedule
    → a ≡ part ps 11 (n - 11) → b ≡ part ps n (length ps - n)
    → s' ≡ encode (put_controller (decode s) i (with_instance_data (controller_of s i) next k a b))
    → s' ≡ encode (put_controller (decode s) i (with_host (controller_of s i) (with_advertising (controller_of s i).host
    (advertised powered ps (controller_of s i).host.advertising))))
unfolding advertised with_instance_data octet part
kept s i ps powered k d t n next a b s' ek ed et en ex ea eb es =
    let m : n - 11 ≡ get_or ps 9 0 = omega arith in
    let x : b ≡ drop (11 + get_or ps 9 0) ps = eb ∙ to_end ps n ∙ ap (λ (y : ℕ). drop y ps) en in
    rw (es, ex, ea, x, m, ed, et, ek)

-- an event of one instance has 7 octets
pub length_event : (i k : ℕ) → length (event Events.advertising_added i (k ∷ [])) ≡ 7
unfolding event le16
length_event i k = refl

-- the data behind the first ones are short
pub tail_short : (ps : Octets) (a b : ℕ) → length ps ≡ 11 + a + b → b ≤ 31 → length (take (length ps - (11 + a)) (drop (11 + a) ps)) ≤ 31
tail_short ps a b e l = simp (length-take, length-drop) (omega arith)

-- 2. How the command ends ---------------------------------------------------------------------------------------------------------------------

module _ (s : Octets) (i : ℕ) (ps : Octets) (d d' : Octets) (r : Answer) (given : Ready s i) (big : Lengths.reply_buffer ≤ length d) where
  -- the controller there
  abbrev here : Controller
  here = controller_of s i

  -- what it comes to if no check fails
  abbrev taken : Immediate
  taken =
      done (octet ps 0 ∷ []) (advertising_added i (octet ps 0) here.host.advertising)
      (with_advertising here.host (advertised here.radio.powered ps here.host.advertising))

  -- a wrong length
  pub add_length : add_advertising.size ps ≡ false → r ≡ Refused 9 → d' ≡ write_at d 0 (command_status i Codes.add_advertising Statuses.invalid_parameters)
      → Gives (immediate_command s i Codes.add_advertising ps add_advertising) r d d' s
  add_length e n w = immediate_length s i Codes.add_advertising ps add_advertising d d' r given big e n w

  -- a check that fails
  act_refused : (x : Reason) → first_of (advertising_checks here.radio ps) ≡ some x → act add_advertising i here ps ≡ refuse x
  unfolding add_advertising unless
  act_refused x e = rw e

  -- none fails
  act_done : first_of (advertising_checks here.radio ps) ≡ none → act add_advertising i here ps ≡ taken
  unfolding add_advertising unless
  act_done e = rw e

  -- no address command
  by_status_lem : add_advertising.by_address ≡ false
  unfolding add_advertising
  by_status_lem = refl

  -- refused with a status
  pub add_refused : (x : ℕ) → add_advertising.size ps ≡ true → status_if (first_of (advertising_checks here.radio ps)) ≡ Some x
      → r ≡ Refused 9 → d' ≡ write_at d 0 (command_status i Codes.add_advertising x)
      → Gives (immediate_command s i Codes.add_advertising ps add_advertising) r d d' s
  add_refused x z e m w =
      let y = some_refuses (first_of (advertising_checks here.radio ps)) x e in
      let q : x ≡ status_of y.0 = sym y.2 in
      immediate_status s i Codes.add_advertising ps add_advertising d d' r given big z y.0 by_status_lem (act_refused y.0 y.1) m (rw q at w)

  -- the parameters' first octet alone
  first_octet : 11 ≤ length ps → part ps 0 1 ≡ octet ps 0 ∷ []
  unfolding part octet
  first_octet l = go ps (omega arith)
    where
      go : (l : Octets) → 1 ≤ length l → take 1 l ≡ get_or l 0 0 ∷ []
      go [] n = absurd (omega arith)
      go (x ∷ l) n = refl

  -- done: of an instance that was there, the reply alone
  pub add_changed : (s' : Octets) (old : Schedule) (w : Bool) → add_advertising.size ps ≡ true → first_of (advertising_checks here.radio ps) ≡ none
      → old ≡ here.host.advertising.schedule → w ≡ here.radio.powered → present old (get_or ps 0 0) ≡ true → r ≡ Done 10
      → d' ≡ write_at d 0 (command_complete i Codes.add_advertising 0 (part ps 0 1))
      → s' ≡ encode (put_controller (decode s) i (with_host here (with_advertising here.host (advertised w ps here.host.advertising))))
      → Gives (immediate_command s i Codes.add_advertising ps add_advertising) r d d' s'
  unfolding advertising_added octet
  add_changed s' old w z e eo ew p m v k =
      let h = with_advertising here.host (advertised here.radio.powered ps here.host.advertising) in
      let q : present here.host.advertising.schedule (get_or ps 0 0) ≡ true = rw eo at p in
      let a : act add_advertising i here ps ≡ done (octet ps 0 ∷ []) [] h = act_done e ∙ rw (q, advertising_added) in
      let n : length (command_complete i Codes.add_advertising 0 (octet ps 0 ∷ []) ++ []) ≡ 10 =
      rw append-nil (length_complete i Codes.add_advertising 0 (octet ps 0 ∷ [])) in
      immediate_done_lem s i Codes.add_advertising ps add_advertising d d' r given big z s' (octet ps 0 ∷ []) [] h 10 a m n (lit≤ tt)
      (v ∙ rw (first_octet (size_true ps z).0, append-nil)) (k ∙ rw ew)

  -- of one that was not, the reply and Advertising Added
  pub add_new : (s' : Octets) (old : Schedule) (w : Bool) → add_advertising.size ps ≡ true → first_of (advertising_checks here.radio ps) ≡ none
      → old ≡ here.host.advertising.schedule → w ≡ here.radio.powered → present old (get_or ps 0 0) ≡ false → r ≡ Done 17
      → d' ≡ write_at (write_at d 0 (command_complete i Codes.add_advertising 0 (part ps 0 1))) 10 (event Events.advertising_added i (get_or ps 0 0 ∷ []))
      → s' ≡ encode (put_controller (decode s) i (with_host here (with_advertising here.host (advertised w ps here.host.advertising))))
      → Gives (immediate_command s i Codes.add_advertising ps add_advertising) r d d' s'
  unfolding advertising_added octet
  add_new s' old w z e eo ew p m u k =
      let h = with_advertising here.host (advertised here.radio.powered ps here.host.advertising) in
      let c = command_complete i Codes.add_advertising 0 (octet ps 0 ∷ []) in
      let v = event Events.advertising_added i (octet ps 0 ∷ []) in
      let q : present here.host.advertising.schedule (get_or ps 0 0) ≡ false = rw eo at p in
      let a : act add_advertising i here ps ≡ done (octet ps 0 ∷ []) v h = act_done e ∙ rw (q, advertising_added) in
      let nc : length c ≡ 10 = length_complete i Codes.add_advertising 0 (octet ps 0 ∷ []) in
      let nv : length v ≡ 7 = length_event i (octet ps 0) in
      let n : length (c ++ v) ≡ 17 = length-append c v ∙ omega arith in
      let x : write_at d 0 (c ++ v) ≡ write_at (write_at d 0 c) 10 v = rw nc at (write_split d 0 c v) in
      immediate_done_lem s i Codes.add_advertising ps add_advertising d d' r given big z s' (octet ps 0 ∷ []) v h 17 a m n (lit≤ tt)
      (u ∙ rw (first_octet (size_true ps z).0) (sym x)) (k ∙ rw ew)

-- the radio settings among all settings
pub radio_of : (m : Settings) (c : Controller) → m ≡ settings_of c → m.radio ≡ c.radio
unfolding settings_of
radio_of m c e = rw e

-- the status told is that of the controller's own radio settings
pub refusal_here : (q : Option ℕ) (m : Settings) (c : Controller) (ps : Octets) → q ≡ status_if (first_of (advertising_checks m.radio ps)) → m ≡ settings_of c
    → q ≡ status_if (first_of (advertising_checks c.radio ps))
refusal_here q m c ps e f = e ∙ ap (λ (x : RadioSettings). status_if (first_of (advertising_checks x ps))) (radio_of m c f)

-- what is asked of what is kept
pub keep_asks : (s : Octets) (i : ℕ) (ps : Octets) (old : Schedule) → Ready s i → add_advertising.size ps ≡ true
    → first_of (advertising_checks (controller_of s i).radio ps) ≡ none → old ≡ (controller_of s i).host.advertising.schedule
    → Ready s i × (11 ≤ length ps) × (length ps ≡ 11 + get_or ps 9 0 + get_or ps 10 0) × (1 ≤ get_or ps 0 0) × (get_or ps 0 0 ≤ 5) × (get_or ps 9 0 ≤ 31)
    × (get_or ps 10 0 ≤ 31) × (old ≡ (controller_of s i).host.advertising.schedule) × (old.on_air ≤ 5)
keep_asks s i ps old g z e eo =
    let l = size_true ps z in
    let v = checks_passed (controller_of s i).radio ps e in
    let f = (advertising_fit _ _ _ (advertising_fine s i g)).schedule in
    (g, l.0, l.1, v.0, v.1, v.2, v.3, eo, rw eo (on_air_five _ _ _ f))
