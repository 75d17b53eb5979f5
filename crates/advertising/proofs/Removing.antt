-- Instances removed: which can be named, and how Remove Advertising ends.
use Prim.Native.Nat.{ℕ, zero, suc, ◌+◌, ◌≤◌, ◌<◌}
use native.Mathlib.Omega.{arith}
use mathlib.Core.Path.{◌≡◌, refl, sym, ap, ◌∙◌}
use mathlib.Core.Bool.{Bool, true, false, ◌&&◌, ◌||◌, not}
use mathlib.Core.List.{List, [], ◌∷◌, ◌++◌}
use lib.ListN.{length, get_or, length-append}
use lib.Dec.{eqb}
use borrow.Author.Tests.{eq-eqb, ne_eqb}
use Rattle.model.specs.Codes as Codes
use Rattle.model.specs.Lengths as Lengths
use Rattle.model.specs.Statuses as Statuses
use Rattle.model.specs.declared.Answer.{Answer}
use Rattle.model.specs.declared.Answer.TheVariants.{Done, Refused}
use Rattle.model.specs.declared.Schedule.{Schedule}
use Rattle.model.specs.declared.Settings.{Settings}
use Rattle.model.specs.Advertising.{advertising_removed, duration_of, instances, present, removed_instance, removed_of, rescheduled, value_of}
use Rattle.model.specs.Octets.{Octets, command_complete, command_status, octet}
use Rattle.model.specs.State.{Controller, settings_of, with_advertising, with_host, with_schedule}
use Rattle.model.specs.Reasons.{first_of, status_of}
use Rattle.model.specs.declared.Reason.TheVariants.{InstanceAbsent}
use Rattle.model.specs.Rules.{done, refuse, act, unless}
use Rattle.model.specs.Immediate.{remove_advertising, sized}
use Rattle.model.specs.Layout.{decode, encode}
use Rattle.model.proofs.Model.Room.{length_complete}
use Rattle.octets.specs.Parts.{write_at}
use Rattle.octets.proofs.Parts.{write_split}
use Rattle.layout.specs.Places.{Ready, controller_of, put_controller}
use Rattle.rules.specs.Effects.{with_settings, with_turns}
use Rattle.replies.specs.Answers.{Gives}
use Rattle.outcomes.specs.Outcomes.{immediate_command}
use Rattle.outcomes.proofs.Endings.{immediate_done_lem, immediate_length, immediate_status}

-- 1. Which can be named -----------------------------------------------------------------------------------------------------------------------

-- beyond the end of a list
past_end : (l : List ℕ) (j : ℕ) → length l ≤ j → get_or l j 0 ≡ 0
past_end [] j h = refl
past_end (x ∷ l) zero h = absurd (omega arith)
past_end (x ∷ l) (suc j) h = past_end l j (omega arith)

-- above 5 there is none
pub none_above : (s : Schedule) (k : ℕ) → length s.durations ≡ 5 → (k ≡ 0 → ⊥) → 5 < k → false ≡ eqb k 0 || present s k
unfolding present duration_of value_of
none_above s zero n z l = absurd (omega arith)
none_above s (suc j) n z l = rw (ne_eqb (suc j) 0 z, past_end s.durations j (omega arith))

-- neither 0 nor there
none_of : (a b : Bool) → a || b ≡ false → not a && not b ≡ true
none_of false false f = refl
none_of false true f = sym f
none_of true b f = sym f

-- 0, or there
some_of : (a b : Bool) → a || b ≡ true → not a && not b ≡ false
some_of false false f = sym f
some_of false true f = refl
some_of true b f = refl

-- 2. How the command ends ---------------------------------------------------------------------------------------------------------------------

-- a controller with the settings that it has
same_settings_lem : (c : Controller) → with_settings c (settings_of c) ≡ c
unfolding with_settings settings_of
same_settings_lem c = refl

-- one octet of parameters is that octet
one_octet : (ps : Octets) → length ps ≡ 1 → ps ≡ get_or ps 0 0 ∷ []
one_octet [] n = absurd (omega arith)
one_octet (x ∷ []) n = refl
one_octet (x ∷ y ∷ ps) n = absurd (omega arith)

module _ (s : Octets) (i : ℕ) (ps : Octets) (d d' : Octets) (r : Answer) (given : Ready s i) (big : Lengths.reply_buffer ≤ length d) where
  -- the controller there
  abbrev here : Controller
  here = controller_of s i

  -- no address command
  by_status_lem : remove_advertising.by_address ≡ false
  unfolding remove_advertising
  by_status_lem = refl

  -- a wrong length
  pub remove_length : (length ps ≡ 1 → ⊥) → r ≡ Refused 9 → d' ≡ write_at d 0 (command_status i Codes.remove_advertising Statuses.invalid_parameters)
      → Gives (immediate_command s i Codes.remove_advertising ps remove_advertising) r d d' s
  unfolding remove_advertising sized
  remove_length z n w = immediate_length s i Codes.remove_advertising ps remove_advertising d d' r given big (ne_eqb (length ps) 1 z) n w

  -- the right length
  size_one : length ps ≡ 1 → remove_advertising.size ps ≡ true
  unfolding remove_advertising sized
  size_one e = eq-eqb (length ps) 1 e

  -- an instance that is not there refuses
  act_absent : eqb (get_or ps 0 0) 0 || present here.host.advertising.schedule (get_or ps 0 0) ≡ false
      → act remove_advertising i here ps ≡ refuse InstanceAbsent
  unfolding remove_advertising unless first_of octet
  act_absent p = rw (none_of (eqb (get_or ps 0 0) 0) (present here.host.advertising.schedule (get_or ps 0 0)) p)

  -- all, or one that is there
  act_done : eqb (get_or ps 0 0) 0 || present here.host.advertising.schedule (get_or ps 0 0) ≡ true
      → act remove_advertising i here ps ≡ done (get_or ps 0 0 ∷ [])
      (removed_of i here.host.advertising.schedule (removed_instance (get_or ps 0 0) here.host.advertising.schedule) instances)
      (with_advertising here.host (rescheduled here.host.advertising (removed_instance (get_or ps 0 0) here.host.advertising.schedule)))
  unfolding remove_advertising unless first_of octet advertising_removed rescheduled
  act_done p = rw (some_of (eqb (get_or ps 0 0) 0) (present here.host.advertising.schedule (get_or ps 0 0)) p)

  -- an instance that is not there
  pub remove_absent : (old : Schedule) → length ps ≡ 1 → old ≡ here.host.advertising.schedule
      → eqb (get_or ps 0 0) 0 || present old (get_or ps 0 0) ≡ false → r ≡ Refused 9
      → d' ≡ write_at d 0 (command_status i Codes.remove_advertising Statuses.invalid_parameters)
      → Gives (immediate_command s i Codes.remove_advertising ps remove_advertising) r d d' s
  unfolding status_of
  remove_absent old e eo p n w =
      immediate_status s i Codes.remove_advertising ps remove_advertising d d' r given big (size_one e) InstanceAbsent by_status_lem (act_absent (rw eo at p)) n w

  -- done: the reply, and Advertising Removed for each that went
  pub remove_done : (s' : Octets) (m : Settings) (old next : Schedule) (n : ℕ) → length ps ≡ 1
      → eqb (get_or ps 0 0) 0 || present old (get_or ps 0 0) ≡ true
      → m ≡ settings_of here → old ≡ here.host.advertising.schedule → next ≡ removed_instance (get_or ps 0 0) old
      → length (removed_of i old next instances) ≤ 35 → n ≡ 10 + length (removed_of i old next instances) → r ≡ Done n
      → d' ≡ write_at (write_at d 0 (command_complete i Codes.remove_advertising 0 ps)) 10 (removed_of i old next instances)
      → s' ≡ encode (put_controller (decode s) i (with_turns (with_settings here m) next))
      → Gives (immediate_command s i Codes.remove_advertising ps remove_advertising) r d d' s'
  unfolding with_turns with_schedule
  remove_done s' m old next n e p em eo en b ec er w k =
      let x = get_or ps 0 0 in
      let a = here.host.advertising in
      let v = removed_of i old next instances in
      let c = command_complete i Codes.remove_advertising 0 ps in
      let nc : length c ≡ 10 = length_complete i Codes.remove_advertising 0 ps ∙ rw e in
      let q : write_at d 0 (c ++ v) ≡ write_at (write_at d 0 c) 10 v = rw nc at (write_split d 0 c v) in
      let l : length (c ++ v) ≡ n = length-append c v ∙ omega arith in
      let t : next ≡ removed_instance x a.schedule = en ∙ ap (removed_instance x) eo in
      let act = act_done (rw eo at p) in
      let h = with_advertising here.host (rescheduled a (removed_instance x a.schedule)) in
      let es : s' ≡ encode (put_controller (decode s) i (with_host here h)) = k ∙ rw (em, same_settings_lem here, t) in
      let eo1 : command_complete i Codes.remove_advertising 0 (x ∷ []) ≡ c = ap (command_complete i Codes.remove_advertising 0) (sym (one_octet ps e)) in
      let ev : removed_of i a.schedule (removed_instance x a.schedule) instances ≡ v = rw (← eo, ← en) in
      let whole : command_complete i Codes.remove_advertising 0 (x ∷ []) ++ removed_of i a.schedule (removed_instance x a.schedule) instances ≡ c ++ v =
      rw (eo1, ev) in
      immediate_done_lem s i Codes.remove_advertising ps remove_advertising d d' r given big (size_one e) s' (x ∷ [])
      (removed_of i a.schedule (removed_instance x a.schedule) instances) h n act er (ap length whole ∙ l) (omega arith) (w ∙ sym q ∙ rw whole) es
