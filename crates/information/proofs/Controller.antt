-- Controller information: from what its steps leave to what the model says of it, over plain values.
-- Assumes nothing.
use mathlib.Core.Path.{◌≡◌, refl, sym, ◌∙◌}
use Prim.Native.Nat.{ℕ, ◌+◌, ◌≤◌, ◌<◌}
use native.Mathlib.Omega.{arith}
use mathlib.Core.Bool.{true, false}
use mathlib.Core.List.{[], ◌++◌, append-nil, append_assoc}
use lib.ListN.{length, length-append}
use lib.Dec.{lit≤, lit<}
use lib.Seq.{set-get_or}
use borrow.Author.Tests.{eq-eqb, ne_eqb}
use Rattle.model.specs.Statuses as Statuses
use Rattle.model.specs.Lengths as Lengths
use Rattle.model.specs.declared.Hardware.{Hardware}
use Rattle.model.specs.declared.Settings.{Settings}
use Rattle.model.specs.Octets.{Octets, le16, le32, command_complete, command_status}
use Rattle.model.specs.State.{Controller, current_settings, settings_of, table_of, with_controller, with_host}
use Rattle.model.specs.Reasons.{first_of}
use Rattle.model.specs.Rules.{done, act, unless}
use Rattle.model.specs.Immediate.{sized, class_of, read_information}
use Rattle.model.specs.Tables.{entries, table_rules, uuid_rule}
use Rattle.model.specs.Layout.{encode, decode}
use Rattle.model.proofs.Model.Demand3.{state_back}
use Rattle.model.specs.Tables.{rule_at}
use Rattle.octets.specs.Parts.{part, write_at}
use Rattle.octets.proofs.Parts.{length_part, write_whole}
use Rattle.table.specs.Slots.{joined_by_or, table_at}
use Rattle.layout.specs.Places.{Ready, controller_of, place_of, put_controller, table_place}
use Rattle.layout.proofs.Reading.{name_at, present_slot}
use Rattle.layout.proofs.Tables.{table_at_lem, table_fits}
use Rattle.replies.specs.Answers.{Gives}
use Rattle.model.specs.declared.Answer.{Answer}
use Rattle.model.specs.declared.Answer.TheVariants.{Done, Refused}
use Rattle.replies.proofs.Laws.{length_complete, then}
use Rattle.outcomes.specs.Outcomes.{immediate_command}
use Rattle.outcomes.proofs.Endings.{immediate_length, immediate_done_lem}
use Rattle.information.specs.Controller.{information_head, information_of}
use Rattle.information.proofs.Name.{name_fits}

-- the UUIDs are the first table, of records of 17 octets
pub uuids_fit : (i place : ℕ) → i < 4 → place ≡ table_place i 0 → place + 548 ≤ Lengths.state
unfolding rule_at table_rules uuid_rule
uuids_fit i place l e = rw e (table_fits i 0 l (lit< tt))

-- and what stands there is the controller's table of UUIDs
uuids_at : (s : Octets) (i : ℕ) → Ready s i → table_at s (table_place i 0) 17 ≡ table_of (controller_of s i).host 0
unfolding rule_at table_rules uuid_rule
uuids_at s i g = table_at_lem s i g 0 (lit< tt)

-- version 1, manufacturer 2, supported 4, current 4, class 3: the head has 14 octets
length_head : (f : Hardware) (w hints : ℕ) → length (information_head f w hints) ≡ 14
unfolding information_head le16 le32
length_head f w hints = refl

-- the pieces make the whole
joined : (c : Controller) (hints : ℕ) → hints ≡ joined_by_or 16 (entries (table_of c.host 0))
    → (c.radio.hardware.public_address ++ information_head c.radio.hardware (current_settings (settings_of c)) hints) ++ c.host.name ≡ information_of c
unfolding information_head information_of class_of
joined c hints e = rw e (simp append_assoc)

-- address, head and name, written one behind the other, fill the 280 octets with what is told of the controller
pub information_put : (s : Octets) (i : ℕ) (d d₁ d₂ d₃ : Octets) (m : Settings) (f : Hardware) (w place hints name : ℕ) (head a : Octets) → Ready s i
    → length d ≡ 280
    → m ≡ settings_of (controller_of s i) → f ≡ (controller_of s i).radio.hardware → w ≡ current_settings m → place ≡ table_place i 0
    → hints ≡ joined_by_or 16 (entries (table_at s place 17))
    → head ≡ information_head f w hints → a ≡ f.public_address → 6 ≡ length a → name ≡ place_of i 4
    → d₁ ≡ write_at d 0 a → d₂ ≡ write_at d₁ 6 head → d₃ ≡ write_at d₂ 20 (part s name 260) → d₃ ≡ information_of (controller_of s i)
information_put s i d d₁ d₂ d₃ m f w place hints name head a g long em ef ew ep eh ed ea six en w₁ w₂ w₃ =
    let c = controller_of s i in
    let n : part s name 260 ≡ c.host.name = rw en (name_at s i) in
    let l : length (part s name 260) ≡ 260 = let z = g.long in let y = name_fits i name g.below en in length_part s name 260 (omega arith) in
    let k : hints ≡ joined_by_or 16 (entries (table_of c.host 0)) = eh ∙ rw (ep, uuids_at s i g) in
    let h : head ≡ information_head c.radio.hardware (current_settings (settings_of c)) hints = ed ∙ rw (ef, ew, em) in
    let b : a ≡ c.radio.hardware.public_address = ea ∙ rw ef in
    let lh : length head ≡ 14 = rw h (length_head c.radio.hardware (current_settings (settings_of c)) hints) in
    let x₂ : d₂ ≡ write_at d 0 (a ++ head) = w₂ ∙ rw w₁ (then d 0 a head 6 (omega arith)) in
    let la : length (a ++ head) ≡ 20 = length-append a head ∙ omega arith in
    let x₃ : d₃ ≡ write_at d 0 ((a ++ head) ++ part s name 260) = w₃ ∙ rw x₂ (then d 0 (a ++ head) (part s name 260) 20 (omega arith)) in
    let t : length ((a ++ head) ++ part s name 260) ≡ length d = length-append (a ++ head) (part s name 260) ∙ omega arith in
    x₃ ∙ write_whole d ((a ++ head) ++ part s name 260) t ∙ rw (b, h, n) (joined c hints k)

-- a controller put back where it stands
put_back : (s : Octets) (i : ℕ) → Ready s i → s ≡ encode (put_controller (decode s) i (with_host (controller_of s i) (controller_of s i).host))
unfolding put_controller with_controller with_host
put_back s i g = state_back s g.ok ∙ rw (← present_slot s i g.here, set-get_or)

-- 0x0004 has no parameters: then the length is right (01, Commands, 0x0004)
size_true : (ps : Octets) → length ps ≡ 0 → read_information.size ps ≡ true
unfolding read_information sized
size_true ps e = eq-eqb (length ps) 0 e

-- and with any it is wrong
size_false : (ps : Octets) → (length ps ≡ 0 → ⊥) → read_information.size ps ≡ false
unfolding read_information sized
size_false ps e = ne_eqb (length ps) 0 e

-- it returns the information, has no events, and leaves the host part as it was
act_is : (i : ℕ) (c : Controller) (ps : Octets) → act read_information i c ps ≡ done (information_of c) [] c.host
unfolding read_information information_of first_of unless
act_is i c ps = refl

module _ (s : Octets) (i : ℕ) (ps d d' : Octets) (r : Answer) (g : Ready s i) (big : Lengths.reply_buffer ≤ length d) where
  -- with parameters: Invalid Parameters
  pub information_length : (length ps ≡ 0 → ⊥) → r ≡ Refused 9 → d' ≡ write_at d 0 (command_status i 4 Statuses.invalid_parameters)
      → Gives (immediate_command s i 4 ps read_information) r d d' s
  information_length e n w = immediate_length s i 4 ps read_information d d' r g big (size_false ps e) n w

  -- without: Command Complete with the 280 octets, and the state as it was
  pub information_done : length ps ≡ 0 → (body : Octets) → 280 ≡ length body → body ≡ information_of (controller_of s i) → r ≡ Done 289
      → d' ≡ write_at d 0 (command_complete i 4 0 body)
      → Gives (immediate_command s i 4 ps read_information) r d d' s
  information_done e body n b er w =
      immediate_done_lem s i 4 ps read_information d d' r g big (size_true ps e) s body [] (controller_of s i).host 289
      (act_is i (controller_of s i) ps ∙ rw b) er (rw append-nil (length_complete i 4 0 body 280 (sym n))) (lit≤ tt) (w ∙ rw append-nil) (put_back s i g)
