-- Set Local Name, and the names told: from what their steps leave to what the model says of it, over plain values.
-- Assumes nothing.
use mathlib.Core.Path.{◌≡◌, refl, sym, ◌∙◌}
use Prim.Native.Nat.{ℕ, ◌+◌, ◌≤◌, ◌<◌}
use native.Mathlib.Omega.{arith}
use mathlib.Core.Bool.{Bool, true, false}
use mathlib.Core.List.{[], ◌++◌, append-nil}
use mathlib.Core.Option.{some}
use lib.ListN.{length, get_or, take, drop, length-append}
use lib.Dec.{lit≤}
use lib.Seq.{take_all}
use borrow.Author.Tests.{eq-eqb, ne_eqb, lt-ltb, le-ltb}
use Rattle.model.specs.Statuses as Statuses
use Rattle.model.specs.Events as Events
use Rattle.model.specs.Lengths as Lengths
use Rattle.model.specs.Octets.{Octets, octet, same, used_part, event, command_complete, command_status}
use Rattle.model.specs.State.{Controller, name_ends, short_name_ends, name_part, with_host, with_name}
use Rattle.model.specs.Reasons.{first_of, status_of}
use Rattle.model.specs.declared.Reason.TheVariants.{NameNotEnded, ShortNameNotEnded}
use Rattle.model.specs.Rules.{refuse, done, act, unless}
use Rattle.model.specs.Immediate.{sized, set_local_name}
use Rattle.model.specs.Hub.{finished, bad_argument, answer_of, octets_of, state_of}
use Rattle.model.specs.Layout.{encode, decode}
use Rattle.model.specs.Meanings.{name_out, state_ok}
use Rattle.model.proofs.Model.Demand3.{state_back}
use Rattle.octets.specs.Parts.{part, place_at, write_at}
use Rattle.layout.specs.Places.{Ready, controller_of, place_of, present_at, put_controller, sizes}
use Rattle.layout.proofs.Reading.{absent_controller, name_at, present_controller, ready}
use Rattle.replies.specs.Answers.{Gives}
use Rattle.model.specs.declared.Answer.{Answer}
use Rattle.model.specs.declared.Answer.TheVariants.{Done, Refused, BadArgument}
use Rattle.replies.proofs.Laws.{length_complete, length_event, then}
use Rattle.outcomes.specs.Outcomes.{name_read, immediate_command}
use Rattle.outcomes.proofs.Endings.{ends_done, ends_silent, immediate_length, immediate_status, immediate_done_lem}

-- what the rule says, case by case
size_true : (ps : Octets) → length ps ≡ 260 → set_local_name.size ps ≡ true
unfolding set_local_name sized
size_true ps e = eq-eqb (length ps) 260 e

-- any length but 260 is wrong
size_false : (ps : Octets) → (length ps ≡ 260 → ⊥) → set_local_name.size ps ≡ false
unfolding set_local_name sized
size_false ps e = ne_eqb (length ps) 260 e

-- the last octet of the name is not zero: refused
act_name : (i : ℕ) (c : Controller) (ps : Octets) → (get_or ps 248 0 ≡ 0 → ⊥) → act set_local_name i c ps ≡ refuse NameNotEnded
unfolding set_local_name name_ends octet first_of unless
act_name i c ps e = rw (ne_eqb (get_or ps 248 0) 0 e)

-- the name ends with zero, but the last octet of the short name is not zero: refused
act_short : (i : ℕ) (c : Controller) (ps : Octets) → get_or ps 248 0 ≡ 0 → (get_or ps 259 0 ≡ 0 → ⊥) → act set_local_name i c ps ≡ refuse ShortNameNotEnded
unfolding set_local_name name_ends short_name_ends octet first_of unless
act_short i c ps e f = rw (eq-eqb (get_or ps 248 0) 0 e, ne_eqb (get_or ps 259 0) 0 f)

-- Local Name Changed, unless the octets are the same
name_changed : Bool → ℕ → Octets → Octets
name_changed b i ps = elim b [ true ↦ [] | false ↦ event Events.local_name_changed i ps ]

-- both end with zero: they are returned and kept, and the event follows if they are new
act_done : (i : ℕ) (c : Controller) (ps : Octets) (b : Bool) → get_or ps 248 0 ≡ 0 → get_or ps 259 0 ≡ 0 → same ps c.host.name ≡ b
    → act set_local_name i c ps ≡ done ps (name_changed b i ps) (with_name c.host ps)
unfolding set_local_name name_ends short_name_ends octet first_of unless name_changed
act_done i c ps b e f g = rw (eq-eqb (get_or ps 248 0) 0 e, eq-eqb (get_or ps 259 0) 0 f, ← g)

-- the octets compared are all of the parameters, and the name that stands there
same_name : (s : Octets) (i : ℕ) (ps : Octets) (place : ℕ) (b : Bool) → length ps ≡ 260 → place ≡ place_of i 4 → b ≡ same (part ps 0 260) (part s place 260)
    → same ps (controller_of s i).host.name ≡ b
unfolding part
same_name s i ps place b n e g =
    let q : take 260 (drop 0 ps) ≡ ps = take_all 260 ps (omega arith) in
    sym (g ∙ rw (e, name_at s i, q))

module _ (s : Octets) (i : ℕ) (ps d d' : Octets) (r : Answer) (g : Ready s i) (big : Lengths.reply_buffer ≤ length d) where
  -- the three refusals
  pub name_length : (length ps ≡ 260 → ⊥) → r ≡ Refused 9 → d' ≡ write_at d 0 (command_status i 15 Statuses.invalid_parameters)
      → Gives (immediate_command s i 15 ps set_local_name) r d d' s
  name_length e n w = immediate_length s i 15 ps set_local_name d d' r g big (size_false ps e) n w

  -- the name does not end with zero: Invalid Parameters
  pub name_open : length ps ≡ 260 → (get_or ps 248 0 ≡ 0 → ⊥) → r ≡ Refused 9 → d' ≡ write_at d 0 (command_status i 15 Statuses.invalid_parameters)
      → Gives (immediate_command s i 15 ps set_local_name) r d d' s
  unfolding status_of set_local_name
  name_open l e n w = immediate_status s i 15 ps set_local_name d d' r g big (size_true ps l) NameNotEnded refl (act_name i (controller_of s i) ps e) n w

  -- the name does, the short name does not: Invalid Parameters
  pub short_open : length ps ≡ 260 → get_or ps 248 0 ≡ 0 → (get_or ps 259 0 ≡ 0 → ⊥) → r ≡ Refused 9
      → d' ≡ write_at d 0 (command_status i 15 Statuses.invalid_parameters) → Gives (immediate_command s i 15 ps set_local_name) r d d' s
  unfolding status_of set_local_name
  short_open l e f n w =
      immediate_status s i 15 ps set_local_name d d' r g big (size_true ps l) ShortNameNotEnded refl (act_short i (controller_of s i) ps e f) n w

  module _ (l : length ps ≡ 260) (e : get_or ps 248 0 ≡ 0) (f : get_or ps 259 0 ≡ 0) (place : ℕ) (p : place ≡ place_of i 4) (b : Bool)
      (k : b ≡ same (part ps 0 260) (part s place 260)) (s' : Octets)
      (put : s' ≡ encode (put_controller (decode s) i (with_host (controller_of s i) (with_name (controller_of s i).host ps)))) where
    -- the same name: the reply is all
    pub name_kept : b ≡ true → r ≡ Done 269 → d' ≡ write_at d 0 (command_complete i 15 0 ps) → Gives (immediate_command s i 15 ps set_local_name) r d d' s'
    unfolding name_changed
    name_kept t n w =
        let m = length_complete i 15 0 ps 260 l in
        immediate_done_lem s i 15 ps set_local_name d d' r g big (size_true ps l) s' ps [] (with_name (controller_of s i).host ps) 269
        (act_done i (controller_of s i) ps true e f (same_name s i ps place b l p k ∙ t)) n (rw append-nil m) (lit≤ tt) (w ∙ rw append-nil) put

    -- another name: Local Name Changed follows the reply
    pub name_new : b ≡ false → (d₁ : Octets) → d₁ ≡ write_at d 0 (command_complete i 15 0 ps) → d' ≡ write_at d₁ 269 (event Events.local_name_changed i ps)
        → r ≡ Done 535
        → Gives (immediate_command s i 15 ps set_local_name) r d d' s'
    unfolding name_changed
    name_new t d₁ w₁ w n =
        let m = length_complete i 15 0 ps 260 l in
        let o = length_event Events.local_name_changed i ps 260 l in
        let z : length (command_complete i 15 0 ps ++ event Events.local_name_changed i ps) ≡ 535 = rw (length-append, m, o) in
        immediate_done_lem s i 15 ps set_local_name d d' r g big (size_true ps l) s' ps (event Events.local_name_changed i ps)
        (with_name (controller_of s i).host ps) 535
        (act_done i (controller_of s i) ps false e f (same_name s i ps place b l p k ∙ t)) n z (lit≤ tt)
        (w ∙ rw w₁ (then d 0 (command_complete i 15 0 ps) (event Events.local_name_changed i ps) 269 (rw m))) put

-- the name lies inside the state
pub name_fits : (i place : ℕ) → i < 4 → place ≡ place_of i 4 → place + 260 ≤ Lengths.state
unfolding place_of place_at sizes
name_fits i place l e = omega arith

-- The names told ------------------------------------------------------------------------------------------------------------------------------

-- no controller there: 6
pub told_absent : (s d : Octets) (i which : ℕ) → state_ok s ≡ true → present_at s i ≡ false → Gives (name_read s i which) BadArgument d d s
unfolding name_read name_out octets_of state_of answer_of
told_absent s d i which ok e = rw (absent_controller s i e) (ends_silent s d bad_argument BadArgument ok refl refl refl refl)

-- neither the name nor the short name is asked for: 6
pub told_neither : (s d : Octets) (i which : ℕ) → state_ok s ≡ true → present_at s i ≡ true → 2 ≤ which → Gives (name_read s i which) BadArgument d d s
unfolding name_read name_out octets_of state_of answer_of
told_neither s d i which ok e l = rw (present_controller s i (ready s i ok e), none_such) (ends_silent s d bad_argument BadArgument ok refl refl refl refl)
  where
    none_such : name_out (decode s).plain which (some (controller_of s i)) ≡ bad_argument
    none_such = rw (le-ltb which 2 l, name_out)

-- else the used part is the reply
pub told_used : (s d d' name : Octets) (i which : ℕ) → state_ok s ≡ true → present_at s i ≡ true → which < 2 → Lengths.reply_buffer ≤ length d
    → (name ≡ used_part (name_part which (controller_of s i).host.name)) × (length name ≤ 249) → d' ≡ write_at d 0 name
    → Gives (name_read s i which) (Done (length name)) d d' s
unfolding name_read name_out
told_used s d d' name i which ok e l big n w =
    rw (present_controller s i (ready s i ok e), one_of)
    (ends_done s name (decode s).plain (length name) d d' s (Done (length name)) refl refl (omega arith) w (state_back s ok))
  where
    one_of : name_out (decode s).plain which (some (controller_of s i)) ≡ finished name (decode s).plain
    one_of = rw (lt-ltb which 2 l, name_out, n.0)
