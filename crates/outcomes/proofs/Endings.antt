-- The ways a command's function ends, each as one law over plain variables: from what its callees ensure to the contract that it states.
use Prim.Native.Nat.{ℕ, ◌≤◌}
use native.Mathlib.Omega.{arith}
use mathlib.Core.Path.{◌≡◌, refl, sym, ◌∙◌}
use mathlib.Core.Bool.{true, false}
use mathlib.Core.List.{[], ◌++◌}
use mathlib.Core.Option.{Option, none, some}
use lib.ListN.{length, take, length-take}
use lib.Dec.{eqb}
use Rattle.model.specs.Statuses as Statuses
use Rattle.model.specs.Lengths as Lengths
use Rattle.model.specs.Octets.{Octets, command_complete, command_status, le32}
use Rattle.model.specs.Advertising.{advertising_removed}
use Rattle.model.specs.State.{Controller, Host, PlainHub, OpenCommand, with_controller, with_host, current_settings, settings_of}
use Rattle.model.specs.Reasons.{status_of, first_of}
use Rattle.model.specs.declared.Reason.{Reason}
use Rattle.model.specs.declared.Reason.TheVariants.{LengthWrong}
use Rattle.model.specs.Rules.{refuse, done, ImmediateRule, RadioRule, new_settings, act}
use Rattle.model.specs.Hub.{Outcome, finished, refused, anyway, keep, with_open, answer_of, octets_of, state_of, refusal_octets, by_status, busy_or}
use Rattle.model.specs.Hub.{command_out, refusal_form, immediate_at, immediate_done, radio_at, radio_before_busy, radio_after_busy, acted}
use Rattle.model.specs.Layout.{encode, decode}
use Rattle.model.specs.Meanings.{state_ok, laid_out}
use Rattle.model.proofs.Model.Demand3.{state_back}
use Rattle.octets.specs.Parts.{write_at}
use Rattle.octets.proofs.Parts.{write_front}
use Rattle.layout.specs.Places.{Ready, controller_of, open_at, put_controller}
use Rattle.model.specs.Answers.{number_of, count_of}
use Rattle.replies.specs.Answers.{Gives}
use Rattle.model.specs.declared.Answer.{Answer}
use Rattle.model.specs.declared.Answer.TheVariants.{Done, Started, Refused}
use Rattle.outcomes.specs.Outcomes.{ended, immediate_command, radio_command}
use Rattle.model.proofs.Model.Room.{length_complete, length_status}

-- 1. Any outcome ------------------------------------------------------------------------------------------------------------------------------

-- nothing is written, nothing changes
pub ends_silent : (s d : Octets) (o : Outcome) (r : Answer) → state_ok s ≡ true → octets_of o ≡ [] → state_of (decode s).plain o ≡ (decode s).plain
    → number_of r ≡ answer_of o → count_of r ≡ 0
    → Gives (ended s o) r d d s
unfolding ended laid_out keep
ends_silent s d o r ok e k n c = record { answer = n; count = rw e c; reply = rw e; state = state_back s ok ∙ rw k }

-- a refusal: the reply is written, the state is as it was
pub ends_refused : (s : Octets) (i code : ℕ) (x : Reason) (d d' : Octets) (r : Answer) → state_ok s ≡ true → Lengths.reply_buffer ≤ length d → r ≡ Refused 9
    → d' ≡ write_at d 0 (command_status i code (status_of x)) → Gives (ended s (refused (by_status i code) x)) r d d' s
unfolding ended laid_out keep answer_of octets_of state_of refusal_octets by_status
ends_refused s i code x d d' r ok big n w =
    let l = length_status i code (status_of x) in
    rw n (record { answer = refl; count = sym l; reply = w ∙ write_front d (command_status i code (status_of x)) (omega arith); state = state_back s ok })

-- done: the octets are written, and the state is the new one's
pub ends_done : (s out : Octets) (p : PlainHub) (n : ℕ) (d d' s' : Octets) (r : Answer) → r ≡ Done n → length out ≡ n → n ≤ length d
    → d' ≡ write_at d 0 out → s' ≡ encode (record { plain = p; open_commands = (decode s).open_commands; waiting = (decode s).waiting })
    → Gives (ended s (finished out p)) r d d' s'
unfolding ended laid_out keep answer_of octets_of state_of
ends_done s out p n d d' s' r m e l w k = rw m (record { answer = refl; count = sym e; reply = w ∙ write_front d out (omega arith); state = k })

-- 2. Commands that are never Busy ---------------------------------------------------------------------------------------------------------------

-- parameters of the right length: the rule's own act decides
at_good : (p : PlainHub) (i code : ℕ) (ps : Octets) (q : ImmediateRule) (c : Controller) → q.size ps ≡ true
    → immediate_at p i code ps q (some c) ≡ immediate_done p i code ps q.by_address c (act q i c ps)
unfolding immediate_at
at_good p i code ps q c e = rw (e, immediate_at)

-- parameters of another length: refused by Command Status, even of an address command
at_length : (p : PlainHub) (i code : ℕ) (ps : Octets) (q : ImmediateRule) (c : Controller) → q.size ps ≡ false
    → immediate_at p i code ps q (some c) ≡ refused (by_status i code) LengthWrong
unfolding immediate_at
at_length p i code ps q c e = rw (e, immediate_at)

-- the address and type that a refusal repeats are seven octets
length_take7 : (ps : Octets) → 7 ≤ length ps → length (take 7 ps) ≡ 7
length_take7 ps h = simp length-take (omega arith)

module _ (s : Octets) (i code : ℕ) (ps : Octets) (q : ImmediateRule) (d d' : Octets) (r : Answer) (given : Ready s i)
    (big : Lengths.reply_buffer ≤ length d) where
  -- the parameters have another length
  pub immediate_length : q.size ps ≡ false → r ≡ Refused 9 → d' ≡ write_at d 0 (command_status i code Statuses.invalid_parameters)
      → Gives (immediate_command s i code ps q) r d d' s
  unfolding immediate_command status_of
  immediate_length e n w = rw (at_length (decode s).plain i code ps q (controller_of s i) e) (ends_refused s i code LengthWrong d d' r given.ok big n w)

  -- refused by Command Status
  pub immediate_status : q.size ps ≡ true → (x : Reason) → q.by_address ≡ false → act q i (controller_of s i) ps ≡ refuse x → r ≡ Refused 9
      → d' ≡ write_at d 0 (command_status i code (status_of x)) → Gives (immediate_command s i code ps q) r d d' s
  unfolding immediate_command immediate_done refusal_form
  immediate_status z x a e n w = rw (at_good (decode s).plain i code ps q (controller_of s i) z, a, e) (ends_refused s i code x d d' r given.ok big n w)

  -- refused by Command Complete with the address and type
  pub immediate_address : q.size ps ≡ true → (x : Reason) → q.by_address ≡ true → 7 ≤ length ps → act q i (controller_of s i) ps ≡ refuse x → r ≡ Refused 16
      → d' ≡ write_at d 0 (command_complete i code (status_of x) (take 7 ps)) → Gives (immediate_command s i code ps q) r d d' s
  unfolding immediate_command immediate_done refusal_form ended laid_out keep answer_of octets_of state_of refusal_octets
  immediate_address z x a seven e n w =
      let l : length (command_complete i code (status_of x) (take 7 ps)) ≡ 16 = length_complete i code (status_of x) (take 7 ps) ∙ rw (length_take7 ps seven) in
      rw (at_good (decode s).plain i code ps q (controller_of s i) z, a, e, n)
      (record {
        answer = refl;
        count = sym l;
        reply = w
            ∙ write_front d (command_complete i code (status_of x) (take 7 ps)) (omega arith);
        state = state_back s given.ok;
      })

  -- done
  pub immediate_done_lem : q.size ps ≡ true → (s' out evs : Octets) (h : Host) (n : ℕ) → act q i (controller_of s i) ps ≡ done out evs h → r ≡ Done n
      → length (command_complete i code 0 out ++ evs) ≡ n → n ≤ Lengths.reply_buffer → d' ≡ write_at d 0 (command_complete i code 0 out ++ evs)
      → s' ≡ encode (put_controller (decode s) i (with_host (controller_of s i) h)) → Gives (immediate_command s i code ps q) r d d' s'
  unfolding immediate_command immediate_done put_controller
  immediate_done_lem z s' out evs h n e m l f w k =
      rw (at_good (decode s).plain i code ps q (controller_of s i) z, e)
      (ends_done s (command_complete i code 0 out ++ evs) (with_controller (decode s).plain i (some (with_host (controller_of s i) h))) n d d' s' r m l
      (omega arith) w k)

-- 3. Settings commands that can be Busy ---------------------------------------------------------------------------------------------------------

-- parameters of another length are refused, whatever is under way
length_wrong : (p : PlainHub) (i code : ℕ) (ps : Octets) (r : RadioRule) (c : Controller) → eqb (length ps) r.size ≡ false
    → radio_at p i code ps r (some c) ≡ anyway (refused (by_status i code) LengthWrong)
unfolding radio_at
length_wrong p i code ps r c e = rw (e, radio_at)

-- of the right length, they come to the checks before Busy
radio_good : (p : PlainHub) (i code : ℕ) (ps : Octets) (r : RadioRule) (c : Controller) → eqb (length ps) r.size ≡ true
    → radio_at p i code ps r (some c) ≡ radio_before_busy p i code ps r c (first_of (r.before_busy c.radio ps))
unfolding radio_at
radio_good p i code ps r c e = rw (e, radio_at)

module _ (s : Octets) (i code : ℕ) (ps : Octets) (u : RadioRule) (d d' : Octets) (r : Answer) (given : Ready s i) (big : Lengths.reply_buffer ≤ length d) where
  -- the controller at the index
  abbrev here : Controller
  here = controller_of s i

  -- the parameters have another length
  pub radio_length : eqb (length ps) u.size ≡ false → r ≡ Refused 9 → d' ≡ write_at d 0 (command_status i code Statuses.invalid_parameters)
      → Gives (radio_command s i code ps u) r d d' s
  unfolding radio_command command_out busy_or status_of ended
  radio_length e n w = rw (length_wrong (decode s).plain i code ps u (controller_of s i) e) (ends_refused s i code LengthWrong d d' r given.ok big n w)

  -- refused before Busy
  pub radio_early : eqb (length ps) u.size ≡ true → (x : Reason) → first_of (u.before_busy here.radio ps) ≡ some x → r ≡ Refused 9
      → d' ≡ write_at d 0 (command_status i code (status_of x)) → Gives (radio_command s i code ps u) r d d' s
  unfolding radio_command command_out busy_or radio_before_busy ended
  radio_early z x e n w =
      rw (radio_good (decode s).plain i code ps u (controller_of s i) z, e) (ends_refused s i code x d d' r given.ok big n w)

  -- Busy
  pub radio_busy : eqb (length ps) u.size ≡ true → first_of (u.before_busy here.radio ps) ≡ none → (o : OpenCommand) → open_at s i ≡ some o
      → r ≡ Refused 9
      → d' ≡ write_at d 0 (command_status i code Statuses.busy) → Gives (radio_command s i code ps u) r d d' s
  unfolding radio_command radio_before_busy radio_after_busy command_out busy_or laid_out
  radio_busy z e o eo n w = rw (radio_good (decode s).plain i code ps u (controller_of s i) z, e, eo) (go (first_of (u.after_busy here.radio ps)))
    where
      busy : Gives (record { answer = 2; octets = command_status i code Statuses.busy; state = encode (decode s) }) r d d' s
      busy =
          let l = length_status i code Statuses.busy in
          rw n (record {
            answer = refl;
            count = sym l;
            reply = w
                ∙ write_front d (command_status i code Statuses.busy) (omega arith);
            state = state_back s given.ok;
          })

      go : (y : Option Reason) → Gives (laid_out (command_out (decode s) i code ps (radio_after_busy (decode s).plain i code ps u here y) (some o))) r d d' s
      go none = busy
      go (some y) = busy

  -- Rejected
  pub radio_late : eqb (length ps) u.size ≡ true → first_of (u.before_busy here.radio ps) ≡ none → open_at s i ≡ none → (x : Reason)
      → first_of (u.after_busy here.radio ps) ≡ some x → r ≡ Refused 9 → d' ≡ write_at d 0 (command_status i code (status_of x))
      → Gives (radio_command s i code ps u) r d d' s
  unfolding radio_command command_out busy_or radio_before_busy radio_after_busy ended
  radio_late z e eo x f n w =
      rw (radio_good (decode s).plain i code ps u (controller_of s i) z, e, f, eo) (ends_refused s i code x d d' r given.ok big n w)

  -- started: nothing is written, and the command is kept
  pub radio_started : eqb (length ps) u.size ≡ true → first_of (u.before_busy here.radio ps) ≡ none → open_at s i ≡ none
      → first_of (u.after_busy here.radio ps) ≡ none → u.waits here.radio ps ≡ true → r ≡ Started → (s' : Octets)
      → s' ≡ encode (with_open (decode s) i (some (record { code = code; params = ps }))) → d' ≡ d → Gives (radio_command s i code ps u) r d d' s'
  unfolding radio_command command_out busy_or radio_before_busy radio_after_busy laid_out
  radio_started z e eo f w n s' k t =
      rw (radio_good (decode s).plain i code ps u (controller_of s i) z, e, f, eo, w, n) (record { answer = refl; count = refl; reply = t; state = k })

  -- done at once
  pub radio_done : eqb (length ps) u.size ≡ true → first_of (u.before_busy here.radio ps) ≡ none → open_at s i ≡ none
      → first_of (u.after_busy here.radio ps) ≡ none → u.waits here.radio ps ≡ false → (s' out : Octets) (n : ℕ) → r ≡ Done n
      → out ≡ command_complete i code 0 (le32 (current_settings (settings_of (u.effect here ps))))
      ++ (new_settings i here (u.effect here ps) ++ advertising_removed i here.host.advertising (u.effect here ps).host.advertising)
      → length out ≡ n → n ≤ Lengths.reply_buffer → d' ≡ write_at d 0 out → s' ≡ encode (put_controller (decode s) i (u.effect here ps))
      → Gives (radio_command s i code ps u) r d d' s'
  unfolding radio_command command_out busy_or radio_before_busy radio_after_busy acted put_controller ended
  radio_done z e eo f w s' out n m eq l b wr k =
      rw (radio_good (decode s).plain i code ps u (controller_of s i) z, e, f, eo, w)
      (rw eq at (ends_done s out (with_controller (decode s).plain i (some (u.effect here ps))) n d d' s' r m l (omega arith) wr k))
