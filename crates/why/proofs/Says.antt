-- What is found of a packet is what the hub answers: the status is the hub's own, and nothing is found exactly where the hub, with room to reply, answers
-- 0 or 1.
use Prim.Native.Nat.{ℕ}
use native.Mathlib.Omega.{arith}
use mathlib.Core.Path.{◌≡◌, refl, sym}
use mathlib.Core.Bool.{Bool, true, false, not}
use mathlib.Core.List.{List, [], ◌∷◌}
use mathlib.Core.Logic.{◌↔◌}
use mathlib.Core.Option.{Option, none, some}
use lib.ListN.{length}
use lib.Dec.{eqb, leb, ltb}
use Rattle.std.specs.Prelude.{Ok, Err}
use Rattle.model.specs.Lengths as Lengths
use Rattle.model.specs.Octets.{Octets, octet, le16, event, command_complete, command_status}
use Rattle.model.specs.State.{Controller, Host, Hub, OpenCommand, PlainHub, controller_at}
use Rattle.model.specs.Reasons.{Check, first_of, further, moved}
use Rattle.model.specs.declared.Reason.{Reason}
use Rattle.model.specs.declared.Reason.TheVariants.{CodeUnknown, ControllerAbsent, IndexNotNone, LengthWrong}
use Rattle.model.specs.declared.Place.{Place}
use Rattle.model.specs.declared.Place.TheVariants.{AtOctet}
use Rattle.model.specs.Rules.{ImmediateRule, RadioRule, Rule, act, done, general, immediate, radio, unless}
use Rattle.model.specs.Commands.{rule}
use Rattle.model.specs.Hub.{Result, acted, answer_of, anyway, busy_or, by_rule, by_status, call, code_of, command, command_out, finished}
use Rattle.model.specs.Hub.{general_out, immediate_at, immediate_done, index_of, keep, octets_of, packet_ok, params_of, radio_after_busy, radio_at, radio_before_busy}
use Rattle.model.specs.Hub.{refusal_form, refusal_octets, refused, under_way, verdict}
use Rattle.model.proofs.Model.Places.{first_moved}
use Rattle.model.proofs.Model.Tests.{no_way}
use Rattle.why.specs.declared.Objection.TheVariants.{Busy, Wrong}
use Rattle.why.specs.Findings.{Finding, and_then, busy_if, checked, first_wrong, in_packet, is_open, status_in, why, why_at, why_by, why_general, why_immediate}
use Rattle.why.specs.Findings.{why_radio}

-- what a finding says of the hub's answer: 0 or 1, or 2 with this status, which both forms of a refusal have at octet 8
abbrev pub Says : {S : Type 0} → Finding → Result S → Type 0
Says (Ok _) r = leb r.answer 1 ≡ true
Says (Err Busy) r = (r.answer ≡ 2) × (octet r.octets 8 ≡ status_in (Err Busy))
Says (Err (Wrong x p)) r = (r.answer ≡ 2) × (octet r.octets 8 ≡ status_in (Err (Wrong x p)))

-- 1. A list of checks: its first reason, and the same with its place ---------------------------------------------------------------------------

-- a finding of checks names their first reason
pub data Names : Option Reason → Finding → Type 0 where
  -- no check fails
  fine : Names none (Ok tt)
  -- this one does
  named : (x : Reason) (p : Place) → Names (some x) (Err (Wrong x p))

-- the first check that fails is the one whose reason refuses
names_first : (cs : List Check) → Names (first_of cs) (first_wrong cs)
unfolding first_of first_wrong and_then checked
names_first [] = fine
names_first (c ∷ cs) = go c.fails (names_first cs)
  where
    go : (b : Bool) → Names (first_of cs) (first_wrong cs)
        → Names (elim b [ true ↦ some c.reason | false ↦ first_of cs ]) (and_then (checked b c.reason c.place) (first_wrong cs))
    go true n = named c.reason c.place
    go false n = n

-- the same with places counted from the packet's first octet
pub names_packet : (cs : List Check) → Names (first_of cs) (first_wrong (in_packet cs))
unfolding in_packet
names_packet cs = rw (first_moved (further 6) cs) at (names_first (moved (further 6) cs))

-- 2. What the hub answers --------------------------------------------------------------------------------------------------------------------------

-- a refusal by Command Status
by_status_lem : (h : Hub) (i code : ℕ) (x : Reason) (p : Place) → Says (Err (Wrong x p)) (keep h (refused (by_status i code) x))
unfolding keep answer_of octets_of refusal_octets by_status command_status event le16 octet status_in
by_status_lem h i code x p = (refl, refl)

-- a refusal after the length check, by Command Status or Command Complete
by_form : (h : Hub) (a : Bool) (i code : ℕ) (ps : Octets) (x : Reason) (p : Place) → Says (Err (Wrong x p)) (keep h (refused (refusal_form a i code ps) x))
unfolding keep answer_of octets_of refusal_octets refusal_form by_status command_status command_complete event le16 octet status_in
by_form h true i code ps x p = (refl, refl)
by_form h false i code ps x p = (refl, refl)

-- a command that is done at once
by_done : (h : Hub) (o : Octets) (p : PlainHub) → Says (Ok tt) (keep h (finished o p))
unfolding keep answer_of
by_done h o p = refl

module _ (h : Hub) (i code : ℕ) (ps : Octets) where
  -- a command to no controller
  general_says : (f : PlainHub → Octets) → Says (why_general i ps) (keep h (general_out h.plain i code ps f))
  unfolding why_general first_wrong and_then checked general_out
  general_says f = go (eqb i 0xFFFF) (eqb (length ps) 0)
    where
      go : (b c : Bool)
          → Says (and_then (checked (not b) IndexNotNone (AtOctet 2)) (and_then (checked (not c) LengthWrong (AtOctet 4)) (Ok tt)))
          (keep h (elim b [
            | true ↦ elim c [ true ↦ finished (command_complete i code 0 (f h.plain)) h.plain | false ↦ refused (by_status i code) LengthWrong ]
            | false ↦ refused (by_status i code) IndexNotNone
          ]))
      go true true = by_done h _ _
      go true false = by_status_lem h i code LengthWrong (AtOctet 4)
      go false c = by_status_lem h i code IndexNotNone (AtOctet 2)

  -- what a command that is never Busy comes to, by its checks
  done_says : (a : Bool) (c : Controller) (out evs : Octets) (t : Host) (x : Option Reason) (f : Finding) → Names x f
      → Says f (keep h (immediate_done h.plain i code ps a c (unless x (done out evs t))))
  unfolding immediate_done unless
  done_says a c out evs t _ _ fine = by_done h _ _
  done_says a c out evs t _ _ (named x p) = by_form h a i code ps x p

  -- such a command to a controller: its length, then its checks
  immediate_says : (q : ImmediateRule) (s : Option Controller) → Says (why_at s (λ c. why_immediate q c ps)) (keep h (immediate_at h.plain i code ps q s))
  unfolding why_at why_immediate first_wrong and_then checked immediate_at
  immediate_says q none = by_status_lem h i code ControllerAbsent (AtOctet 2)
  immediate_says q (some c) = go (q.size ps)
    where
      go : (b : Bool) → Says (and_then (checked (not b) LengthWrong (AtOctet (q.length_at ps))) (first_wrong (in_packet (q.checks c ps))))
          (keep h (elim b [
            | true ↦ immediate_done h.plain i code ps q.by_address c (act q i c ps)
            | false ↦ refused (by_status i code) LengthWrong
          ]))
      go true = done_says q.by_address c _ _ _ _ _ (names_packet (q.checks c ps))
      go false = by_status_lem h i code LengthWrong (AtOctet (q.length_at ps))

  -- a settings command that would be rejected, unless Busy
  rejects_says : (x : Reason) (p : Place) (o : Option OpenCommand)
      → Says (and_then (busy_if (is_open o)) (Err (Wrong x p))) (busy_or h i code ps (refused (by_status i code) x) false o)
  unfolding and_then busy_if is_open busy_or command_status event le16 octet status_in
  rejects_says x p none = by_status_lem h i code x p
  rejects_says x p (some o) = (refl, refl)

  -- one that is started or done at once, unless Busy
  acts_says : (out : Octets) (p : PlainHub) (w : Bool) (o : Option OpenCommand)
      → Says (and_then (busy_if (is_open o)) (Ok tt)) (busy_or h i code ps (finished out p) w o)
  unfolding and_then busy_if is_open busy_or command_status event le16 octet status_in
  acts_says out p true none = refl
  acts_says out p false none = by_done h out p
  acts_says out p w (some o) = (refl, refl)

  module _ (r : RadioRule) (c : Controller) (o : Option OpenCommand) where
    -- by its checks behind Busy
    after_says : (x : Option Reason) (f : Finding) → Names x f
        → Says (and_then (busy_if (is_open o)) f) (command_out h i code ps (radio_after_busy h.plain i code ps r c x) o)
    unfolding command_out radio_after_busy acted
    after_says _ _ fine = acts_says _ _ (r.waits c.radio ps) o
    after_says _ _ (named x p) = rejects_says x p o

    -- and by those before it
    before_says : (x : Option Reason) (f : Finding) → Names x f
        → Says (and_then f (and_then (busy_if (is_open o)) (first_wrong (in_packet (r.after_busy c.radio ps)))))
        (command_out h i code ps (radio_before_busy h.plain i code ps r c x) o)
    unfolding command_out radio_before_busy and_then
    before_says _ _ fine = after_says _ _ (names_packet (r.after_busy c.radio ps))
    before_says _ _ (named x p) = by_status_lem h i code x p

  -- a settings command to a controller: its length, then its checks
  radio_says : (r : RadioRule) (o : Option OpenCommand) (s : Option Controller)
      → Says (why_at s (λ c. why_radio r c.radio (is_open o) ps)) (command_out h i code ps (radio_at h.plain i code ps r s) o)
  unfolding why_at why_radio first_wrong and_then checked radio_at command_out
  radio_says r o none = by_status_lem h i code ControllerAbsent (AtOctet 2)
  radio_says r o (some c) = go (eqb (length ps) r.size)
    where
      go : (b : Bool)
          → Says (and_then (and_then (checked (not b) LengthWrong (AtOctet 4)) (first_wrong (in_packet (r.before_busy c.radio ps))))
          (and_then (busy_if (is_open o)) (first_wrong (in_packet (r.after_busy c.radio ps)))))
          (command_out h i code ps (elim b [
            | true ↦ radio_before_busy h.plain i code ps r c (first_of (r.before_busy c.radio ps))
            | false ↦ anyway (refused (by_status i code) LengthWrong)
          ]) o)
      go true = before_says r c o _ _ (names_packet (r.before_busy c.radio ps))
      go false = by_status_lem h i code LengthWrong (AtOctet 4)

  -- by the rule of the code
  rule_says : (u : Option Rule) → Says (why_by h i ps u) (command_out h i code ps (by_rule h.plain i code ps u) (under_way h i))
  unfolding why_by by_rule command_out
  rule_says none = by_status_lem h i code CodeUnknown (AtOctet 0)
  rule_says (some (general f)) = general_says f
  rule_says (some (immediate q)) = immediate_says q (controller_at h.plain i)
  rule_says (some (radio r)) = radio_says r (under_way h i) (controller_at h.plain i)

-- the finding of every packet that is one is the hub's answer, with room to reply
pub as_the_hub : (h : Hub) (packet : Octets) (room : ℕ) → ltb room Lengths.reply_buffer ≡ false → packet_ok packet ≡ true
    → Says (why h packet) (call h (command room packet))
unfolding why call verdict
as_the_hub h packet room e z = rw (e, verdict, z) (rule_says h (index_of packet) (code_of packet) (params_of packet) (rule (code_of packet)))

-- nothing is found exactly where the answer is 0 or 1
pub taken_says : {S : Type 0} (f : Finding) (r : Result S) → Says f r → (f ≡ Ok tt) ↔ (leb r.answer 1 ≡ true)
taken_says (Ok _) r s = (λ _. s, λ _. refl)
taken_says (Err Busy) r s = (λ n. let z : ◌≡◌ {A = ℕ} 0 1 = cc in absurd (omega arith), λ l. no_way (sym (rw s.0 at l)))
taken_says (Err (Wrong x p)) r s = (λ n. let z : ◌≡◌ {A = ℕ} 0 1 = cc in absurd (omega arith), λ l. no_way (sym (rw s.0 at l)))
