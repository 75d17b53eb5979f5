-- The reason found is the model's own: not another one that has the same status.
use Prim.Native.Nat.{ℕ}
use mathlib.Core.Path.{◌≡◌, refl}
use mathlib.Core.Bool.{Bool, true, false, not}
use mathlib.Core.Option.{Option, none, some}
use lib.ListN.{length}
use lib.Dec.{eqb, ltb}
use Rattle.std.specs.Prelude.{Ok, Err}
use Rattle.model.specs.Lengths as Lengths
use Rattle.model.specs.Octets.{Octets, command_complete}
use Rattle.model.specs.State.{Controller, Host, Hub, PlainHub, controller_at}
use Rattle.model.specs.Reasons.{first_of}
use Rattle.model.specs.declared.Reason.{Reason}
use Rattle.model.specs.declared.Reason.TheVariants.{IndexNotNone, LengthWrong}
use Rattle.model.specs.declared.Place.TheVariants.{AtOctet}
use Rattle.model.specs.Rules.{ImmediateRule, RadioRule, Rule, act, done, general, immediate, radio, unless}
use Rattle.model.specs.Commands.{rule}
use Rattle.model.specs.Hub.{Outcome, acted, anyway, bad_argument, bad_packet, by_rule, by_status, code_of, finished, general_out, immediate_at, immediate_done}
use Rattle.model.specs.Hub.{index_of, no_room, outcome, packet_ok, params_of, radio_after_busy, radio_at, radio_before_busy, refused}
use Rattle.model.specs.Hub.{under_way, verdict}
use Rattle.why.specs.declared.Objection.TheVariants.{Busy, Wrong}
use Rattle.why.specs.Findings.{Finding, and_then, busy_if, checked, first_wrong, in_packet, is_open, why, why_at, why_by, why_general, why_immediate, why_radio}
use Rattle.why.proofs.Says.{Names, fine, named, names_packet}

-- the reason that an outcome refuses for
unfoldable pub reason_in : Outcome → Option Reason
reason_in (finished o p) = none
reason_in (refused f r) = some r
reason_in bad_packet = none
reason_in no_room = none
reason_in bad_argument = none

-- a finding names the reason that refuses with nothing under way, if it is not Busy
abbrev pub SameReason : Finding → Outcome → Type 0
SameReason (Ok _) o = reason_in o ≡ none
SameReason (Err Busy) o = Unit {0}
SameReason (Err (Wrong r p)) o = reason_in o ≡ some r

module _ (h : Hub) (i code : ℕ) (ps : Octets) where
  -- a command to no controller
  general_reason : (f : PlainHub → Octets) → SameReason (why_general i ps) (general_out h.plain i code ps f)
  unfolding why_general first_wrong and_then checked general_out reason_in
  general_reason f = go (eqb i 0xFFFF) (eqb (length ps) 0)
    where
      go : (b c : Bool)
          → SameReason (and_then (checked (not b) IndexNotNone (AtOctet 2)) (and_then (checked (not c) LengthWrong (AtOctet 4)) (Ok tt)))
          (elim b [
            | true ↦ elim c [ true ↦ finished (command_complete i code 0 (f h.plain)) h.plain | false ↦ refused (by_status i code) LengthWrong ]
            | false ↦ refused (by_status i code) IndexNotNone
          ])
      go true true = refl
      go true false = refl
      go false c = refl

  -- a command that is never Busy, of the right length
  done_reason : (a : Bool) (c : Controller) (out evs : Octets) (t : Host) (x : Option Reason) (f : Finding) → Names x f
      → SameReason f (immediate_done h.plain i code ps a c (unless x (done out evs t)))
  unfolding immediate_done unless reason_in
  done_reason a c out evs t _ _ fine = refl
  done_reason a c out evs t _ _ (named x p) = refl

  -- such a command to a controller: its length, then its checks
  immediate_reason : (q : ImmediateRule) (s : Option Controller) → SameReason (why_at s (λ c. why_immediate q c ps)) (immediate_at h.plain i code ps q s)
  unfolding why_at why_immediate first_wrong and_then checked immediate_at reason_in
  immediate_reason q none = refl
  immediate_reason q (some c) = go (q.size ps)
    where
      go : (b : Bool) → SameReason (and_then (checked (not b) LengthWrong (AtOctet (q.length_at ps))) (first_wrong (in_packet (q.checks c ps))))
          (elim b [
            | true ↦ immediate_done h.plain i code ps q.by_address c (act q i c ps)
            | false ↦ refused (by_status i code) LengthWrong
          ])
      go true = done_reason q.by_address c _ _ _ _ _ (names_packet (q.checks c ps))
      go false = refl

  module _ (r : RadioRule) (c : Controller) (busy : Bool) where
    -- a settings command behind the checks before Busy
    after_reason : (x : Option Reason) (f : Finding) → Names x f
        → SameReason (and_then (busy_if busy) f) (outcome (radio_after_busy h.plain i code ps r c x))
    unfolding and_then busy_if outcome radio_after_busy acted reason_in
    after_reason x f n = go busy x f n
      where
        go : (b : Bool) (x : Option Reason) (f : Finding) → Names x f → SameReason (and_then (busy_if b) f) (outcome (radio_after_busy h.plain i code ps r c x))
        go true x f n = tt
        go false _ _ fine = refl
        go false _ _ (named y p) = refl

    -- and with them
    before_reason : (x : Option Reason) (f : Finding) → Names x f
        → SameReason (and_then f (and_then (busy_if busy) (first_wrong (in_packet (r.after_busy c.radio ps)))))
        (outcome (radio_before_busy h.plain i code ps r c x))
    unfolding and_then outcome radio_before_busy reason_in
    before_reason _ _ fine = after_reason _ _ (names_packet (r.after_busy c.radio ps))
    before_reason _ _ (named x p) = refl

  -- a settings command to a controller
  radio_reason : (r : RadioRule) (busy : Bool) (s : Option Controller)
      → SameReason (why_at s (λ c. why_radio r c.radio busy ps)) (outcome (radio_at h.plain i code ps r s))
  unfolding why_at why_radio first_wrong and_then checked radio_at outcome reason_in
  radio_reason r busy none = refl
  radio_reason r busy (some c) = go (eqb (length ps) r.size)
    where
      go : (b : Bool)
          → SameReason (and_then (and_then (checked (not b) LengthWrong (AtOctet 4)) (first_wrong (in_packet (r.before_busy c.radio ps))))
          (and_then (busy_if busy) (first_wrong (in_packet (r.after_busy c.radio ps)))))
          (outcome (elim b [
            | true ↦ radio_before_busy h.plain i code ps r c (first_of (r.before_busy c.radio ps))
            | false ↦ anyway (refused (by_status i code) LengthWrong)
          ]))
      go true = before_reason r c busy _ _ (names_packet (r.before_busy c.radio ps))
      go false = refl

  -- by the rule of the code
  rule_reason : (u : Option Rule) → SameReason (why_by h i ps u) (outcome (by_rule h.plain i code ps u))
  unfolding why_by by_rule outcome reason_in
  rule_reason none = refl
  rule_reason (some (general f)) = general_reason f
  rule_reason (some (immediate q)) = immediate_reason q (controller_at h.plain i)
  rule_reason (some (radio r)) = radio_reason r (is_open (under_way h i)) (controller_at h.plain i)

-- the reason found of a packet is the one that the model refuses it for
pub reason_is_the_models : (h : Hub) (packet : Octets) (room : ℕ) → ltb room Lengths.reply_buffer ≡ false → packet_ok packet ≡ true
    → SameReason (why h packet) (outcome (verdict h.plain room packet))
unfolding why verdict
reason_is_the_models h packet room e z = rw (e, verdict, z) (rule_reason h (index_of packet) (code_of packet) (params_of packet) (rule (code_of packet)))
