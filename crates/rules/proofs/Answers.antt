-- What a decision says is what the model answers with nothing under way: the number, the count, and the status of a refusal.
-- Assumes nothing.
use Rattle.std.proofs.Common.{◌≡◌, ℕ, Bool, true, false, length, refl, arith, eq-eqb}
use mathlib.Core.Option.{Option, none, some}
use Rattle.model.specs.Octets.{Octets, command_status}
use Rattle.model.specs.State.{Controller, Hub}
use Rattle.model.specs.Answers.{count_of, number_of}
use Rattle.model.specs.Reasons.{first_of}
use Rattle.model.specs.declared.Reason.{Reason}
use Rattle.model.specs.Rules.{RadioRule}
use Rattle.model.specs.Hub.{Result, Verdict, acted, answer_of, busy_or, by_status, command_out, keep, octets_of, radio_after_busy, radio_at}
use Rattle.model.specs.Hub.{radio_before_busy, refusal_octets}
use Rattle.rules.specs.declared.Decision.{Decision}
use Rattle.rules.specs.Decisions.{after_busy_of, before_busy_of, decision, decision_answer, decision_status, wait_or_act}

-- the result has the number and the count of the decision, and where it is refused, its one reply has the decision's status
pub record Says (i code : ℕ) (d : Decision) (r : Result Hub) : Type 0 where
  pub number : r.answer ≡ number_of (decision_answer (length r.octets) d)
  pub count : length r.octets ≡ count_of (decision_answer (length r.octets) d)
  pub status : r.answer ≡ 2 → r.octets ≡ command_status i code (decision_status d)

module _ (h : Hub) (i code : ℕ) (ps : Octets) (u : RadioRule) (c : Controller) where
  -- what a verdict comes to with nothing under way
  idle_out : Verdict → Result Hub
  idle_out v = command_out h i code ps v none

  -- past all checks
  acts_says : (w : Bool) → Says i code (wait_or_act w) (busy_or h i code ps (acted h.plain i code ps u c) w none)
  unfolding busy_or wait_or_act keep acted answer_of octets_of
  acts_says true = record { number = refl; count = refl; status = λ e. absurd (omega arith) }
  acts_says false = record { number = refl; count = refl; status = λ e. absurd (omega arith) }

  -- past the checks before Busy
  after_says : (x : Option Reason) → Says i code (after_busy_of (u.waits c.radio ps) x) (idle_out (radio_after_busy h.plain i code ps u c x))
  unfolding idle_out command_out radio_after_busy after_busy_of busy_or keep answer_of octets_of refusal_octets by_status
  after_says (some x) = record { number = refl; count = refl; status = λ e. refl }
  after_says none = acts_says (u.waits c.radio ps)

  -- all checks
  before_says : (x : Option Reason)
      → Says i code (before_busy_of (after_busy_of (u.waits c.radio ps) (first_of (u.after_busy c.radio ps))) x)
      (idle_out (radio_before_busy h.plain i code ps u c x))
  unfolding idle_out command_out radio_before_busy before_busy_of keep answer_of octets_of refusal_octets by_status
  before_says (some x) = record { number = refl; count = refl; status = λ e. refl }
  before_says none = after_says (first_of (u.after_busy c.radio ps))

  -- parameters of the rule's length: the model goes on to the checks
  sized_out : length ps ≡ u.size → radio_at h.plain i code ps u (some c) ≡ radio_before_busy h.plain i code ps u c (first_of (u.before_busy c.radio ps))
  unfolding radio_at
  sized_out l = rw (eq-eqb (length ps) u.size l, radio_at)

  -- A DECISION SAYS WHAT THE MODEL ANSWERS with nothing under way, for parameters of the rule's length
  pub decision_says : length ps ≡ u.size → Says i code (decision u c.radio ps) (command_out h i code ps (radio_at h.plain i code ps u (some c)) none)
  unfolding decision idle_out
  decision_says l = rw (sized_out l) (before_says (first_of (u.before_busy c.radio ps)))
