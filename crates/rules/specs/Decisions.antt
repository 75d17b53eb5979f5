-- What a settings command comes to on the radio settings, Busy aside.
-- Assumes nothing.
use Rattle.std.specs.Prelude.{ℕ, Bool, true, false, ◌==◌}
use Rattle.std.proofs.Math.Option.{Option, none, some}
use Rattle.model.specs.Octets.{Octets}
use Rattle.model.specs.declared.RadioSettings.{RadioSettings}
use Rattle.model.specs.declared.Settings.{Settings}
use Rattle.model.specs.Answers.{number_of}
use Rattle.model.specs.declared.Answer.{Answer}
use Rattle.model.specs.declared.Answer.TheVariants.{Done, Started, Refused}
use Rattle.model.specs.Reasons.{status_of, first_of}
use Rattle.model.specs.declared.Reason.{Reason}
use Rattle.model.specs.Rules.{RadioRule}
use Rattle.model.specs.WellFormed.{addressed, may_be_discoverable, settings_fit}
use Rattle.rules.specs.declared.Decision.{Decision}
use Rattle.rules.specs.declared.Decision.TheVariants.{Refuse, Reject, Wait, Act}

-- past all checks: it waits for the radio, or acts at once
unfoldable pub wait_or_act : Bool → Decision
wait_or_act true = Wait
wait_or_act false = Act

-- past the checks before Busy: the first check after Busy that fails
unfoldable pub after_busy_of : Bool → Option Reason → Decision
after_busy_of w (some x) = Reject (status_of x)
after_busy_of w none = wait_or_act w

-- the first check before Busy that fails, else what follows
unfoldable pub before_busy_of : Decision → Option Reason → Decision
before_busy_of d (some x) = Refuse (status_of x)
before_busy_of d none = d

-- Values, support and power are checked before Busy, what is Rejected after it (01, Order inside a command): a command with Refuse is refused even
-- where another is under way; one with Reject, Wait or Act is Busy there
unfoldable pub decision : RadioRule → RadioSettings → Octets → Decision
decision r x ps = before_busy_of (after_busy_of (r.waits x ps) (first_of (r.after_busy x ps))) (first_of (r.before_busy x ps))

-- the answer of each decision with nothing under way, where n octets are written: its number and count are the table's (01, What a call answers)
abbrev pub decision_answer : ℕ → Decision → Answer
decision_answer n (Refuse s) = Refused n
decision_answer n (Reject s) = Refused n
decision_answer n Wait = Started
decision_answer n Act = Done n

-- the status of each: of a refusal the one it names, else 0, which is success
abbrev pub decision_status : Decision → ℕ
decision_status (Refuse s) = s
decision_status (Reject s) = s
decision_status Wait = 0
decision_status Act = 0

-- a decision that waits: the command is started
unfoldable pub is_started : Decision → Bool
is_started d = number_of (decision_answer 0 d) == number_of Started

-- what the settings alone must keep: connectable and BR/EDR for discoverable, power and discoverable for a timer, an address for power (01, The image,
-- Well formed; 02, E5)
unfoldable pub settings_ok : Settings → Bool
settings_ok m =
    settings_fit m.host.timer.discoverable (may_be_discoverable m.radio) (m.host.timer.seconds == 0) m.radio.powered (addressed m.radio)
