-- What the shared end of the settings commands is handed, in the words of a rule.
-- Assumes nothing.
use Rattle.std.specs.Prelude.{◌≡◌, ℕ, length}
use Rattle.std.proofs.Math.Option.{none}
use Rattle.model.specs.declared.Settings.{Settings}
use Rattle.model.specs.Octets.{Octets}
use Rattle.model.specs.State.{settings_of}
use Rattle.model.specs.Reasons.{first_of}
use Rattle.model.specs.Rules.{RadioRule}
use Rattle.layout.specs.Places.{controller_of}
use Rattle.replies.specs.Answers.{Gives}
use Rattle.model.specs.declared.Answer.{Answer}
use Rattle.rules.specs.declared.Decision.{Decision}
use Rattle.rules.specs.Decisions.{decision}
use Rattle.outcomes.specs.Outcomes.{radio_command}
use Rattle.settings.specs.Turns.{acted_controller}

-- at index i of the state s, the parameters ps have the rule's length, d is what it decides, and it turns the settings `old` into `new`; the turns of the
-- advertising change as these tell
pub record Follows (u : RadioRule) (s : Octets) (i : ℕ) (ps : Octets) (d : Decision) (old new : Settings) : Type 0 where
  pub sized : length ps ≡ u.size
  pub decided : decision u (controller_of s i).radio ps ≡ d
  pub before : old ≡ settings_of (controller_of s i)
  pub after : settings_of (u.effect (controller_of s i) ps) ≡ new
  pub whole : u.effect (controller_of s i) ps ≡ acted_controller (controller_of s i) old new

-- what the command of any such rule comes to, by the answer r, the reply buffer before and after, and the state that is left
abbrev pub CarriesOut : Octets → ℕ → ℕ → Octets → Decision → Settings → Settings → Answer → Octets → Octets → Octets → Type 0
CarriesOut s i code ps d old new r reply after left = (u : RadioRule) → Follows u s i ps d old new → Gives (radio_command s i code ps u) r reply after left

-- the same past the checks before Busy
abbrev pub UnlessBusy : Octets → ℕ → ℕ → Octets → Decision → Settings → Settings → Answer → Octets → Octets → Octets → Type 0
UnlessBusy s i code ps d old new r reply after left =
    (u : RadioRule) → Follows u s i ps d old new → first_of (u.before_busy (controller_of s i).radio ps) ≡ none
    → Gives (radio_command s i code ps u) r reply after left
