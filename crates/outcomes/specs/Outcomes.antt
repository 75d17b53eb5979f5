-- What a call comes to over the lent state, part by part: the definitions that the contracts of the commands and calls cite. Each is the model's own
-- word at the controller that stands there, laid out.
use Rattle.std.specs.Prelude.{ℕ}
use Rattle.std.proofs.Math.Option.{some}
use Rattle.model.specs.Octets.{Octets}
use Rattle.model.specs.State.{PlainHub, controller_at}
use Rattle.model.specs.Rules.{ImmediateRule, RadioRule}
use Rattle.model.specs.Commands.{rule}
use Rattle.model.specs.Hub.{Outcome, Result, keep, command_out, immediate_at, radio_at, general_out, by_rule, report_out}
use Rattle.model.specs.Layout.{decode}
use Rattle.model.specs.Meanings.{laid_out, name_out, on_air_out}
use Rattle.layout.specs.Places.{controller_of, open_at}

-- an outcome on the state s, with the open commands as they were
unfoldable pub ended : Octets → Outcome → Result Octets
ended s o = laid_out (keep (decode s) o)

-- a general command, 0x0001 to 0x0003
unfoldable pub general_command : Octets → ℕ → ℕ → Octets → (PlainHub → Octets) → Result Octets
general_command s i code ps f = ended s (general_out (decode s).plain i code ps f)

-- a command that is never Busy, to a present index
unfoldable pub immediate_command : Octets → ℕ → ℕ → Octets → ImmediateRule → Result Octets
immediate_command s i code ps q = ended s (immediate_at (decode s).plain i code ps q (some (controller_of s i)))

-- a settings command that can be Busy, to a present index
unfoldable pub radio_command : Octets → ℕ → ℕ → Octets → RadioRule → Result Octets
radio_command s i code ps r = laid_out (command_out (decode s) i code ps (radio_at (decode s).plain i code ps r (some (controller_of s i))) (open_at s i))

-- a command by its parts, with whatever is under way
unfoldable pub any_command : Octets → ℕ → ℕ → Octets → Result Octets
any_command s i code ps = laid_out (command_out (decode s) i code ps (by_rule (decode s).plain i code ps (rule code)) (open_at s i))

-- a report to an index, with room for a reply
unfoldable pub reported : Octets → ℕ → ℕ → Result Octets
reported s i status = laid_out (report_out (decode s) i status (open_at s i))

-- what is told of a name of the controller at an index, with room for it
unfoldable pub name_read : Octets → ℕ → ℕ → Result Octets
name_read s i which = ended s (name_out (decode s).plain which (controller_at (decode s).plain i))

-- what the controller at an index has on air, with room for it
unfoldable pub on_air_read : Octets → ℕ → Result Octets
on_air_read s i = ended s (on_air_out (decode s).plain (controller_at (decode s).plain i))
