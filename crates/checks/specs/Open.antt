-- The open command where it lies: code (2 octets), then parameters (3). It is one that would be started, and what its code does not use is zero.
use Rattle.std.specs.Prelude.{ℕ, Bool, true, false, ◌&&◌, take, drop, eqb}
use Rattle.model.specs.declared.RadioSettings.{RadioSettings}
use Rattle.model.specs.Octets.{Octets, all_zero}
use Rattle.model.specs.Commands.{rule}
use Rattle.model.specs.Hub.{starts_by}
use Rattle.model.specs.Layout.{size_of}

-- 1. The test -------------------------------------------------------------------------------------------------------------------------------

-- an open command of a code other than zero, with three octets of parameters: it would be started, and those its code does not use are zero
unfoldable pub started_octets_ok : RadioSettings → ℕ → Octets → Bool
started_octets_ok x code ps = starts_by x (take (size_of (rule code)) ps) (rule code) && all_zero (drop (size_of (rule code)) ps)

-- nothing is under way and all is zero, or such a command is
unfoldable pub open_octets_ok : RadioSettings → ℕ → Octets → Bool
open_octets_ok x code ps = elim (eqb code 0) [ true ↦ all_zero ps | false ↦ started_octets_ok x code ps ]
