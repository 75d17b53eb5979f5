-- The status that a reason to refuse is answered with, if there is one.
-- Assumes nothing.
use Rattle.std.specs.Prelude.{ℕ, Option, Some, None}
use Rattle.std.proofs.Math.Option.{none, some}
use Rattle.std.proofs.Math.Option as Math
use Rattle.model.specs.Reasons.{status_of}
use Rattle.model.specs.declared.Reason.{Reason}

-- the status that refuses, None where no reason does
unfoldable pub status_if : Math.Option Reason → Option ℕ
status_if none = None
status_if (some x) = Some (status_of x)
