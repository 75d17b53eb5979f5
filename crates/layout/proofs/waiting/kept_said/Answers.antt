-- `layout::waiting::kept_said` meets its contract.
use mathlib.Core.Path.{ap, ◌∙◌}
use Prim.Native.Nat.{ℕ, ◌+◌}
use native.Mathlib.Omega.{arith}
use Rattle.layout.proofs.WaitingOctets.{said_is}
use Rattle.layout.proofs.waiting.kept_said.Goals as goal

pub returns : goal.returns
returns c = (ap (λ (x : ℕ). 6 + x) c.u16_at.ensures.0 ∙ said_is _, omega (arith, c.u16_at.ensures.1))
