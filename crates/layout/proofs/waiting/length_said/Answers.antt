-- `layout::waiting::length_said` meets its contract.
use native.Mathlib.Omega.{arith}
use Rattle.layout.proofs.WaitingOctets.{said_octets}
use Rattle.layout.proofs.waiting.length_said.Goals as goal

pub returns : goal.returns
returns c = (
  said_octets _ _ _ c.octet_in-low.ensures.0 c.octet_in-high.ensures.0,
  omega (arith, c.octet_in-low.ensures.1, c.octet_in-high.ensures.1),
)
