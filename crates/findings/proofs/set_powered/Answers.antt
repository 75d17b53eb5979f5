-- `findings::set_powered` meets its contract: the value, Busy, and the addresses.
use native.Mathlib.Omega.{arith}
use Rattle.model.specs.Octets.{octet}
use Rattle.model.specs.Reasons.{further, moved}
use Rattle.model.specs.Rules.{on, set_powered}
use Rattle.why.specs.Findings.{and_then, first_wrong, in_packet, why_radio}
use Rattle.findings.proofs.Laws.{unaddressed}
use Rattle.findings.proofs.set_powered.Goals as goal

pub returns : goal.returns
unfolding why_radio first_wrong and_then in_packet moved further octet on set_powered
returns c = rw unaddressed (grind arith)
