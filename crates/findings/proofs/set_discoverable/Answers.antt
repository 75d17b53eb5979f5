-- `findings::set_discoverable` meets its contract: value and timeout, support, power, Busy, connectable, and BR/EDR.
use native.Mathlib.Omega.{arith}
use Rattle.model.specs.Octets.{octet}
use Rattle.model.specs.Reasons.{further, moved}
use Rattle.model.specs.Rules.{set_discoverable}
use Rattle.why.specs.Findings.{and_then, first_wrong, in_packet, why_radio}
use Rattle.findings.proofs.set_discoverable.Goals as goal

pub returns-in_err-check_later-3 : goal.returns-in_err-check_later-3
unfolding why_radio first_wrong and_then in_packet moved further octet set_discoverable
returns-in_err-check_later-3 c = grind arith

pub returns : goal.returns
unfolding why_radio first_wrong and_then in_packet moved further octet set_discoverable
returns c = grind arith
