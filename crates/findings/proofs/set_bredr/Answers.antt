-- `findings::set_bredr` meets its contract: the value, support of both transports, Busy, power, the static address, and Low Energy.
use native.Mathlib.Omega.{arith}
use Rattle.model.specs.Octets.{octet}
use Rattle.model.specs.Reasons.{further, moved}
use Rattle.model.specs.Rules.{on, set_bredr}
use Rattle.why.specs.Findings.{and_then, first_wrong, in_packet, why_radio}
use Rattle.findings.proofs.set_bredr.Goals as goal

pub returns-in_err-check_later-3 : goal.returns-in_err-check_later-3
unfolding why_radio first_wrong and_then in_packet moved further octet on set_bredr
returns-in_err-check_later-3 c = grind arith

pub returns-in_err-check_later-4 : goal.returns-in_err-check_later-4
unfolding why_radio first_wrong and_then in_packet moved further octet on set_bredr
returns-in_err-check_later-4 c = grind arith

pub returns : goal.returns
unfolding why_radio first_wrong and_then in_packet moved further octet on set_bredr
returns c = grind arith
