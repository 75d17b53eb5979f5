-- `findings::set_low_energy` meets its contract: the value, support, Busy, that BR/EDR is there, and that it is on.
use native.Mathlib.Omega.{arith}
use Rattle.model.specs.Octets.{octet}
use Rattle.model.specs.Reasons.{further, moved}
use Rattle.model.specs.Rules.{on, set_low_energy}
use Rattle.why.specs.Findings.{and_then, first_wrong, in_packet, why_radio}
use Rattle.findings.proofs.set_low_energy.Goals as goal

pub returns-in_err-check_later-2 : goal.returns-in_err-check_later-2
unfolding why_radio first_wrong and_then in_packet moved further octet on set_low_energy
returns-in_err-check_later-2 c = grind arith

pub returns : goal.returns
unfolding why_radio first_wrong and_then in_packet moved further octet on set_low_energy
returns c = grind arith
