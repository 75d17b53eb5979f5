-- `findings::add_device` meets its contract: the values, and whether it finds a slot.
use native.Mathlib.Omega.{arith}
use Rattle.model.specs.Octets.{octet}
use Rattle.model.specs.Reasons.{further, moved}
use Rattle.model.specs.Immediate.{add_device, length_field, sized}
use Rattle.model.specs.Tables.{device_rule}
use Rattle.octets.specs.Parts.{part}
use Rattle.why.specs.Findings.{and_then, first_wrong, in_packet, why_immediate}
use Rattle.findings.proofs.add_device.Goals as goal

pub returns-in_err-device_values : goal.returns-in_err-device_values
unfolding why_immediate first_wrong and_then in_packet moved further octet sized length_field add_device device_rule part
returns-in_err-device_values c = grind arith

pub returns : goal.returns
unfolding why_immediate first_wrong and_then in_packet moved further octet sized length_field add_device device_rule part
returns c = grind arith
