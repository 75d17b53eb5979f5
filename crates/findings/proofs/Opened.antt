-- What the root file names on its `unfolding` line.
use Rattle.model.specs.Octets.{octet}
use Rattle.model.specs.State.{name_ends, short_name_ends}
use Rattle.model.specs.Reasons.{further, moved}
use Rattle.model.specs.Tables.{blocked_rule, device_rule, uuid_rule}
use Rattle.model.specs.Rules.{open_rules}
use Rattle.model.specs.Immediate.{open_immediate}
use Rattle.octets.specs.Parts.{part}
use Rattle.why.specs.Findings.{first_wrong, in_packet, why_immediate, why_radio}

-- the rules of the commands, and their checks one by one
unfoldable pub open_checks : Unit {0}
unfolding why_radio why_immediate first_wrong in_packet moved further octet part name_ends short_name_ends uuid_rule blocked_rule device_rule
    open_rules open_immediate
open_checks = tt
