-- What is wrong with the parts of a list of keys: the model's checks of one record, of the records one after the other, and of the whole list.
use Rattle.std.specs.Prelude.{ℕ, ◌+◌, not, map, drop, ltb}
use Rattle.model.specs.Octets.{Octets, u16}
use Rattle.model.specs.Reasons.{in_record, moved}
use Rattle.model.specs.declared.Place.{Place}
use Rattle.model.specs.declared.Place.TheVariants.{AtOctet}
use Rattle.model.specs.declared.Reason.TheVariants.{CountAbove32, RecordRepeated}
use Rattle.model.specs.Tables.{TableRule, chop, first_pair, le_address_checks, rule_at}
use Rattle.model.specs.Immediate.{record_checks}
use Rattle.model.specs.Tables.{nowhere}
use Rattle.octets.specs.Parts.{part}
use Rattle.why.specs.Findings.{Finding, and_then, checked, first_wrong, in_packet}

-- record j of a list, at a place of the parameters
unfoldable pub record_fault : TableRule → Octets → ℕ → ℕ → Finding
record_fault u ps at j = first_wrong (in_packet (moved (in_record j at) (u.checks (part ps at u.size))))

-- the address of record j, a long term or identity key
unfoldable pub address_fault : Octets → ℕ → ℕ → Finding
address_fault ps at j = first_wrong (in_packet (moved (in_record j at) (le_address_checks (part ps at 7))))

-- the n records of a list for table k from a place on, numbered from j on
unfoldable pub records_fault : ℕ → Octets → ℕ → ℕ → ℕ → Finding
records_fault k ps from j n = first_wrong (in_packet (record_checks (rule_at k) j from (chop (rule_at k).size n (drop from ps))))

-- two records with one identity, where there are two
unfoldable pub pair_fault : Place → Finding
pair_fault p = checked (not (nowhere p)) RecordRepeated p

-- a list for table k, of the right length, whose count stands at a place: count, what stands before it, records, repeats, support
unfoldable pub list_fault : ℕ → Octets → ℕ → Finding → Finding → Finding
list_fault k ps at head support =
    and_then (checked (ltb 32 (u16 ps at)) CountAbove32 (AtOctet (6 + at)))
    (and_then head (and_then (records_fault k ps (at + 2) 0 (u16 ps at))
    (and_then (pair_fault (first_pair 0 (map (rule_at k).key (chop (rule_at k).size (u16 ps at) (drop (at + 2) ps))))) support)))
