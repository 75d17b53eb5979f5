use Rattle.std.proofs.Common.{◌≡◌, ◌+◌, ◌-◌, ◌*◌, ◌≤◌, length, drop}
use Rattle.checks.specs.Advertising.{data_octets_ok}
use Rattle.checks.proofs.advertising.data_ok.Given as goal

abbrev pub invariant-loop-d : goal.invariant-loop-d
invariant-loop-d l = record {
  room : l.at + 32 * (5 - l.d-index) ≤ length l.s;
  same : data_octets_ok (drop l.d-index l.fn.durations) l.s l.at ≡ data_octets_ok l.fn.durations l.s l.place;
}
