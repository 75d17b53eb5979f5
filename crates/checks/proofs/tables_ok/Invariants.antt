use Rattle.std.proofs.Common.{◌≡◌, ◌+◌, ◌≤◌, length, drop}
use Rattle.model.specs.Tables.{table_rules}
use Rattle.checks.specs.Tables.{tables_octets_ok}
use Rattle.checks.proofs.Tables.{total}
use Rattle.checks.proofs.tables_ok.Given as goal

abbrev pub invariant-loop-k : goal.invariant-loop-k
invariant-loop-k l = record {
  room : l.at + total (drop l.k table_rules) ≤ length l.s;
  same : tables_octets_ok l.f (drop l.k table_rules) l.s l.at ≡ tables_octets_ok l.f table_rules l.s l.place;
}
