-- Of the first i indexes those that hold a controller are written, two octets each.
use Rattle.std.proofs.Common.{◌≡◌, ◌+◌, ◌*◌, ◌≤◌, length}
use Rattle.model.specs.Commands.{words}
use Rattle.octets.specs.Parts.{write_at}
use Rattle.information.proofs.General.{first_listed}
use Rattle.information.proofs.list_indexes.Given as goal

abbrev pub invariant-loop-i : goal.invariant-loop-i
invariant-loop-i l = record {
  short : l.end ≤ 2 + 2 * l.i;
  place : l.end ≡ 2 + length (words (first_listed l.state l.i));
  written : l.out ≡ write_at l.initial.out 2 (words (first_listed l.state l.i));
}
