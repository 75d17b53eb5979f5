-- The first k numbers are written, one behind the other.
use Rattle.std.proofs.Common.{◌≡◌, take}
use Rattle.model.specs.Commands.{words}
use Rattle.octets.specs.Parts.{write_at}
use Rattle.layout.proofs.write_five.Given as goal

abbrev pub invariant-loop-k : goal.invariant-loop-k
invariant-loop-k l = l.s ≡ write_at l.initial.s l.at (words (take l.k l.l))
