use mathlib.Core.Path.{◌≡◌}
use Prim.Native.Nat.{◌+◌, ◌≤◌}
use Rattle.octets.specs.Parts.{write_at}
use lib.ListN.{length, drop}
use Rattle.octets.proofs.copy_into.Given as goal

abbrev pub invariant-loop-i : goal.invariant-loop-i
invariant-loop-i l = (l.i ≤ length l.src) × (length l.s ≡ length l.initial.s) × (write_at l.s (l.at + l.i) (drop l.i l.src) ≡ write_at l.initial.s l.at l.src)
