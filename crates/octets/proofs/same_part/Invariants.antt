-- What is left to compare tells what the whole tells.
use mathlib.Core.Path.{◌≡◌}
use Prim.Native.Nat.{◌+◌, ◌-◌}
use Rattle.model.specs.Octets.{same}
use Rattle.octets.specs.Parts.{part}
use Rattle.octets.proofs.same_part.Given as goal

abbrev pub invariant-loop-k : goal.invariant-loop-k
invariant-loop-k l = same (part l.a (l.i + l.k) (l.n - l.k)) (part l.b (l.j + l.k) (l.n - l.k)) ≡ same (part l.a l.i l.n) (part l.b l.j l.n)
