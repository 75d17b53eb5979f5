use mathlib.Core.Path.{◌≡◌}
use Prim.Native.Nat.{◌+◌, ◌-◌, ◌≤◌}
use Rattle.model.specs.Octets.{same}
use Rattle.octets.specs.Parts.{part}
use Rattle.octets.proofs.same_key.Given as goal

abbrev pub invariant-loop-k : goal.invariant-loop-k
invariant-loop-k l = (l.k ≤ l.n) × (same (part l.a (l.i + l.k) (l.n - l.k)) (part l.b (l.j + l.k) (l.n - l.k)) ≡ same (part l.a l.i l.n) (part l.b l.j l.n))

abbrev pub decreases-loop-k : goal.decreases-loop-k
decreases-loop-k l = l.n - l.k
