-- The name of a status, as an arm for each status finds it: the name beside that number, or none.
use Prim.Native.Nat.{ℕ}
use Prim.Native.String.{String}
use mathlib.Core.Path.{◌≡◌, refl}
use mathlib.Core.List.{List, [], ◌∷◌}
use lib.ListN.{length}
use borrow.Author.Tests.{ne_eqb}
use Rattle.model.specs.Octets.{Octets}
use Rattle.why.specs.Spelling.{spelled}
use Rattle.why.specs.Wording.{named, status_name, status_names}
use Rattle.octets.specs.Parts.{write_at}

-- the name of a status written at the front, and where it ends
abbrev pub Named : (d d' : Octets) (s end : ℕ) → Type 0
Named d d' s end = (d' ≡ write_at d 0 (spelled (status_name s))) × (end ≡ length (spelled (status_name s)))

-- the name beside the number that the status is
pub named_as : (d d' : Octets) (s n end : ℕ) → s ≡ n → Named d d' n end → Named d d' s end
named_as d d' s n end e w = rw e w

-- a status is not among the numbers of a list
abbrev pub Absent : ℕ → List (ℕ × String) → Type 0
Absent s [] = Unit {0}
Absent s (n ∷ ns) = (s ≡ n.0 → ⊥) × Absent s ns

-- beside none of them is its name
absent_named : (s : ℕ) (ns : List (ℕ × String)) → Absent s ns → named s ns ≡ ""
unfolding named
absent_named s [] h = refl
absent_named s (n ∷ ns) h = rw (ne_eqb s n.0 h.0, named) (absent_named s ns h.1)

-- so nothing is written of a status that is not in the list
pub named_not : (d : Octets) (s : ℕ) → Absent s status_names → Named d d s 0
unfolding status_name spelled write_at
named_not d s h = rw (absent_named s status_names h) (refl, refl)
