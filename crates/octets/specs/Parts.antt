-- Parts of a list, and lists written into lists; and the lens of a joined list: one part at its place.
use Rattle.std.specs.Prelude.{ℕ, zero, suc, ◌+◌, List, [], ◌∷◌, take, drop}
use Rattle.std.proofs.lemmas.List.Edits.{sets}
use Rattle.model.specs.Octets.{Octets}

-- the n octets of s from at on
unfoldable pub part : Octets → ℕ → ℕ → Octets
part s at n = take n (drop at s)

-- d, with the octets of w stored from at on
unfoldable pub write_at : Octets → ℕ → Octets → Octets
write_at d at w = sets d at w

-- THE LENS ------------------------------------------------------------------------------------------------------------------------------------

-- where part k begins, from the parts' lengths
unfoldable pub place_at : List ℕ → ℕ → ℕ
place_at ns zero = 0
place_at [] (suc k) = 0
place_at (n ∷ ns) (suc k) = n + place_at ns k
