-- Numbers of any width in octets, low octet first.
use Rattle.std.specs.Prelude.{ℕ, ◌+◌, ◌*◌, [], ◌∷◌}
use Rattle.model.specs.Octets.{Octets}

-- the number that octets spell, low octet first
unfoldable pub little : Octets → ℕ
little [] = 0
little (x ∷ xs) = x + 256 * little xs
