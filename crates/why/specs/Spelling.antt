-- Words and numbers as octets.
use Rattle.std.specs.Prelude.{ℕ, zero, suc, ◌+◌, ◌/◌, ◌%◌, true, false, ◌++◌, [] as []ᴸ, ◌∷◌ as ◌∷ᴸ◌, ltb}
use Prim.Native.Char.{code}
use Prim.Native.String.{String, [], ◌∷◌}
use Rattle.model.specs.Octets.{Octets}

-- a text of plain characters, one octet to each
unfoldable pub spelled : String → Octets
spelled [] = []ᴸ
spelled (c ∷ s) = code c ∷ᴸ spelled s

-- the last k digits of a number in decimal; of a number that has no more, with no zeros in front
unfoldable pub digits : ℕ → ℕ → Octets
digits zero n = []ᴸ
digits (suc k) n = elim (ltb n 10) [ true ↦ (48 + n) ∷ᴸ []ᴸ | false ↦ digits k (n / 10) ++ ((48 + n % 10) ∷ᴸ []ᴸ) ]

-- a number in decimal; one of 64 bits has 20 digits at most
unfoldable pub decimal : ℕ → Octets
decimal n = digits 20 n

-- Named on an `unfolding` line, this opens every definition of the module: for examples that are computed.
unfoldable pub open_spelling : Unit {0}
unfolding spelled digits decimal
open_spelling = tt
