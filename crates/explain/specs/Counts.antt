-- Where a wrong length of a list is told, as the model's lists have it.
use Rattle.std.specs.Prelude.{ℕ, ◌+◌, true, false, length, ltb}
use Rattle.model.specs.Octets.{Octets}

-- the octet of the count, which begins at a place of the parameters, or of the header's length field where the count is not whole
unfoldable pub count_octet : ℕ → Octets → ℕ
count_octet at ps = elim (ltb (length ps) (at + 2)) [ true ↦ 4 | false ↦ 6 + at ]
