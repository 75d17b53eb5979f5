-- Hardware and settings where they lie: the hardware's octets are always the one encoding of what they mean, the settings' are if each of the
-- six flags is 0 or 1.
use Rattle.std.specs.Prelude.{ℕ, ◌+◌, Bool, ◌&&◌, get_or, leb}
use Rattle.model.specs.Octets.{Octets}

-- 1. The settings -----------------------------------------------------------------------------------------------------------------------------

-- each of the six flags of the block that begins at b is 0 or 1
unfoldable pub flags_octets_ok : Octets → ℕ → Bool
flags_octets_ok s b =
    leb (get_or s (b + 19) 0) 1
    && (leb (get_or s (b + 20) 0) 1
    && (leb (get_or s (b + 21) 0) 1
    && (leb (get_or s (b + 22) 0) 1
    && (leb (get_or s (b + 23) 0) 1
    && leb (get_or s (b + 24) 0) 1))))
