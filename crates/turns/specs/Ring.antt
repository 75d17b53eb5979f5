-- The places of the five instances, in a ring: instance k stands at place k - 1.
use Rattle.std.specs.Prelude.{ℕ, ◌+◌, cond, eqb}

-- the place behind p
unfoldable pub next : ℕ → ℕ
next p = cond (eqb p 4) 0 (p + 1)
