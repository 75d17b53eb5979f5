-- Tables of 32 slots where they lie in octets: what the functions of this crate say of them.
use Rattle.std.specs.Prelude.{◌≡◌, ℕ, ◌+◌, ◌*◌, ◌-◌, ◌<◌, ◌≤◌, Option, MatchOption, drop, replicate}
use mathlib.Core.List.{List, ◌∷◌, ◌++◌, foldr}
use Rattle.std.proofs.Math.Option.{none, some}
use Rattle.std.specs.Int.Bits.{bit_or}
use Rattle.model.specs.Octets.{Octets, octet, u32}
use Rattle.model.specs.State.{Table}
use Rattle.model.specs.Tables.{chop}
unfoldable pub use Rattle.model.specs.LookUp.{first_at}
use Rattle.model.specs.Layout.{region, slots_back}
use Rattle.octets.specs.Parts.{part}

-- the table that lies at a place, of records of a size: its occupancy word, then its slots
unfoldable pub table_at : Octets → ℕ → ℕ → Table
table_at s at size = slots_back (u32 s at) (chop size 32 (drop (at + 4) s))

-- the octets at the place are the one encoding of that table: free slots are zero
abbrev pub Canonical : Octets → ℕ → ℕ → Type 0
Canonical s at size = part s at (4 + size * 32) ≡ region size (table_at s at size)

-- slot k is in use: it holds the octets of its slot
abbrev pub InUse : Octets → ℕ → ℕ → ℕ → Type 0
InUse s at size k = drop k (table_at s at size) ≡ some (part s (at + (4 + size * k)) size) ∷ drop (k + 1) (table_at s at size)

-- r is the next slot in use, for a walk of the table that has come to slot k; r is 32 where no slot from k on is in use
pub record NextUsed (s : Octets) (at size k r : ℕ) : Type 0 where
  pub passed : drop k (table_at s at size) ≡ replicate (r - k) none ++ drop r (table_at s at size)
  pub used : r < 32 → InUse s at size r

-- what a walk that has come to slot k is told: the next slot in use, or none, where `NextUsed` says 32
abbrev pub IsNext : Octets → ℕ → ℕ → Option ℕ → Type 0
IsNext s at k r =
    MatchOption r ((size : ℕ) → NextUsed s at size k 32) (λ slot. ((size : ℕ) → NextUsed s at size k slot) × (k ≤ slot) × (slot < 32))

-- a slot that the model tells by its number, or none, where its number is 32
abbrev pub IsSlot : Option ℕ → ℕ → Type 0
IsSlot r n = MatchOption r (n ≡ 32) (λ slot. (slot ≡ n) × (slot < 32))

-- the octet at a place of every record, joined by or
abbrev pub joined_by_or : ℕ → List Octets → ℕ
joined_by_or place rs = foldr (λ x hints. bit_or (octet x place) hints) 0 rs
