-- The identity of a record, what no two records of a table may share, as two words; and whether some identities repeat one.
use Rattle.std.specs.Prelude.{ℕ, Bool, true, false, ◌&&◌, ◌||◌, not, List, [], ◌∷◌, take, drop, eqb}
use Rattle.model.specs.Octets.{Octets}
use Rattle.model.specs.Tables.{rule_at}
use Rattle.octets.specs.Numbers.{little}
use Rattle.records.specs.declared.Identity.{Identity}

-- octets as two words: the first eight, and those behind
unfoldable pub words_of : Octets → Identity
words_of o = record { low = little (take 8 o); high = little (drop 8 o) }

-- the identity of a record of table k
unfoldable pub identity_of : ℕ → Octets → Identity
identity_of k r = words_of ((rule_at k).key r)

-- two identities are one
unfoldable pub same_identity : Identity → Identity → Bool
same_identity a b = eqb a.low b.low && eqb a.high b.high

-- an identity is one of some
unfoldable pub among : Identity → List Identity → Bool
among a [] = false
among a (b ∷ bs) = same_identity a b || among a bs

-- no two of some identities are one
unfoldable pub apart : List Identity → Bool
apart [] = true
apart (a ∷ bs) = not (among a bs) && apart bs
