-- One key record of a list, as a reader hands it out, and the checks that the records of a list must pass.
use Rattle.std.specs.Prelude.{ℕ, ◌≡◌, Bool, true, not, List, [], ◌∷◌, ◌++◌, map, length, take}
use Rattle.model.specs.Octets.{Octets}
use Rattle.model.specs.Reasons.{Check, refused_if, passes}
use Rattle.model.specs.declared.Reason.TheVariants.{RecordRepeated}
use Rattle.model.specs.Tables.{TableRule, distinct}
use Rattle.model.specs.Tables.{rule_at}
use Rattle.octets.specs.Parts.{part}
use Rattle.records.specs.declared.Identity.{Identity}
use Rattle.records.specs.Identities.{identity_of}
use Rattle.lists.specs.declared.Key.{Key}

-- a record of table k, by value: its identity, and whether it passes the checks of its rule
unfoldable pub key_of : ℕ → Octets → Key
key_of k r = record { identity = identity_of k r; keeps_rule = passes ((rule_at k).checks r) }

-- the record of table k at a place of a packet
unfoldable pub key_at : Octets → ℕ → ℕ → Key
key_at packet at k = key_of k (part packet at (rule_at k).size)

-- the checks of each record, record after record, with their places in the record
unfoldable pub each_checks : TableRule → List Octets → List Check
each_checks u [] = []
each_checks u (r ∷ rs) = u.checks r ++ each_checks u rs

-- the values of a list's records: each record's own, and that none is repeated. Whether they pass is all that is asked of them, so where they fail is left out
-- (`Loads` in keys/proofs ties them to the model's).
unfoldable pub value_checks : TableRule → List Octets → List Check
value_checks u rs = each_checks u rs ++ ((refused_if (not (distinct (map u.key rs))) RecordRepeated) ∷ [])

-- the low words of the identities of records of table k: of a key its whole identity
unfoldable pub low_words : ℕ → List Octets → List ℕ
low_words k [] = []
low_words k (r ∷ rs) = (identity_of k r).low ∷ low_words k rs

-- a word as the identity of a key: nothing of it lies in the high word
unfoldable pub key_identity : ℕ → Identity
key_identity w = record { low = w; high = 0 }

-- what is known of the records of a list that was gone through: whether each of them passes its checks, and if so, in `low`, their identities
pub record KeysRead (k : ℕ) (rs : List Octets) (kept : Bool) (low : List ℕ) : Type 0 where
  pub told : kept ≡ passes (each_checks (rule_at k) rs)
  pub words : kept ≡ true → take (length rs) low ≡ low_words k rs
  pub long : length low ≡ 32
