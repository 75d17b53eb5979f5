-- Marks: numbers of 32 bits, one for each identity. Two identities that are one have one mark, so records whose marks all differ have no
-- repeat. 32 marks are held twice over, one row behind the other: then those that stand d apart in the round stand d apart in the list.
use Rattle.std.specs.Prelude.{Option, MatchOption, ℕ, zero, suc, ◌+◌, ◌-◌, ◌*◌, ◌/◌, ◌%◌, ◌<◌, ◌≤◌, ◌≡◌, Bool, true, false, ◌&&◌, ◌||◌, List, map, length, get_or, set, take, eqb, ltb}
use Rattle.model.specs.Octets.{Octets}
use Rattle.model.specs.Tables.{every, record_ok, rule_at}
use Rattle.records.specs.declared.Identity.{Identity}
use Rattle.records.specs.Slots.{free_zero, records_at}
use Rattle.records.specs.Identities.{identity_of}

-- the mark of an identity: its runs of four octets, all but the first times an odd factor, in one sum of 32 bits
unfoldable pub mark_of : Identity → ℕ
mark_of d =
    (d.low % 4294967296
    + d.low / 4294967296 * 0x1E3779B1
    + d.high % 4294967296 * 0x15EBCA77
    + d.high / 4294967296 * 0x12B2AE3D)
    % 4294967296

-- the second 32 marks are the first again
pub record Doubled (ms : List ℕ) : Type 0 where
  pub long : length ms ≡ 64
  pub again : (i : ℕ) → i < 32 → get_or ms (i + 32) 0 ≡ get_or ms i 0

-- the marks with m as number i, in both halves
abbrev pub with_mark : List ℕ → (i m : ℕ) → List ℕ
with_mark ms i m = set (set ms i m) (i + 32) m

-- the marks of some identities, n of them, stand first
pub record Marked (ds : List Identity) (n : ℕ) (ms : List ℕ) : Type 0 where
  pub few : n ≤ 32
  pub count : length ds ≡ n
  pub first : take n ms ≡ map mark_of ds
  pub doubled : Doubled ms

-- the free ones of n slots of table k from a place on are zero, and each record in the others keeps its own rule
abbrev pub slots_keep_rules : (k : ℕ) → Octets → (size place n w : ℕ) → Bool
slots_keep_rules k s size place n w = free_zero s size place n w && every (record_ok (rule_at k)) (records_at s size place n w)

-- slots were looked at: none is told where one of them is not fine; else it is told how many records there are, and they are marked
abbrev pub Checked : (k : ℕ) → Octets → (place n w : ℕ) → Option ℕ → List ℕ → Type 0
Checked k s place n w r ms =
    MatchOption r (slots_keep_rules k s (rule_at k).size place n w ≡ false)
    (λ found. (slots_keep_rules k s (rule_at k).size place n w ≡ true)
    × Marked (map (identity_of k) (records_at s (rule_at k).size place n w)) found ms)

-- of n marks from number i on, one is the same as the one d behind it
unfoldable pub meet_from : List ℕ → (d i n : ℕ) → Bool
meet_from ms d i zero = false
meet_from ms d i (suc n) = eqb (get_or ms i 0) (get_or ms (i + d) 0) || meet_from ms d (i + 1) n

-- of the 32, one is
unfoldable pub meet_at : List ℕ → ℕ → Bool
meet_at ms d = meet_from ms d 0 32

-- two are the same that stand as far apart as one of n distances from d on
unfoldable pub meet_within : List ℕ → (d n : ℕ) → Bool
meet_within ms d zero = false
meet_within ms d (suc n) = meet_at ms d || meet_within ms (d + 1) n

-- the distance that two of the first n never have, nor any beyond it: in the round of 32 no two stand more than 16 apart
unfoldable pub reach_of : ℕ → ℕ
reach_of n = elim (ltb n 17) [ true ↦ n | false ↦ 17 ]

-- two are the same at a distance that two of the first n can have
unfoldable pub meet_any : List ℕ → ℕ → Bool
meet_any ms n = meet_within ms 1 (reach_of n - 1)
