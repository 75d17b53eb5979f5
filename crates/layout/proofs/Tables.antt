-- The six tables of a present controller, where they lie: each region read and stored whole.
use mathlib.Core.Path.{◌≡◌, refl, ap, sym, ◌∙◌}
use Prim.Native.Nat.{ℕ, zero, suc, ◌+◌, ◌*◌, ◌≤◌, ◌<◌}
use native.Mathlib.Omega.{arith}
use native.Mathlib.Nat.{mul-suc}
use mathlib.Core.Bool.{Bool, true, ◌&&◌}
use mathlib.Core.List.{List, [], ◌∷◌, ◌++◌, append-nil}
use mathlib.Core.Option.{none, some}
use lib.ListN.{length, get_or, take, drop, set, length-replicate}
use lib.Seq.{drop-drop, take-take}
use lib.Dec.{eqb}
use Rattle.model.specs.Lengths as Lengths
use Rattle.model.specs.declared.Hardware.{Hardware}
use Rattle.model.specs.Octets.{Octets}
use Rattle.model.specs.State.{Table, settings_of, table_of, with_host, with_table}
use Rattle.model.specs.Tables.{TableRule, blocked_rule, chop, device_rule, entries, every, identity_key_rule, link_key_rule, long_term_key_rule, table_rules, uuid_rule}
use Rattle.model.specs.WellFormed.{table_ok, tables_ok}
use Rattle.model.specs.Layout.{decode, encode, region, slot_octets, table_back}
use Rattle.model.proofs.Model.Decode.{table_back_lem}
use Rattle.model.proofs.Model.Region.{Sized}
use Rattle.model.proofs.Model.Parts.{controller_fit, table_changed, table_ok_lem}
use Rattle.model.specs.Tables.{rule_at}
use Rattle.model.proofs.Model.Tables.{table_fit}
use Rattle.model.proofs.Model.Tests.{and_true, equal, no_way}
use Rattle.octets.specs.Parts.{part, place_at, write_at}
use Rattle.octets.proofs.Parts.{drop_take, u32_part}
use Rattle.layout.specs.Places.{Ready, controller_of, open_at, place_of, put_controller, sizes, table_place}
use Rattle.table.specs.Slots.{table_at}
use Rattle.table.proofs.Slots.{sized_ok}
use Rattle.layout.proofs.Lens.{advertising_pieces, inside, pieces, region_pieces}
use Rattle.layout.proofs.Change.{controller_changed, controller_fine, piece_at}
use Rattle.layout.proofs.Kept.{controller_back_lem, controller_ready, host_fine}
use Rattle.table.proofs.Regions.{length_region}

-- 1. A table's octets, from the whole or from its region ----------------------------------------------------------------------------------------

-- records cut from octets, and from just those that they need
chop_take : (size n : ℕ) (o : Octets) → chop size n (take (size * n) o) ≡ chop size n o
unfolding chop
chop_take size zero o = refl
chop_take size (suc n) o =
    let e : size * suc n ≡ size + size * n = mul-suc size n ∙ omega arith in
    rw (e, take-take size (size + size * n) o (omega arith), drop_take size (size * n) o, chop_take size n (drop size o))

-- the slots behind the word
pub behind_word : (s : Octets) (p m : ℕ) → drop 4 (part s p (4 + m)) ≡ take m (drop (p + 4) s)
unfolding part
behind_word s p m = drop_take 4 m (drop p s) ∙ rw (drop-drop 4 p s)

-- the table at a place is that of its region
pub table_part : (s : Octets) (p size : ℕ) → table_at s p size ≡ table_back size (part s p (4 + size * 32))
unfolding table_at table_back
table_part s p size =
    let d : drop 4 (part s p (4 + size * 32)) ≡ take (size * 32) (drop (p + 4) s) = behind_word s p (size * 32) in
    rw (u32_part s p (4 + size * 32) (omega arith), d, chop_take size 32 (drop (p + 4) s))

-- 2. The regions among the pieces ---------------------------------------------------------------------------------------------------------------

-- the region of table k
region_get : (f : Hardware) (us : List TableRule) (ts : List Table) (rest : List Octets) (k : ℕ) → tables_ok f us ts ≡ true → k < length us
    → get_or (region_pieces us ts rest) k [] ≡ region (get_or us k uuid_rule).size (get_or ts k [])
unfolding tables_ok region_pieces
region_get f [] ts rest k e l = absurd (omega arith)
region_get f (u ∷ us) [] rest k e l = no_way (sym e)
region_get f (u ∷ us) (t ∷ ts) rest zero e l = refl
region_get f (u ∷ us) (t ∷ ts) rest (suc k) e l = region_get f us ts rest k (and_true (table_ok u f t) _ e).1 (omega arith)

-- another region is another table
region_set : (f : Hardware) (us : List TableRule) (ts : List Table) (rest : List Octets) (k : ℕ) (t : Table) → tables_ok f us ts ≡ true → k < length us
    → set (region_pieces us ts rest) k (region (get_or us k uuid_rule).size t) ≡ region_pieces us (set ts k t) rest
unfolding tables_ok region_pieces
region_set f [] ts rest k t e l = absurd (omega arith)
region_set f (u ∷ us) [] rest k t e l = no_way (sym e)
region_set f (u ∷ us) (x ∷ ts) rest zero t e l = refl
region_set f (u ∷ us) (x ∷ ts) rest (suc k) t e l =
    ap {B = List Octets} (λ l. region u.size x ∷ l) (region_set f us ts rest k t (and_true (table_ok u f x) _ e).1 (omega arith))

-- table k is piece 5 + k
abbrev pub past5 : ℕ → ℕ
past5 k = suc (suc (suc (suc (suc k))))

-- as a successor
five : (k : ℕ) → 5 + k ≡ past5 k
five k = omega arith

-- there are six rules
pub rules_six : length table_rules ≡ 6
unfolding table_rules
rules_six = refl

-- its size
size_at : (k : ℕ) → k < 6 → get_or sizes (past5 k) 0 ≡ 4 + (rule_at k).size * 32
unfolding sizes rule_at table_rules uuid_rule link_key_rule long_term_key_rule identity_key_rule blocked_rule device_rule
size_at zero l = refl
size_at (suc zero) l = refl
size_at (suc (suc zero)) l = refl
size_at (suc (suc (suc zero))) l = refl
size_at (suc (suc (suc (suc zero)))) l = refl
size_at (suc (suc (suc (suc (suc zero))))) l = refl
size_at (suc (suc (suc (suc (suc (suc k)))))) l = absurd (omega arith)

-- it lies inside the state
pub table_fits : (i k : ℕ) → i < 4 → k < 6 → table_place i k + (4 + (rule_at k).size * 32) ≤ Lengths.state
unfolding table_place place_of
table_fits i k l m =
    let n : get_or sizes (past5 k) 0 ≡ 4 + (rule_at k).size * 32 = size_at k m in
    let p : place_at sizes (past5 k) + get_or sizes (past5 k) 0 ≤ Lengths.block = inside (past5 k) in
    rw (five k) (omega arith)

-- a table whose records all keep a rule of that size has records of that size
every_sized : (size : ℕ) (g : Octets → Bool) (t : Table) → every (λ r. eqb (length r) size && g r) (entries t) ≡ true → Sized size t
unfolding Sized slot_octets entries every
every_sized size g [] e = tt
every_sized size g (none ∷ t) e = (length-replicate {A = ℕ} size 0, every_sized size g t e)
every_sized size g (some r ∷ t) e =
    let a = and_true (eqb (length r) size && g r) _ e in
    (equal (length r) size (and_true (eqb (length r) size) _ a.0).0, every_sized size g t a.1)

-- 3. The tables of a present controller ---------------------------------------------------------------------------------------------------------

module _ (s : Octets) (i : ℕ) (r : Ready s i) (k : ℕ) (l : k < 6) where
  -- all six are valid
  tables_fine : tables_ok (controller_of s i).radio.hardware table_rules (controller_of s i).host.tables ≡ true
  tables_fine = (controller_fit (controller_of s i) (controller_fine s i r)).tables

  -- table k is valid
  pub table_fine : table_ok (rule_at k) (controller_of s i).radio.hardware (table_of (controller_of s i).host k) ≡ true
  table_fine = table_ok_lem (controller_of s i) k (controller_fine s i r) l

  -- it has 32 slots
  pub table_long : length (table_of (controller_of s i).host k) ≡ 32
  table_long = (table_fit (rule_at k) (controller_of s i).radio.hardware (table_of (controller_of s i).host k) table_fine).slots

  -- and every record has the size
  pub table_sized : Sized (rule_at k).size (table_of (controller_of s i).host k)
  table_sized = sized_ok (rule_at k) (controller_of s i).radio.hardware (table_of (controller_of s i).host k) table_fine

  -- its region is the piece from 5 on
  region_here : get_or (pieces (controller_of s i) (open_at s i)) (past5 k) [] ≡ region (rule_at k).size (table_of (controller_of s i).host k)
  unfolding pieces rule_at table_of
  region_here =
      region_get (controller_of s i).radio.hardware table_rules (controller_of s i).host.tables (advertising_pieces (controller_of s i).host.advertising) k
      tables_fine (rw rules_six l)

  -- another region there is another table
  region_put : (t : Table)
      → set (pieces (controller_of s i) (open_at s i)) (past5 k) (region (rule_at k).size t) ≡ pieces
      (with_host (controller_of s i) (with_table (controller_of s i).host k t)) (open_at s i)
  unfolding pieces rule_at with_host with_table settings_of
  region_put t =
      let rest = advertising_pieces (controller_of s i).host.advertising in
      rw (region_set (controller_of s i).radio.hardware table_rules (controller_of s i).host.tables rest k t tables_fine (rw rules_six l))

  -- its octets are canonical: the region of the table that they mean
  pub region_at : part s (table_place i k) (4 + (rule_at k).size * 32) ≡ region (rule_at k).size (table_of (controller_of s i).host k)
  unfolding table_place
  region_at = rw (five k) (piece_at s i r (past5 k) (4 + (rule_at k).size * 32) (sym (size_at k l)) ∙ region_here)

  -- what lies there is the controller's table
  pub table_at_lem : table_at s (table_place i k) (rule_at k).size ≡ table_of (controller_of s i).host k
  table_at_lem =
      let size = (rule_at k).size in
      let t = table_of (controller_of s i).host k in
      let b : table_back size (region size t ++ []) ≡ t = table_back_lem (rule_at k) (controller_of s i).radio.hardware t [] table_fine in
      table_part s (table_place i k) size ∙ rw region_at (rw append-nil at b)

  -- a region stored there is another table
  pub table_stored : (t : Table) → length t ≡ 32 → Sized (rule_at k).size t
      → write_at s (table_place i k) (region (rule_at k).size t) ≡ encode
      (put_controller (decode s) i (with_host (controller_of s i) (with_table (controller_of s i).host k t)))
  unfolding table_place
  table_stored t n z =
      let d = with_host (controller_of s i) (with_table (controller_of s i).host k t) in
      rw (five k) (controller_changed s i r (past5 k) (region (rule_at k).size t) d (omega arith)
      (length_region (rule_at k).size t z n ∙ sym (size_at k l)) (region_put t))

  -- after a valid table is stored
  module _ (t : Table) (n : table_ok (rule_at k) (controller_of s i).radio.hardware t ≡ true) where
    -- the hub has it
    pub table_written : write_at s (table_place i k) (region (rule_at k).size t) ≡ encode
        (put_controller (decode s) i (with_host (controller_of s i) (with_table (controller_of s i).host k t)))
    table_written =
        let f = (controller_of s i).radio.hardware in
        table_stored t (table_fit (rule_at k) f t n).slots (sized_ok (rule_at k) f t n)

    -- the index is present in a well-formed state
    pub table_ready : Ready (encode (put_controller (decode s) i (with_host (controller_of s i) (with_table (controller_of s i).host k t)))) i
    table_ready =
        let h = with_table (controller_of s i).host k t in
        controller_ready s i r (with_host (controller_of s i) h) (table_changed (controller_of s i) k t (controller_fine s i r) n) (host_fine s i r h)

    -- with the new table
    pub table_now : controller_of (encode (put_controller (decode s) i (with_host (controller_of s i) (with_table (controller_of s i).host k t))))
        i ≡ with_host (controller_of s i) (with_table (controller_of s i).host k t)
    table_now =
        let h = with_table (controller_of s i).host k t in
        controller_back_lem s i r (with_host (controller_of s i) h) (table_changed (controller_of s i) k t (controller_fine s i r) n) (host_fine s i r h)
