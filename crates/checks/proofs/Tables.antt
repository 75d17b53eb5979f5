-- One table, and six one behind the other: the test over the octets is the model's.
use Prim.Native.Nat.{ℕ, zero, suc, ◌+◌, ◌*◌, ◌/◌, ◌%◌, ◌≤◌}
use native.Mathlib.Omega.{arith}
use native.Mathlib.Nat.{mul-suc}
use mathlib.Core.Path.{◌≡◌, refl, sym, ap, ◌∙◌}
use mathlib.Core.Bool.{Bool, true, false, ◌&&◌}
use mathlib.Core.List.{List, [], ◌∷◌, ◌++◌}
use mathlib.Core.Option.{none, some}
use lib.ListN.{length, take, drop, length-append}
use lib.Seq.{drop-drop, take-take}
use lib.Dec.{eqb}
use Rattle.model.specs.declared.Hardware.{Hardware}
use Rattle.model.specs.Octets.{Octets, bytes, same, u32}
use Rattle.model.specs.State.{Table}
use Rattle.model.specs.Tables.{TableRule, blocked_rule, chop, device_rule, entries, every, identity_key_rule, link_key_rule, long_term_key_rule, records_ok}
use Rattle.model.specs.Tables.{support_ok, table_rules, uuid_rule}
use Rattle.model.specs.WellFormed.{table_ok, tables_ok}
use Rattle.model.specs.Layout.{region, regions, slots_back, table_back, tables_back}
use Rattle.model.proofs.Model.Tables.{bytes_chop, bytes_drop}
use Rattle.model.proofs.Model.Tests.{and_true, both}
use Rattle.octets.specs.Parts.{part}
use Rattle.octets.proofs.Parts.{drop_take, length_part, u32_part}
use Rattle.table.specs.Slots.{table_at}
use Rattle.table.proofs.Regions.{length_region, length_table, sized_at}
use Rattle.checks.proofs.Tests.{part_add, same_append}
use Rattle.records.specs.Slots.{free_zero}
use Rattle.checks.proofs.Slots.{region_same}
use Rattle.layout.proofs.Tables.{behind_word}
use Rattle.checks.specs.Tables.{table_octets_ok, tables_octets_ok}

-- 1. One table ------------------------------------------------------------------------------------------------------------------------------

-- the records of a table cut from octets are octets
every_back : (m : Octets → Bool) (w : ℕ) (rs : List Octets) → every m rs ≡ true → every m (entries (slots_back w rs)) ≡ true
unfolding every entries slots_back
every_back m w [] e = refl
every_back m w (r ∷ rs) e =
    let a = and_true (m r) _ e in
    let i = every_back m (w / 2) rs a.1 in
    go (eqb (w % 2) 1) a.0 i
  where
    go : (b : Bool) → m r ≡ true → every m (entries (slots_back (w / 2) rs)) ≡ true
        → every m (entries (elim b [ true ↦ some r | false ↦ none ] ∷ slots_back (w / 2) rs)) ≡ true
    go true h i = both h i
    go false h i = i

-- so are those of a table that lies in the state
table_bytes : (s : Octets) (at size : ℕ) → bytes s ≡ true → every bytes (entries (table_at s at size)) ≡ true
unfolding table_at
table_bytes s at size w = every_back bytes (u32 s at) (chop size 32 (drop (at + 4) s)) (bytes_chop size 32 (drop (at + 4) s) (bytes_drop (at + 4) s w))

-- its number of slots and the width of its octets need no test
table_is : (u : TableRule) (f : Hardware) (s : Octets) (at : ℕ) → bytes s ≡ true
    → table_ok u f (table_at s at u.size) ≡ records_ok u (entries (table_at s at u.size)) && support_ok u f (entries (table_at s at u.size))
unfolding table_ok
table_is u f s at w = rw (length_table s at u.size, table_bytes s at u.size w)

-- 2. The tables behind-word one another ------------------------------------------------------------------------------------------------------------

-- how many octets they take
unfoldable pub total : List TableRule → ℕ
total [] = 0
total (u ∷ us) = 4 + u.size * 32 + total us

-- the six tables
pub total_six : total table_rules ≡ 3736
unfolding total table_rules uuid_rule link_key_rule long_term_key_rule identity_key_rule blocked_rule device_rule
total_six = refl

-- records cut from octets, and from as many of them as they need or more
pub chop_take : (size n m : ℕ) (o : Octets) → chop size n (take (size * n + m) o) ≡ chop size n o
unfolding chop
chop_take size zero m o = refl
chop_take size (suc n) m o =
    let e : size * suc n + m ≡ size + (size * n + m) = omega (arith, mul-suc size n) in
    rw (e, take-take size (size + (size * n + m)) o (omega arith), drop_take size (size * n + m) o, chop_take size n m (drop size o))

-- a part without its beginning
pub drop_part : (s : Octets) (at a n : ℕ) → drop a (part s at (a + n)) ≡ part s (at + a) n
unfolding part
drop_part s at a n = drop_take a n (drop at s) ∙ rw (drop-drop a at s)

-- the first table of a part
table_in : (s : Octets) (at size m : ℕ) → table_back size (part s at (4 + size * 32 + m)) ≡ table_at s at size
unfolding table_back table_at
table_in s at size m =
    let e : 4 + size * 32 + m ≡ 4 + (size * 32 + m) = omega arith in
    let d : drop 4 (part s at (4 + size * 32 + m)) ≡ take (size * 32 + m) (drop (at + 4) s) = rw e (behind_word s at (size * 32 + m)) in
    rw (u32_part s at (4 + size * 32 + m) (omega arith), d, chop_take size 32 m (drop (at + 4) s))

-- the tables of a part, with other octets behind them
pub tables_cut : (us : List TableRule) (s : Octets) (at m : ℕ) → tables_back us (part s at (total us + m)) ≡ tables_back us (part s at (total us))
unfolding tables_back total
tables_cut [] s at m = refl
tables_cut (u ∷ us) s at m =
    let n : ℕ = 4 + u.size * 32 in
    let e : n + total us + m ≡ n + (total us + m) = omega arith in
    rw (
      e,
      table_in s at u.size (total us + m),
      table_in s at u.size (total us),
      drop_part s at n (total us + m),
      drop_part s at n (total us),
      tables_cut us s (at + n) m,
    )

-- as they are laid out, they take as many octets as they lie in
pub length_regions : (us : List TableRule) (s : Octets) (at : ℕ) → at + total us ≤ length s
    → length (regions us (tables_back us (part s at (total us)))) ≡ total us
unfolding tables_back total regions
length_regions [] s at h = refl
length_regions (u ∷ us) s at h =
    let n : ℕ = 4 + u.size * 32 in
    let t : Table = table_at s at u.size in
    let z : length (region u.size t) ≡ n = length_region u.size t (sized_at s at u.size (omega arith)) (length_table s at u.size) in
    rw (table_in s at u.size (total us), drop_part s at n (total us))
    (simp length-append (omega (arith, length_regions us s (at + n) (omega arith))))

-- the tests of meanings and the tests of octets, sorted by table: the first one's, then those of the rest
pub swap : (a t c r : Bool) → (a && t) && (c && r) ≡ (a && c) && (t && r)
swap true true c r = refl
swap true false true r = refl
swap true false false r = refl
swap false t c r = refl

-- three tests joined, in brackets from the right
pub assoc : (a b c : Bool) → (a && b) && c ≡ a && (b && c)
assoc true b c = refl
assoc false b c = refl

-- where there are no tables, there is nothing to compare
pub no_octets : (s : Octets) (at : ℕ) → same (part s at 0) [] ≡ true
unfolding same part
no_octets s at = refl

-- records, support and free slots are the test of one table
fine_is : (u : TableRule) (f : Hardware) (s : Octets) (at : ℕ)
    → (records_ok u (entries (table_at s at u.size)) && support_ok u f (entries (table_at s at u.size)))
    && free_zero s u.size (at + 4) 32 (u32 s at) ≡ table_octets_ok u f s at
unfolding table_octets_ok
fine_is u f s at =
    assoc (records_ok u (entries (table_at s at u.size))) (support_ok u f (entries (table_at s at u.size))) (free_zero s u.size (at + 4) 32 (u32 s at))

-- all are well formed, and their octets are the one encoding of them
pub tables_are : (f : Hardware) (us : List TableRule) (s : Octets) (at : ℕ) → bytes s ≡ true → at + total us ≤ length s
    → tables_ok f us (tables_back us (part s at (total us)))
    && same (part s at (total us)) (regions us (tables_back us (part s at (total us)))) ≡ tables_octets_ok f us s at
unfolding tables_ok tables_back regions tables_octets_ok total
tables_are f [] s at w h = no_octets s at
tables_are f (u ∷ us) s at w h =
    let n : ℕ = 4 + u.size * 32 in
    let t : Table = table_at s at u.size in
    let r : Octets = part s (at + n) (total us) in
    let d : drop n (part s at (n + total us)) ≡ r = drop_part s at n (total us) in
    let l : length (part s at n) ≡ n = length_part s at n (omega arith) in
    let z : length (region u.size t) ≡ n = length_region u.size t (sized_at s at u.size (omega arith)) (length_table s at u.size) in
    let g : same (part s at (n + total us)) (region u.size t ++ regions us (tables_back us r)) ≡ free_zero s u.size (at + 4) 32 (u32 s at)
    && same r (regions us (tables_back us r)) =
    rw (part_add s at n (total us)) (same_append (part s at n) r (region u.size t) (regions us (tables_back us r)) (l ∙ sym z)
    ∙ rw (region_same s at u.size w (omega arith))) in
    rw (table_in s at u.size (total us), d, g, table_is u f s at w)
    (swap (records_ok u (entries t) && support_ok u f (entries t)) (tables_ok f us (tables_back us r)) (free_zero s u.size (at + 4) 32 (u32 s at))
    (same r (regions us (tables_back us r)))
    ∙ rw (tables_are f us s (at + n) w (omega arith)) (ap (λ (b : Bool). b && tables_octets_ok f us s (at + n)) (fine_is u f s at)))
