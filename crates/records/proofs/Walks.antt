-- What the walks over slots keep: over those of a table, which checks and marks its records or collects their identities, and over
-- identities that were collected.
use Prim.Native.Nat.{ℕ, suc, ◌+◌, ◌-◌, ◌*◌, ◌/◌, ◌%◌, ◌<◌, ◌≤◌}
use native.Mathlib.Omega.{arith}
use native.Mathlib.Numerals.{add-one}
use mathlib.Core.Path.{◌≡◌, refl, sym, ap, ◌∙◌}
use mathlib.Core.Bool.{Bool, true, false, ◌&&◌}
use mathlib.Core.List.{List, [], ◌∷◌, ◌++◌, map, append-nil}
use lib.ListN.{length, length-drop, get_or, set, take, drop, length-set, drop_of_length-le}
use lib.Seq.{append_snoc, drop-cons, take_all, take-suc-set}
use Rattle.model.specs.Octets.{Octets, all_zero}
use Rattle.model.specs.Reasons.{passes}
use Rattle.model.specs.Tables.{every, record_ok, rule_at}
use Rattle.model.proofs.Model.Tests.{and_off, both, no_way}
use Rattle.octets.specs.Parts.{part}
use Rattle.records.specs.declared.Identity.{Identity}
use Rattle.records.specs.Slots.{free_zero, records_at}
use Rattle.records.proofs.Slots.{used_slot, free_slot, no_more}
use Rattle.std.proofs.Common.{None, Some}
use lib.Dec.{eqb}
use borrow.Author.Tests.{eq-eqb, ne_eqb, eqb-true, eqb-false}
use Rattle.std.specs.List.{list_any}
use Rattle.records.specs.Identities.{among, apart, identity_of, same_identity}
use Rattle.records.specs.Marks.{Checked, Doubled, mark_of, slots_keep_rules, with_mark}
use Rattle.records.proofs.Laws.{every_end, every_fails, every_free, every_used, free_end, free_fails, free_used, free_zero_lem, room}
use Rattle.records.proofs.Marking.{Left, left_done, left_more, put_doubled}

-- 1. The slots of a table: looked at, and the records marked ----------------------------------------------------------------------------------

-- what `slots_ok` keeps: the slots that are left tell what all tell, and the records before them are marked
pub record Walk (k : ℕ) (s : Octets) (size place n w : ℕ) (ms : List ℕ) (at left word found : ℕ) : Type 0 where
  pub sized : size ≡ (rule_at k).size
  pub within : at + size * left ≤ length s
  pub few : found + left ≤ 32
  pub valid : slots_keep_rules k s size at left word ≡ slots_keep_rules k s (rule_at k).size place n w
  pub doubled : Doubled ms
  pub marked : Left ms found (map (identity_of k) (records_at s size at left word)) (map (identity_of k) (records_at s (rule_at k).size place n w))

-- at the start all slots are left
pub walk_first : (k : ℕ) (s : Octets) (size : ℕ) (ms : List ℕ) (place n w : ℕ) → size ≡ (rule_at k).size → place + (rule_at k).size * n ≤ length s
    → n ≤ 32 → Doubled ms → Walk k s size place n w ms place n w 0
walk_first k s size ms place n w e h l d = record { sized = e; within = rw e h; few = omega arith; valid = rw e; doubled = d; marked = rw e }

module _ (k : ℕ) (s : Octets) (size place n w : ℕ) (ms : List ℕ) (at left word found : ℕ) (v : Walk k s size place n w ms at left word found) where
  -- no slot is left
  pub walk_end : left ≤ 0 → Checked k s place n w (Some found) ms
  walk_end z =
      let e : records_at s size at left word ≡ [] = no_more s size at left word z in
      let f : every (record_ok (rule_at k)) (records_at s size at left word) ≡ true =
      sym (every_end (rule_at k) s size v.sized at left word z) in (
        sym v.valid ∙ both (free_end s size at left word z) f,
        left_done ms found (map (identity_of k) (records_at s (rule_at k).size place n w)) v.doubled (omega (arith, v.few)) (rw e at v.marked),
      )

  -- the slot here lies within
  here : 0 < left → at + size ≤ length s
  here l = let r = room at size left (length s) l v.within in omega arith

  -- and so does its record
  pub walk_here : 0 < left → at + (rule_at k).size ≤ length s
  walk_here l = rw v.sized at (here l)

  -- a slot that is not fine: neither are all
  spoilt : slots_keep_rules k s size at left word ≡ false → Checked k s place n w None ms
  spoilt f = sym v.valid ∙ f

  -- a record that breaks its rule
  pub walk_breaks : 0 < left → word % 2 ≡ 1 → passes ((rule_at k).checks (part s at (rule_at k).size)) ≡ false
      → Checked k s place n w None ms
  walk_breaks l b p =
      let f : every (record_ok (rule_at k)) (records_at s size at left word) ≡ false =
      sym (every_fails (rule_at k) s size v.sized at left word l b (here l) p) in
      spoilt (rw f (and_off (free_zero s size at left word)))

  -- a free slot that is not zero
  pub walk_stained : 0 < left → (word % 2 ≡ 1 → ⊥) → all_zero (part s at (rule_at k).size) ≡ false
      → Checked k s place n w None ms
  walk_stained l b z = spoilt (rw (free_fails s size at left word l b (rw v.sized z)))

  -- a record that keeps its rule is marked
  pub walk_used : (m : ℕ) → 0 < left → word % 2 ≡ 1 → passes ((rule_at k).checks (part s at (rule_at k).size)) ≡ true
      → m ≡ mark_of (identity_of k (part s at (rule_at k).size))
      → Walk k s size place n w (with_mark ms found m) (at + size) (left - 1) (word / 2) (found + 1)
  walk_used m l b p q =
      let e : records_at s size at left word ≡ part s at size ∷ records_at s size (at + size) (left - 1) (word / 2) = used_slot s size at left word l b in
      record {
        sized = v.sized;
        within = room at size left (length s) l v.within;
        few = omega (arith, v.few);
        valid = rw (free_used s size at left word l b, every_used (rule_at k) s size v.sized at left word l b (here l) p) v.valid;
        doubled = put_doubled ms found m v.doubled (omega (arith, v.few));
        marked = left_more ms found m (identity_of k (part s at size)) (map (identity_of k) (records_at s size (at + size) (left - 1) (word / 2)))
            (map (identity_of k) (records_at s (rule_at k).size place n w)) v.doubled (omega (arith, v.few)) (rw v.sized q) (rw e at v.marked);
      }

  -- a free slot that is zero is passed over
  pub walk_free : 0 < left → (word % 2 ≡ 1 → ⊥) → all_zero (part s at (rule_at k).size) ≡ true
      → Walk k s size place n w ms (at + size) (left - 1) (word / 2) found
  walk_free l b z = record {
    sized = v.sized;
    within = room at size left (length s) l v.within;
    few = omega (arith, v.few);
    valid = rw (free_zero_lem s size at left word l b (rw v.sized z), every_free (rule_at k) s size v.sized at left word l b) v.valid;
    doubled = v.doubled;
    marked = rw (free_slot s size at left word l b) at v.marked;
  }

-- slots that are fine hold what their table may hold exactly if no identity is repeated
pub valid_goes : (f e d : Bool) → f && e ≡ true → d ≡ f && (e && d)
valid_goes true true d q = refl
valid_goes true false d q = no_way (sym q)
valid_goes false e d q = no_way (sym q)

-- and slots that are not hold what it may not
pub valid_fails : (f e d : Bool) → f && e ≡ false → false ≡ f && (e && d)
valid_fails true true d q = no_way q
valid_fails true false d q = refl
valid_fails false e d q = refl

-- 2. The slots of a table: identities collected ------------------------------------------------------------------------------------------------

-- what `collect` keeps: the identities collected so far and those of the slots that are left are all
pub record Collect (k : ℕ) (s : Octets) (size : ℕ) (rs : List Octets) (ids : List Identity) (at left word found : ℕ) : Type 0 where
  pub sized : size ≡ (rule_at k).size
  pub within : at + size * left ≤ length s
  pub few : found + left ≤ 32
  pub long : length ids ≡ 32
  pub told : take found ids ++ map (identity_of k) (records_at s size at left word) ≡ map (identity_of k) rs

-- at the start all slots are left
pub collect_first : (k : ℕ) (s : Octets) (size : ℕ) (ids : List Identity) (place n w : ℕ) → size ≡ (rule_at k).size
    → place + (rule_at k).size * n ≤ length s → n ≤ 32 → length ids ≡ 32
    → Collect k s size (records_at s (rule_at k).size place n w) ids place n w 0
collect_first k s size ids place n w e h l a =
    record { sized = e; within = rw e h; few = omega arith; long = a; told = rw e }

module _
    (k : ℕ) (s : Octets) (size : ℕ) (rs : List Octets) (ids : List Identity) (at left word found : ℕ)
    (v : Collect k s size rs ids at left word found) where
  -- the record here lies within
  pub collect_here : 0 < left → at + (rule_at k).size ≤ length s
  collect_here l = let r = room at size left (length s) l v.within in omega (arith, v.sized)

  -- its identity is collected
  pub collect_used : (d : Identity) → 0 < left → word % 2 ≡ 1 → d ≡ identity_of k (part s at (rule_at k).size)
      → Collect k s size rs (set ids found d) (at + size) (left - 1) (word / 2) (found + 1)
  collect_used d l b q =
      let e : records_at s size at left word ≡ part s at size ∷ records_at s size (at + size) (left - 1) (word / 2) = used_slot s size at left word l b in
      let f : d ≡ identity_of k (part s at size) = rw v.sized q in
      let g = rw (e, ← f) at v.told in
      let rest = map (identity_of k) (records_at s size (at + size) (left - 1) (word / 2)) in
      let more = take-suc-set {A = Identity} ids found d (omega (arith, v.few, v.long)) in
      record {
        sized = v.sized;
        within = room at size left (length s) l v.within;
        few = omega (arith, v.few);
        long = rw length-set v.long;
        told = rw (add-one, more, append_snoc {A = Identity} (take found ids) d rest) g;
      }

  -- a free slot is passed over
  pub collect_free : 0 < left → (word % 2 ≡ 1 → ⊥) → Collect k s size rs ids (at + size) (left - 1) (word / 2) found
  collect_free l b = record {
    sized = v.sized;
    within = room at size left (length s) l v.within;
    few = omega (arith, v.few);
    long = v.long;
    told = rw (free_slot s size at left word l b) at v.told;
  }

  -- at the end all are collected
  pub collect_end : left ≤ 0 → take found ids ≡ map (identity_of k) rs
  collect_end l =
      let e : records_at s size at left word ≡ [] = no_more s size at left word l in
      sym (append-nil (take found ids)) ∙ (rw e at v.told)

-- 3. Identities compared with those behind them ------------------------------------------------------------------------------------------------

-- equality is symmetric
eqb_turned : (a b : ℕ) → eqb a b ≡ eqb b a
eqb_turned a b = go (eqb b a) refl
  where
    go : (r : Bool) → eqb b a ≡ r → eqb a b ≡ r
    go true e = eq-eqb a b (sym (eqb-true b a e))
    go false e = ne_eqb a b (λ z. eqb-false b a e (sym z))

-- an identity is one of some if `==` finds it there
among_any : (a : Identity) (bs : List Identity) → list_any (λ y. eqb y.low a.low && eqb y.high a.high) bs ≡ among a bs
unfolding among same_identity
among_any a [] = refl
among_any a (b ∷ bs) = rw (eqb_turned b.low a.low, eqb_turned b.high a.high, among_any a bs)

module _ (ids : List Identity) (i : ℕ) (r : Bool) (d : Identity) (l : i < length ids)
    (e : r ≡ list_any (λ y. eqb y.low (get_or ids i d).low && eqb y.high (get_or ids i d).high) (take (length ids - (i + 1)) (drop (i + 1) ids))) where
  -- number i, and whether it stands behind again
  told : r ≡ among (get_or ids i d) (drop (i + 1) ids)
  told =
      let n : take (length ids - (i + 1)) (drop (i + 1) ids) ≡ drop (i + 1) ids = take_all (length ids - (i + 1)) (drop (i + 1) ids) (rw length-drop (omega arith)) in
      rw n at e ∙ among_any (get_or ids i d) (drop (i + 1) ids)

  -- number i is repeated
  pub apart_hit : r ≡ true → false ≡ apart (drop i ids)
  unfolding apart
  apart_hit t = let q : suc i ≡ i + 1 = omega arith in sym (rw (drop-cons ids i d l, q, ← told, t))

  -- it is not
  pub apart_miss : r ≡ false → apart (drop (i + 1) ids) ≡ apart (drop i ids)
  unfolding apart
  apart_miss f = let q : suc i ≡ i + 1 = omega arith in sym (rw (drop-cons ids i d l, q, ← told, f) (ap (λ (k : ℕ). apart (drop k ids)) q))

-- what stands behind an item begins where its number says, whatever that is reckoned from
pub behind_at : {A : Type 0} (p : A → Bool) (xs : List A) (r : Bool) (a b : ℕ) → r ≡ list_any p (take (length xs - a) (drop a xs)) → a ≡ b
    → r ≡ list_any p (take (length xs - b) (drop b xs))
behind_at p xs r a b e n = rw n at e

-- none is left
pub apart_end : (ids : List Identity) (i : ℕ) → length ids ≤ i → true ≡ apart (drop i ids)
unfolding apart
apart_end ids i l = let e : drop i ids ≡ [] = drop_of_length-le ids {i = i} l in rw e
