-- Laws that the proofs of this crate cite, over plain lists and numbers.
use Prim.Native.Nat.{ℕ, zero, suc, ◌+◌, ◌-◌, ◌*◌, ◌/◌, ◌%◌, ◌^◌, ◌<◌, ◌≤◌}
use native.Mathlib.Omega.{arith}
use native.Mathlib.Nat.{mul-suc, one-mul}
use lib.Pow.{shl_exact}
use mathlib.Core.Path.{◌≡◌, refl, sym, ◌∙◌}
use mathlib.Core.Bool.{Bool, true, false, ◌&&◌, ◌||◌, not}
use mathlib.Core.List.{List, [], ◌∷◌, ◌++◌}
use mathlib.Core.Option.{none, some}
use lib.ListN.{length, get_or, take, drop}
use lib.Seq.{take-take}
use lib.Dec.{eqb, leb, ltb}
use borrow.Author.Tests.{eq-eqb, ne_eqb, le-leb, lt-leb, le-ltb, lt-ltb, ltb-true, ltb-false}
use Rattle.model.specs.Octets.{Octets, octet, all_zero, bit}
use Rattle.model.specs.declared.Hardware.{Hardware}
use Rattle.model.specs.State.{bredr_supported, le_supported, static_random}
use Rattle.model.specs.Reasons.{Check, first_of, no_reason, passes}
use Rattle.model.specs.Tables.{TableRule, every, le_address_checks, needs_bredr, needs_le, needs_nothing, record_ok, rule_at, table_rules}
use Rattle.model.specs.Tables.{blocked_rule, device_rule, identity_key_rule, link_key_rule, long_term_key_rule, uuid_rule}
use Rattle.octets.specs.Parts.{part}
use Rattle.octets.proofs.Parts.{length_part, get_d_part}
use Rattle.rules.proofs.Addresses.{static_of}
use Rattle.records.specs.Slots.{free_zero, records_at}
use Rattle.records.proofs.Slots.{used_slot, free_slot, no_more}

-- what a comparison of two numbers says as a test
pub ruleset tests = (eq-eqb, ne_eqb, le-leb, lt-leb, le-ltb, lt-ltb)

-- 1. The rule of each table -----------------------------------------------------------------------------------------------------------------

-- The rule of a table by its number, a law for each of the six.

-- UUIDs
pub rule0 : (k : ℕ) → k ≡ 0 → rule_at k ≡ uuid_rule
unfolding rule_at table_rules
rule0 k e = rw e

-- link keys
pub rule1 : (k : ℕ) → k ≡ 1 → rule_at k ≡ link_key_rule
unfolding rule_at table_rules
rule1 k e = rw e

-- long term keys
pub rule2 : (k : ℕ) → k ≡ 2 → rule_at k ≡ long_term_key_rule
unfolding rule_at table_rules
rule2 k e = rw e

-- identity resolving keys
pub rule3 : (k : ℕ) → k ≡ 3 → rule_at k ≡ identity_key_rule
unfolding rule_at table_rules
rule3 k e = rw e

-- blocked devices
pub rule4 : (k : ℕ) → k ≡ 4 → rule_at k ≡ blocked_rule
unfolding rule_at table_rules
rule4 k e = rw e

-- devices
pub rule5 : (k : ℕ) → k ≡ 5 → rule_at k ≡ device_rule
unfolding rule_at table_rules
rule5 k e = rw e

-- The size of its records.

-- a UUID with its hint
pub size0 : (k : ℕ) → k ≡ 0 → (rule_at k).size ≡ 17
unfolding uuid_rule
size0 k e = rw (rule0 k e)

-- a link key
pub size1 : (k : ℕ) → k ≡ 1 → (rule_at k).size ≡ 25
unfolding link_key_rule
size1 k e = rw (rule1 k e)

-- a long term key
pub size2 : (k : ℕ) → k ≡ 2 → (rule_at k).size ≡ 36
unfolding long_term_key_rule
size2 k e = rw (rule2 k e)

-- an identity resolving key
pub size3 : (k : ℕ) → k ≡ 3 → (rule_at k).size ≡ 23
unfolding identity_key_rule
size3 k e = rw (rule3 k e)

-- a blocked device
pub size4 : (k : ℕ) → k ≡ 4 → (rule_at k).size ≡ 7
unfolding blocked_rule
size4 k e = rw (rule4 k e)

-- a device
pub size5 : (k : ℕ) → k ≡ 5 → (rule_at k).size ≡ 8
unfolding device_rule
size5 k e = rw (rule5 k e)

-- a record of any table has at least seven octets, the length of an address and its type
pub size_least : (k : ℕ) → k < 6 → 7 ≤ (rule_at k).size
unfolding rule_at table_rules uuid_rule link_key_rule long_term_key_rule identity_key_rule blocked_rule device_rule
size_least zero l = omega arith
size_least (suc zero) l = omega arith
size_least (suc (suc zero)) l = omega arith
size_least (suc (suc (suc zero))) l = omega arith
size_least (suc (suc (suc (suc zero)))) l = omega arith
size_least (suc (suc (suc (suc (suc zero))))) l = omega arith
size_least (suc (suc (suc (suc (suc (suc k)))))) l = absurd (omega arith)

-- but for a blocked device's it has eight
pub size_word : (k : ℕ) → k < 6 → (k ≡ 4 → ⊥) → 8 ≤ (rule_at k).size
unfolding rule_at table_rules uuid_rule link_key_rule long_term_key_rule identity_key_rule device_rule
size_word zero l a = omega arith
size_word (suc zero) l a = omega arith
size_word (suc (suc zero)) l a = omega arith
size_word (suc (suc (suc zero))) l a = omega arith
size_word (suc (suc (suc (suc zero)))) l a = absurd (a refl)
size_word (suc (suc (suc (suc (suc zero))))) l a = omega arith
size_word (suc (suc (suc (suc (suc (suc k)))))) l a = absurd (omega arith)

-- and but for a device's sixteen
pub size_words : (k : ℕ) → k < 6 → (k ≡ 4 → ⊥) → (k ≡ 5 → ⊥) → 16 ≤ (rule_at k).size
unfolding rule_at table_rules uuid_rule link_key_rule long_term_key_rule identity_key_rule
size_words zero l a b = omega arith
size_words (suc zero) l a b = omega arith
size_words (suc (suc zero)) l a b = omega arith
size_words (suc (suc (suc zero))) l a b = omega arith
size_words (suc (suc (suc (suc zero)))) l a b = absurd (a refl)
size_words (suc (suc (suc (suc (suc zero))))) l a b = absurd (b refl)
size_words (suc (suc (suc (suc (suc (suc k)))))) l a b = absurd (omega arith)

-- a link key or a long term key, the two that are left, has 24
pub size_keys : (k : ℕ) → k < 3 → (k ≡ 0 → ⊥) → 24 ≤ (rule_at k).size
unfolding rule_at table_rules link_key_rule long_term_key_rule
size_keys zero l a = absurd (a refl)
size_keys (suc zero) l a = omega arith
size_keys (suc (suc zero)) l a = omega arith
size_keys (suc (suc (suc k))) l a = absurd (omega arith)

-- 2. Checks as tests of octets where they lie -----------------------------------------------------------------------------------------------

-- one check, and the rest
pub passes_cons : (c : Check) (cs : List Check) → passes (c ∷ cs) ≡ not c.fails && passes cs
unfolding passes first_of no_reason
passes_cons c cs = go c.fails
  where
    go : (b : Bool) → no_reason (elim b [ true ↦ some c.reason | false ↦ first_of cs ]) ≡ not b && no_reason (first_of cs)
    go true = refl
    go false = refl

-- without a check nothing fails
pub passes_none : passes [] ≡ true
unfolding passes first_of no_reason
passes_none = refl

-- checks in two parts pass exactly if both parts do
pub passes_append : (xs ys : List Check) → passes (xs ++ ys) ≡ passes xs && passes ys
passes_append [] ys = rw passes_none
passes_append (x ∷ xs) ys = passes_cons x (xs ++ ys) ∙ rw (passes_append xs ys, passes_cons x xs) (go (not x.fails) (passes xs) (passes ys))
  where
    go : (a b c : Bool) → a && (b && c) ≡ a && b && c
    go true b c = refl
    go false b c = refl

-- a check alone passes exactly if it does not fail
one_check : (c : Check) → passes (c ∷ []) ≡ not c.fails
unfolding passes first_of no_reason
one_check c = go c.fails
  where
    go : (b : Bool) → no_reason (elim b [ true ↦ some c.reason | false ↦ none ]) ≡ not b
    go true = refl
    go false = refl

-- The opposite of a test, for a check says what must not be.

-- of a limit
not_ltb : (a b : ℕ) → not (ltb a b) ≡ leb b a
not_ltb a b = go (ltb a b) refl
  where
    go : (x : Bool) → ltb a b ≡ x → not x ≡ leb b a
    go true e = sym (lt-leb b a (ltb-true a b e))
    go false e = sym (le-leb b a (ltb-false a b e))

-- of either of two tests
not_or : (a b : Bool) → not (a || b) ≡ not a && not b
not_or true b = refl
not_or false b = refl

-- of an opposite
pub twice_not : (a : Bool) → not (not a) ≡ a
twice_not true = refl
twice_not false = refl

-- the first octets of a part
pub take_part : (s : Octets) (at m n : ℕ) → m ≤ n → take m (part s at n) ≡ part s at m
unfolding part
take_part s at m n h = take-take m n (drop at s) h

module _ (s : Octets) (at : ℕ) where
  -- a UUID: its 16 octets are not all zero
  pub uuid_is : passes (uuid_rule.checks (part s at 17)) ≡ not (all_zero (part s at 16))
  unfolding uuid_rule
  uuid_is = rw (one_check, take_part s at 16 17 (omega arith))

  -- a link key: address type 0, and a key type of at most 8
  pub link_key_is : passes (link_key_rule.checks (part s at 25)) ≡ eqb (get_or s (at + 6) 0) 0 && leb (get_or s (at + 7) 0) 8
  unfolding link_key_rule octet
  link_key_is = rw (passes_cons, one_check, get_d_part s at 25 6 (omega arith), get_d_part s at 25 7 (omega arith), twice_not, not_ltb)

  -- an LE address: public, or random and then a static random one (01, Commands, paragraph on loads; 02, E2)
  pub le_address_is : (n : ℕ) → 7 ≤ n → passes (le_address_checks (part s at n)) ≡ (eqb (get_or s (at + 6) 0) 1 || eqb (get_or s (at + 6) 0) 2)
      && not (eqb (get_or s (at + 6) 0) 2 && not (static_random (part s at 6)))
  unfolding le_address_checks octet
  le_address_is n h = rw (passes_cons, one_check, get_d_part s at n 6 (omega arith), static_of s at n (omega arith), twice_not)

  -- that rests on the first seven octets alone, however long the record is
  pub le_address_of : (n : ℕ) → 7 ≤ n → passes (le_address_checks (part s at n)) ≡ passes (le_address_checks (part s at 7))
  le_address_of n h = le_address_is n h ∙ sym (le_address_is 7 (omega arith))

  -- a long term key: an LE address, a key type of at most 4, master 0 or 1, a key size of 7 to 16
  pub long_term_key_is : passes (long_term_key_rule.checks (part s at 36))
      ≡ passes (le_address_checks (part s at 7)) && (not (ltb 4 (get_or s (at + 7) 0))
      && (not (ltb 1 (get_or s (at + 8) 0)) && (not (ltb (get_or s (at + 9) 0) 7) && leb (get_or s (at + 9) 0) 16)))
  unfolding long_term_key_rule octet
  long_term_key_is = rw (
    passes_append,
    le_address_of 36 (omega arith),
    passes_cons,
    passes_cons,
    one_check,
    get_d_part s at 36 7 (omega arith),
    get_d_part s at 36 8 (omega arith),
    get_d_part s at 36 9 (omega arith),
    not_or,
    not_ltb 16 (get_or s (at + 9) 0),
  )

  -- an identity key: an LE address and nothing more
  pub identity_key_is : passes (identity_key_rule.checks (part s at 23)) ≡ passes (le_address_checks (part s at 7))
  unfolding identity_key_rule
  identity_key_is = le_address_of 23 (omega arith)

  -- a blocked device: an address that is not zero, of type 0 to 2
  pub blocked_is : passes (blocked_rule.checks (part s at 7)) ≡ not (all_zero (part s at 6)) && leb (get_or s (at + 6) 0) 2
  unfolding blocked_rule octet
  blocked_is = rw (passes_cons, one_check, take_part s at 6 7 (omega arith), get_d_part s at 7 6 (omega arith), not_ltb)

  -- a device: the same, with an action of 0 to 2, and with type 0 only action 1
  pub device_is : passes (device_rule.checks (part s at 8))
      ≡ not (all_zero (part s at 6)) && (not (ltb 2 (get_or s (at + 6) 0))
      && (not (ltb 2 (get_or s (at + 7) 0)) && not (eqb (get_or s (at + 6) 0) 0 && not (eqb (get_or s (at + 7) 0) 1))))
  unfolding device_rule octet
  device_is = rw (
    passes_cons,
    passes_cons,
    passes_cons,
    one_check,
    take_part s at 6 8 (omega arith),
    get_d_part s at 8 6 (omega arith),
    get_d_part s at 8 7 (omega arith),
  )

-- one, shifted by at most 32
pub one_shl : (n : ℕ) → n ≤ 32 → 1 * 2 ^ n % 18446744073709551616 ≡ 2 ^ n
one_shl n h = shl_exact {a = 1} 1 n 64 (omega arith) (omega arith) ∙ one-mul (2 ^ n)

-- 3. From slot to slot ----------------------------------------------------------------------------------------------------------------------

-- the slots that are left lie within
pub room : (at size n end : ℕ) → 0 < n → at + size * n ≤ end → at + size + size * (n - 1) ≤ end
room at size n end l h =
    let e : n ≡ suc (n - 1) = omega arith in
    let f : at + size * suc (n - 1) ≤ end = rw e at h in
    omega (arith, mul-suc size (n - 1))

module _ (s : Octets) (size at n w : ℕ) where
  -- the first slot is in use or zero, and the rest is tested by the word's other bits
  free_step : 0 < n → free_zero s size at n w ≡ (eqb (w % 2) 1 || all_zero (part s at size)) && free_zero s size (at + size) (n - 1) (w / 2)
  unfolding free_zero
  free_step l = go n l
    where
      go : (m : ℕ) → 0 < m → free_zero s size at m w ≡ (eqb (w % 2) 1 || all_zero (part s at size)) && free_zero s size (at + size) (m - 1) (w / 2)
      go zero l = absurd (omega arith)
      go (suc m) l = let e : suc m - 1 ≡ m = omega arith in rw e

  -- Whether the free slots from one on are zero, by that slot:

  -- in use
  pub free_used : 0 < n → w % 2 ≡ 1 → free_zero s size (at + size) (n - 1) (w / 2) ≡ free_zero s size at n w
  free_used l b = sym (free_step l ∙ rw (eq-eqb (w % 2) 1 b))

  -- free and zero
  pub free_zero_lem : 0 < n → (w % 2 ≡ 1 → ⊥) → all_zero (part s at size) ≡ true → free_zero s size (at + size) (n - 1) (w / 2) ≡ free_zero s size at n w
  free_zero_lem l b z = sym (free_step l ∙ rw (ne_eqb (w % 2) 1 b, z))

  -- free and not zero
  pub free_fails : 0 < n → (w % 2 ≡ 1 → ⊥) → all_zero (part s at size) ≡ false → free_zero s size at n w ≡ false
  free_fails l b z = free_step l ∙ rw (ne_eqb (w % 2) 1 b, z)

  -- no slot is left
  pub free_end : n ≤ 0 → free_zero s size at n w ≡ true
  unfolding free_zero
  free_end l = let e : n ≡ 0 = omega arith in rw e

module _ (u : TableRule) (s : Octets) (size : ℕ) (e : size ≡ u.size) (at n w : ℕ) where
  -- the record here keeps its rule, if its checks pass
  record_is : at + size ≤ length s → record_ok u (part s at size) ≡ passes (u.checks (part s at u.size))
  unfolding record_ok
  record_is h = rw (length_part s at size h, e, eq-eqb u.size u.size refl)

  -- Whether all records from a slot on keep their rule, by that slot:

  -- in use, and its record is fine
  pub every_used : 0 < n → w % 2 ≡ 1 → at + size ≤ length s → passes (u.checks (part s at u.size)) ≡ true
      → every (record_ok u) (records_at s size (at + size) (n - 1) (w / 2)) ≡ every (record_ok u) (records_at s size at n w)
  unfolding every
  every_used l b h p = sym (rw (used_slot s size at n w l b, record_is h, p))

  -- in use, and its record is not
  pub every_fails : 0 < n → w % 2 ≡ 1 → at + size ≤ length s → passes (u.checks (part s at u.size)) ≡ false
      → false ≡ every (record_ok u) (records_at s size at n w)
  unfolding every
  every_fails l b h p = sym (rw (used_slot s size at n w l b, record_is h, p))

  -- free
  pub every_free : 0 < n → (w % 2 ≡ 1 → ⊥) → every (record_ok u) (records_at s size (at + size) (n - 1) (w / 2)) ≡ every (record_ok u) (records_at s size at n w)
  every_free l b = sym (rw (free_slot s size at n w l b))

  -- no slot is left
  pub every_end : n ≤ 0 → true ≡ every (record_ok u) (records_at s size at n w)
  unfolding every
  every_end l = sym (rw (no_more s size at n w l))

-- 4. Support --------------------------------------------------------------------------------------------------------------------------------

module _ (k n : ℕ) (f : Hardware) (e : f.supported ≡ n) where
  -- Whether a controller supports the records of a table:

  -- link keys need BR/EDR
  pub needs_bredr_lem : k ≡ 1 → eqb (n / 128 % 2) 1 ≡ passes ((rule_at k).support f)
  unfolding link_key_rule needs_bredr bredr_supported bit
  needs_bredr_lem h = sym (rw (rule1 k h, one_check, e, twice_not))

  -- long term keys need LE
  pub needs_le_lem : k ≡ 2 → eqb (n / 512 % 2) 1 ≡ passes ((rule_at k).support f)
  unfolding long_term_key_rule needs_le le_supported bit
  needs_le_lem h = sym (rw (rule2 k h, one_check, e, twice_not))

  -- and so do identity resolving keys
  pub needs_le_too : k ≡ 3 → eqb (n / 512 % 2) 1 ≡ passes ((rule_at k).support f)
  unfolding identity_key_rule needs_le le_supported bit
  needs_le_too h = sym (rw (rule3 k h, one_check, e, twice_not))

  -- the other tables need nothing
  pub needs_none : k < 6 → (k ≡ 1 → ⊥) → (k ≡ 2 → ⊥) → (k ≡ 3 → ⊥) → true ≡ passes ((rule_at k).support f)
  unfolding rule_at table_rules uuid_rule blocked_rule device_rule needs_nothing passes first_of no_reason
  needs_none l a b d = go k refl
    where
      go : (j : ℕ) → k ≡ j → true ≡ passes ((rule_at j).support f)
      go zero q = refl
      go (suc zero) q = absurd (a q)
      go (suc (suc zero)) q = absurd (b q)
      go (suc (suc (suc zero))) q = absurd (d q)
      go (suc (suc (suc (suc zero)))) q = refl
      go (suc (suc (suc (suc (suc zero))))) q = refl
      go (suc (suc (suc (suc (suc (suc j)))))) q = absurd (omega arith)
