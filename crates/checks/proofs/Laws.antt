-- Laws that the proofs of this crate cite, over plain lists and numbers.
use Prim.Native.Nat.{ℕ, zero, suc, ◌+◌, ◌-◌, ◌*◌, ◌/◌, ◌%◌, ◌^◌, ◌<◌, ◌≤◌}
use native.Mathlib.Omega.{arith}
use native.Mathlib.Nat.{pow-suc}
use native.Mathlib.Numerals.{add-one}
use mathlib.Core.Path.{◌≡◌, refl, sym, ◌∙◌}
use mathlib.Core.Bool.{Bool, true, false, ◌&&◌}
use mathlib.Core.List.{[], ◌∷◌}
use mathlib.Core.Option.{none, some}
use lib.ListN.{length, get_or, take, drop, drop_of_length-le}
use lib.Seq.{drop-cons, take-take}
use lib.Bits.{bit_or, and_le_r, or_add_and, or_zero_l}
use lib.Dec.{eqb, ltb}
use borrow.Author.Tests.{eq-eqb, ne_eqb, eqb-true, eqb-false, le-leb, lt-leb, le-ltb, lt-ltb}
use Rattle.model.specs.Codes as Codes
use Rattle.model.specs.Lengths as Lengths
use Rattle.model.specs.declared.Hardware.{Hardware}
use Rattle.model.specs.declared.RadioSettings.{RadioSettings}
use Rattle.model.specs.declared.Settings.{Settings}
use Rattle.model.specs.Octets.{Octets, all_zero, octet, u16, u32}
use Rattle.model.specs.State.{name_ends, settings_of, short_name_ends}
use Rattle.model.specs.Reasons.{passes}
use Rattle.model.specs.Tables.{TableRule, chop, distinct, empty, entries, every, records_ok, support_ok, table_rules, uuid_rule}
use Rattle.model.specs.Image.{name_ok, radio_ok}
use Rattle.model.specs.Layout.{slots_back}
use Rattle.model.specs.Tables.{rule_at}
use Rattle.model.proofs.Model.Tests.{and_true, or_true, and_off}
use Rattle.model.specs.Rules.{set_bredr, set_connectable, set_discoverable, set_low_energy, set_powered}
use Rattle.layout.specs.Places.{base, controller_of, place_of, present_at, sizes}
use Rattle.layout.proofs.Reading.{name_at}
use Rattle.octets.specs.Parts.{part, place_at}
use Rattle.octets.proofs.Parts.{get_d_part, length_part}
use Rattle.rules.specs.declared.Decision.{Decision}
use Rattle.rules.specs.Decisions.{decision, is_started, settings_ok}
use Rattle.checks.proofs.Tests.{and_on}
use Rattle.checks.specs.Settings.{flags_octets_ok}
use Rattle.checks.specs.Advertising.{advertising_octets_ok}
use Rattle.checks.specs.Present.{block_at, controller_octets_ok}
use Rattle.checks.proofs.Slots.{zero_rest}
use Rattle.checks.specs.Tables.{table_octets_ok, tables_octets_ok}
use Rattle.checks.proofs.Tables.{drop_part, total, assoc}
use Rattle.records.specs.Slots.{free_zero, records_at}
use Rattle.records.proofs.Slots.{no_slots}
use Rattle.table.specs.Slots.{table_at}
use Rattle.checks.specs.Open.{open_octets_ok, started_octets_ok}
use Rattle.checks.proofs.Open.{fine_bredr, fine_connectable, fine_discoverable, fine_low_energy, fine_none, fine_other, fine_powered, fine_some}
use Rattle.layout.proofs.Tables.{rules_six}

-- a test of the code, as the model's test
pub ruleset tests = (eq-eqb, ne_eqb, le-leb, lt-leb, le-ltb, lt-ltb)

-- 1. Zeros ------------------------------------------------------------------------------------------------------------------------------------

-- two octets joined by or are zero if both are
pub or_zero : (a b : ℕ) → eqb (bit_or a b) 0 ≡ eqb a 0 && eqb b 0
or_zero a b = go (eqb a 0) refl
  where
    go : (x : Bool) → eqb a 0 ≡ x → eqb (bit_or a b) 0 ≡ x && eqb b 0
    go true e = let z : a ≡ 0 = eqb-true a 0 e in rw (z, or_zero_l)
    go false e =
        let n = eqb-false a 0 e in
        ne_eqb (bit_or a b) 0 (λ q. n (omega (arith, or_add_and a b, and_le_r a b)))

-- what is joined so far and what is left
pub blank_turn : (s : Octets) (i joined : ℕ) → i < length s
    → eqb (bit_or joined (get_or s i 0)) 0 && all_zero (drop (i + 1) s) ≡ eqb joined 0 && all_zero (drop i s)
unfolding all_zero
blank_turn s i joined l =
    rw (or_zero joined (get_or s i 0), drop-cons s i 0 l, add-one) (assoc (eqb joined 0) (eqb (get_or s i 0) 0) (all_zero (drop (suc i) s)))

-- after the last turn nothing is left, and what is joined tells
pub blank_last : (s : Octets) (i joined : ℕ) → length s ≤ i → eqb joined 0 ≡ eqb joined 0 && all_zero (drop i s)
unfolding all_zero
blank_last s i joined l = rw (drop_of_length-le s {i = i} l) (sym (and_on (eqb joined 0)))

-- a lent part is zero exactly if the part of the same octets is
pub lent_zero : (s : Octets) (a z n : ℕ) → z ≡ a + n → all_zero (take (z - a) (drop a s)) ≡ all_zero (part s a n)
unfolding part
lent_zero s a z n e = let f : z - a ≡ n = omega arith in rw f

-- 2. Places -----------------------------------------------------------------------------------------------------------------------------------

-- the open command lies behind the first octet of a block
pub place_one : (i : ℕ) → place_of i 1 ≡ base i + 1
unfolding place_of place_at sizes
place_one i = refl

-- the names' last octets, where they lie
pub name_is : (s : Octets) (i at : ℕ) → at ≡ place_of i 4 → name_ok (controller_of s i).host.name ≡ eqb (get_or s (at + 248) 0) 0 && eqb (get_or s (at + 259) 0) 0
unfolding name_ok name_ends short_name_ends octet
name_is s i at e = rw (e, ← name_at s i, get_d_part s (place_of i 4) 260 248 (omega arith), get_d_part s (place_of i 4) 260 259 (omega arith))

-- 3. The open command -------------------------------------------------------------------------------------------------------------------------

-- nothing under way
pub opens_none : (x : RadioSettings) (s : Octets) (at code : ℕ) → code ≡ u16 s at → code ≡ 0
    → all_zero (part s (at + 2) 3) ≡ open_octets_ok x (u16 s at) (part s (at + 2) 3)
opens_none x s at code e z = sym (fine_none x (u16 s at) (part s (at + 2) 3) (sym e ∙ z))

module _ (x : RadioSettings) (s : Octets) (at code : ℕ) (e : code ≡ u16 s at) (n : code ≡ 0 → ⊥) (h : at + 5 ≤ length s) where
  -- three octets lie where the parameters are
  three : length (part s (at + 2) 3) ≡ 3
  three = length_part s (at + 2) 3 (omega arith)

  -- the parameters as they are lent
  all_lent : take (at + 5 - (at + 2)) (drop (at + 2) s) ≡ part s (at + 2) 3
  unfolding part
  all_lent = let q : at + 5 - (at + 2) ≡ 3 = omega arith in rw q

  -- the first of them alone, as it is lent
  first_lent : take (at + 3 - (at + 2)) (drop (at + 2) s) ≡ take 1 (part s (at + 2) 3)
  unfolding part
  first_lent = let q : at + 3 - (at + 2) ≡ 1 = omega arith in rw q (sym (take-take 1 3 (drop (at + 2) s) (omega arith)))

  -- the two octets behind the first
  rest : drop 1 (part s (at + 2) 3) ≡ part s (at + 3) 2
  rest = let q : at + 2 + 1 ≡ at + 3 = omega arith in drop_part s (at + 2) 1 2 ∙ rw q

  -- as the code is not zero, the test is that of a command that would be started
  fine : started_octets_ok x code (part s (at + 2) 3) ≡ open_octets_ok x (u16 s at) (part s (at + 2) 3)
  fine = rw (← e) (sym (fine_some x code (part s (at + 2) 3) n))

  -- Set Discoverable uses all three: it is fine exactly if it would wait for the radio
  pub opens_discoverable : code ≡ Codes.set_discoverable → (d : Decision) → d ≡ decision set_discoverable x (take (at + 5 - (at + 2)) (drop (at + 2) s))
      → is_started d ≡ open_octets_ok x (u16 s at) (part s (at + 2) 3)
  opens_discoverable q d f = rw (f, all_lent) (sym (fine_discoverable x (part s (at + 2) 3) three code q) ∙ fine)

  -- one parameter octet, and zeros behind it
  module _ (z : all_zero (part s (at + 3) 2) ≡ true) where
    -- Set Powered is fine exactly if it would wait for the radio
    pub opens_powered : code ≡ Codes.set_powered → (d : Decision) → d ≡ decision set_powered x (take (at + 3 - (at + 2)) (drop (at + 2) s))
        → is_started d ≡ open_octets_ok x (u16 s at) (part s (at + 2) 3)
    opens_powered q d f =
        rw (f, first_lent) (sym (fine_powered x (part s (at + 2) 3) three code q
        ∙ rw (rest, z) (and_on (is_started (decision set_powered x (take 1 (part s (at + 2) 3)))))) ∙ fine)

    -- the same, of Set Connectable
    pub opens_connectable : code ≡ Codes.set_connectable → (d : Decision) → d ≡ decision set_connectable x (take (at + 3 - (at + 2)) (drop (at + 2) s))
        → is_started d ≡ open_octets_ok x (u16 s at) (part s (at + 2) 3)
    opens_connectable q d f =
        rw (f, first_lent) (sym (fine_connectable x (part s (at + 2) 3) three code q
        ∙ rw (rest, z) (and_on (is_started (decision set_connectable x (take 1 (part s (at + 2) 3)))))) ∙ fine)

    -- the same, of Set Low Energy
    pub opens_low_energy : code ≡ Codes.set_low_energy → (d : Decision) → d ≡ decision set_low_energy x (take (at + 3 - (at + 2)) (drop (at + 2) s))
        → is_started d ≡ open_octets_ok x (u16 s at) (part s (at + 2) 3)
    opens_low_energy q d f =
        rw (f, first_lent) (sym (fine_low_energy x (part s (at + 2) 3) three code q
        ∙ rw (rest, z) (and_on (is_started (decision set_low_energy x (take 1 (part s (at + 2) 3)))))) ∙ fine)

    -- the same, of Set BR/EDR
    pub opens_bredr : code ≡ Codes.set_bredr → (d : Decision) → d ≡ decision set_bredr x (take (at + 3 - (at + 2)) (drop (at + 2) s))
        → is_started d ≡ open_octets_ok x (u16 s at) (part s (at + 2) 3)
    opens_bredr q d f =
        rw (f, first_lent) (sym (fine_bredr x (part s (at + 2) 3) three code q
        ∙ rw (rest, z) (and_on (is_started (decision set_bredr x (take 1 (part s (at + 2) 3)))))) ∙ fine)

  -- no other command waits
  pub opens_other : (code ≡ Codes.set_discoverable → ⊥) → (code ≡ Codes.set_powered → ⊥) → (code ≡ Codes.set_connectable → ⊥)
      → (code ≡ Codes.set_low_energy → ⊥) → (code ≡ Codes.set_bredr → ⊥) → false ≡ open_octets_ok x (u16 s at) (part s (at + 2) 3)
  opens_other a b c d e = sym (fine_other x (part s (at + 2) 3) code b a c d e) ∙ fine

  -- and none of one parameter octet has others behind it
  pub opens_more : (code ≡ Codes.set_discoverable → ⊥) → all_zero (part s (at + 3) 2) ≡ false → false ≡ open_octets_ok x (u16 s at) (part s (at + 2) 3)
  opens_more a z = five (eqb code Codes.set_powered) refl
    where
      forty_two : (y : Bool) → eqb code Codes.set_bredr ≡ y → (code ≡ Codes.set_powered → ⊥) → (code ≡ Codes.set_connectable → ⊥)
          → (code ≡ Codes.set_low_energy → ⊥) → false ≡ open_octets_ok x (u16 s at) (part s (at + 2) 3)
      forty_two true q b c d =
          sym (fine_bredr x (part s (at + 2) 3) three code (eqb-true code 42 q)
          ∙ rw (rest, z) (and_off (is_started (decision set_bredr x (take 1 (part s (at + 2) 3)))))) ∙ fine
      forty_two false q b c d = opens_other a b c d (eqb-false code 42 q)

      thirteen : (y : Bool) → eqb code Codes.set_low_energy ≡ y → (code ≡ Codes.set_powered → ⊥) → (code ≡ Codes.set_connectable → ⊥)
          → false ≡ open_octets_ok x (u16 s at) (part s (at + 2) 3)
      thirteen true q b c =
          sym (fine_low_energy x (part s (at + 2) 3) three code (eqb-true code 13 q)
          ∙ rw (rest, z) (and_off (is_started (decision set_low_energy x (take 1 (part s (at + 2) 3)))))) ∙ fine
      thirteen false q b c = forty_two (eqb code Codes.set_bredr) refl b c (eqb-false code 13 q)

      seven : (y : Bool) → eqb code Codes.set_connectable ≡ y → (code ≡ Codes.set_powered → ⊥) → false ≡ open_octets_ok x (u16 s at) (part s (at + 2) 3)
      seven true q b =
          sym (fine_connectable x (part s (at + 2) 3) three code (eqb-true code 7 q)
          ∙ rw (rest, z) (and_off (is_started (decision set_connectable x (take 1 (part s (at + 2) 3)))))) ∙ fine
      seven false q b = thirteen (eqb code Codes.set_low_energy) refl b (eqb-false code 7 q)

      five : (y : Bool) → eqb code Codes.set_powered ≡ y → false ≡ open_octets_ok x (u16 s at) (part s (at + 2) 3)
      five true q =
          sym (fine_powered x (part s (at + 2) 3) three code (eqb-true code 5 q)
          ∙ rw (rest, z) (and_off (is_started (decision set_powered x (take 1 (part s (at + 2) 3)))))) ∙ fine
      five false q = seven (eqb code Codes.set_connectable) refl (eqb-false code 5 q)

-- 4. Tables -----------------------------------------------------------------------------------------------------------------------------------

-- a word that is not zero and has no bit above the lowest has the lowest
odd_one : (w : ℕ) → (w ≡ 0 → ⊥) → w / 2 ≡ 0 → w % 2 ≡ 1
odd_one zero z q = absurd (z refl)
odd_one (suc zero) z q = refl
odd_one (suc (suc w)) z q = absurd (omega arith)

-- so a table has a record if its word is not zero and sets no bit past its slots
some_used : (size n w : ℕ) (o : Octets) → (w ≡ 0 → ⊥) → w < 2 ^ n → empty (entries (slots_back w (chop size n o))) ≡ false
unfolding empty entries slots_back chop
some_used size zero w o z l = absurd (z (omega arith))
some_used size (suc n) w o z l =
    let m : w < 2 ^ n * 2 = rw pow-suc at l in
    go (eqb (w % 2) 1) refl (λ y. some_used size n (w / 2) (drop size o) y (omega arith))
  where
    go : (b : Bool) → eqb (w % 2) 1 ≡ b → ((w / 2 ≡ 0 → ⊥) → empty (entries (slots_back (w / 2) (chop size n (drop size o)))) ≡ false)
        → empty (entries (elim b [ true ↦ some (take size o) | false ↦ none ] ∷ slots_back (w / 2) (chop size n (drop size o)))) ≡ false
    go true e i = refl
    go false e i = let d = eqb-false (w % 2) 1 e in i (λ q. d (odd_one w z q))

module _ (u : TableRule) (f : Hardware) (s : Octets) (at w : ℕ) (q : w ≡ u32 s at) where
  -- the records of the table that lies there
  records_are : entries (table_at s at u.size) ≡ records_at s u.size (at + 4) 32 w
  unfolding table_at
  records_are = rw q

  -- no slot is in use: then all are zero
  pub table_empty : w ≡ 0 → all_zero (part s (at + 4) (u.size * 32)) ≡ table_octets_ok u f s at
  unfolding table_octets_ok records_ok support_ok every distinct empty
  table_empty v =
      let r : records_at s u.size (at + 4) 32 w ≡ [] = rw v (no_slots u.size 32 (drop (at + 4) s)) in
      let z : free_zero s u.size (at + 4) 32 (u32 s at) ≡ all_zero (part s (at + 4) (u.size * 32)) = rw (← q, v) (sym (zero_rest s u.size (at + 4) 32)) in
      sym (rw (records_are, r, z))

  -- its records need support that there is not
  pub table_unsupported : (w ≡ 0 → ⊥) → w < 4294967296 → passes (u.support f) ≡ false → false ≡ table_octets_ok u f s at
  unfolding table_octets_ok support_ok
  table_unsupported v l p =
      let r : empty (records_at s u.size (at + 4) 32 w) ≡ false = some_used u.size 32 w (drop (at + 4) s) v l in
      sym (rw (records_are, r, p) (and_off (records_ok u (records_at s u.size (at + 4) 32 w))))

  -- else its slots tell
  pub table_told : passes (u.support f) ≡ true
      → free_zero s u.size (at + 4) 32 w && records_ok u (records_at s u.size (at + 4) 32 w) ≡ table_octets_ok u f s at
  unfolding table_octets_ok support_ok
  table_told p =
      sym (rw (records_are, p, or_true (empty (records_at s u.size (at + 4) 32 w)), ← q)
      (swapped (records_ok u (records_at s u.size (at + 4) 32 w)) (free_zero s u.size (at + 4) 32 w)))
    where
      swapped : (a b : Bool) → a && b ≡ b && a
      swapped true true = refl
      swapped true false = refl
      swapped false true = refl
      swapped false false = refl

-- the rule of table k, and those of the tables behind it
rules_from : (k : ℕ) → k < 6 → drop k table_rules ≡ rule_at k ∷ drop (k + 1) table_rules
unfolding rule_at
rules_from k l = rw add-one (drop-cons table_rules k uuid_rule (rw rules_six l))

-- table k and those behind it
module _ (s : Octets) (at k : ℕ) (l : k < 6) where
  -- if they fit before an end, those behind table k fit from its own end on
  pub tables_room : (end : ℕ) → at + total (drop k table_rules) ≤ end → at + (4 + (rule_at k).size * 32) + total (drop (k + 1) table_rules) ≤ end
  unfolding total
  tables_room end h = let g : at + total (rule_at k ∷ drop (k + 1) table_rules) ≤ end = rw (rules_from k l) at h in omega arith

  -- they are fine if table k is, and those behind it are from its end on
  next : (f : Hardware) → tables_octets_ok f (drop k table_rules) s at ≡ table_octets_ok (rule_at k) f s at
      && tables_octets_ok f (drop (k + 1) table_rules) s (at + (4 + (rule_at k).size * 32))
  unfolding tables_octets_ok
  next f = rw (rules_from k l)

  -- where table k is fine, those behind it tell
  pub tables_turn : (f : Hardware) → table_octets_ok (rule_at k) f s at ≡ true
      → tables_octets_ok f (drop (k + 1) table_rules) s (at + (4 + (rule_at k).size * 32)) ≡ tables_octets_ok f (drop k table_rules) s at
  tables_turn f e = sym (next f ∙ rw e)

  -- where table k is not fine, none behind it can mend that
  pub tables_fails : (f : Hardware) → table_octets_ok (rule_at k) f s at ≡ false → false ≡ tables_octets_ok f (drop k table_rules) s at
  tables_fails f e = sym (next f ∙ rw e)

-- past the sixth table nothing is left to test
pub tables_end : (f : Hardware) (s : Octets) (at k : ℕ) → 6 ≤ k → true ≡ tables_octets_ok f (drop k table_rules) s at
unfolding tables_octets_ok
tables_end f s at k h = let e : drop k table_rules ≡ [] = drop_of_length-le table_rules {i = k} (rw rules_six h) in sym (rw e)

-- 5. Blocks -----------------------------------------------------------------------------------------------------------------------------------

-- the test of a present block, from its place and its settings
pub fine_by : (s : Octets) (i b : ℕ) (m : Settings) → b ≡ base i → m ≡ settings_of (controller_of s i)
    → controller_octets_ok s i
    ≡ radio_ok m.radio
    && (settings_ok m
    && (name_ok (controller_of s i).host.name
    && (flags_octets_ok s b
    && (open_octets_ok m.radio (u16 s (b + 1)) (part s (b + 1 + 2) 3)
    && (tables_octets_ok m.radio.hardware table_rules s (b + 293)
    && advertising_octets_ok m.radio.low_energy m.radio.powered s (b + 4029))))))
unfolding controller_octets_ok settings_of
fine_by s i b m e f = rw (e, f)

-- the first octet of a block says whether a controller is there
pub present_one : (s : Octets) (i : ℕ) → present_at s i ≡ true → get_or s (base i) 0 ≡ 1
unfolding present_at
present_one s i e = eqb-true (get_or s (base i) 0) 1 (and_true (ltb i 4) _ e).1

-- it is not 1 where no controller is there
pub absent_other : (s : Octets) (i : ℕ) → i < 4 → present_at s i ≡ false → get_or s (base i) 0 ≡ 1 → ⊥
unfolding present_at
absent_other s i l e = eqb-false (get_or s (base i) 0) 1 (rw (lt-ltb i 4 l) at e)

-- zeros from the place of the block on
pub blank_block : (s : Octets) (i b : ℕ) → b ≡ base i → all_zero (part s b Lengths.block) ≡ all_zero (block_at s i)
blank_block s i b e = rw e
