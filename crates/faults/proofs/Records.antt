-- The records of a key list where they lie in the parameters: their checks, over the octets there, and the step from record to record.
use Prim.Native.Nat.{ℕ, zero, suc, ◌+◌, ◌-◌, ◌*◌, ◌≤◌, ◌<◌}
use native.Mathlib.Omega.{arith}
use native.Mathlib.Nat.{mul-suc}
use Rattle.std.proofs.Math.Nat.{mul-le-mul_left}
use Rattle.std.specs.Prelude.{Ok}
use mathlib.Core.Path.{◌≡◌, sym, ◌∙◌}
use mathlib.Core.Bool.{Bool, ◌&&◌, ◌||◌, not}
use mathlib.Core.List.{[], ◌∷◌}
use lib.ListN.{get_or}
use lib.Seq.{drop-drop}
use lib.Dec.{eqb, ltb}
use Rattle.model.specs.Octets.{Octets, octet}
use Rattle.model.specs.declared.Place.TheVariants.{InRecord}
use Rattle.model.specs.declared.Reason.{Reason}
use Rattle.model.specs.declared.Reason.TheVariants.{AddressNotStaticRandom, AddressTypeNotBredr, AddressTypeNotLe, KeySizeNot7To16}
use Rattle.model.specs.declared.Reason.TheVariants.{KeyTypeAbove4, KeyTypeAbove8, MasterAbove1}
use Rattle.model.specs.State.{static_random}
use Rattle.model.specs.Reasons.{Check, further, in_record, moved}
use Rattle.model.specs.Tables.{TableRule, chop, identity_key_rule, le_address_checks, link_key_rule, long_term_key_rule, rule_at}
use Rattle.model.specs.Immediate.{record_checks}
use Rattle.octets.specs.Parts.{part}
use Rattle.octets.proofs.Parts.{get_d_part}
use Rattle.rules.proofs.Addresses.{static_of}
use Rattle.why.specs.Findings.{Finding, and_then, first_wrong, in_packet}
use Rattle.why.proofs.Orders.{check_steps, packet_append, moved_append}
use Rattle.faults.specs.Faults.{address_fault, record_fault, records_fault}

-- 1. One record -----------------------------------------------------------------------------------------------------------------------------

-- a check of a value in record j, by its octet in the parameters
abbrev pub refused_in : ℕ → ℕ → Bool → Reason → Check
refused_in j n b r = record { fails = b; reason = r; place = InRecord j (6 + n) }

module _ (ps : Octets) (at j : ℕ) where
  -- the checks of a link key, over the octets of the parameters
  pub link_is : record_fault link_key_rule ps at j
      ≡ first_wrong (refused_in j (at + 6) (not (eqb (get_or ps (at + 6) 0) 0)) AddressTypeNotBredr
      ∷ refused_in j (at + 7) (ltb 8 (get_or ps (at + 7) 0)) KeyTypeAbove8
      ∷ [])
  unfolding record_fault link_key_rule in_packet moved further in_record octet
  link_is = rw (get_d_part ps at 25 6 (omega arith), get_d_part ps at 25 7 (omega arith))

  -- those of an address, of a record of any size from 7 on
  address_of_lem : (n : ℕ) → 7 ≤ n → le_address_checks (part ps at n) ≡ le_address_checks (part ps at 7)
  unfolding le_address_checks octet
  address_of_lem n l =
      rw (
        get_d_part ps at n 6 (omega arith),
        get_d_part ps at 7 6 (omega arith),
        static_of ps at n (omega arith),
        static_of ps at 7 (omega arith),
      )

  -- the same, one by one
  pub address_is : address_fault ps at j
      ≡ first_wrong (refused_in j (at + 6) (not (eqb (get_or ps (at + 6) 0) 1 || eqb (get_or ps (at + 6) 0) 2)) AddressTypeNotLe
      ∷ refused_in j (at + 6) (eqb (get_or ps (at + 6) 0) 2 && not (static_random (part ps at 6))) AddressNotStaticRandom
      ∷ [])
  unfolding address_fault le_address_checks in_packet moved further in_record octet
  address_is = rw (get_d_part ps at 7 6 (omega arith), static_of ps at 7 (omega arith))

  -- an identity key has no others
  pub identity_is : record_fault identity_key_rule ps at j ≡ address_fault ps at j
  unfolding record_fault identity_key_rule address_fault
  identity_is = rw (address_of_lem 23 (omega arith))

  -- a long term key has three more
  pub long_term_is : record_fault long_term_key_rule ps at j
      ≡ and_then (address_fault ps at j) (first_wrong (refused_in j (at + 7) (ltb 4 (get_or ps (at + 7) 0)) KeyTypeAbove4
      ∷ refused_in j (at + 8) (ltb 1 (get_or ps (at + 8) 0)) MasterAbove1
      ∷ refused_in j (at + 9) (ltb (get_or ps (at + 9) 0) 7 || ltb 16 (get_or ps (at + 9) 0)) KeySizeNot7To16
      ∷ []))
  unfolding record_fault long_term_key_rule address_fault in_packet moved further in_record octet
  long_term_is =
      rw (
        address_of_lem 36 (omega arith),
        moved_append (in_record j at) (le_address_checks (part ps at 7)),
        packet_append (moved (in_record j at) (le_address_checks (part ps at 7))),
        get_d_part ps at 36 7 (omega arith),
        get_d_part ps at 36 8 (omega arith),
        get_d_part ps at 36 9 (omega arith),
      )

-- 2. From record to record ------------------------------------------------------------------------------------------------------------------

-- the first record, and the rest
records_cons : (k : ℕ) (ps : Octets) (at j n : ℕ) → 0 < n
    → records_fault k ps at j n ≡ and_then (record_fault (rule_at k) ps at j) (records_fault k ps (at + (rule_at k).size) (j + 1) (n - 1))
unfolding records_fault record_fault chop record_checks part
records_cons k ps at j zero l = absurd (omega arith)
records_cons k ps at j (suc n) l =
    let e : suc n - 1 ≡ n = omega arith in
    let z : j + 1 ≡ suc j = omega arith in
    rw (e, z, packet_append (moved (in_record j at) ((rule_at k).checks (part ps at (rule_at k).size))), drop-drop (rule_at k).size at ps)

-- before a turn of the loop: what is wrong from record j on is what is wrong in all
abbrev pub Rest : (k : ℕ) (ps : Octets) (from n j : ℕ) → Type 0
Rest k ps from n j = records_fault k ps (from + (rule_at k).size * j) j (n - j) ≡ records_fault k ps from 0 n

-- record j of n lies within
pub within : (size from j n end : ℕ) → j < n → from + size * n ≤ end → from + size * j + size ≤ end
within size from j n end l h =
    let m : size * suc j ≤ size * n = mul-le-mul_left size (omega arith) in
    omega (arith, mul-suc size j)

module _ (k : ℕ) (ps : Octets) (from n j : ℕ) where
  -- no record is left
  pub rest_ends : n ≤ j → Rest k ps from n j → Ok tt ≡ records_fault k ps from 0 n
  unfolding records_fault chop record_checks in_packet moved first_wrong
  rest_ends l r = let e : n - j ≡ 0 = omega arith in rw e at r

  -- record j, and the rest
  pub rest_goes : j < n → Rest k ps from n j
      → and_then (record_fault (rule_at k) ps (from + (rule_at k).size * j) j) (records_fault k ps (from + (rule_at k).size * (j + 1)) (j + 1) (n - (j + 1)))
      ≡ records_fault k ps from 0 n
  rest_goes l r =
      let e : n - j - 1 ≡ n - (j + 1) = omega arith in
      let p : from + (rule_at k).size * j + (rule_at k).size ≡ from + (rule_at k).size * (j + 1) = omega (arith, mul-suc (rule_at k).size j) in
      rw (← e, ← p) (sym (records_cons k ps (from + (rule_at k).size * j) j (n - j) (omega arith)) ∙ r)

-- what is found in a record is told by its number, whatever that is reckoned from
pub counted : (u : TableRule) (ps : Octets) (at i j : ℕ) (f : Finding) → f ≡ record_fault u ps at i → i ≡ j → f ≡ record_fault u ps at j
counted u ps at i j f e n = rw n at e

-- the checks of a record, made one after the other
pub ruleset steps = (check_steps, link_is, address_is, long_term_is)
