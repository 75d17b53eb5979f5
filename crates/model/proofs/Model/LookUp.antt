-- What a look-up tells: the slot of the first match, how far the walk goes, and what a host is told of both.
use Rattle.std.specs.Prelude.{ℕ, zero, suc, ◌/◌, ◌%◌, ◌≤◌, ◌<◌, ◌≡◌, refl, Bool, true, false, ◌&&◌, ◌||◌, [], ◌∷◌, length, get_or, take, eqb, ltb}
use Rattle.std.proofs.Common.{arith, ap, sym, ◌∙◌, ltb→lt}
use Rattle.std.proofs.Math.Option.{Option, none, some}
use Rattle.std.proofs.lemmas.Bool.{eqb-false}
use Rattle.model.specs.Octets.{Octets, octet}
use Rattle.model.specs.State.{Controller, Table, controller_at, table_of}
use Rattle.model.specs.Tables.{any, begins, entries, holds, long_term_keys, rule_at, table_rules}
use Rattle.model.specs.Tables.{blocked_rule, device_rule, identity_key_rule, link_key_rule, long_term_key_rule, uuid_rule}
use Rattle.model.specs.LookUp.{first_at, key_length, look_up, up_to_last, walked}
use Rattle.model.specs.WellFormed.{controller_ok}
use Rattle.model.specs.Layout.{decode}
use Rattle.model.specs.Meanings.{LookUpReply, hub_look_up, look_up_out, told_look_up, refused_look_up, state_ok}
use Rattle.model.specs.Written.{LookUpAnswer, told, bad_state, wrong}
use Rattle.model.proofs.Model.Demand3.{state_well}
use Rattle.model.proofs.Model.Keeps.{well_fit}
use Rattle.model.proofs.Model.Parts.{table_ok_lem}
use Rattle.model.proofs.Model.Stays.{controller_ok_lem}
use Rattle.model.proofs.Model.Tables.{table_fit}
use Rattle.model.proofs.Model.Tests.{and_true, either, equal, no_way}

-- The slot ------------------------------------------------------------------------------------------------------------------------------------

-- the first slot that matches is at most the number of slots
pub first_le : (m : Octets → Bool) (t : Table) → first_at m t ≤ length t
unfolding first_at
first_le m [] = omega arith
first_le m (none ∷ t) = omega (arith, first_le m t)
first_le m (some r ∷ t) = either (λ k. k ≤ suc (length t)) (m r) (λ q. omega arith) (λ q. omega (arith, first_le m t))

-- where none matches it is the number of slots
pub first_of_none : (m : Octets → Bool) (t : Table) → holds m t ≡ false → first_at m t ≡ length t
unfolding first_at holds entries any
first_of_none m [] e = refl
first_of_none m (none ∷ t) e = ap suc (first_of_none m t e)
first_of_none m (some r ∷ t) e = go (m r) e (λ q. first_of_none m t q)
  where
    go : (b : Bool) → b || any m (entries t) ≡ false → (any m (entries t) ≡ false → first_at m t ≡ length t)
        → elim b [ true ↦ 0 | false ↦ suc (first_at m t) ] ≡ suc (length t)
    go true e f = no_way e
    go false e f = ap suc (f e)

-- where one does, it holds a record that matches
pub first_matches : (m : Octets → Bool) (t : Table) → holds m t ≡ true → (r : Octets) × (get_or t (first_at m t) none ≡ some r) × (m r ≡ true)
unfolding first_at holds entries any
first_matches m [] e = no_way (sym e)
first_matches m (none ∷ t) e = first_matches m t e
first_matches m (some r ∷ t) e = go (m r) refl e (λ q. first_matches m t q)
  where
    go : (b : Bool) → m r ≡ b → b || any m (entries t) ≡ true
        → (any m (entries t) ≡ true → (x : Octets) × (get_or t (first_at m t) none ≡ some x) × (m x ≡ true))
        → (x : Octets) × (get_or (some r ∷ t) (elim b [ true ↦ 0 | false ↦ suc (first_at m t) ]) none ≡ some x) × (m x ≡ true)
    go true q e f = (r, refl, q)
    go false q e f = f e

-- so it is one of the slots
first_lt : (m : Octets → Bool) (t : Table) → holds m t ≡ true → first_at m t < length t
unfolding first_at holds entries any
first_lt m [] e = no_way (sym e)
first_lt m (none ∷ t) e = omega (arith, first_lt m t e)
first_lt m (some r ∷ t) e = go (m r) e (λ q. first_lt m t q)
  where
    go : (b : Bool) → b || any m (entries t) ≡ true → (any m (entries t) ≡ true → first_at m t < length t)
        → elim b [ true ↦ 0 | false ↦ suc (first_at m t) ] < suc (length t)
    go true e f = omega arith
    go false e f = omega (arith, f e)

-- and no record before it does
pub none_before_first : (m : Octets → Bool) (t : Table) → holds m (take (first_at m t) t) ≡ false
unfolding first_at holds entries any
none_before_first m [] = refl
none_before_first m (none ∷ t) = none_before_first m t
none_before_first m (some r ∷ t) = go (m r) refl (none_before_first m t)
  where
    go : (b : Bool) → m r ≡ b → any m (entries (take (first_at m t) t)) ≡ false
        → any m (entries (take (elim b [ true ↦ 0 | false ↦ suc (first_at m t) ]) (some r ∷ t))) ≡ false
    go true q f = refl
    go false q f = rw q f

-- THE KEY of a table's rule, which no two of its records share, begins a record, as far as a look-up goes by it; long term keys are told apart by their Master too
pub keyed : (k : ℕ) (r : Octets) → k < 6 → (k ≡ long_term_keys → ⊥) → (rule_at k).key r ≡ take (key_length k) r
unfolding rule_at table_rules uuid_rule link_key_rule identity_key_rule blocked_rule device_rule key_length
keyed zero r l f = refl
keyed (suc zero) r l f = refl
keyed (suc (suc zero)) r l f = absurd (f refl)
keyed (suc (suc (suc zero))) r l f = refl
keyed (suc (suc (suc (suc zero)))) r l f = refl
keyed (suc (suc (suc (suc (suc zero))))) r l f = refl
keyed (suc (suc (suc (suc (suc (suc k)))))) r l f = absurd (omega arith)

-- the same of long term keys
pub keyed_by_master : (r : Octets) → (rule_at long_term_keys).key r ≡ octet r 8 ∷ take (key_length long_term_keys) r
unfolding rule_at table_rules long_term_key_rule key_length
keyed_by_master r = refl

-- The walk ------------------------------------------------------------------------------------------------------------------------------------

-- the last slot in use is one of the slots
up_to_le : (t : Table) → up_to_last t ≤ length t
unfolding up_to_last
up_to_le [] = omega arith
up_to_le (none ∷ t) = either (λ k. k ≤ suc (length t)) (eqb (up_to_last t) 0) (λ _. omega arith) (λ _. omega (arith, up_to_le t))
up_to_le (some r ∷ t) = omega (arith, up_to_le t)

-- a table with no slot in use has no records
no_last : (t : Table) → up_to_last t ≡ 0 → entries t ≡ []
unfolding up_to_last entries
no_last [] e = refl
no_last (none ∷ t) e = go (eqb (up_to_last t) 0) refl e (λ q. no_last t q)
  where
    go : (b : Bool) → eqb (up_to_last t) 0 ≡ b → ◌≡◌ {A = ℕ} (elim b [ true ↦ 0 | false ↦ suc (up_to_last t) ]) 0 → (up_to_last t ≡ 0 → entries t ≡ [])
        → entries t ≡ []
    go true q e f = f (equal (up_to_last t) 0 q)
    go false q e f = absurd (omega arith)
no_last (some r ∷ t) e = absurd (omega arith)

-- all records lie in the slots up to the last one in use
all_up_to_last : (t : Table) → entries (take (up_to_last t) t) ≡ entries t
unfolding up_to_last entries
all_up_to_last [] = refl
all_up_to_last (none ∷ t) = go (eqb (up_to_last t) 0) refl (all_up_to_last t)
  where
    go : (b : Bool) → eqb (up_to_last t) 0 ≡ b → entries (take (up_to_last t) t) ≡ entries t
        → entries (take (elim b [ true ↦ 0 | false ↦ suc (up_to_last t) ]) (none ∷ t)) ≡ entries t
    go true q f = sym (no_last t (equal (up_to_last t) 0 q))
    go false q f = f
all_up_to_last (some r ∷ t) = ap (λ l. r ∷ l) (all_up_to_last t)

-- and that slot holds one
last_holds : (t : Table) (k : ℕ) → up_to_last t ≡ suc k → (r : Octets) × (get_or t k none ≡ some r)
unfolding up_to_last
last_holds [] k e = absurd (omega arith)
last_holds (none ∷ t) k e = go (eqb (up_to_last t) 0) k refl e (λ j q. last_holds t j q)
  where
    go : (b : Bool) (k : ℕ) → eqb (up_to_last t) 0 ≡ b → elim b [ true ↦ 0 | false ↦ suc (up_to_last t) ] ≡ suc k
        → ((j : ℕ) → up_to_last t ≡ suc j → (r : Octets) × (get_or t j none ≡ some r)) → (r : Octets) × (get_or (none ∷ t) k none ≡ some r)
    go true k q e f = absurd (omega arith)
    go false zero q e f = absurd (eqb-false (up_to_last t) 0 q (omega arith))
    go false (suc k) q e f = f k (omega arith)
last_holds (some r ∷ t) zero e = (r, refl)
last_holds (some r ∷ t) (suc k) e = last_holds t k (omega arith)

-- the slots walked where a record matches
pub walked_found : (m : Octets → Bool) (t : Table) → holds m t ≡ true → walked m t ≡ suc (first_at m t)
unfolding walked
walked_found m t e = rw (e, walked)

-- and where none does
pub walked_none : (m : Octets → Bool) (t : Table) → holds m t ≡ false → walked m t ≡ up_to_last t
unfolding walked
walked_none m t e = rw (e, walked)

-- THE WALK stays in the table
pub walked_le : (m : Octets → Bool) (t : Table) → walked m t ≤ length t
unfolding walked
walked_le m t = either (λ k. k ≤ length t) (holds m t) (λ e. omega (arith, first_lt m t e)) (λ _. up_to_le t)

-- IT SEES ALL RECORDS where none matches
pub walked_all : (m : Octets → Bool) (t : Table) → holds m t ≡ false → entries (take (walked m t) t) ≡ entries t
walked_all m t e = rw (walked_none m t e) (all_up_to_last t)

-- IT ENDS WITH A SLOT IN USE
pub walk_ends : (m : Octets → Bool) (t : Table) (k : ℕ) → walked m t ≡ suc k → (r : Octets) × (get_or t k none ≡ some r)
walk_ends m t k e = go (holds m t) refl
  where
    go : (b : Bool) → holds m t ≡ b → (r : Octets) × (get_or t k none ≡ some r)
    go true q =
        let h = first_matches m t q in
        let f = walked_found m t q in
        let n : first_at m t ≡ k = omega arith in
        (h.0, rw n at h.1)
    go false q = let f = walked_none m t q in last_holds t k (sym f ∙ e)

-- What a host is told -----------------------------------------------------------------------------------------------------------------------------

-- what a look-up in a table of 32 slots is answered
looked_answered : (m : Octets → Bool) (t : Table) → length t ≡ 32 → LookUpAnswer (told_look_up (look_up m t)).answer (told_look_up (look_up m t)).extra
unfolding told_look_up look_up
looked_answered m t n = told {slot = first_at m t} {walked = walked m t} (omega (arith, first_le m t)) (omega (arith, walked_le m t))

-- what is answered, by what stands at the index
out_answered : (k : ℕ) (key : Octets) (x : Option Controller) → ((c : Controller) → x ≡ some c → controller_ok c ≡ true)
    → LookUpAnswer (look_up_out k key x).answer (look_up_out k key x).extra
unfolding look_up_out refused_look_up
out_answered k key none f = wrong
out_answered k key (some c) f =
    either {A = LookUpReply} (λ u. LookUpAnswer u.answer u.extra) (ltb k 6 && eqb (length key) (key_length k))
    (λ e. looked_answered (begins (key_length k) key) (table_of c.host k) (slots (and_true (ltb k 6) _ e).0)) (λ _. wrong)
  where
    slots : ltb k 6 ≡ true → length (table_of c.host k) ≡ 32
    slots e = (table_fit (rule_at k) c.radio.hardware (table_of c.host k) (table_ok_lem c k (f c refl) (ltb→lt k 6 (rw e tt)))).slots

-- IT IS ANSWERED 0, 5 OR 6, and only with 0 anything is told, whatever the lent octets hold
pub look_up_answered : (s : Octets) (i k : ℕ) (key : Octets) → LookUpAnswer (hub_look_up s i k key).answer (hub_look_up s i k key).extra
unfolding hub_look_up refused_look_up
look_up_answered s i k key =
    either {A = LookUpReply} (λ u. LookUpAnswer u.answer u.extra) (state_ok s) (λ t. out_answered k key (controller_at (decode s).plain i)
    (λ c x. controller_ok_lem (decode s).plain i c (well_fit (decode s) (state_well s t)).plain x)) (λ _. bad_state)

-- SLOT AND SLOTS WALKED are read back from the number that is told
pub looked_back : (m : Octets → Bool) (t : Table) → length t ≡ 32
    → ((told_look_up (look_up m t)).extra % 256 ≡ (look_up m t).slot) × ((told_look_up (look_up m t)).extra / 256 ≡ (look_up m t).walked)
unfolding told_look_up look_up
looked_back m t n = let h = first_le m t in (omega arith, omega arith)
