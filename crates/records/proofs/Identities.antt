-- Identities as two words: how they are read, and that they tell two records apart exactly where the model's keys do.
use Prim.Native.Nat.{ℕ, zero, suc, ◌+◌, ◌*◌, ◌/◌, ◌%◌, ◌<◌, ◌≤◌}
use native.Mathlib.Omega.{arith}
use native.Mathlib.Nat.{mul-suc}
use mathlib.Core.Path.{◌≡◌, refl, sym, ap, ◌∙◌}
use mathlib.Core.Bool.{Bool, true, false, ◌&&◌}
use mathlib.Core.List.{List, [], ◌∷◌, ◌++◌, map, append-nil}
use mathlib.Core.Option.{none, some}
use lib.ListN.{length, get_or, take, drop, take-append-drop, length-take, length-drop, drop_of_length-le}
use lib.Seq.{drop-drop}
use lib.Dec.{eqb}
use borrow.Author.Tests.{eq-eqb}
use Rattle.model.specs.Octets.{Octets, bytes, octet, same}
use Rattle.model.specs.Tables.{any, chop, distinct, entries, every, rule_at, table_rules}
use Rattle.model.specs.Tables.{blocked_rule, device_rule, identity_key_rule, link_key_rule, long_term_key_rule, uuid_rule}
use Rattle.model.proofs.Model.Tables.{bytes_drop, bytes_take, byte_at, eqb_self, lt_true, same_eq, same_refl}
use Rattle.model.proofs.Model.Tests.{and_true, both, equal}
use Rattle.octets.specs.Parts.{part}
use Rattle.octets.proofs.Parts.{drop_take, get_d_part}
use Rattle.octets.specs.Numbers.{little}
use Rattle.octets.proofs.Numbers.{little_one}
use Rattle.model.specs.Layout.{slots_back}
use Rattle.records.specs.declared.Identity.{Identity}
use Rattle.records.specs.Slots.{records_at}
use Rattle.records.specs.Identities.{among, apart, identity_of, same_identity, words_of}
use Rattle.records.proofs.Laws.{rule0, rule2, size_least, take_part}

-- 1. Reading --------------------------------------------------------------------------------------------------------------------------------

-- octets behind the first m of a part
drop_part : (s : Octets) (at m n : ℕ) → drop m (part s at (m + n)) ≡ part s (at + m) n
unfolding part
drop_part s at m n = drop_take m n (drop at s) ∙ rw (drop-drop m at s)

-- behind the first m of no more octets nothing is left
none_left : (m n : ℕ) (o : Octets) → n ≤ m → drop m (take n o) ≡ []
none_left m n o h = drop_of_length-le (take n o) {i = m} (rw length-take (omega arith))

-- and those are all of them
all_taken : (m n : ℕ) (o : Octets) → n ≤ m → take m (take n o) ≡ take n o
all_taken m n o h =
    let e : take m (take n o) ++ drop m (take n o) ≡ take n o = take-append-drop m (take n o) in
    rw (none_left m n o h, append-nil) at e

-- the words of seven octets
seven : (o : Octets) → ◌≡◌ {A = Identity} (record { low = little (take 7 o); high = 0 }) (words_of (take 7 o))
unfolding words_of little
seven o = sym (rw (none_left 8 7 o (omega arith), all_taken 8 7 o (omega arith)))

-- and of one before them
eight : (x : ℕ) (o : Octets) → ◌≡◌ {A = Identity} (record { low = x + 256 * little (take 7 o); high = 0 }) (words_of (x ∷ take 7 o))
unfolding words_of little
eight x o = sym (rw (none_left 7 7 o (omega arith), all_taken 7 7 o (omega arith)))

-- the key of a record of these four tables
address_key : (k : ℕ) (r : Octets) → k < 6 → (k ≡ 0 → ⊥) → (k ≡ 2 → ⊥) → (rule_at k).key r ≡ take 7 r
unfolding rule_at table_rules link_key_rule identity_key_rule blocked_rule device_rule
address_key zero r l n m = absurd (n refl)
address_key (suc zero) r l n m = refl
address_key (suc (suc zero)) r l n m = absurd (m refl)
address_key (suc (suc (suc zero))) r l n m = refl
address_key (suc (suc (suc (suc zero)))) r l n m = refl
address_key (suc (suc (suc (suc (suc zero))))) r l n m = refl
address_key (suc (suc (suc (suc (suc (suc k)))))) r l n m = absurd (omega arith)

module _ (k : ℕ) (s : Octets) (at : ℕ) where
  -- that of a UUID: its octets in two words
  pub identity_uuid : k ≡ 0
      → ◌≡◌ {A = Identity} (record { low = little (part s at 8); high = little (part s (at + 8) 8) }) (identity_of k (part s at (rule_at k).size))
  unfolding identity_of words_of uuid_rule
  identity_uuid e =
      let f : take 8 (part s at 16) ≡ part s at 8 = take_part s at 8 16 (omega arith) in
      let g : drop 8 (part s at 16) ≡ part s (at + 8) 8 = drop_part s at 8 8 in
      sym (rw (rule0 k e, take_part s at 16 17 (omega arith), f, g))

  -- that of a long term key: Master, and the address with its type
  pub identity_master : k ≡ 2
      → ◌≡◌ {A = Identity} (record { low = get_or s (at + 8) 0 + 256 * little (part s at 7); high = 0 }) (identity_of k (part s at (rule_at k).size))
  unfolding identity_of long_term_key_rule octet
  identity_master e =
      let f = eight (get_or s (at + 8) 0) (part s at 36) in
      let g : take 7 (part s at 36) ≡ part s at 7 = take_part s at 7 36 (omega arith) in
      rw (rule2 k e, get_d_part s at 36 8 (omega arith), ← g) f

  -- that of a record of another table: the address with its type
  pub identity_address : k < 6 → (k ≡ 0 → ⊥) → (k ≡ 2 → ⊥)
      → ◌≡◌ {A = Identity} (record { low = little (part s at 7); high = 0 }) (identity_of k (part s at (rule_at k).size))
  unfolding identity_of
  identity_address l n m =
      let e : take 7 (part s at (rule_at k).size) ≡ part s at 7 = take_part s at 7 (rule_at k).size (size_least k l) in
      rw (← e, address_key k (part s at (rule_at k).size) l n m) (seven (part s at (rule_at k).size))

-- 2. Telling apart --------------------------------------------------------------------------------------------------------------------------

-- octets of one length have the same words exactly if they are the same
words_told : (x y : Octets) → length x ≡ length y → bytes x ≡ true → bytes y ≡ true → same_identity (words_of x) (words_of y) ≡ same x y
unfolding same_identity words_of
words_told x y l p q = go (same x y) refl (eqb (little (take 8 x)) (little (take 8 y))) refl (eqb (little (drop 8 x)) (little (drop 8 y))) refl
  where
    one : same x y ≡ false → eqb (little (take 8 x)) (little (take 8 y)) ≡ true → eqb (little (drop 8 x)) (little (drop 8 y)) ≡ true
        → true ≡ false
    one s a b =
        let la : length (take 8 x) ≡ length (take 8 y) = rw (length-take, length-take, l) in
        let lb : length (drop 8 x) ≡ length (drop 8 y) = rw (length-drop, length-drop, l) in
        let ea : take 8 x ≡ take 8 y = little_one (take 8 x) (take 8 y) la (bytes_take 8 x p) (bytes_take 8 y q) (equal _ _ a) in
        let eb : drop 8 x ≡ drop 8 y = little_one (drop 8 x) (drop 8 y) lb (bytes_drop 8 x p) (bytes_drop 8 y q) (equal _ _ b) in
        let e : x ≡ y = sym (take-append-drop 8 x) ∙ rw (ea, eb) (take-append-drop 8 y) in
        sym (same_refl y) ∙ (rw e at s)

    go : (r : Bool) → same x y ≡ r → (a : Bool) → eqb (little (take 8 x)) (little (take 8 y)) ≡ a
        → (b : Bool) → eqb (little (drop 8 x)) (little (drop 8 y)) ≡ b → a && b ≡ r
    go true e a ea b eb =
        let f : x ≡ y = same_eq x y e in
        let g : a ≡ true = sym ea ∙ rw f (eqb_self (little (take 8 y))) in
        let h : b ≡ true = sym eb ∙ rw f (eqb_self (little (drop 8 y))) in
        both g h
    go false e true ea true eb = one e ea eb
    go false e true ea false eb = refl
    go false e false ea b eb = refl

-- keys of records of one length have one length
key_long : (k : ℕ) (a b : Octets) → k < 6 → length a ≡ length b → length ((rule_at k).key a) ≡ length ((rule_at k).key b)
unfolding rule_at table_rules uuid_rule link_key_rule long_term_key_rule identity_key_rule blocked_rule device_rule
key_long zero a b l e = rw (length-take, length-take, e)
key_long (suc zero) a b l e = rw (length-take, length-take, e)
key_long (suc (suc zero)) a b l e = ap suc (rw (length-take, length-take, e))
key_long (suc (suc (suc zero))) a b l e = rw (length-take, length-take, e)
key_long (suc (suc (suc (suc zero)))) a b l e = rw (length-take, length-take, e)
key_long (suc (suc (suc (suc (suc zero))))) a b l e = rw (length-take, length-take, e)
key_long (suc (suc (suc (suc (suc (suc k)))))) a b l e = absurd (omega arith)

-- the key of a record of octets is octets
key_bytes : (k : ℕ) (a : Octets) → k < 6 → bytes a ≡ true → bytes ((rule_at k).key a) ≡ true
unfolding rule_at table_rules uuid_rule link_key_rule long_term_key_rule identity_key_rule blocked_rule device_rule octet bytes
key_bytes zero a l e = bytes_take 16 a e
key_bytes (suc zero) a l e = bytes_take 7 a e
key_bytes (suc (suc zero)) a l e = both (lt_true (get_or a 8 0) 256 (byte_at a 8 e)) (bytes_take 7 a e)
key_bytes (suc (suc (suc zero))) a l e = bytes_take 7 a e
key_bytes (suc (suc (suc (suc zero)))) a l e = bytes_take 7 a e
key_bytes (suc (suc (suc (suc (suc zero))))) a l e = bytes_take 7 a e
key_bytes (suc (suc (suc (suc (suc (suc k)))))) a l e = absurd (omega arith)

-- two records of one length have one identity exactly if the model's keys are the same
pub identity_told : (k : ℕ) (a b : Octets) → k < 6 → length a ≡ length b → bytes a ≡ true → bytes b ≡ true
    → same_identity (identity_of k a) (identity_of k b) ≡ same ((rule_at k).key a) ((rule_at k).key b)
unfolding identity_of
identity_told k a b l e p q = words_told ((rule_at k).key a) ((rule_at k).key b) (key_long k a b l e) (key_bytes k a l p) (key_bytes k b l q)

-- a record of octets, as long as its table's are
abbrev pub whole : ℕ → Octets → Bool
whole k r = eqb (length r) (rule_at k).size && bytes r

-- so it is one of some by its words exactly if it is by its key
among_told : (k : ℕ) (a : Octets) (rs : List Octets) → k < 6 → whole k a ≡ true → every (λ r. whole k r) rs ≡ true
    → among (identity_of k a) (map (identity_of k) rs) ≡ any (same ((rule_at k).key a)) (map (rule_at k).key rs)
unfolding among any every
among_told k a [] l w e = refl
among_told k a (r ∷ rs) l w e =
    let h = and_true (whole k r) _ e in
    let x = and_true (eqb (length a) (rule_at k).size) _ w in
    let y = and_true (eqb (length r) (rule_at k).size) _ h.0 in
    let q : length a ≡ length r = equal _ _ x.0 ∙ sym (equal _ _ y.0) in
    rw (identity_told k a r l q x.1 y.1, among_told k a rs l w h.1)

-- and no two of some records have one identity by their words exactly if none have by their keys
pub apart_told : (k : ℕ) (rs : List Octets) → k < 6 → every (λ r. whole k r) rs ≡ true
    → apart (map (identity_of k) rs) ≡ distinct (map (rule_at k).key rs)
unfolding apart distinct every
apart_told k [] l e = refl
apart_told k (r ∷ rs) l e =
    let h = and_true (whole k r) _ e in
    rw (among_told k r rs l h.0 h.1, apart_told k rs l h.1)

-- records cut from octets that are long enough are whole
pub whole_chop : (k n : ℕ) (o : Octets) → (rule_at k).size * n ≤ length o → bytes o ≡ true
    → every (λ r. whole k r) (chop (rule_at k).size n o) ≡ true
unfolding every chop
whole_chop k zero o h e = refl
whole_chop k (suc n) o h e =
    let m = mul-suc (rule_at k).size n in
    let f : length (take (rule_at k).size o) ≡ (rule_at k).size = rw length-take (omega arith) in
    let g : (rule_at k).size * n ≤ length (drop (rule_at k).size o) = rw length-drop (omega arith) in
    both (both (eq-eqb _ _ f) (bytes_take (rule_at k).size o e)) (whole_chop k n (drop (rule_at k).size o) g (bytes_drop (rule_at k).size o e))

-- what holds of every record of some slots holds of those in use
every_slots : (p : Octets → Bool) (w : ℕ) (rs : List Octets) → every p rs ≡ true → every p (entries (slots_back w rs)) ≡ true
unfolding every entries slots_back
every_slots p w [] e = refl
every_slots p w (r ∷ rs) e =
    let h = and_true (p r) _ e in
    go (eqb (w % 2) 1) h.0 (every_slots p (w / 2) rs h.1)
  where
    go : (b : Bool) → p r ≡ true → every p (entries (slots_back (w / 2) rs)) ≡ true
        → every p (entries (elim b [ true ↦ some r | false ↦ none ] ∷ slots_back (w / 2) rs)) ≡ true
    go true f g = both f g
    go false f g = g

-- so the records in use among slots that lie within octets are whole
pub whole_slots : (k : ℕ) (s : Octets) (place n w : ℕ) → place + (rule_at k).size * n ≤ length s → bytes s ≡ true
    → every (λ r. whole k r) (records_at s (rule_at k).size place n w) ≡ true
whole_slots k s place n w h e = every_slots (λ r. whole k r) w _ (whole_chop k n (drop place s) (rw length-drop (omega arith)) (bytes_drop place s e))

-- and they are apart by their words exactly if they are distinct by their keys
pub slots_told : (k : ℕ) (s : Octets) (place n w : ℕ) → k < 6 → place + (rule_at k).size * n ≤ length s → bytes s ≡ true
    → apart (map (identity_of k) (records_at s (rule_at k).size place n w)) ≡ distinct (map (rule_at k).key (records_at s (rule_at k).size place n w))
slots_told k s place n w l h e = apart_told k (records_at s (rule_at k).size place n w) l (whole_slots k s place n w h e)
