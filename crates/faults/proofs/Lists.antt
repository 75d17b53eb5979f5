-- A key list: its parts in the order in which the code looks at them are the model's checks.
use Prim.Native.Nat.{ℕ, suc, ◌+◌, ◌*◌, ◌≤◌}
use native.Mathlib.Omega.{arith}
use mathlib.Core.Path.{◌≡◌, refl, sym, ◌∙◌}
use mathlib.Core.Bool.{Bool, true, false, not}
use mathlib.Core.List.{List, [], ◌∷◌, ◌++◌, map}
use lib.ListN.{length, get_or}
use lib.Dec.{ltb}
use Rattle.std.specs.Prelude.{Ok}
use Rattle.model.specs.declared.Hardware.{Hardware}
use Rattle.model.specs.declared.Place.{Place}
use Rattle.model.specs.declared.Place.TheVariants.{AtOctet, Nowhere, Records}
use Rattle.model.specs.declared.Reason.TheVariants.{BredrNotSupported, CountAbove32, DebugFlagAbove1, LeNotSupported}
use Rattle.model.specs.Octets.{Octets, octet, same, u16}
use Rattle.model.specs.Reasons.{Check, further, moved, refused_at}
use Rattle.model.specs.State.{bredr_supported, le_supported}
use Rattle.model.specs.Tables.{first_pair, identity_key_rule, link_key_rule, long_term_key_rule, needs_bredr, needs_le, pair_with, rule_at, table_rules}
use Rattle.model.specs.Immediate.{KeyList, identity_key_list, link_key_list, list_checks, long_term_key_list, record_checks, records_of, repeat_check}
use Rattle.model.proofs.Model.Pairs.{pair_if_repeated}
use Rattle.why.specs.Findings.{Finding, and_then, checked, first_wrong, in_packet}
use Rattle.why.proofs.Orders.{packet_append, then_taken}
use Rattle.faults.specs.Faults.{list_fault, pair_fault, records_fault}

-- a pair of records is counted from the list's first, wherever the list begins
with_further : (d a : ℕ) (k : Octets) (b : ℕ) (ks : List Octets) (rest : Place) → further d rest ≡ rest
    → further d (pair_with a k b ks rest) ≡ pair_with a k b ks rest
unfolding pair_with further
with_further d a k b [] rest e = e
with_further d a k b (j ∷ js) rest e = go (same k j) (with_further d a k (suc b) js rest e)
  where
    go : (x : Bool) → further d (pair_with a k (suc b) js rest) ≡ pair_with a k (suc b) js rest
        → further d (elim x [ true ↦ Records a b | false ↦ pair_with a k (suc b) js rest ])
        ≡ elim x [ true ↦ Records a b | false ↦ pair_with a k (suc b) js rest ]
    go true f = refl
    go false f = f

-- so is the first of all
pair_further : (d a : ℕ) (ks : List Octets) → further d (first_pair a ks) ≡ first_pair a ks
unfolding first_pair further
pair_further d a [] = refl
pair_further d a (k ∷ ks) = with_further d a k (suc a) ks (first_pair (suc a) ks) (pair_further d (suc a) ks)

-- repeats, and what stands behind them
repeats_are : (ks : List Octets) (s : List Check) → first_wrong (in_packet (repeat_check ks ∷ s)) ≡ and_then (pair_fault (first_pair 0 ks))
    (first_wrong (in_packet s))
unfolding in_packet moved first_wrong pair_fault
repeats_are ks s = rw (pair_further 6 0 ks, pair_if_repeated 0 ks)

-- the count, and what stands behind it
count_is : (n at : ℕ) (cs : List Check) → first_wrong (in_packet ((refused_at at (ltb 32 n) CountAbove32) ∷ cs))
    ≡ and_then (checked (ltb 32 n) CountAbove32 (AtOctet (6 + at))) (first_wrong (in_packet cs))
unfolding in_packet moved first_wrong further
count_is n at cs = refl

-- the parts of a list, in order
parts : (n at : ℕ) (h v s : List Check) (ks : List Octets)
    → first_wrong (in_packet ((refused_at at (ltb 32 n) CountAbove32) ∷ (h ++ (v ++ (repeat_check ks ∷ s)))))
    ≡ and_then (checked (ltb 32 n) CountAbove32 (AtOctet (6 + at)))
    (and_then (first_wrong (in_packet h)) (and_then (first_wrong (in_packet v)) (and_then (pair_fault (first_pair 0 ks)) (first_wrong (in_packet s)))))
parts n at h v s ks =
    count_is n at (h ++ (v ++ (repeat_check ks ∷ s)))
    ∙ rw (packet_append h (v ++ (repeat_check ks ∷ s)), packet_append v (repeat_check ks ∷ s), repeats_are ks s)

-- what the model says of a list, by its parts
list_is : (l : KeyList) (k at : ℕ) (f : Hardware) (ps : Octets) (head support : Finding) → l.count_at ≡ at → l.rule ≡ rule_at k
    → head ≡ first_wrong (in_packet (l.head_checks ps)) → support ≡ first_wrong (in_packet (l.rule.support f))
    → list_fault k ps at head support ≡ first_wrong (in_packet (list_checks l f ps (u16 ps l.count_at) (records_of l ps)))
unfolding list_checks list_fault records_fault
list_is l k at f ps head support ea er eh es =
    sym (parts (u16 ps l.count_at) l.count_at (l.head_checks ps) (record_checks l.rule 0 (l.count_at + 2) (records_of l ps)) (l.rule.support f)
    (map l.rule.key (records_of l ps))
    ∙ rw (ea, ← eh, ← es, er))

-- link keys, with the debug flag before the count
pub link_list : (f : Hardware) (ps : Octets) (head support : Finding)
    → head ≡ checked (ltb 1 (get_or ps 0 0)) DebugFlagAbove1 (AtOctet 6)
    → support ≡ checked (not (bredr_supported f)) BredrNotSupported Nowhere
    → list_fault 1 ps 1 head support ≡ first_wrong (in_packet (list_checks link_key_list f ps (u16 ps 1) (records_of link_key_list ps)))
unfolding first_wrong link_key_list rule_at table_rules in_packet moved further octet link_key_rule needs_bredr
link_list f ps head support eh es =
    list_is link_key_list 1 1 f ps head support refl refl (eh ∙ sym (then_taken _)) (es ∙ sym (then_taken _))

-- long term keys
pub long_term_list : (f : Hardware) (ps : Octets) (support : Finding) → support ≡ checked (not (le_supported f)) LeNotSupported Nowhere
    → list_fault 2 ps 0 (Ok tt) support ≡ first_wrong (in_packet (list_checks long_term_key_list f ps (u16 ps 0) (records_of long_term_key_list ps)))
unfolding long_term_key_list rule_at table_rules in_packet moved further first_wrong long_term_key_rule needs_le
long_term_list f ps support es =
    list_is long_term_key_list 2 0 f ps (Ok tt) support refl refl refl (es ∙ sym (then_taken _))

-- identity resolving keys
pub identity_list : (f : Hardware) (ps : Octets) (support : Finding) → support ≡ checked (not (le_supported f)) LeNotSupported Nowhere
    → list_fault 3 ps 0 (Ok tt) support ≡ first_wrong (in_packet (list_checks identity_key_list f ps (u16 ps 0) (records_of identity_key_list ps)))
unfolding identity_key_list rule_at table_rules in_packet moved further first_wrong identity_key_rule needs_le
identity_list f ps support es =
    list_is identity_key_list 3 0 f ps (Ok tt) support refl refl refl (es ∙ sym (then_taken _))

-- the records lie behind the count
pub list_room : (size at n : ℕ) (ps : Octets) → n ≡ u16 ps at → length ps ≡ at + 2 + size * u16 ps at → at + 2 + size * n ≤ length ps
list_room size at n ps e l = rw (e, l) (omega arith)
