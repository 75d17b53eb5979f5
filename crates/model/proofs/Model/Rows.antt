-- Each command keeps a controller well formed: one lemma to a row, and the rows as one list.
use Rattle.std.specs.Prelude.{ℕ, zero, suc, ◌+◌, ◌*◌, ◌≤◌, ◌≡◌, refl, Bool, true, false, ◌&&◌, ◌||◌, not, List, [], ◌∷◌, ◌++◌, map, length, take, drop, eqb, leb, ltb}
use Rattle.std.proofs.Common.{arith, mul-suc, add_comm, sym, ◌∙◌, length-take, length-drop, lit<, nltb→le, le-leb}
use Rattle.std.proofs.Math.Option.{Option, none, some}
use Rattle.model.specs.Octets.{Octets, bytes, octet, u16}
use Rattle.model.specs.Advertising.{Advertising, whole_turn}
use Rattle.model.specs.State.{Controller, Hardware, name_ends, short_name_ends}
use Rattle.model.specs.State.{table_of, with_bondable, with_host, with_name}
use Rattle.model.specs.State.{with_table}
use Rattle.model.specs.State.{with_advertising}
use Rattle.model.specs.Reasons.{Check, Reason, refused_at, first_of, in_record, moved, NameNotEnded, no_reason, passes, ShortNameNotEnded}
use Rattle.model.specs.Tables.{TableRule, begins, blocked_rule, chop, device_rule, empty, every, freed, holds, identity_key_rule}
use Rattle.model.specs.Tables.{link_key_rule, loaded, rule_at}
use Rattle.model.specs.Tables.{long_term_key_rule, needs_nothing, record_ok, records_ok, support_ok, table_rules, uuid_rule}
use Rattle.model.specs.Rules.{Immediate, ImmediateRule, Rule, done, general, immediate, radio, refuse, act, unless}
use Rattle.model.specs.Immediate.{add_advertising, advertising_checks, advertised, remove_advertising}
use Rattle.model.specs.Immediate.{KeyList, add_device, add_uuid, block_device, identity_key_list, link_key_list, list_checks, load_keys}
use Rattle.model.specs.Immediate.{long_term_key_list, read_information}
use Rattle.model.specs.Immediate.{record_checks, remove_device, remove_uuid, repeat_check, set_bondable, set_local_name, sized, unblock_device, unpair_device}
use Rattle.model.specs.Immediate.{unpaired}
use Rattle.model.proofs.Model.Places.{first_moved}
use Rattle.model.specs.Commands.{rows, rule}
use Rattle.model.specs.Image.{name_ok}
use Rattle.model.specs.WellFormed.{advertising_ok, data_fit, times_fit, controller_ok, timer_ok, widths_ok}
use Rattle.model.proofs.Model.Advertising.{advertised_ok, advertising_fit, rescheduled_ok}
use Rattle.model.proofs.Model.Schedule.{instance_removed_ok}
use Rattle.model.proofs.Model.Parts.{controller_fit, fit_controller, fit_widths, table_changed, table_ok_lem, widths_fit}
use Rattle.model.proofs.Model.Tables.{added_ok, bytes_chop, bytes_drop, bytes_take, eqb_self, freed_ok, length_chop, loaded_ok}
use Rattle.model.proofs.Model.Tables.{stored_ok}
use Rattle.model.proofs.Model.EveryRow.{Each, ◌&◌, end, found}
use Rattle.model.proofs.Model.Tests.{and_true, both, either, equal, not-false, or_true}
use Rattle.model.proofs.Model.SettingsRows.{KeepsRadio, first_none, wide16, keeps_powered, keeps_discoverable, keeps_connectable}
use Rattle.model.proofs.Model.SettingsRows.{keeps_low_energy, keeps_bredr, keeps_static_address}

-- 1. What a rule must keep ----------------------------------------------------------------------------------------------------------------

-- what a command that is never Busy gives leaves the controller well formed
unfoldable pub ImmediateOk : Controller → Immediate → Type 0
ImmediateOk c (refuse r) = Unit {0}
ImmediateOk c (done out evs host) = controller_ok (with_host c host) ≡ true

-- a rule that always leaves it so, for parameters of the right length
unfoldable pub KeepsImmediate : ImmediateRule → Type 0
KeepsImmediate q = (i : ℕ) (c : Controller) (ps : Octets) → controller_ok c ≡ true → bytes ps ≡ true → q.size ps ≡ true → ImmediateOk c (act q i c ps)

-- a rule of any kind
unfoldable pub Keeps : Rule → Type 0
Keeps (general f) = Unit {0}
Keeps (immediate q) = KeepsImmediate q
Keeps (radio r) = KeepsRadio r

-- it is enough to look at what no check refuses
unless_ok : (c : Controller) (x : Option Reason) (q : Immediate) → (x ≡ none → ImmediateOk c q) → ImmediateOk c (unless x q)
unfolding unless ImmediateOk
unless_ok c (some r) q h = tt
unless_ok c none q h = h refl

-- of checks in two parts, none applies in either
first_append : (xs ys : List Check) → first_of (xs ++ ys) ≡ none → (first_of xs ≡ none) × (first_of ys ≡ none)
unfolding first_of
first_append [] ys e = (refl, e)
first_append (x ∷ xs) ys e =
    let a = first_none x (xs ++ ys) e in
    let b = first_append xs ys a.1 in
    let f : first_of (x ∷ xs) ≡ none = rw (a.0, first_of) b.0 in
    (f, b.1)

-- who needs no support has it
nothing_needed : (f : Hardware) → passes (needs_nothing f) ≡ true
unfolding passes no_reason first_of needs_nothing
nothing_needed f = refl

-- checks of which none applies
passes_of : (cs : List Check) → first_of cs ≡ none → passes cs ≡ true
unfolding passes no_reason
passes_of cs e = rw e

-- records cut from octets of the right length have the size, and keep their rule if none of their checks fails
chop_ok : (u : TableRule) (n k d : ℕ) (o : Octets) → length o ≡ u.size * n → first_of (record_checks u k d (chop u.size n o)) ≡ none
    → every (record_ok u) (chop u.size n o) ≡ true
unfolding chop record_checks every record_ok
chop_ok u zero k d o l e = refl
chop_ok u (suc n) k d o l e =
    let cs : List Check = u.checks (take u.size o) in
    let a = first_append (moved (in_record k d) cs) (record_checks u (suc k) (d + u.size) (chop u.size n (drop u.size o))) e in
    let m : length o ≡ u.size + u.size * n = l ∙ mul-suc u.size n ∙ add_comm (u.size * n) u.size in
    let s : length (take u.size o) ≡ u.size = simp length-take (omega arith) in
    let f : length (drop u.size o) ≡ u.size * n = simp length-drop (omega arith) in
    let z : eqb (length (take u.size o)) u.size ≡ true = rw s (eqb_self u.size) in
    both (both z (passes_of cs (sym (first_moved (in_record k d) cs) ∙ a.0))) (chop_ok u n (suc k) (d + u.size) (drop u.size o) f a.1)

-- 2. The rows -------------------------------------------------------------------------------------------------------------------------------

-- Read Controller Information
keeps_read_information : KeepsImmediate read_information
unfolding KeepsImmediate read_information ImmediateOk with_host unless first_of
keeps_read_information i c ps e w z = e

-- Set Bondable
keeps_bondable : KeepsImmediate set_bondable
unfolding KeepsImmediate set_bondable ImmediateOk with_host with_bondable controller_ok timer_ok widths_ok
keeps_bondable i c ps e w z = unless_ok c _ _ (λ n. e)

-- both names end if neither check fails
names_of : (ps : Octets) → first_of ((refused_at 0 (not (name_ends ps)) NameNotEnded) ∷ (refused_at 249 (not (short_name_ends ps)) ShortNameNotEnded) ∷ []) ≡ none
    → name_ok ps ≡ true
unfolding name_ok
names_of ps n =
    let a = first_none _ _ n in
    both (not-false (name_ends ps) a.0) (not-false (short_name_ends ps) (first_none _ _ a.1).0)

-- Set Local Name
keeps_local_name : KeepsImmediate set_local_name
unfolding KeepsImmediate set_local_name ImmediateOk with_host with_name sized timer_ok
keeps_local_name i c ps e w z =
    unless_ok c _ _ (λ n. let h = controller_fit c e in let x = widths_fit c e in
    fit_controller (with_host c (with_name c.host ps)) (record {
      radio = h.radio;
      static_address = h.static_address;
      tables = h.tables;
      timer = h.timer;
      advertising = h.advertising;
      widths = fit_widths (with_host c (with_name c.host ps)) (record {
        version = x.version;
        manufacturer = x.manufacturer;
        public_address = x.public_address;
        static_address = x.static_address;
        name = w;
        seconds = x.seconds;
      });
      name = both z (names_of ps n);
    }))

-- Add UUID
keeps_add_uuid : KeepsImmediate add_uuid
unfolding KeepsImmediate add_uuid ImmediateOk sized begins uuid_rule rule_at table_rules
keeps_add_uuid i c ps e w z =
    unless_ok c _ _ (λ n.
    let good : passes (uuid_rule.checks ps) ≡ true = passes_of _ (first_append (uuid_rule.checks ps) _ n).0 in
    table_changed c 0 _ e (stored_ok uuid_rule c.radio.hardware ps _ (table_ok_lem c 0 e (lit< tt)) w z good (nothing_needed c.radio.hardware)))

-- Remove UUID
keeps_remove_uuid : KeepsImmediate remove_uuid
unfolding KeepsImmediate remove_uuid ImmediateOk rule_at table_rules
keeps_remove_uuid i c ps e w z = unless_ok c _ _ (λ n. table_changed c 0 _ e (freed_ok uuid_rule c.radio.hardware _ _ (table_ok_lem c 0 e (lit< tt))))

-- a test on order that does not hold
ltb-false : (m n : ℕ) → ltb m n ≡ false → n ≤ m
ltb-false m n e = nltb→le m n (rw e tt)

-- records that have their support
supported_of : (u : TableRule) (f : Hardware) (rs : List Octets) → first_of (u.support f) ≡ none → support_ok u f rs ≡ true
unfolding support_ok
supported_of u f rs e = rw (passes_of (u.support f) e) (or_true (empty rs))

-- the three key lists
keeps_load : (l : KeyList) → rule_at l.table ≡ l.rule → KeepsImmediate (load_keys l)
unfolding KeepsImmediate load_keys ImmediateOk list_checks records_ok
keeps_load l u i c ps e w z = unless_ok c _ _ go
  where
    n : ℕ
    n = u16 ps l.count_at

    rs : List Octets
    rs = chop l.rule.size n (drop (l.count_at + 2) ps)

    tail : List Check
    tail = repeat_check (map l.rule.key rs) ∷ l.rule.support c.radio.hardware

    go : first_of (list_checks l c.radio.hardware ps n rs) ≡ none → controller_ok (with_host c (with_table c.host l.table (loaded rs))) ≡ true
    go f =
        let a = first_none _ _ f in
        let b = first_append (l.head_checks ps) (record_checks l.rule 0 (l.count_at + 2) rs ++ tail) a.1 in
        let d = first_append (record_checks l.rule 0 (l.count_at + 2) rs) tail b.1 in
        let g = first_none _ _ d.1 in
        let long : length (drop (l.count_at + 2) ps) ≡ l.rule.size * n = simp length-drop
        (omega (arith, equal (length ps) (l.count_at + 2 + l.rule.size * u16 ps l.count_at) z)) in
        let le : length rs ≤ 32 = rw (length_chop l.rule.size n (drop (l.count_at + 2) ps)) (ltb-false 32 n a.0) in
        table_changed c l.table (loaded rs) e (rw u (loaded_ok l.rule c.radio.hardware rs le
        (bytes_chop l.rule.size n (drop (l.count_at + 2) ps) (bytes_drop (l.count_at + 2) ps w))
        (both (chop_ok l.rule n 0 (l.count_at + 2) (drop (l.count_at + 2) ps) long d.0) (not-false _ g.0))
        (supported_of l.rule c.radio.hardware rs g.1)))

-- Unpair: three tables, one after the other
keeps_unpair : KeepsImmediate unpair_device
unfolding KeepsImmediate unpair_device unpaired ImmediateOk rule_at table_rules with_host with_table
keeps_unpair i c ps e w z = unless_ok c _ _ (λ n.
    let m : Octets → Bool = begins 7 ps in
    let one : Controller = with_host c (with_table c.host 1 (freed m (table_of c.host 1))) in
    let two : Controller = with_host one (with_table one.host 2 (freed m (table_of c.host 2))) in
    let e1 : controller_ok one ≡ true = table_changed c 1 _ e (freed_ok link_key_rule c.radio.hardware m _ (table_ok_lem c 1 e (lit< tt))) in
    let e2 : controller_ok two ≡ true = table_changed one 2 _ e1 (freed_ok long_term_key_rule c.radio.hardware m _ (table_ok_lem c 2 e (lit< tt))) in
    table_changed two 3 (freed m (table_of c.host 3)) e2 (freed_ok identity_key_rule c.radio.hardware m _ (table_ok_lem c 3 e (lit< tt))))

-- Block
keeps_block : KeepsImmediate block_device
unfolding KeepsImmediate block_device ImmediateOk sized begins blocked_rule rule_at table_rules holds
keeps_block i c ps e w z = unless_ok c _ _ (λ n.
    let a = first_append (blocked_rule.checks ps) _ n in
    let b = first_none _ _ a.1 in
    table_changed c 4 _ e (added_ok blocked_rule c.radio.hardware ps _ (table_ok_lem c 4 e (lit< tt)) w z (passes_of _ a.0)
    (nothing_needed c.radio.hardware) b.0))

-- Unblock
keeps_unblock : KeepsImmediate unblock_device
unfolding KeepsImmediate unblock_device ImmediateOk rule_at table_rules
keeps_unblock i c ps e w z = unless_ok c _ _ (λ n. table_changed c 4 _ e (freed_ok blocked_rule c.radio.hardware _ _ (table_ok_lem c 4 e (lit< tt))))

-- Add Device
keeps_add_device : KeepsImmediate add_device
unfolding KeepsImmediate add_device ImmediateOk sized begins device_rule rule_at table_rules
keeps_add_device i c ps e w z =
    unless_ok c _ _ (λ n.
    let good : passes (device_rule.checks ps) ≡ true = passes_of _ (first_append (device_rule.checks ps) _ n).0 in
    table_changed c 5 _ e (stored_ok device_rule c.radio.hardware ps _ (table_ok_lem c 5 e (lit< tt)) w z good (nothing_needed c.radio.hardware)))

-- Remove Device
keeps_remove_device : KeepsImmediate remove_device
unfolding KeepsImmediate remove_device ImmediateOk rule_at table_rules
keeps_remove_device i c ps e w z = unless_ok c _ _ (λ n. table_changed c 5 _ e (freed_ok device_rule c.radio.hardware _ _ (table_ok_lem c 5 e (lit< tt))))

-- a controller with other advertising that keeps its rules
advertising_changed : (c : Controller) (a : Advertising) → controller_ok c ≡ true → advertising_ok c.radio.low_energy c.radio.powered a ≡ true
    → controller_ok (with_host c (with_advertising c.host a)) ≡ true
unfolding with_host with_advertising timer_ok widths_ok
advertising_changed c a e ea =
    let h = controller_fit c e in
    fit_controller (with_host c (with_advertising c.host a))
    (record { radio = h.radio; static_address = h.static_address; name = h.name; tables = h.tables; timer = h.timer; widths = h.widths; advertising = ea })

-- a whole turn has seconds
whole_turn_lem : (d : ℕ) → eqb (whole_turn d) 0 ≡ false
unfolding whole_turn
whole_turn_lem d = either (λ x. eqb x 0 ≡ false) (eqb d 0) (λ _. refl) (λ e. e)

-- and two octets
whole_wide : (d : ℕ) → ltb d 65536 ≡ true → ltb (whole_turn d) 65536 ≡ true
unfolding whole_turn
whole_wide d e = either (λ x. ltb x 65536 ≡ true) (eqb d 0) (λ _. refl) (λ _. e)

-- duration and timeout of a packet fit their fields
times_fit_lem : (d t : ℕ) → ltb d 65536 ≡ true → ltb t 65536 ≡ true → times_fit (whole_turn d) t ≡ true
unfolding times_fit
times_fit_lem d t e f = rw (whole_turn_lem d) (both (whole_wide d e) f)

-- a timeout only while powered
timeout_fit : (w z : Bool) → not w && not z ≡ false → w || z ≡ true
timeout_fit true z e = refl
timeout_fit false z e = not-false z e

-- data of at most 31 octets fit a number that is there
data_fit_lem : (d : ℕ) (o : Octets) → length o ≤ 31 → bytes o ≡ true → data_fit (whole_turn d) o ≡ true
unfolding data_fit
data_fit_lem d o n b = rw (whole_turn_lem d) (both (le-leb (length o) 31 n) b)

-- Adv_Data of a packet
adv_short : (ps : Octets) → ltb 31 (octet ps 9) ≡ false → length (take (octet ps 9) (drop 11 ps)) ≤ 31
adv_short ps e = simp length-take (omega (arith, ltb-false 31 (octet ps 9) e))

-- Scan_Rsp of a packet, which is what follows
scan_short : (ps : Octets) → eqb (length ps) (11 + octet ps 9 + octet ps 10) ≡ true → ltb 31 (octet ps 10) ≡ false → length (drop (11 + octet ps 9) ps) ≤ 31
scan_short ps n e = simp length-drop (omega (arith, equal (length ps) (11 + octet ps 9 + octet ps 10) n, ltb-false 31 (octet ps 10) e))

-- Add Advertising
keeps_add_advertising : KeepsImmediate add_advertising
unfolding KeepsImmediate add_advertising advertising_checks advertised ImmediateOk
keeps_add_advertising i c ps e w z = unless_ok c _ _ (λ n.
    let a = (controller_fit c e).advertising in
    let f = first_none _ _ (first_none _ _ (first_none _ _ n).1).1 in
    let g = first_none _ _ f.1 in
    let l = first_none _ _ g.1 in
    let le : c.radio.low_energy ≡ true = not-false _ l.0 in
    advertising_changed c _ e (rw le (advertised_ok c.radio.powered (octet ps 0) (whole_turn (u16 ps 5)) (u16 ps 7) (take (octet ps 9) (drop 11 ps))
    (drop (11 + octet ps 9) ps)
    c.host.advertising (rw le at a) (times_fit_lem _ _ (wide16 ps 5 w) (wide16 ps 7 w))
    (timeout_fit c.radio.powered (eqb (u16 ps 7) 0) (first_none _ _ l.1).0)
    (data_fit_lem (u16 ps 5) (take (octet ps 9) (drop 11 ps)) (adv_short ps f.0) (bytes_take (octet ps 9) (drop 11 ps) (bytes_drop 11 ps w)))
    (data_fit_lem (u16 ps 5) (drop (11 + octet ps 9) ps) (scan_short ps (and_true (leb 11 (length ps)) _ z).1 g.0) (bytes_drop (11 + octet ps 9) ps w)))))

-- Remove Advertising
keeps_remove_advertising : KeepsImmediate remove_advertising
unfolding KeepsImmediate remove_advertising ImmediateOk
keeps_remove_advertising i c ps e w z = unless_ok c _ _ (λ n.
    let a = (controller_fit c e).advertising in
    advertising_changed c _ e (rescheduled_ok _ _ _ _ c.host.advertising _ a
    (instance_removed_ok _ _ (octet ps 0) _ (advertising_fit _ _ _ a).schedule)))

-- 3. All rows -------------------------------------------------------------------------------------------------------------------------------

-- every row keeps a controller well formed
all_keep : Each (λ code u. Keeps u) rows
unfolding rows Keeps link_key_list long_term_key_list identity_key_list rule_at table_rules
all_keep =
    tt
    & tt
    & tt
    & keeps_read_information
    & keeps_powered
    & keeps_discoverable
    & keeps_connectable
    & keeps_bondable
    & keeps_low_energy
    & keeps_local_name
    & keeps_add_uuid
    & keeps_remove_uuid
    & keeps_load link_key_list refl
    & keeps_load long_term_key_list refl
    & keeps_unpair
    & keeps_block
    & keeps_unblock
    & keeps_bredr
    & keeps_static_address
    & keeps_load identity_key_list refl
    & keeps_add_device
    & keeps_remove_device
    & keeps_add_advertising
    & keeps_remove_advertising
    & end

-- so does the rule that a code finds
pub rule_keeps : (code : ℕ) (u : Rule) → rule code ≡ some u → Keeps u
unfolding rule
rule_keeps code u e = found (λ code u. Keeps u) code rows u all_keep e
