-- The key lists: from what each step of `load_list` leaves to what the model says, over plain values.
use Prim.Native.Nat.{ℕ, zero, suc, ◌+◌, ◌*◌, ◌≤◌, ◌<◌}
use native.Mathlib.Omega.{arith}
use mathlib.Core.Path.{◌≡◌, refl, sym, ◌∙◌}
use mathlib.Core.Bool.{Bool, true, false, not}
use mathlib.Core.List.{List, [], ◌∷◌, ◌++◌, append_assoc, append-nil, map}
use mathlib.Core.Option.{none, some}
use lib.ListN.{length, get_or, drop}
use lib.Dec.{eqb, leb, ltb}
use borrow.Author.Tests.{eq-eqb, lt-ltb, le-ltb, ltb-true, ltb-false, le-leb, lt-leb}
use Rattle.model.specs.Statuses as Statuses
use Rattle.model.specs.Lengths as Lengths
use Rattle.model.specs.declared.Hardware.{Hardware}
use Rattle.model.specs.Octets.{Octets, octet, u16, command_complete, command_status}
use Rattle.model.specs.State.{Controller, with_host, with_table}
use Rattle.model.specs.Reasons.{Check, refused_at, refused_if, first_of, no_reason, passes, status_of}
use Rattle.model.specs.declared.Place.{Place}
use Rattle.model.specs.declared.Reason.{Reason}
use Rattle.model.specs.declared.Reason.TheVariants.{CountAbove32, DebugFlagAbove1, RecordRepeated}
use Rattle.model.specs.Tables.{chop, distinct, loaded, table_rules, le_address_checks, link_key_rule, long_term_key_rule, identity_key_rule, needs_bredr, needs_le}
use Rattle.model.specs.Rules.{refuse, done, act, unless}
use Rattle.model.specs.Immediate as M
use Rattle.model.proofs.Model.Places.{first_both}
use Rattle.model.specs.Immediate.{KeyList, list_checks, load_keys, records_of, repeat_check, link_key_list, long_term_key_list, identity_key_list}
use Rattle.model.specs.Layout.{decode, encode, region}
use Rattle.model.proofs.Model.Tables.{length_chop}
use Rattle.model.specs.Tables.{rule_at}
use Rattle.model.proofs.Model.Tests.{equal}
use Rattle.octets.specs.Parts.{write_at}
use Rattle.table.proofs.Slots.{length_loaded, sized_loaded}
use Rattle.layout.specs.Places.{Ready, controller_of, put_controller, table_place}
use Rattle.layout.proofs.Tables.{table_fits, table_stored}
use Rattle.replies.specs.Answers.{Gives}
use Rattle.model.specs.declared.Answer.{Answer}
use Rattle.model.specs.declared.Answer.TheVariants.{Done, Refused}
use Rattle.outcomes.specs.Outcomes.{immediate_command}
use Rattle.outcomes.proofs.Endings.{immediate_length, immediate_status, immediate_done_lem}
use Rattle.lists.specs.Lists.{each_checks, value_checks}
use Rattle.keys.specs.Lists.{key_list, ListOf}
use Rattle.keys.proofs.Checks.{AllOfStatus, FailsWith, fails_with, values_status, first_fails, first_holds, first_numbered, passes_none}
use Rattle.keys.proofs.Checks.{append_fails, append_passes}
use Rattle.model.proofs.Model.Room.{length_complete}

-- 1. The three lists ------------------------------------------------------------------------------------------------------------------------------

-- the table that a list loads, and that table's rule
table_is : (k : ℕ) → 1 ≤ k → k ≤ 3 → (key_list k).table ≡ k
unfolding key_list link_key_list long_term_key_list identity_key_list
table_is zero a b = absurd (omega arith)
table_is (suc zero) a b = refl
table_is (suc (suc zero)) a b = refl
table_is (suc (suc (suc zero))) a b = refl
table_is (suc (suc (suc (suc k)))) a b = absurd (omega arith)

-- the rule of a list's records is that of its table
rule_is : (k : ℕ) → 1 ≤ k → k ≤ 3 → (key_list k).rule ≡ rule_at k
unfolding key_list link_key_list long_term_key_list identity_key_list rule_at table_rules
rule_is zero a b = absurd (omega arith)
rule_is (suc zero) a b = refl
rule_is (suc (suc zero)) a b = refl
rule_is (suc (suc (suc zero))) a b = refl
rule_is (suc (suc (suc (suc k)))) a b = absurd (omega arith)

-- what stands before the count: Invalid Parameters
head_status : (k : ℕ) (ps : Octets) → AllOfStatus Statuses.invalid_parameters ((key_list k).head_checks ps)
unfolding key_list link_key_list long_term_key_list identity_key_list AllOfStatus status_of
head_status zero ps = (refl, tt)
head_status (suc zero) ps = (refl, tt)
head_status (suc (suc zero)) ps = tt
head_status (suc (suc (suc k))) ps = tt

-- the values of a record: Invalid Parameters
record_status : (k : ℕ) (x : Octets) → AllOfStatus Statuses.invalid_parameters ((key_list k).rule.checks x)
unfolding key_list link_key_list long_term_key_list identity_key_list link_key_rule long_term_key_rule identity_key_rule le_address_checks AllOfStatus status_of
record_status zero x = (refl, (refl, tt))
record_status (suc zero) x = (refl, (refl, tt))
record_status (suc (suc zero)) x = (refl, (refl, (refl, (refl, (refl, tt)))))
record_status (suc (suc (suc k))) x = (refl, (refl, tt))

-- support: Not Supported
support_status : (k : ℕ) (f : Hardware) → AllOfStatus Statuses.not_supported ((key_list k).rule.support f)
unfolding key_list link_key_list long_term_key_list identity_key_list link_key_rule long_term_key_rule identity_key_rule needs_bredr needs_le AllOfStatus status_of
support_status zero f = (refl, tt)
support_status (suc zero) f = (refl, tt)
support_status (suc (suc zero)) f = (refl, tt)
support_status (suc (suc (suc k))) f = (refl, tt)

-- 2. The checks of a list, in order -----------------------------------------------------------------------------------------------------------------

-- a check with another place
replaced : (b : Bool) (x : Reason) (p q : Place) (cs ds : List Check) → first_of cs ≡ first_of ds
    → first_of (record { fails = b; reason = x; place = p } ∷ cs) ≡ first_of (record { fails = b; reason = x; place = q } ∷ ds)
unfolding first_of
replaced true x p q cs ds e = refl
replaced false x p q cs ds e = e

module _ (l : KeyList) (f : Hardware) (ps : Octets) (n : ℕ) (rs : List Octets) where
  -- a list is refused for count, head, values or support
  checks_are : first_of (list_checks l f ps n rs)
      ≡ first_of ((refused_if (ltb 32 n) CountAbove32) ∷ (l.head_checks ps ++ (value_checks l.rule rs ++ l.rule.support f)))
  unfolding list_checks value_checks
  checks_are =
      let numbered : List Check = M.record_checks l.rule 0 (l.count_at + 2) rs in
      let keys : List Octets = map l.rule.key rs in
      let again : Check = refused_if (not (distinct keys)) RecordRepeated in
      let last : first_of (repeat_check keys ∷ l.rule.support f) ≡ first_of (again ∷ l.rule.support f) =
      replaced _ _ _ _ _ _ refl in
      let values : first_of (numbered ++ (repeat_check keys ∷ l.rule.support f)) ≡ first_of (value_checks l.rule rs ++ l.rule.support f) =
      first_both numbered _ (each_checks l.rule rs) _ (first_numbered l.rule 0 (l.count_at + 2) rs) last ∙ rw append_assoc in
      replaced _ _ _ _ _ _ (first_both (l.head_checks ps) _ (l.head_checks ps) _ refl values)

  -- a count above 32 is the first to fail
  count_fails : 32 < n → first_of (list_checks l f ps n rs) ≡ some CountAbove32
  count_fails h = checks_are ∙ first_fails (refused_if (ltb 32 n) CountAbove32) _ (lt-ltb 32 n h)

  -- with a count of at most 32 the checks of head, values and support tell
  past_count : n ≤ 32 → first_of (list_checks l f ps n rs) ≡ first_of (l.head_checks ps ++ (value_checks l.rule rs ++ l.rule.support f))
  past_count h = checks_are ∙ first_holds (refused_if (ltb 32 n) CountAbove32) _ (le-ltb 32 n h)

  -- then the head tells, where it fails
  head_fails : (status : ℕ) → n ≤ 32 → FailsWith (l.head_checks ps) status → FailsWith (list_checks l f ps n rs) status
  head_fails status h x = record { reason = x.reason; first = past_count h ∙ append_fails (l.head_checks ps) _ x.reason x.first; told = x.told }

  -- past the head, values and support tell
  past_head : n ≤ 32 → passes (l.head_checks ps) ≡ true → first_of (list_checks l f ps n rs) ≡ first_of (value_checks l.rule rs ++ l.rule.support f)
  past_head h e = past_count h ∙ append_passes (l.head_checks ps) _ (passes_none (l.head_checks ps) e)

  -- then the values tell, where one fails
  values_fail : (status : ℕ) → n ≤ 32 → passes (l.head_checks ps) ≡ true → FailsWith (value_checks l.rule rs) status
      → FailsWith (list_checks l f ps n rs) status
  values_fail status h e x =
      record { reason = x.reason; first = past_head h e ∙ append_fails (value_checks l.rule rs) _ x.reason x.first; told = x.told }

  -- past the values, support tells
  past_values : n ≤ 32 → passes (l.head_checks ps) ≡ true → passes (value_checks l.rule rs) ≡ true
      → first_of (list_checks l f ps n rs) ≡ first_of (l.rule.support f)
  past_values h e v = past_head h e ∙ append_passes (value_checks l.rule rs) _ (passes_none (value_checks l.rule rs) v)

-- 3. What the model's rule does with a list -----------------------------------------------------------------------------------------------------------

-- the checks that it makes
abbrev checks_of : KeyList → Controller → Octets → List Check
checks_of l c ps = list_checks l c.radio.hardware ps (u16 ps l.count_at) (records_of l ps)

-- a list with a check that fails is refused, for the reason of the first
act_refuses : (l : KeyList) (i : ℕ) (c : Controller) (ps : Octets) (x : Reason) → first_of (checks_of l c ps) ≡ some x → act (load_keys l) i c ps ≡ refuse x
unfolding load_keys unless
act_refuses l i c ps x e = rw e

-- a list whose checks all pass is loaded: no return parameters, no events, the table's old records gone
act_loads : (l : KeyList) (i : ℕ) (c : Controller) (ps : Octets) → first_of (checks_of l c ps) ≡ none
    → act (load_keys l) i c ps ≡ done [] [] (with_table c.host l.table (loaded (records_of l ps)))
unfolding load_keys unless
act_loads l i c ps e = rw e

-- 4. The ways out of `load_list` ------------------------------------------------------------------------------------------------------------------------

-- the length that the model asks for
pub list_sized : (k at : ℕ) (valid : Bool) (ps : Octets) → ListOf k at valid ps → (load_keys (key_list k)).size ps ≡ true
unfolding load_keys
list_sized k at valid ps g = rw (← g.place, rule_is k g.least g.most) (eq-eqb (length ps) (at + 2 + (rule_at k).size * u16 ps at) g.long)

-- the records lie in the packet
pub list_inside : (k at n : ℕ) (valid : Bool) (ps : Octets) → ListOf k at valid ps → n ≡ u16 ps at → at + 2 + (rule_at k).size * n ≤ length ps
list_inside k at n valid ps g en = rw en (omega (arith, g.long))

-- and the table in the state
pub load_room : (i k place size : ℕ) (s : Octets) → length s ≡ Lengths.state → i < 4 → k < 6 → place ≡ table_place i k → size ≡ (rule_at k).size
    → place + (4 + size * 32) ≤ length s
load_room i k place size s l h m ep ez = rw (ep, ez, l) (table_fits i k h m)

module _ (s : Octets) (i code k at n : ℕ) (valid : Bool) (ps d d' : Octets) (r : Answer) (given : Ready s i) (big : Lengths.reply_buffer ≤ length d)
    (g : ListOf k at valid ps) (en : n ≡ u16 ps at) where
  -- the controller that the list is for
  abbrev here : Controller
  here = controller_of s i

  -- the records of the list, by the count that was read
  abbrev list : List Octets
  list = chop (rule_at k).size n (drop (at + 2) ps)

  -- the count that was read is the model's
  count_is : u16 ps (key_list k).count_at ≡ n
  count_is = rw (← g.place) (sym en)

  -- so the records are the model's
  records_are : records_of (key_list k) ps ≡ list
  records_are = rw (count_is, ← g.place, rule_is k g.least g.most)

  -- where the checks fail with a status, the answer is Command Status with it, and the state stays
  refuses : (status : ℕ) → FailsWith (checks_of (key_list k) here ps) status → r ≡ Refused 9 → d' ≡ write_at d 0 (command_status i code status)
      → Gives (immediate_command s i code ps (load_keys (key_list k))) r d d' s
  unfolding load_keys
  refuses status x m w =
      immediate_status s i code ps (load_keys (key_list k)) d d' r given big (list_sized k at valid ps g) x.reason refl
      (act_refuses (key_list k) i here ps x.reason x.first) m (rw x.told w)

  -- a count above 32: No Resources
  pub count_refuses : 32 < n → r ≡ Refused 9 → d' ≡ write_at d 0 (command_status i code Statuses.no_resources)
      → Gives (immediate_command s i code ps (load_keys (key_list k))) r d d' s
  unfolding status_of
  count_refuses h m w =
      refuses Statuses.no_resources (record {
        reason = CountAbove32;
        first = count_fails (key_list k) here.radio.hardware ps
            (u16 ps (key_list k).count_at) (records_of (key_list k) ps) (rw count_is h);
        told = refl;
      }) m w

  -- the head fails: Invalid Parameters
  pub head_refuses : n ≤ 32 → valid ≡ false → r ≡ Refused 9 → d' ≡ write_at d 0 (command_status i code Statuses.invalid_parameters)
      → Gives (immediate_command s i code ps (load_keys (key_list k))) r d d' s
  head_refuses h e m w =
      refuses Statuses.invalid_parameters (head_fails (key_list k) here.radio.hardware ps (u16 ps (key_list k).count_at) (records_of (key_list k) ps)
      Statuses.invalid_parameters (rw count_is h)
      (fails_with Statuses.invalid_parameters ((key_list k).head_checks ps) (head_status k ps) (sym g.head ∙ e))) m w

  -- the head is valid: the model's checks of it pass
  head_passes : valid ≡ true → passes ((key_list k).head_checks ps) ≡ true
  head_passes e = sym g.head ∙ e

  -- whether the values are valid is whether the model's checks of them pass
  values_are : (v : Bool) → v ≡ passes (value_checks (rule_at k) list) → passes (value_checks (key_list k).rule (records_of (key_list k) ps)) ≡ v
  values_are v e = sym (rw (records_are, rule_is k g.least g.most) e)

  -- a value fails or a record is repeated: Invalid Parameters
  pub values_refuse : n ≤ 32 → valid ≡ true → (v : Bool) → v ≡ passes (value_checks (rule_at k) list) → v ≡ false → r ≡ Refused 9
      → d' ≡ write_at d 0 (command_status i code Statuses.invalid_parameters) → Gives (immediate_command s i code ps (load_keys (key_list k))) r d d' s
  values_refuse h e v ev f m w =
      refuses Statuses.invalid_parameters (values_fail (key_list k) here.radio.hardware ps (u16 ps (key_list k).count_at) (records_of (key_list k) ps)
      Statuses.invalid_parameters (rw count_is h) (head_passes e)
      (fails_with Statuses.invalid_parameters (value_checks (key_list k).rule (records_of (key_list k) ps))
      (values_status (key_list k).rule (record_status k) (records_of (key_list k) ps)) (values_are v ev ∙ f))) m w

  -- the values are valid: support tells
  module _ (h : n ≤ 32) (e : valid ≡ true) (v : Bool) (ev : v ≡ passes (value_checks (rule_at k) list)) (good : v ≡ true) (f : Hardware)
      (ef : f ≡ here.radio.hardware) (q : Bool)
      (eq : (x : Hardware) → x.supported ≡ f.supported → q ≡ passes ((rule_at k).support x)) where
    -- so the first check that fails is one of support, if any does
    past : first_of (checks_of (key_list k) here ps) ≡ first_of ((key_list k).rule.support here.radio.hardware)
    past =
        past_values (key_list k) here.radio.hardware ps (u16 ps (key_list k).count_at) (records_of (key_list k) ps) (rw count_is h) (head_passes e)
        (values_are v ev ∙ good)

    -- they pass exactly if the code found support
    support_is : passes ((key_list k).rule.support here.radio.hardware) ≡ q
    support_is = rw (rule_is k g.least g.most) (sym (eq here.radio.hardware (rw ef)))

    -- no support: Not Supported
    pub support_refuses : q ≡ false → r ≡ Refused 9 → d' ≡ write_at d 0 (command_status i code Statuses.not_supported)
        → Gives (immediate_command s i code ps (load_keys (key_list k))) r d d' s
    support_refuses o m w =
        let x = fails_with Statuses.not_supported ((key_list k).rule.support here.radio.hardware) (support_status k here.radio.hardware)
        (support_is ∙ o) in
        refuses Statuses.not_supported (record { reason = x.reason; first = past ∙ x.first; told = x.told }) m w

    -- all checks pass: the list is in its table, and the answer is Command Complete
    pub list_loads : q ≡ true → (s' : Octets) (place size : ℕ) → place ≡ table_place i k → size ≡ (rule_at k).size
        → s' ≡ write_at s place (region size (loaded (chop size n (drop (at + 2) ps)))) → r ≡ Done 9 → d' ≡ write_at d 0
        (command_complete i code 0 [])
        → Gives (immediate_command s i code ps (load_keys (key_list k))) r d d' s'
    list_loads o s' place size ep ez es m w =
        let a = act_loads (key_list k) i here ps (past ∙ passes_none ((key_list k).rule.support here.radio.hardware) (support_is ∙ o)) in
        let b : act (load_keys (key_list k)) i here ps ≡ done [] [] (with_table here.host k (loaded list)) = a
        ∙ rw (records_are, table_is k g.least g.most) in
        let long : length (loaded list) ≡ 32 = length_loaded list (rw (length_chop (rule_at k).size n (drop (at + 2) ps)) h) in
        let inside = list_inside k at n valid ps g en in
        let st : s' ≡ encode (put_controller (decode s) i (with_host here (with_table here.host k (loaded list)))) =
        es ∙ rw (ep, ez) (table_stored s i given k (omega (arith, g.most)) (loaded list) long (sized_loaded (rule_at k).size n ps (at + 2) inside)) in
        immediate_done_lem s i code ps (load_keys (key_list k)) d d' r given big (list_sized k at valid ps g) s' [] []
        (with_table here.host k (loaded list)) 9 b m
        (rw append-nil (length_complete i code 0 [])) (omega arith) (w ∙ rw append-nil) st

-- 5. The three commands ---------------------------------------------------------------------------------------------------------------------------------

-- a list of another length
pub list_wrong : (s : Octets) (i code k at size : ℕ) (fits : Bool) (ps d d' : Octets) (r : Answer) → Ready s i → Lengths.reply_buffer ≤ length d
    → (key_list k).count_at ≡ at → (key_list k).rule.size ≡ size
    → fits ≡ eqb (length ps) (at + 2 + size * u16 ps at) → fits ≡ false → r ≡ Refused 9 → d' ≡ write_at d 0 (command_status i code Statuses.invalid_parameters)
    → Gives (immediate_command s i code ps (load_keys (key_list k))) r d d' s
unfolding load_keys
list_wrong s i code k at size fits ps d d' r g big ea ez e f m w =
    immediate_length s i code ps (load_keys (key_list k)) d d' r g big (rw (ea, ez) (sym e ∙ f)) m w

-- the debug flag is 0 or 1
debug_is : (v : ℕ) → leb v 1 ≡ passes ((refused_at 0 (ltb 1 v) DebugFlagAbove1) ∷ [])
unfolding passes first_of no_reason
debug_is v = go (ltb 1 v) refl
  where
    go : (b : Bool) → ltb 1 v ≡ b → leb v 1 ≡ no_reason (elim b [ true ↦ some DebugFlagAbove1 | false ↦ none ])
    go true e = lt-leb v 1 (ltb-true 1 v e)
    go false e = le-leb v 1 (ltb-false 1 v e)

-- lists of the right length
pub link_list : (ps : Octets) (fits : Bool) → fits ≡ eqb (length ps) (1 + 2 + 25 * u16 ps 1) → fits ≡ true → ListOf 1 1 (leb (get_or ps 0 0) 1) ps
unfolding key_list link_key_list rule_at table_rules link_key_rule octet
link_list ps fits e f =
    record {
      least = omega arith;
      most = omega arith;
      early = omega arith;
      place = refl;
      long = equal (length ps) (1 + 2 + 25 * u16 ps 1) (sym e ∙ f);
      head = debug_is (get_or ps 0 0);
    }

-- the same, of long term keys: nothing stands before the count
pub long_term_list : (ps : Octets) (fits : Bool) → fits ≡ eqb (length ps) (0 + 2 + 36 * u16 ps 0) → fits ≡ true → ListOf 2 0 true ps
unfolding key_list long_term_key_list rule_at table_rules long_term_key_rule passes first_of no_reason
long_term_list ps fits e f =
    record {
      least = omega arith;
      most = omega arith;
      early = omega arith;
      place = refl;
      long = equal (length ps) (0 + 2 + 36 * u16 ps 0) (sym e ∙ f);
      head = refl;
    }

-- the same, of identity keys
pub identity_list : (ps : Octets) (fits : Bool) → fits ≡ eqb (length ps) (0 + 2 + 23 * u16 ps 0) → fits ≡ true → ListOf 3 0 true ps
unfolding key_list identity_key_list rule_at table_rules identity_key_rule passes first_of no_reason
identity_list ps fits e f =
    record {
      least = omega arith;
      most = omega arith;
      early = omega arith;
      place = refl;
      long = equal (length ps) (0 + 2 + 23 * u16 ps 0) (sym e ∙ f);
      head = refl;
    }

-- the first octet of a link key list is there
pub link_first : (ps : Octets) (fits : Bool) → fits ≡ eqb (length ps) (1 + 2 + 25 * u16 ps 1) → fits ≡ true → 0 < length ps
link_first ps fits e f = let h = equal (length ps) (1 + 2 + 25 * u16 ps 1) (sym e ∙ f) in omega arith
