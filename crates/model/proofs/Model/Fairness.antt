-- Fairness, one call or lump: a clock reading passes as many seconds, every other call and every lump leaves the turn alone or passes it on. So after each an
-- instance that waits has as much less to wait for as seconds passed.
use Rattle.std.specs.Prelude.{ℕ, zero, suc, ◌+◌, ◌≤◌, ◌^◌, ◌≡◌, Bool, true, false, ◌&&◌, ◌||◌, not, ◌++◌, length, take, eqb, leb, ltb}
use Rattle.std.proofs.Common.{arith, sym, ap, ◌∙◌, eqb-true}
use Rattle.std.proofs.Math.Decide.{ℕ_discrete}
use Rattle.std.proofs.Math.Path.{refl}
use Rattle.std.proofs.Math.Option.{Option, none, some}
use Rattle.std.proofs.lemmas.Bool.{eqb-false}
use Rattle.model.specs.Octets.{Octets, octet}
use Rattle.model.specs.Advertising.{Schedule, added_instance, duration_of, no_advertising, no_schedule, passed_on, present, removed_instance}
use Rattle.model.specs.Advertising.{repowered, rescheduled, second, seconds, value_of, with_instance, without}
use Rattle.model.specs.State.{Controller, Hardware, Host, Hub, OpenCommand, PlainHub, controller_at, hardware_ok, plugged, with_advertising}
use Rattle.model.specs.State.{with_bondable, with_bredr, with_connectable}
use Rattle.model.specs.State.{with_controller, with_host, with_low_energy, with_name, with_powered, with_schedule, with_table, with_timer, with_waiting}
use Rattle.model.specs.Reasons.{Reason, first_of}
use Rattle.model.specs.Rules.{Immediate, ImmediateRule, RadioRule, Rule, done, general, immediate, on, radio, refuse, set_connectable, set_discoverable}
use Rattle.model.specs.Rules.{act, unless}
use Rattle.model.specs.Rules.{set_low_energy}
use Rattle.model.specs.Rules.{set_bredr, set_powered, set_static_address}
use Rattle.model.specs.Immediate.{add_advertising, advertising_checks, add_device, add_uuid, advertised, block_device, identity_key_list, link_key_list}
use Rattle.model.specs.Immediate.{load_keys, long_term_key_list}
use Rattle.model.specs.Immediate.{read_information, remove_advertising, remove_device, remove_uuid, set_bondable, set_local_name, unblock_device}
use Rattle.model.specs.Immediate.{unpair_device, unpaired}
use Rattle.model.specs.Commands.{rows, rule}
use Rattle.model.specs.Hub.{Outcome, Result, Verdict, acted, anyway, bad_argument, bad_packet, busy_or, by_rule, call, call_plain, clock, clock_out}
use Rattle.model.specs.Hub.{code_of}
use Rattle.model.specs.Hub.{command, command_out, finish, finish_by, finished, general_out, immediate_at, immediate_done, index_of, keep, no_room, outcome}
use Rattle.model.specs.Hub.{packet_ok, params_of}
use Rattle.model.specs.Hub.{plug, plug_out, radio_after_busy, radio_at, radio_before_busy, refused, report, report_out, save, save_out, state_of, step_of, tick}
use Rattle.model.specs.Hub.{tick_slot, under_way}
use Rattle.model.specs.Hub.{answer_of, unless_busy, unplug, unplug_out, unplugged, verdict, with_open, within}
use Rattle.model.specs.Stream.{HostCall, Streamed, direct, stream, stream_out}
use Rattle.model.specs.WellFormed.{host_call_wide, schedule_ok, well_formed}
use Rattle.model.specs.Demand3.{host_next}
use Rattle.model.specs.Fairness.{each, off_air, schedule_at, schedule_in, seconds_in, steady_in}
use Rattle.model.proofs.Model.Advertising.{advertising_fit}
use Rattle.model.proofs.Model.EveryRow.{Each, ◌&◌, end, found}
use Rattle.model.proofs.Model.Invariant.{put_other, put_same, slot_tick}
use Rattle.model.proofs.Model.Keeps.{well_fit}
use Rattle.model.proofs.Model.Lump.{Step, acts, small, waiting_in, waits}
use Rattle.model.proofs.Model.OneLump.{lump_step, taken_before}
use Rattle.model.proofs.Model.Parts.{controller_fit}
use Rattle.model.proofs.Model.Stays.{controller_ok_lem}
use Rattle.model.proofs.Model.Tests.{and_true, either, no_way, not-true}
use Rattle.model.proofs.Model.Waiting.{AllUnder, Moves, Under, Waits, alone, move_wait, on as goes_on_lem, seconds_wait, waiting}

-- a hub means itself
abbrev pub itself : Hub → Hub
itself = λ h. h

-- 1. The rules --------------------------------------------------------------------------------------------------------------------------------

-- the schedule of a controller
abbrev schedule_of : Controller → Schedule
schedule_of c = c.host.advertising.schedule

-- with power on before and after and instance k still there, the turn is left alone or passes on
unfoldable pub Onward : ℕ → Controller → Controller → Type 0
Onward k c d = c.radio.powered ≡ true → d.radio.powered ≡ true → present (schedule_of d) k ≡ true → Moves (schedule_of c) (schedule_of d)

-- what a command that is never Busy gives
unfoldable pub OnwardImmediate : ℕ → Controller → Immediate → Type 0
OnwardImmediate k c (refuse r) = Unit {0}
OnwardImmediate k c (done out evs host) = Onward k c (with_host c host)

-- a rule of any kind
unfoldable pub OnwardRule : Rule → Type 0
OnwardRule (general f) = Unit {0}
OnwardRule (immediate q) = (k i : ℕ) (c : Controller) (ps : Octets) → OnwardImmediate k c (act q i c ps)
OnwardRule (radio r) = (k : ℕ) (c : Controller) (ps : Octets) → Onward k c (r.effect c ps)

-- whatever the checks say
unless_onward : (k : ℕ) (c : Controller) (x : Option Reason) (q : Immediate) → OnwardImmediate k c q → OnwardImmediate k c (unless x q)
unfolding unless OnwardImmediate
unless_onward k c (some r) q h = tt
unless_onward k c none q h = h

-- the schedule is as it was
same_schedule : (k : ℕ) (c d : Controller) → schedule_of d ≡ schedule_of c → Onward k c d
unfolding Onward
same_schedule k c d e _ _ _ = rw e (alone refl refl)

-- a command that is never Busy and has nothing to do with advertising
same_host : (k : ℕ) (c : Controller) (x : Option Reason) (out evs : Octets) (host : Host) → host.advertising ≡ c.host.advertising
    → OnwardImmediate k c (unless x (done out evs host))
unfolding OnwardImmediate with_host
same_host k c x out evs host e = unless_onward k c x (done out evs host) (same_schedule k c (with_host c host) (ap (λ (a : _). a.schedule) e))

-- no instance is there where there is none at all
none_there : (k : ℕ) → present no_schedule k ≡ false
unfolding present duration_of value_of no_schedule
none_there zero = refl
none_there (suc zero) = refl
none_there (suc (suc zero)) = refl
none_there (suc (suc (suc zero))) = refl
none_there (suc (suc (suc (suc zero)))) = refl
none_there (suc (suc (suc (suc (suc zero))))) = refl
none_there (suc (suc (suc (suc (suc (suc k)))))) = refl

-- Add Advertising: the turn passes on if the instance is the one on air or none is, else it is left alone
added_moves : (w : Bool) (j d t : ℕ) (s : Schedule) → Moves s (added_instance w j d t s)
unfolding added_instance with_instance
added_moves w j d t s = either (Moves s) (w && (eqb s.on_air 0 || eqb s.on_air j)) (λ _. goes_on_lem (with_instance j d t s) refl) (λ _. alone refl refl)

-- Remove Advertising: the same, unless all go
removed_moves : (k j : ℕ) (s : Schedule) → present (removed_instance j s) k ≡ true → Moves s (removed_instance j s)
unfolding removed_instance without with_instance
removed_moves k j s =
    either (λ t. present t k ≡ true → Moves s t) (eqb j 0) (λ _ h. no_way (sym h ∙ none_there k))
    (λ _. either (λ t. present t k ≡ true → Moves s t) (eqb s.on_air j) {x = passed_on j (without j s)} {y = without j s}
    (λ e _. goes_on_lem (without j s) (rw (eqb-true s.on_air j e))) (λ _ _. alone refl refl))

-- Add Advertising, as a rule
add_onward : OnwardRule (immediate add_advertising)
unfolding OnwardRule OnwardImmediate Onward add_advertising advertising_checks advertised with_host with_advertising
add_onward k i c ps = unless_onward k c _ _ (λ _ _ _. added_moves c.radio.powered _ _ _ (schedule_of c))

-- Remove Advertising, as a rule
remove_onward : OnwardRule (immediate remove_advertising)
unfolding OnwardRule OnwardImmediate Onward remove_advertising rescheduled with_host with_advertising
remove_onward k i c ps = unless_onward k c _ _ (λ _ _ h. removed_moves k (octet ps 0) (schedule_of c) h)

-- Set Powered: on while on changes nothing
powered_onward : OnwardRule (radio set_powered)
unfolding OnwardRule Onward set_powered with_powered with_schedule with_advertising rescheduled repowered
powered_onward k c ps w v h = let e : on ps ≡ true = v in rw (e, w) (alone refl refl)

-- Set Low Energy: on changes nothing, off takes all instances away
low_energy_onward : OnwardRule (radio set_low_energy)
unfolding OnwardRule Onward set_low_energy with_low_energy with_advertising no_advertising
low_energy_onward k c ps w v =
    either (λ (s : Host). present s.advertising.schedule k ≡ true → Moves (schedule_of c) s.advertising.schedule) (on ps)
    (λ _ h. alone refl refl) (λ _ h. no_way (sym h ∙ none_there k))

-- Set Connectable
connectable_onward : OnwardRule (radio set_connectable)
unfolding OnwardRule set_connectable with_timer
connectable_onward k c ps =
    either (λ (s : Host). Onward k c (record { radio = with_connectable c.radio (on ps); host = s })) (on ps) (λ _. same_schedule k c _ refl)
    (λ _. same_schedule k c _ refl)

-- Set BR/EDR
bredr_onward : OnwardRule (radio set_bredr)
unfolding OnwardRule set_bredr with_timer
bredr_onward k c ps =
    either (λ (s : Host). Onward k c (record { radio = with_bredr c.radio (on ps); host = s })) (on ps) (λ _. same_schedule k c _ refl)
    (λ _. same_schedule k c _ refl)

-- a rule of a command that is never Busy, by what it gives
at_once : (q : ImmediateRule) → ((k i : ℕ) (c : Controller) (ps : Octets) → OnwardImmediate k c (act q i c ps)) → OnwardRule (immediate q)
unfolding OnwardRule
at_once q h = h

-- a rule of a settings command, by its effect
by_effect : (r : RadioRule) → ((k : ℕ) (c : Controller) (ps : Octets) → Onward k c (r.effect c ps)) → OnwardRule (radio r)
unfolding OnwardRule
by_effect r h = h

-- Read Controller Information is never refused
information_onward : OnwardRule (immediate read_information)
unfolding OnwardRule OnwardImmediate with_host read_information unless first_of
information_onward k i c ps = same_schedule k c _ refl

-- every row leaves the turn alone or passes it on
all_onward : Each (λ code u. OnwardRule u) rows
unfolding rows OnwardRule OnwardImmediate with_host set_discoverable set_bondable set_static_address set_local_name add_uuid remove_uuid load_keys
    unpair_device unpaired block_device
    unblock_device add_device remove_device with_timer with_bondable with_name with_table
all_onward =
    tt
    & tt
    & tt
    & information_onward
    & powered_onward
    & by_effect set_discoverable (λ k c ps. same_schedule k c _ refl)
    & connectable_onward
    & at_once set_bondable (λ k i c ps. same_host k c _ _ _ _ refl)
    & low_energy_onward
    & at_once set_local_name (λ k i c ps. same_host k c _ _ _ _ refl)
    & at_once add_uuid (λ k i c ps. same_host k c _ _ _ _ refl)
    & at_once remove_uuid (λ k i c ps. same_host k c _ _ _ _ refl)
    & at_once (load_keys link_key_list) (λ k i c ps. same_host k c _ _ _ _ refl)
    & at_once (load_keys long_term_key_list) (λ k i c ps. same_host k c _ _ _ _ refl)
    & at_once unpair_device (λ k i c ps. same_host k c _ _ _ _ refl)
    & at_once block_device (λ k i c ps. same_host k c _ _ _ _ refl)
    & at_once unblock_device (λ k i c ps. same_host k c _ _ _ _ refl)
    & bredr_onward
    & by_effect set_static_address (λ k c ps. same_schedule k c _ refl)
    & at_once (load_keys identity_key_list) (λ k i c ps. same_host k c _ _ _ _ refl)
    & at_once add_device (λ k i c ps. same_host k c _ _ _ _ refl)
    & at_once remove_device (λ k i c ps. same_host k c _ _ _ _ refl)
    & add_onward
    & remove_onward
    & end

-- so does the rule that a code finds
rule_onward : (code : ℕ) (u : Rule) → rule code ≡ some u → OnwardRule u
unfolding rule
rule_onward code u e = found (λ code u. OnwardRule u) code rows u all_onward e

-- 2. The calls --------------------------------------------------------------------------------------------------------------------------------

-- what is found twice is the same
same_found : {c d : Controller} → ◌≡◌ {A = Option Controller} (some c) (some d) → d ≡ c
same_found e = cc

-- what is found is not missing
not_missing : {A : Type 0} {c : Controller} → ◌≡◌ {A = Option Controller} none (some c) → A
not_missing e = let z : ◌≡◌ {A = ℕ} 0 1 = cc in absurd (omega arith)

module _ (i k : ℕ) (p : PlainHub) where
  -- from p to another plain hub, the turn at index i is left alone or passes on
  abbrev Forward : PlainHub → Type 0
  Forward q = (c d : Controller) → controller_at p i ≡ some c → controller_at q i ≡ some d → Onward k c d

  -- the same of what a call comes to
  abbrev Ends : Outcome → Type 0
  Ends o = Forward (state_of p o)

  -- nothing changed at the index
  unmoved : (q : PlainHub) → controller_at q i ≡ controller_at p i → Forward q
  unmoved q e c d ec ed = same_schedule k c d (ap schedule_of (same_found (sym ec ∙ (sym e ∙ ed))))

  -- nothing changed
  still : Forward p
  still = unmoved p refl

  -- another controller at an index that held one
  put_forward : (j : ℕ) (b x : Controller) → controller_at p j ≡ some b → Onward k b x → Forward (with_controller p j (some x))
  put_forward j b x eb h c d ec ed = go (ℕ_discrete i j)
    where
      go : Dec (i ≡ j) → Onward k c d
      go (no ne) = unmoved (with_controller p j (some x)) (put_other p j i (some x) ne) c d ec ed
      go (yes e) =
          let eq : c ≡ b = same_found (sym eb ∙ (rw e at ec)) in
          let ex : d ≡ x = same_found (sym (put_same p j b (some x) eb) ∙ (rw e at ed)) in
          rw (eq, ex) h

  -- a command that is never Busy
  done_forward : (j code : ℕ) (ps : Octets) (a : Bool) (c : Controller) (q : Immediate) → controller_at p j ≡ some c → OnwardImmediate k c q
      → Ends (immediate_done p j code ps a c q)
  unfolding immediate_done state_of OnwardImmediate
  done_forward j code ps a c (refuse r) e h = still
  done_forward j code ps a c (done out evs host) e h = put_forward j c (with_host c host) e h

  -- a command, by its rule
  rule_forward : (j code : ℕ) (ps : Octets) (u : Option Rule) → rule code ≡ u → (s : Option Controller) → controller_at p j ≡ s
      → Ends (outcome (by_rule p j code ps u))
  unfolding outcome by_rule state_of general_out immediate_at radio_at radio_before_busy radio_after_busy acted OnwardRule
  rule_forward j code ps none eu s es = still
  rule_forward j code ps (some (general f)) eu s es = either Ends (eqb j 0xFFFF) (λ _. either Ends (eqb (length ps) 0) (λ _. still) (λ _. still)) (λ _. still)
  rule_forward j code ps (some (immediate q)) eu none es = rw es still
  rule_forward j code ps (some (immediate q)) eu (some c) es =
      rw es (either Ends (q.size ps) (λ z. done_forward j code ps q.by_address c (act q j c ps) es (rule_onward code (immediate q) eu k j c ps))
      (λ _. still))
  rule_forward j code ps (some (radio r)) eu none es = rw es still
  rule_forward j code ps (some (radio r)) eu (some c) es =
      rw es (either (λ v. Ends (outcome v)) (eqb (length ps) r.size) (λ z. before_busy (first_of (r.before_busy c.radio ps))) (λ _. still))
    where
      after_busy : (x : Option Reason) → Ends (outcome (radio_after_busy p j code ps r c x))
      after_busy (some x) = still
      after_busy none = put_forward j c (r.effect c ps) es (rule_onward code (radio r) eu k c ps)

      before_busy : (x : Option Reason) → Ends (outcome (radio_before_busy p j code ps r c x))
      before_busy (some x) = still
      before_busy none = after_busy (first_of (r.after_busy c.radio ps))

  -- a command
  command_forward : (room : ℕ) (packet : Octets) → Ends (outcome (verdict p room packet))
  unfolding outcome verdict state_of
  command_forward room packet =
      either (λ v. Ends (outcome v)) (ltb room 1024) (λ _. still)
      (λ _. either (λ v. Ends (outcome v)) (packet_ok packet)
      (λ _. rule_forward (index_of packet) (code_of packet) (params_of packet) (rule (code_of packet)) refl (controller_at p (index_of packet)) refl)
      (λ _. still))

  -- a report of status 0, by the rule of the command that it finishes
  finish_forward : (j : ℕ) (o : OpenCommand) (u : Option Rule) → rule o.code ≡ u → (s : Option Controller) → controller_at p j ≡ s → Ends
      (finish_by p j o u s)
  unfolding finish_by state_of acted OnwardRule
  finish_forward j o none eu s es = still
  finish_forward j o (some (general f)) eu s es = still
  finish_forward j o (some (immediate q)) eu s es = still
  finish_forward j o (some (radio r)) eu none es = still
  finish_forward j o (some (radio r)) eu (some c) es = put_forward j c (r.effect c o.params) es (rule_onward o.code (radio r) eu k c o.params)

  -- a plug fills an index that was empty
  plug_forward : (j : ℕ) (f : Hardware) (s : Option Controller) → controller_at p j ≡ s → Ends (plug_out p j f s)
  unfolding plug_out state_of
  plug_forward j f (some c) es = still
  plug_forward j f none es = either Ends (ltb j 4 && hardware_ok f) (λ _ c d ec ed. go c d ec ed (ℕ_discrete i j)) (λ _. still)
    where
      go : (c d : Controller) → controller_at p i ≡ some c → controller_at (with_controller p j (some (plugged f))) i ≡ some d → Dec (i ≡ j) → Onward k c d
      go c d ec ed (no ne) = unmoved (with_controller p j (some (plugged f))) (put_other p j i (some (plugged f)) ne) c d ec ed
      go c d ec ed (yes e) = not_missing (sym es ∙ (rw e at ec))

  -- an unplug leaves its index empty
  unplug_forward : (j : ℕ) (s : Option Controller) → controller_at p j ≡ s → Ends (unplug_out p j s)
  unfolding unplug_out state_of
  unplug_forward j none es = still
  unplug_forward j (some b) es = λ c d ec ed. go c d ec ed (ℕ_discrete i j)
    where
      go : (c d : Controller) → controller_at p i ≡ some c → controller_at (with_controller p j none) i ≡ some d → Dec (i ≡ j) → Onward k c d
      go c d ec ed (no ne) = unmoved (with_controller p j none) (put_other p j i none ne) c d ec ed
      go c d ec ed (yes e) = not_missing (sym (put_same p j b none es) ∙ (rw e at ed))

  -- too small a reply buffer changes nothing
  within_forward : (need room : ℕ) (o : Outcome) → Ends o → Ends (within need room o)
  unfolding within state_of
  within_forward need room o h = either Ends (ltb room need) (λ _. still) (λ _. h)

-- a settings command past the checks before Busy
busy_forward : (i k : ℕ) (h : Hub) (j code : ℕ) (ps : Octets) (o : Outcome) (w : Bool) (x : Option OpenCommand) → Ends i k h.plain o
    → Forward i k h.plain (busy_or h j code ps o w x).state.plain
unfolding busy_or keep with_open
busy_forward i k h j code ps o w (some x) f = still i k h.plain
busy_forward i k h j code ps o true none f = still i k h.plain
busy_forward i k h j code ps o false none f = f

-- a command to our hub
out_forward : (i k : ℕ) (h : Hub) (j code : ℕ) (ps : Octets) (v : Verdict) (x : Option OpenCommand) → Ends i k h.plain (outcome v)
    → Forward i k h.plain (command_out h j code ps v x).state.plain
unfolding command_out keep outcome
out_forward i k h j code ps (anyway o) x f = f
out_forward i k h j code ps (unless_busy o w) x f = busy_forward i k h j code ps o w x f

-- a report
report_forward : (i k : ℕ) (h : Hub) (j s : ℕ) (x : Option OpenCommand) → Forward i k h.plain (report_out h j s x).state.plain
unfolding report_out keep with_open state_of finish
report_forward i k h j s none = still i k h.plain
report_forward i k h j s (some o) =
    either {A = Result Hub} (λ r. Forward i k h.plain r.state.plain) (ltb 0x14 s) (λ _. still i k h.plain)
    (λ _. either {A = Result Hub} (λ r. Forward i k h.plain r.state.plain) (eqb s 0)
    (λ _. finish_forward i k h.plain j o (rule o.code) refl (controller_at h.plain j) refl) (λ _. still i k h.plain))

-- an unplug of our hub
unplugged_forward : (i k : ℕ) (h : Hub) (j : ℕ) (o : Outcome) → Ends i k h.plain o → Forward i k h.plain (unplugged h j o).state.plain
unfolding unplugged keep state_of
unplugged_forward i k h j (finished o p) f = f
unplugged_forward i k h j (refused g r) f = f
unplugged_forward i k h j bad_packet f = f
unplugged_forward i k h j no_room f = f
unplugged_forward i k h j bad_argument f = f

-- a packet, given to our hub
packet_forward : (i k : ℕ) (h : Hub) (room : ℕ) (packet : Octets) → Forward i k h.plain (call h (command room packet)).state.plain
unfolding call
packet_forward i k h room packet =
    out_forward i k h _ _ _ (verdict h.plain room packet) (under_way h (index_of packet)) (command_forward i k h.plain room packet)

-- a lump: nothing changes but what waits, or it is the packet that it finishes
lump_forward : (i k : ℕ) (h : Hub) (room : ℕ) (before o : Octets) (r : Streamed Hub) → Step h room before o r
    → Forward i k h.plain r.result.state.plain
unfolding with_waiting waiting_in
lump_forward i k h room before o r (small t) = still i k h.plain
lump_forward i k h room before o r (waits s) = still i k h.plain
lump_forward i k h room before o r (acts n z m t p) = packet_forward i k h room (before ++ take n o)

-- 3. One call or lump -------------------------------------------------------------------------------------------------------------------------

-- k waits, in a well-formed hub with LE and power on and k there
pub waits_in : (k : ℕ) (h : Hub) (i : ℕ) (x : Option Controller) → controller_at h.plain i ≡ x → well_formed h ≡ true → steady_in k x ≡ true
    → not (eqb (schedule_in x).on_air k) ≡ true → Waits k (schedule_in x)
unfolding steady_in schedule_in
waits_in k h i none ex w e n = no_way (sym e)
waits_in k h i (some c) ex w e n =
    let a = and_true c.radio.powered _ e in
    let b = and_true c.radio.low_energy _ a.1 in
    let f = (advertising_fit _ _ _ (controller_fit c (controller_ok_lem h.plain i c (well_fit h w).plain ex)).advertising).schedule in
    let g : schedule_ok true true (schedule_of c) ≡ true = rw (b.0, a.0) at f in
    record { ok = g; here = b.1; off = eqb-false _ _ (not-true _ n) }

-- a call that leaves the turn alone or passes it on
forward_wait : (m : ℕ → ℕ) (i k : ℕ) (p q : PlainHub) (x y : Option Controller) → controller_at p i ≡ x → controller_at q i ≡ y → Forward i k p q
    → steady_in k x ≡ true → steady_in k y ≡ true
    → Waits k (schedule_in x) → Waits k (schedule_in y) → Under m (schedule_in y) → waiting m k (schedule_in y) + 0 ≤ waiting m k (schedule_in x)
unfolding steady_in schedule_in Onward
forward_wait m i k p q none y ep eq f ex ey hx hy u = no_way (sym ex)
forward_wait m i k p q (some c) none ep eq f ex ey hx hy u = no_way (sym ey)
forward_wait m i k p q (some c) (some d) ep eq f ex ey hx hy u =
    omega (
      arith,
      move_wait m k (schedule_of c) (schedule_of d) hx hy u
          (f c d ep eq (and_true c.radio.powered _ ex).0 (and_true d.radio.powered _ ey).0 hy.here),
    )

-- seconds change nothing where no instance is there
none_seconds : (n : ℕ) → seconds n no_schedule ≡ no_schedule
unfolding seconds second no_schedule
none_seconds zero = refl
none_seconds (suc n) = none_seconds n

-- the seconds of a clock reading, at an index
tick_schedule : (n : ℕ) (x : Option Controller) → schedule_in (tick_slot n x) ≡ seconds n (schedule_in x)
unfolding schedule_in tick_slot tick with_host with_schedule with_advertising rescheduled
tick_schedule n none = sym (none_seconds n)
tick_schedule n (some c) = refl

-- the hub after a call or a lump
abbrev pub next : Hub → HostCall → Hub
next h c = host_next call stream_out h c

-- the seconds that pass in it
abbrev pub passing : Hub → HostCall → ℕ
passing h c = seconds_in itself call stream_out h c

-- a clock reading is as many seconds as pass in it, for each index
clock_schedule : (i : ℕ) (h : Hub) (room reading : ℕ) → schedule_at (call h (clock room reading)).state i
    ≡ seconds (passing h (direct (clock room reading))) (schedule_at h i)
unfolding schedule_at seconds_in call keep call_plain within clock_out state_of answer_of seconds
clock_schedule i h room reading =
    let n : ℕ = step_of h.plain.clock reading in
    either Fine (ltb room 1024) (λ _. refl) (λ _. either Fine (leb (2 ^ 31) n) (λ _. refl)
    (λ _. ap schedule_in (slot_tick h.plain n reading i) ∙ tick_schedule n (controller_at h.plain i)))
  where
    Fine : Outcome → Type 0
    Fine o = schedule_in (controller_at (state_of h.plain o) i)
        ≡ seconds (elim (eqb (answer_of o) 0) [ true ↦ step_of h.plain.clock reading | false ↦ 0 ]) (schedule_in (controller_at h.plain i))

-- what is asked of a call or a lump: k waits at the index before and after it and at each second in it, with LE and power on, and no turn lasts longer than
-- m says
pub record Undisturbed (m : ℕ → ℕ) (i k : ℕ) (h : Hub) (c : HostCall) : Type 0 where
  pub before : Waits k (schedule_at h i)
  pub after : Waits k (schedule_at (next h c) i)
  pub steady_before : steady_in k (controller_at h.plain i) ≡ true
  pub steady_after : steady_in k (controller_at (next h c).plain i) ≡ true
  pub off : off_air k (each (passing h c) (schedule_at h i)) ≡ true
  pub each_under : AllUnder m (each (passing h c) (schedule_at h i))
  pub under : Under m (schedule_at (next h c) i)

-- a call or a lump in which no second passes
no_second : (m : ℕ → ℕ) (i k : ℕ) (h : Hub) (c : HostCall) → Undisturbed m i k h c → Forward i k h.plain (next h c).plain
    → waiting m k (schedule_at (next h c) i) + 0 ≤ waiting m k (schedule_at h i)
unfolding schedule_at
no_second m i k h c u f = forward_wait m i k h.plain (next h c).plain _ _ refl refl f u.steady_before u.steady_after u.before u.after
    u.under

-- AFTER A CALL OR A LUMP, k waits as much less as seconds passed
pub next_wait : (m : ℕ → ℕ) (i k : ℕ) (h : Hub) (c : HostCall) → well_formed h ≡ true → host_call_wide c ≡ true → Undisturbed m i k h c
    → waiting m k (schedule_at (next h c) i) + passing h c ≤ waiting m k (schedule_at h i)
unfolding host_next seconds_in host_call_wide call keep call_plain state_of save_out
next_wait m i k h (direct (clock room reading)) w cw u = rw (clock_schedule i h room reading)
    (seconds_wait m k (passing h (direct (clock room reading))) (schedule_at h i) u.before u.off u.each_under).1
next_wait m i k h (direct (command room packet)) w cw u =
    no_second m i k h (direct (command room packet)) u (packet_forward i k h room packet)
next_wait m i k h (direct (report room j s)) w cw u =
    no_second m i k h (direct (report room j s)) u (either {A = Result Hub} (λ r. Forward i k h.plain r.state.plain) (ltb room 1024)
    (λ _. still i k h.plain) (λ _. report_forward i k h j s (under_way h j)))
next_wait m i k h (direct (plug room j f)) w cw u =
    no_second m i k h (direct (plug room j f)) u (within_forward i k h.plain 1024 room (plug_out h.plain j f (controller_at h.plain j))
    (plug_forward i k h.plain j f (controller_at h.plain j) refl))
next_wait m i k h (direct (unplug room j)) w cw u =
    no_second m i k h (direct (unplug room j)) u (unplugged_forward i k h j _
    (within_forward i k h.plain 1024 room (unplug_out h.plain j (controller_at h.plain j))
    (unplug_forward i k h.plain j (controller_at h.plain j) refl)))
next_wait m i k h (direct (save room)) w cw u = no_second m i k h (direct (save room)) u
    (within_forward i k h.plain 16014 room (save_out h.plain) (still i k h.plain))
next_wait m i k h (stream room o) w cw u =
    no_second m i k h (stream room o) u (lump_forward i k h room (taken_before h) o _ (lump_step h w room o cw))
