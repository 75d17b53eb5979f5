-- The invariant of demand 3: at each index nothing is under way, or a command that would now be started and whose packet is remembered.
-- What keeps it: a call changes the radio settings of a controller with an open command only when that command is finished, failed or cut off.
use Rattle.std.specs.Prelude.{ℕ, zero, suc, ◌^◌, ◌<◌, refl, ◌≢◌, Bool, true, false, ◌&&◌, List, [], ◌∷◌, map, length, get_or, replicate, set, eqb, leb, ltb}
use Rattle.std.proofs.Common.{arith, sym, ap, ◌∙◌, length-set, get_or-set_same, get_or-set_other, ltb→lt}
use Rattle.std.proofs.Math.Decide.{ℕ_discrete}
use Rattle.std.proofs.Math.Path.{◌≡◌}
use Rattle.std.proofs.Math.Option.{Option, none, some}
use Rattle.std.proofs.Math.ListN.{get_or-map}
use Rattle.model.specs.Lengths as Lengths
use Rattle.model.specs.Statuses as Statuses
use Rattle.model.specs.Octets.{Octets, bytes, command_complete, command_status, event, le16, u16}
use Rattle.model.specs.State.{Controller, Hardware, Hub, OpenCommand, PlainHub, controller_at, hardware_ok, idle, nothing_waits, plugged}
use Rattle.model.specs.State.{with_controller, with_host}
use Rattle.model.specs.Reasons.{Reason, ActionAbove2, ActionNot1ForBredr, AddressNotStaticRandom, AddressTypeAbove2, AddressTypeNotBredr}
use Rattle.model.specs.Reasons.{AddressTypeNotLe}
use Rattle.model.specs.Reasons.{AddressZero, AddressZeroNotBredr, AlreadyBlocked, BredrNotSupported, CodeUnknown, ControllerAbsent}
use Rattle.model.specs.Reasons.{CountAbove32, DebugFlagAbove1}
use Rattle.model.specs.Reasons.{DeviceAbsent, DisconnectAbove1, first_of, IndexNotNone, KeySizeNot7To16, KeyTypeAbove4, KeyTypeAbove8, LeNotSupported}
use Rattle.model.specs.Reasons.{LowEnergyNeeded, LengthWrong, MasterAbove1, NameNotEnded, NoAddressForPower, NoFreeSlot}
use Rattle.model.specs.Reasons.{NoTimeoutWithValue2, NotBlocked}
use Rattle.model.specs.Reasons.{NotConnectable, NoKeyOfDevice, no_reason, passes, PoweredForStaticAddress, RecordRepeated, ShortNameNotEnded}
use Rattle.model.specs.Reasons.{BredrOff, PoweredForBredrOff, StaticAddressForBredr}
use Rattle.model.specs.Reasons.{status_of, TimeoutWithValue0}
use Rattle.model.specs.Reasons.{Unpowered, DiscoverableTimeoutUnpowered, UuidAbsent, UuidZero, ValueAbove1, ValueAbove2}
use Rattle.model.specs.Reasons.{AdvDataAbove31, AdvertisingFlags, InstanceAbsent, InstanceNot1To5, LowEnergyOff, ScanRspAbove31}
use Rattle.model.specs.Reasons.{AdvertisingTimeoutUnpowered}
use Rattle.model.specs.Rules.{Immediate, ImmediateRule, RadioRule, Rule, done, general, immediate, radio, refuse, act}
use Rattle.model.specs.Commands.{rule}
use Rattle.model.specs.Hub.{Outcome, Verdict, acted, answer_of, anyway, bad_argument, bad_packet, by_rule, call_plain, clock_out, code_of, command}
use Rattle.model.specs.Hub.{finish, finish_by}
use Rattle.model.specs.Hub.{finished, general_out, immediate_at, immediate_done, index_of, no_room, octets_of, outcome, packet_ok, params_of, plug_out}
use Rattle.model.specs.Hub.{radio_after_busy, radio_at, radio_before_busy, refusal_octets, refused, starts, starts_by, state_of, step_of, tick}
use Rattle.model.specs.Hub.{tick_slot, unless_busy}
use Rattle.model.specs.Hub.{verdict}
use Rattle.model.specs.Stream.{kept_count, length_said}
use Rattle.model.specs.WellFormed.{waiting_ok}
use Rattle.model.specs.Demand3.{Pending, no_pending, says_busy}
use Rattle.model.proofs.Model.Tests.{and_true, either}

-- 1. What a call leaves of the controllers ------------------------------------------------------------------------------------------------

-- from one state of an index to another the radio settings stay: all that a start depends on
pub data Keeps : Option Controller → Option Controller → Type 0 where
  -- no controller before, and none after
  absent : Keeps none none
  -- a controller before and after, with the same radio settings
  present : {c d : Controller} → c.radio ≡ d.radio → Keeps (some c) (some d)

-- nothing changed
pub keeps_refl : (s : Option Controller) → Keeps s s
keeps_refl none = absent
keeps_refl (some c) = present refl

-- a place that holds something is inside the list
pub some_lt : {A : Type 0} (l : List (Option A)) (i : ℕ) {a : A} → get_or l i none ≡ some a → i < length l
some_lt [] i e = let z : ◌≡◌ {A = ℕ} 0 1 = cc in omega arith
some_lt (x ∷ xs) zero e = omega arith
some_lt (x ∷ xs) (suc i) e = let h : i < length xs = some_lt xs i e in omega arith

-- an index that holds a controller is below four, and in the list
pub record Held (p : PlainHub) (i : ℕ) (c : Controller) : Type 0 where
  pub four : i < 4
  pub list : i < length p.controllers

-- so it is where a controller is found
pub held : (p : PlainHub) (i : ℕ) (c : Controller) → controller_at p i ≡ some c → Held p i c
unfolding controller_at
held p i c e = go (ltb i 4) refl
  where
    go : (b : Bool) → ltb i 4 ≡ b → Held p i c
    go true t = record { four = ltb→lt i 4 (rw t tt); list = some_lt p.controllers i (rw (t, controller_at) at e) }
    go false t = let e' : none ≡ some c = rw (t, controller_at) at e in let z : ◌≡◌ {A = ℕ} 0 1 = cc in absurd (omega arith)

-- what was put is found, where a controller was before
pub put_same : (p : PlainHub) (i : ℕ) (c : Controller) (x : Option Controller) → controller_at p i ≡ some c → controller_at (with_controller p i x) i ≡ x
unfolding controller_at with_controller
put_same p i c x e = go (ltb i 4) refl
  where
    go : (b : Bool) → ltb i 4 ≡ b → controller_at (with_controller p i x) i ≡ x
    go true t = rw (t, controller_at) (get_or-set_same p.controllers i x none (held p i c e).list)
    go false t = let e' : none ≡ some c = rw (t, controller_at) at e in let z : ◌≡◌ {A = ℕ} 0 1 = cc in absurd (omega arith)

-- at another index all is as it was
pub put_other : (p : PlainHub) (i j : ℕ) (x : Option Controller) → j ≢ i → controller_at (with_controller p i x) j ≡ controller_at p j
unfolding controller_at with_controller
put_other p i j x ne =
    ap {B = Option Controller} (λ (s : Option Controller). elim (ltb j 4) [ true ↦ s | false ↦ none ]) (get_or-set_other p.controllers i j x none ne)

-- the radio settings stay at every index
abbrev pub KeepsAll : PlainHub → PlainHub → Type 0
KeepsAll p q = (j : ℕ) → Keeps (controller_at p j) (controller_at q j)

-- the radio settings stay at every other index
abbrev pub KeepsOthers : ℕ → PlainHub → PlainHub → Type 0
KeepsOthers i p q = (j : ℕ) → j ≢ i → Keeps (controller_at p j) (controller_at q j)

-- a hub that stays as it is
pub keeps_self : (p : PlainHub) → KeepsAll p p
keeps_self p j = keeps_refl (controller_at p j)

-- putting something at an index keeps the others
pub put_keeps_others : (p : PlainHub) (i : ℕ) (x : Option Controller) → KeepsOthers i p (with_controller p i x)
put_keeps_others p i x j ne = rw (put_other p i j x ne) (keeps_refl (controller_at p j))

-- putting a controller with the radio settings that were there keeps all
put_keeps : (p : PlainHub) (i : ℕ) (c d : Controller) → controller_at p i ≡ some c → c.radio ≡ d.radio → KeepsAll p (with_controller p i (some d))
put_keeps p i c d e r j = go (ℕ_discrete j i)
  where
    go : Dec (j ≡ i) → Keeps (controller_at p j) (controller_at (with_controller p i (some d)) j)
    go (no ne) = put_keeps_others p i (some d) j ne
    go (yes s) = rw (s, put_same p i c (some d) e, e) (present r)

-- 2. What a verdict tells ---------------------------------------------------------------------------------------------------------------

-- the open command that a packet makes: its code and parameters
unfoldable pub open_of : Octets → OpenCommand
open_of packet = record { code = code_of packet; params = params_of packet }

-- what is known of a settings command past the checks that stand before Busy: its packet has the right length, its controller is there, it
-- changes no other controller, and where it waits it would now be started
pub record Exclusive (p : PlainHub) (packet : Octets) (o : Outcome) (w : Bool) : Type 0 where
  pub sized : packet_ok packet ≡ true
  pub controller : Controller
  pub here : controller_at p (index_of packet) ≡ some controller
  pub others : KeepsOthers (index_of packet) p (state_of p o)
  pub waits : w ≡ true → starts controller.radio (open_of packet) ≡ true

-- a verdict `anyway` keeps all radio settings; of one `unless_busy` the above is known
unfoldable pub Facts : PlainHub → Octets → Verdict → Type 0
Facts p packet (anyway o) = KeepsAll p (state_of p o)
Facts p packet (unless_busy o w) = Exclusive p packet o w

-- a general command changes nothing
general_facts : (p : PlainHub) (i code : ℕ) (ps : Octets) (f : PlainHub → Octets) → KeepsAll p (state_of p (general_out p i code ps f))
unfolding general_out state_of
general_facts p i code ps f =
    either (λ o. KeepsAll p (state_of p o)) (eqb i 0xFFFF)
    (λ _. either (λ o. KeepsAll p (state_of p o)) (eqb (length ps) 0) (λ _. keeps_self p) (λ _. keeps_self p))
    (λ _. keeps_self p)

-- a command that is never Busy keeps all radio settings, by the type of what it gives
immediate_done_lem : (p : PlainHub) (i code : ℕ) (ps : Octets) (a : Bool) (c : Controller) → controller_at p i ≡ some c → (q : Immediate)
    → KeepsAll p (state_of p (immediate_done p i code ps a c q))
unfolding immediate_done state_of with_host
immediate_done_lem p i code ps a c e (refuse r) = keeps_self p
immediate_done_lem p i code ps a c e (done out evs host) = put_keeps p i c (with_host c host) e refl

-- a command that is never Busy, from its index and its length check on
immediate_facts : (p : PlainHub) (i code : ℕ) (ps : Octets) (q : ImmediateRule) (s : Option Controller) → controller_at p i ≡ s
    → KeepsAll p (state_of p (immediate_at p i code ps q s))
unfolding immediate_at state_of
immediate_facts p i code ps q none e = keeps_self p
immediate_facts p i code ps q (some c) e =
    either (λ o. KeepsAll p (state_of p o)) (q.size ps)
    (λ _. immediate_done_lem p i code ps q.by_address c e (act q i c ps))
    (λ _. keeps_self p)

-- a settings command past the checks before Busy, by the checks after it
radio_after_busy_lem : (p : PlainHub) (packet : Octets) (r : RadioRule) (c : Controller) → packet_ok packet ≡ true → rule (code_of packet) ≡ some (radio r)
    → controller_at p (index_of packet) ≡ some c
    → eqb (length (params_of packet)) r.size ≡ true → first_of (r.before_busy c.radio (params_of packet)) ≡ none → (x : Option Reason)
    → first_of (r.after_busy c.radio (params_of packet)) ≡ x
    → Facts p packet (radio_after_busy p (index_of packet) (code_of packet) (params_of packet) r c x)
unfolding Facts radio_after_busy state_of acted starts starts_by passes no_reason open_of
radio_after_busy_lem p packet r c z er es t ee (some x) el =
    record {
      sized = z;
      controller = c;
      here = es;
      others = λ j ne. keeps_refl (controller_at p j);
      waits = λ f. let z : ◌≡◌ {A = ℕ} 0 1 = cc in
          absurd (omega arith);
    }
radio_after_busy_lem p packet r c z er es t ee none el =
    record {
      sized = z;
      controller = c;
      here = es;
      others = put_keeps_others p (index_of packet) (some (r.effect c (params_of packet)));
      waits = λ f.
          rw (er, t, ee, el, starts_by) f;
    }

-- a settings command, from its index and its length check on
radio_facts : (p : PlainHub) (packet : Octets) (r : RadioRule) → packet_ok packet ≡ true → rule (code_of packet) ≡ some (radio r)
    → (s : Option Controller) → controller_at p (index_of packet) ≡ s
    → Facts p packet (radio_at p (index_of packet) (code_of packet) (params_of packet) r s)
unfolding Facts radio_at radio_before_busy state_of
radio_facts p packet r z er none es = keeps_self p
radio_facts p packet r z er (some c) es =
    either (λ v. Facts p packet v) (eqb (length (params_of packet)) r.size)
    (λ t. before_busy t (first_of (r.before_busy c.radio (params_of packet))) refl) (λ _. keeps_self p)
  where
    before_busy : eqb (length (params_of packet)) r.size ≡ true → (x : Option Reason) → first_of (r.before_busy c.radio (params_of packet)) ≡ x
        → Facts p packet (radio_before_busy p (index_of packet) (code_of packet) (params_of packet) r c x)
    before_busy t (some x) e = keeps_self p
    before_busy t none e = radio_after_busy_lem p packet r c z er es t e (first_of (r.after_busy c.radio (params_of packet))) refl

-- a command, by its rule
rule_facts : (p : PlainHub) (packet : Octets) → packet_ok packet ≡ true → (u : Option Rule) → rule (code_of packet) ≡ u
    → Facts p packet (by_rule p (index_of packet) (code_of packet) (params_of packet) u)
unfolding Facts by_rule state_of
rule_facts p packet z none e = keeps_self p
rule_facts p packet z (some (general f)) e = general_facts p (index_of packet) (code_of packet) (params_of packet) f
rule_facts p packet z (some (immediate q)) e = immediate_facts p (index_of packet) (code_of packet) (params_of packet) q (controller_at p (index_of packet)) refl
rule_facts p packet z (some (radio r)) e = radio_facts p packet r z e (controller_at p (index_of packet)) refl

-- a command
pub facts : (p : PlainHub) (room : ℕ) (packet : Octets) → Facts p packet (verdict p room packet)
unfolding Facts verdict state_of
facts p room packet =
    either (λ v. Facts p packet v) (ltb room Lengths.reply_buffer) (λ _. keeps_self p)
    (λ _. either (λ v. Facts p packet v) (packet_ok packet) (λ z. rule_facts p packet z (rule (code_of packet)) refl) (λ _. keeps_self p))

-- no reason's status is Busy
not_busy : (r : Reason) → eqb (status_of r) Statuses.busy ≡ false
unfolding status_of
not_busy CodeUnknown = refl
not_busy IndexNotNone = refl
not_busy ControllerAbsent = refl
not_busy LengthWrong = refl
not_busy DebugFlagAbove1 = refl
not_busy KeyTypeAbove8 = refl
not_busy KeyTypeAbove4 = refl
not_busy MasterAbove1 = refl
not_busy KeySizeNot7To16 = refl
not_busy RecordRepeated = refl
not_busy AddressTypeNotBredr = refl
not_busy AddressTypeNotLe = refl
not_busy AddressTypeAbove2 = refl
not_busy AddressZero = refl
not_busy AddressNotStaticRandom = refl
not_busy AddressZeroNotBredr = refl
not_busy ValueAbove1 = refl
not_busy ValueAbove2 = refl
not_busy TimeoutWithValue0 = refl
not_busy NoTimeoutWithValue2 = refl
not_busy NameNotEnded = refl
not_busy ShortNameNotEnded = refl
not_busy UuidZero = refl
not_busy DisconnectAbove1 = refl
not_busy ActionAbove2 = refl
not_busy ActionNot1ForBredr = refl
not_busy InstanceNot1To5 = refl
not_busy AdvertisingFlags = refl
not_busy AdvDataAbove31 = refl
not_busy ScanRspAbove31 = refl
not_busy UuidAbsent = refl
not_busy NotBlocked = refl
not_busy DeviceAbsent = refl
not_busy InstanceAbsent = refl
not_busy CountAbove32 = refl
not_busy NoFreeSlot = refl
not_busy BredrNotSupported = refl
not_busy LeNotSupported = refl
not_busy DiscoverableTimeoutUnpowered = refl
not_busy Unpowered = refl
not_busy NoAddressForPower = refl
not_busy NotConnectable = refl
not_busy LowEnergyNeeded = refl
not_busy BredrOff = refl
not_busy PoweredForBredrOff = refl
not_busy StaticAddressForBredr = refl
not_busy PoweredForStaticAddress = refl
not_busy LowEnergyOff = refl
not_busy AdvertisingTimeoutUnpowered = refl
not_busy NoKeyOfDevice = refl
not_busy AlreadyBlocked = refl

-- the at-once hub never says Busy
pub never_busy : (o : Outcome) → says_busy (answer_of o) (octets_of o) ≡ false
unfolding says_busy answer_of octets_of refusal_octets command_status command_complete event le16
never_busy (finished o p) = refl
never_busy (refused f r) = go f.address
  where
    go : (a : Option Octets) → eqb (get_or (refusal_octets f.index f.code a (status_of r)) 8 0) Statuses.busy ≡ false
    go none = not_busy r
    go (some a) = not_busy r
never_busy bad_packet = refl
never_busy no_room = refl
never_busy bad_argument = refl

-- the at-once hub never answers 1
pub never_one : (o : Outcome) → eqb (answer_of o) 1 ≡ false
unfolding answer_of
never_one (finished o p) = refl
never_one (refused f r) = refl
never_one bad_packet = refl
never_one no_room = refl
never_one bad_argument = refl

-- 3. The command that a report finishes ---------------------------------------------------------------------------------------------------

-- a test that found no reason
pub nothing_none : (x : Option Reason) → no_reason x ≡ true → x ≡ none
unfolding no_reason
nothing_none none e = refl
nothing_none (some r) e = let z : ◌≡◌ {A = ℕ} 0 1 = cc in absurd (omega arith)

-- given to the at-once hub at the place of the report, the packet does what the report did
module _ (p : PlainHub) (room : ℕ) (packet : Octets) (c : Controller) (roomy : ltb room Lengths.reply_buffer ≡ false) (sized : packet_ok packet ≡ true)
    (here : controller_at p (index_of packet) ≡ some c) where
  -- by the rule of its code, whose checks let it pass
  moved_by : (u : Option Rule) → starts_by c.radio (params_of packet) u ≡ true
      → outcome (by_rule p (index_of packet) (code_of packet) (params_of packet) u) ≡ finish_by p (index_of packet) (open_of packet) u (some c)
  unfolding passes starts_by outcome by_rule finish_by open_of radio_at radio_before_busy radio_after_busy
  moved_by none e = let z : ◌≡◌ {A = ℕ} 0 1 = cc in absurd (omega arith)
  moved_by (some (general f)) e = let z : ◌≡◌ {A = ℕ} 0 1 = cc in absurd (omega arith)
  moved_by (some (immediate q)) e = let z : ◌≡◌ {A = ℕ} 0 1 = cc in absurd (omega arith)
  moved_by (some (radio r)) e =
      let a = and_true (eqb (length (params_of packet)) r.size) _ e in
      let b = and_true (passes (r.before_busy c.radio (params_of packet))) _ a.1 in
      let d = and_true (passes (r.after_busy c.radio (params_of packet))) _ b.1 in
      rw (here, a.0, radio_at, nothing_none _ b.0, nothing_none _ d.0)

  -- the whole packet: demand 3's moved command
  pub moved_same : starts c.radio (open_of packet) ≡ true → call_plain p (command room packet) ≡ finish p (index_of packet) (open_of packet)
  unfolding call_plain finish open_of starts verdict
  moved_same st = rw (roomy, verdict, sized, here) (moved_by (rule (code_of packet)) st)

-- a report of status 0 answers 0, and changes its own controller alone
pub record Acted (i : ℕ) (p : PlainHub) (o : Outcome) : Type 0 where
  pub zero : answer_of o ≡ 0
  pub others : KeepsOthers i p (state_of p o)

-- a command that would now be started does so, by the rule of its code
acted_by : (p : PlainHub) (i : ℕ) (c : Controller) (o : OpenCommand) (u : Option Rule) → starts_by c.radio o.params u ≡ true
    → Acted i p (finish_by p i o u (some c))
unfolding passes starts_by finish_by acted answer_of state_of
acted_by p i c o none e = let z : ◌≡◌ {A = ℕ} 0 1 = cc in absurd (omega arith)
acted_by p i c o (some (general f)) e = let z : ◌≡◌ {A = ℕ} 0 1 = cc in absurd (omega arith)
acted_by p i c o (some (immediate q)) e = let z : ◌≡◌ {A = ℕ} 0 1 = cc in absurd (omega arith)
acted_by p i c o (some (radio r)) e = record { zero = refl; others = put_keeps_others p i (some (r.effect c o.params)) }

-- a command that would now be started does so, with its rule and its controller looked up
pub acts_now : (p : PlainHub) (i : ℕ) (c : Controller) (o : OpenCommand) → controller_at p i ≡ some c → starts c.radio o ≡ true → Acted i p (finish p i o)
unfolding finish starts
acts_now p i c o here st = rw here (acted_by p i c o (rule o.code) st)

-- a clock reading counts down what is found at an index
pub slot_tick : (p : PlainHub) (step now j : ℕ)
    → controller_at (record { clock = now; controllers = map (tick_slot step) p.controllers }) j ≡ tick_slot step (controller_at p j)
unfolding controller_at tick_slot
slot_tick p step now j = go (ltb j 4)
  where
    go : (b : Bool) → ◌≡◌ {A = Option Controller} (elim b [ true ↦ get_or (map (tick_slot step) p.controllers) j none | false ↦ none ])
        (tick_slot step (elim b [ true ↦ get_or p.controllers j none | false ↦ none ]))
    go true = get_or-map (tick_slot step) p.controllers j none
    go false = refl

-- a timer counted down is no radio setting
tick_keeps : (step : ℕ) (s : Option Controller) → Keeps s (tick_slot step s)
unfolding tick_slot tick with_host
tick_keeps step none = absent
tick_keeps step (some c) = present refl

-- a clock reading keeps all radio settings
pub clock_keeps : (p : PlainHub) (now : ℕ) → KeepsAll p (state_of p (clock_out p now))
unfolding clock_out state_of
clock_keeps p now =
    let step : ℕ = step_of p.clock now in
    either (λ o. KeepsAll p (state_of p o)) (leb (2 ^ 31) step) (λ _. keeps_self p)
    (λ _ j. rw (slot_tick p step now j) (tick_keeps step (controller_at p j)))

-- plug keeps the others, and the index it fills was empty
pub plug_keeps : (p : PlainHub) (i : ℕ) (f : Hardware) (t : Option Controller) → controller_at p i ≡ t → (j : ℕ) (c : Controller) → controller_at p j ≡ some c
    → Keeps (controller_at p j) (controller_at (state_of p (plug_out p i f t)) j)
unfolding plug_out state_of
plug_keeps p i f (some d) et j c ej = keeps_refl (controller_at p j)
plug_keeps p i f none et j c ej =
    either (λ o. Keeps (controller_at p j) (controller_at (state_of p o) j)) (ltb i 4 && hardware_ok f)
    (λ _. put_keeps_others p i (some (plugged f)) j
    (λ (s : j ≡ i). let e' : none ≡ some c = sym et ∙ rw s at ej in let z : ◌≡◌ {A = ℕ} 0 1 = cc in absurd (omega arith)))
    (λ _. keeps_refl (controller_at p j))

-- 4. The invariant ------------------------------------------------------------------------------------------------------------------------

-- the packet's fields are the open command's, and its index is i
pub record Fits (i : ℕ) (o : OpenCommand) (packet : Octets) : Type 0 where
  pub sized : packet_ok packet ≡ true
  pub index : index_of packet ≡ i
  pub fields : open_of packet ≡ o

-- at one index: nothing under way and nothing remembered; or a command that would now be started, and its packet
pub data Ok (i : ℕ) : Option Controller → Option OpenCommand → Option Octets → Type 0 where
  -- nothing under way, and no packet, whether a controller stands there or not
  rests : {s : Option Controller} → Ok i s none none
  -- a command under way at a controller, and the packet that it came in
  waits : {c : Controller} {o : OpenCommand} {packet : Octets} → Fits i o packet → starts c.radio o ≡ true → Ok i (some c) (some o) (some packet)

-- this holds on while the radio settings stay
ok_keeps : {i : ℕ} {s t : Option Controller} {o : Option OpenCommand} {k : Option Octets} → Ok i s o k → Keeps s t → Ok i t o k
ok_keeps rests k = rests
ok_keeps (waits {o = o} f e) (present r) = waits f (rw r at e)

-- the invariant: at every index; and the waiting octets are well formed
pub record Inv (h : Hub) (k : Pending) : Type 0 where
  pub four_opens : length h.open_commands ≡ 4
  pub four_pending : length k ≡ 4
  pub waiting : waiting_ok h.waiting ≡ true
  pub ok : (i : ℕ) → Ok i (controller_at h.plain i) (get_or h.open_commands i none) (get_or k i none)

-- the invariant holds on in a new plain hub that keeps the radio settings of each controller with an open command
pub inv_keep : (h : Hub) (k : Pending) (q : PlainHub) → Inv h k
    → ((j : ℕ) (o : OpenCommand) → get_or h.open_commands j none ≡ some o → Keeps (controller_at h.plain j) (controller_at q j))
    → Inv (record { plain = q; open_commands = h.open_commands; waiting = h.waiting }) k
inv_keep h k q inv keeps = record { four_opens = inv.four_opens; four_pending = inv.four_pending; waiting = inv.waiting; ok = λ j. go j (get_or h.open_commands j none) refl }
  where
    idle_ok : {j : ℕ} {s t : Option Controller} {k : Option Octets} → Ok j s none k → Ok j t none k
    idle_ok rests = rests

    go : (j : ℕ) (o : Option OpenCommand) → get_or h.open_commands j none ≡ o → Ok j (controller_at q j) (get_or h.open_commands j none) (get_or k j none)
    go j none e = rw e (idle_ok (rw e at (inv.ok j)))
    go j (some o) e = ok_keeps (inv.ok j) (keeps j o e)

-- the invariant with something new under way at an index, in a plain hub that keeps the other controllers' radio settings
pub inv_set : (h : Hub) (k : Pending) (q : PlainHub) (i : ℕ) (o : Option OpenCommand) (x : Option Octets) → Inv h k → i < 4
    → Ok i (controller_at q i) o x → KeepsOthers i h.plain q
    → Inv (record { plain = q; open_commands = set h.open_commands i o; waiting = h.waiting }) (set k i x)
inv_set h k q i o x inv lt new others = record {
  four_opens = length-set h.open_commands i o ∙ inv.four_opens;
  four_pending = length-set k i x ∙ inv.four_pending;
  waiting = inv.waiting;
  ok = λ j. go j (ℕ_discrete j i);
}
  where
    go : (j : ℕ) → Dec (j ≡ i) → Ok j (controller_at q j) (get_or (set h.open_commands i o) j none) (get_or (set k i x) j none)
    go j (yes e) =
        let a : i < length h.open_commands = omega (arith, inv.four_opens) in
        let b : i < length k = omega (arith, inv.four_pending) in
        rw (e, get_or-set_same h.open_commands i o none a, get_or-set_same k i x none b) new
    go j (no ne) = rw (get_or-set_other h.open_commands i j o none ne, get_or-set_other k i j x none ne) (ok_keeps (inv.ok j) (others j ne))

-- a list of nothing holds nothing at any place
pub none_at : {A : Type 0} (n i : ℕ) → get_or {A = Option A} (replicate n none) i none ≡ none
none_at zero i = refl
none_at (suc n) zero = refl
none_at (suc n) (suc i) = none_at n i

-- the invariant holds with nothing under way and nothing remembered
pub start : (p : PlainHub) → Inv (idle p) no_pending
unfolding idle no_pending nothing_waits waiting_ok length_said u16 kept_count bytes
start p = record { four_opens = refl; four_pending = refl; waiting = refl; ok = λ i. rw (none_at {A = OpenCommand} 4 i, none_at {A = Octets} 4 i) rests }
