-- Every call keeps any well-formed hub well formed, over the hub and over the lent octets; and a refused call leaves the state as it was.
use Rattle.std.specs.Prelude.{ℕ, zero, suc, ◌+◌, ◌*◌, ◌/◌, ◌%◌, ◌<◌, ◌≡◌, refl, ◌↔◌, Bool, true, false, List, [], ◌∷◌, ◌++◌, length, get_or, eqb, leb, ltb}
use Rattle.std.proofs.Common.{arith, add-zero, zero-add, sym, ap, ◌∙◌, lt-ltb, le-leb, eq-eqb}
use Rattle.std.proofs.Math.Option.{Option, none, some}
use Rattle.model.specs.Lengths as Lengths
use Rattle.model.specs.Statuses as Statuses
use Rattle.model.specs.Octets.{Octets, bytes, le16, u16}
use Rattle.model.specs.State.{Controller, Hub, OpenCommand, PlainHub, controller_at, idle}
use Rattle.model.specs.Commands.{rule}
use Rattle.model.specs.Answers.{fault_number}
use Rattle.model.specs.Reading.{Diagnosis, Judged, acceptable, diagnose, either_version, fault_in, faulty, judge, load, state_in}
use Rattle.model.specs.Hub.{Call, Outcome, Result, Verdict, answer_of, anyway, bad_argument, bad_packet, busy_or, call, call_plain, clock, code_of}
use Rattle.model.specs.Hub.{command, command_out}
use Rattle.model.specs.Hub.{finished, index_of, keep, no_room, packet_ok, plug, refused, report, report_out, save, starts, state_of, under_way, unless_busy}
use Rattle.model.specs.Hub.{unplug, unplugged, verdict}
use Rattle.model.specs.WellFormed.{call_wide, open_ok, opens_ok, plain_ok, waiting_ok, well_formed}
use Rattle.model.specs.Layout.{decode, encode}
use Rattle.model.specs.Meanings.{Loaded, bad_state, hub_load, laid_out, leaves, load_meaning, loaded_into, meaning, state_ok}
use Rattle.model.specs.Demand3.{Pending, entry, sort}
use Rattle.model.proofs.Model.Commute.{step}
use Rattle.model.proofs.Model.Invariant.{Fits, Inv, Ok, acts_now, open_of, rests, some_lt, waits}
use Rattle.model.proofs.Model.Decode.{started_by}
use Rattle.model.proofs.Model.Demand3.{encode_ok, idle_ok, state_back, state_well}
use Rattle.model.proofs.Model.Load.{fault_number_lem, load_ok}
use Rattle.model.proofs.Model.Stays.{call_stays, next_wide, pending_ok, pending_packet_ok, plain_fit, well}
use Rattle.model.proofs.Model.Tables.{lt_true}
use Rattle.model.proofs.Model.Tests.{and_true, both, either, equal, no_way}

-- 1. A packet for each open command -----------------------------------------------------------------------------------------------------

-- the packet that an open command at index i may have come by
unfoldable pub packet_of : ℕ → OpenCommand → Octets
packet_of i o = le16 o.code ++ (le16 i ++ (le16 (length o.params) ++ o.params))

-- the packet of an index, if a command is open there
unfoldable pub packet_at : ℕ → Option OpenCommand → Option Octets
packet_at i none = none
packet_at i (some o) = some (packet_of i o)

-- the packets of the open commands, from index i on
unfoldable pub pending_of : ℕ → List (Option OpenCommand) → Pending
pending_of i [] = []
pending_of i (o ∷ os) = packet_at i o ∷ pending_of (suc i) os

-- a number's two octets, read back
two_octets : (n : ℕ) → n < 65536 → n % 256 + 256 * (n / 256 % 256) ≡ n
two_octets n h = omega arith

-- the packet's fields are the open command's
fits : (i : ℕ) (o : OpenCommand) → i < 65536 → o.code < 65536 → length o.params < 65536 → Fits i o (packet_of i o)
unfolding packet_of le16 packet_ok u16 index_of code_of open_of
fits i o hi hc hp = record {
  sized =
      both (le-leb 6 (length (packet_of i o)) (omega arith))
      (rw (two_octets (length o.params) hp) (eq-eqb (length o.params) (length o.params) refl));
  index = two_octets i hi;
  fields = rw (two_octets o.code hc);
}

-- two octets are octets
bytes_two : (n : ℕ) (x : Octets) → bytes x ≡ true → bytes (le16 n ++ x) ≡ true
unfolding le16 bytes
bytes_two n x w = both (lt_true (n % 256) 256 (omega arith)) (both (lt_true (n / 256 % 256) 256 (omega arith)) w)

-- the packet is octets if its parameters are
bytes_packet : (i : ℕ) (o : OpenCommand) → bytes o.params ≡ true → bytes (packet_of i o) ≡ true
unfolding packet_of
bytes_packet i o w = bytes_two o.code _ (bytes_two i _ (bytes_two (length o.params) _ w))

-- 2. The invariant of demand 3 holds of every well-formed hub -------------------------------------------------------------------------------

-- as many open commands as indexes
pub opens_length : (ss : List (Option Controller)) (os : List (Option OpenCommand)) → opens_ok ss os ≡ true → length os ≡ length ss
unfolding opens_ok
opens_length [] [] e = refl
opens_length [] (o ∷ os) e = no_way (sym e)
opens_length (s ∷ ss) [] e = no_way (sym e)
opens_length (s ∷ ss) (o ∷ os) e = ap suc (opens_length ss os (and_true (open_ok s o) _ e).1)

-- what well formed says of the open command at a place
pub opens_at : (ss : List (Option Controller)) (os : List (Option OpenCommand)) (i : ℕ) → opens_ok ss os ≡ true → open_ok (get_or ss i none) (get_or os i none) ≡ true
unfolding opens_ok open_ok
opens_at [] [] i e = refl
opens_at [] (o ∷ os) i e = no_way (sym e)
opens_at (s ∷ ss) [] i e = no_way (sym e)
opens_at (s ∷ ss) (o ∷ os) zero e = (and_true (open_ok s o) _ e).0
opens_at (s ∷ ss) (o ∷ os) (suc i) e = opens_at ss os i (and_true (open_ok s o) _ e).1

-- as many packets as indexes
length_pending : (j : ℕ) (os : List (Option OpenCommand)) → length (pending_of j os) ≡ length os
unfolding pending_of
length_pending j [] = refl
length_pending j (o ∷ os) = ap suc (length_pending (suc j) os)

-- the packet at a place is that of the open command there
pending_is : (j : ℕ) (os : List (Option OpenCommand)) (i : ℕ) → get_or (pending_of j os) i none ≡ packet_at (j + i) (get_or os i none)
unfolding pending_of packet_at
pending_is j [] i = refl
pending_is j (o ∷ os) zero = rw add-zero
pending_is j (o ∷ os) (suc i) = let n : suc j + i ≡ j + suc i = omega arith in rw (← n) (pending_is (suc j) os i)

-- below four, what is found at an index is what stands in the list
pub slot_four : (p : PlainHub) (i : ℕ) → i < 4 → controller_at p i ≡ get_or p.controllers i none
unfolding controller_at
slot_four p i h = rw (lt-ltb i 4 h, controller_at)

-- an open command that its controller would start anew fits its packet
ok_open : (i : ℕ) (s : Option Controller) (o : OpenCommand) → i < 4 → open_ok s (some o) ≡ true → Ok i s (some o) (some (packet_of i o))
unfolding open_ok starts
ok_open i none o h e = no_way (sym e)
ok_open i (some c) o h e =
    let s = and_true (starts c.radio o) _ e in
    let g = started_by c.radio o (rule o.code) refl s.0 in
    waits (fits i o (omega arith) g.two (omega (arith, g.size, g.three))) s.0

-- the invariant at one index; a place that holds an open command is below four
ok_at : (p : PlainHub) (i : ℕ) (x : Option OpenCommand) → ((o : OpenCommand) → x ≡ some o → i < 4) → open_ok (get_or p.controllers i none) x ≡ true
    → Ok i (controller_at p i) x (packet_at i x)
unfolding packet_at
ok_at p i none h e = rests
ok_at p i (some o) h e = rw (slot_four p i (h o refl)) (ok_open i (get_or p.controllers i none) o (h o refl) e)

-- the parts of well formed
pub record WellFit (h : Hub) : Type 0 where
  pub plain : plain_ok h.plain ≡ true
  pub open_commands : opens_ok h.plain.controllers h.open_commands ≡ true
  pub waiting : waiting_ok h.waiting ≡ true
  pub four : length h.open_commands ≡ 4

-- well formed, taken apart
pub well_fit : (h : Hub) → well_formed h ≡ true → WellFit h
unfolding well_formed
well_fit h e =
    let a = and_true (plain_ok h.plain) _ e in
    let b = and_true (opens_ok h.plain.controllers h.open_commands) _ a.1 in
    record { plain = a.0; open_commands = b.0; waiting = b.1; four = opens_length h.plain.controllers h.open_commands b.0 ∙ equal _ _ (plain_fit h.plain a.0).four }

-- the invariant, with a packet for each open command
pub inv_of : (h : Hub) → well_formed h ≡ true → Inv h (pending_of 0 h.open_commands)
inv_of h e =
    let f = well_fit h e in
    record {
      four_opens = f.four;
      four_pending = length_pending 0 h.open_commands ∙ f.four;
      waiting = f.waiting;
      ok = λ i. rw (pending_is 0 h.open_commands i, zero-add i)
          (ok_at h.plain i (get_or h.open_commands i none)
          (λ o x. let l : i < length h.open_commands = some_lt h.open_commands i x in omega (arith, f.four))
          (opens_at h.plain.controllers h.open_commands i f.open_commands));
    }

-- a packet made is octets
packet_wide : (i : ℕ) (s : Option Controller) (o : Option OpenCommand) → open_ok s o ≡ true → pending_packet_ok (packet_at i o) ≡ true
unfolding open_ok pending_packet_ok packet_at
packet_wide i s none e = refl
packet_wide i none (some o) e = no_way (sym e)
packet_wide i (some c) (some o) e = bytes_packet i o (and_true (starts c.radio o) _ e).1

-- the packets are octets
pending_wide : (j : ℕ) (ss : List (Option Controller)) (os : List (Option OpenCommand)) → opens_ok ss os ≡ true → pending_ok (pending_of j os) ≡ true
unfolding opens_ok pending_of pending_ok
pending_wide j [] [] e = refl
pending_wide j [] (o ∷ os) e = no_way (sym e)
pending_wide j (s ∷ ss) [] e = no_way (sym e)
pending_wide j (s ∷ ss) (o ∷ os) e = let a = and_true (open_ok s o) _ e in both (packet_wide j s o a.0) (pending_wide (suc j) ss os a.1)

-- EVERY CALL KEEPS ANY WELL-FORMED HUB WELL FORMED
pub keeps_hub : (h : Hub) (c : Call) → well_formed h ≡ true → call_wide c ≡ true → well_formed (call h c).state ≡ true
keeps_hub h c e w =
    let f = well_fit h e in
    let k : Pending = pending_of 0 h.open_commands in
    let g : pending_ok k ≡ true = pending_wide 0 h.plain.controllers h.open_commands f.open_commands in
    well (call h c).state (sort k (entry c (call h c).answer (call h c).octets)).pending (step h k (inv_of h e) c).inv (next_wide h k c g w)
    (call_stays h f.plain k (inv_of h e) g c w)

-- 3. A refused call leaves the hub as it was ---------------------------------------------------------------------------------------------------

-- an outcome that is no success changes nothing
same_plain : (p : PlainHub) (o : Outcome) → leb 2 (answer_of o) ≡ true → state_of p o ≡ p
unfolding answer_of state_of
same_plain p (finished o q) e = no_way (sym e)
same_plain p (refused f r) e = refl
same_plain p bad_packet e = refl
same_plain p no_room e = refl
same_plain p bad_argument e = refl

-- where ours answers as the at-once hub
same_keep : (h : Hub) (o : Outcome) → leb 2 (keep h o).answer ≡ true → (keep h o).state ≡ h
unfolding keep
same_keep h o e = ap {B = Hub} (λ (p : PlainHub). record { plain = p; open_commands = h.open_commands; waiting = h.waiting }) (same_plain h.plain o e)

-- a settings command past the first checks
same_busy : (h : Hub) (i code : ℕ) (ps : Octets) (o : Outcome) (w : Bool) (x : Option OpenCommand) → leb 2 (busy_or h i code ps o w x).answer ≡ true
    → (busy_or h i code ps o w x).state ≡ h
unfolding busy_or
same_busy h i code ps o w (some x) e = refl
same_busy h i code ps o true none e = no_way (sym e)
same_busy h i code ps o false none e = same_keep h o e

-- a command
same_command : (h : Hub) (i code : ℕ) (ps : Octets) (v : Verdict) (x : Option OpenCommand) → leb 2 (command_out h i code ps v x).answer ≡ true
    → (command_out h i code ps v x).state ≡ h
unfolding command_out
same_command h i code ps (anyway o) x e = same_keep h o e
same_command h i code ps (unless_busy o w) x e = same_busy h i code ps o w x e

-- a report: the command that it finishes would now be started, so it answers 0
same_report : (h : Hub) (i s : ℕ) (t : Option Controller) (x : Option OpenCommand) (y : Option Octets) → controller_at h.plain i ≡ t → Ok i t x y
    → leb 2 (report_out h i s x).answer ≡ true → (report_out h i s x).state ≡ h
unfolding report_out keep
same_report h i s t x y et rests = same_keep h bad_argument
same_report h i s t x y et (waits {c = c} {o = o} f st) =
    either {A = Result Hub} (λ r. leb 2 r.answer ≡ true → r.state ≡ h) (ltb Statuses.highest s) (λ _. same_keep h bad_argument)
    (λ _. either {A = Result Hub} (λ r. leb 2 r.answer ≡ true → r.state ≡ h) (eqb s 0) (λ _ e. never (acts_now h.plain i c o et st).zero e)
    (λ _ e. no_way (sym e)))
  where
    never : {A : Type 0} {n : ℕ} → n ≡ 0 → leb 2 n ≡ true → A
    never z e = let f : leb 2 0 ≡ true = rw z at e in no_way (sym f)

-- an unplug
same_unplug : (h : Hub) (i : ℕ) (o : Outcome) → leb 2 (unplugged h i o).answer ≡ true → (unplugged h i o).state ≡ h
unfolding unplugged
same_unplug h i (finished o p) e = no_way (sym e)
same_unplug h i (refused f r) e = same_keep h (refused f r) e
same_unplug h i bad_packet e = same_keep h bad_packet e
same_unplug h i no_room e = same_keep h no_room e
same_unplug h i bad_argument e = same_keep h bad_argument e

-- a call answered 2 or more leaves a well-formed hub as it was
pub same_hub : (h : Hub) (c : Call) → well_formed h ≡ true → leb 2 (call h c).answer ≡ true → (call h c).state ≡ h
unfolding call under_way
same_hub h (command room packet) w e = same_command h _ _ _ (verdict h.plain room packet) (under_way h (index_of packet)) e
same_hub h (report room i s) w e =
    either {A = Result Hub} (λ r. leb 2 r.answer ≡ true → r.state ≡ h) (ltb room Lengths.reply_buffer) (λ _. same_keep h no_room)
    (λ _. same_report h i s (controller_at h.plain i) (get_or h.open_commands i none) (get_or (pending_of 0 h.open_commands) i none) refl ((inv_of h w).ok i)) e
same_hub h (clock room now) w e = same_keep h (call_plain h.plain (clock room now)) e
same_hub h (plug room i f) w e = same_keep h (call_plain h.plain (plug room i f)) e
same_hub h (unplug room i) w e = same_unplug h i (call_plain h.plain (unplug room i)) e
same_hub h (save room) w e = same_keep h (call_plain h.plain (save room)) e

-- 4. Over the lent octets ------------------------------------------------------------------------------------------------------------------------

-- EVERY CALL KEEPS A WELL-FORMED STATE WELL FORMED
pub keeps_state : (s : Octets) (c : Call) → state_ok s ≡ true → call_wide c ≡ true → state_ok (meaning s c).state ≡ true
unfolding meaning laid_out
keeps_state s c e w = rw (e, meaning) (encode_ok (call (decode s) c).state (keeps_hub (decode s) c (state_well s e) w))

-- what a load leaves, by what it read
load_by : (s o : Octets) (x : Judged) → judge either_version o ≡ x → bytes o ≡ true → (loaded_into s x).answer ≡ 0 → state_ok (loaded_into s x).state ≡ true
unfolding leaves loaded_into load state_in
load_by s o (faulty k at) l b e = absurd (omega (arith, fault_number_lem k))
load_by s o (acceptable p) l b e = encode_ok (idle p) (idle_ok p (load_ok o p b (rw l)))

-- A LOAD THAT ANSWERS 0 MAKES A WELL-FORMED STATE
pub load_state : (s o : Octets) → bytes o ≡ true → (hub_load s o).answer ≡ 0 → state_ok (hub_load s o).state ≡ true
unfolding hub_load load_meaning leaves
load_state s o b =
    either {A = Loaded} (λ r. r.answer ≡ 0 → state_ok r.state ≡ true) (eqb (length s) Lengths.state) (λ _. load_by s o (judge either_version o) refl b)
    (λ _ e. absurd (omega arith))

-- A CALL ANSWERED 2 OR MORE LEAVES THE STATE AS IT WAS
pub refused_same : (s : Octets) (c : Call) → leb 2 (meaning s c).answer ≡ true → (meaning s c).state ≡ s
unfolding meaning laid_out bad_state
refused_same s c =
    either {A = Result Octets} (λ r. leb 2 r.answer ≡ true → r.state ≡ s) (state_ok s)
    (λ t e. ap encode (same_hub (decode s) c (state_well s t) e) ∙ sym (state_back s t)) (λ _ _. refl)

-- a load that read nothing leaves the state
load_same : (s : Octets) (x : Judged) → leb 2 (loaded_into s x).answer ≡ true → (loaded_into s x).state ≡ s
unfolding leaves loaded_into
load_same s (faulty k at) e = refl
load_same s (acceptable p) e = no_way (sym e)

-- A LOAD ANSWERED 2 OR MORE LEAVES THE STATE AS IT WAS
pub load_refused_same : (s o : Octets) → leb 2 (hub_load s o).answer ≡ true → (hub_load s o).state ≡ s
unfolding hub_load load_meaning leaves
load_refused_same s o =
    either {A = Loaded} (λ r. leb 2 r.answer ≡ true → r.state ≡ s) (eqb (length s) Lengths.state) (λ _. load_same s (judge either_version o)) (λ _ _. refl)

-- a load of an image with a fault, by what it read
load_fault_by : (s : Octets) (x : Judged) (d : Diagnosis) → fault_in x ≡ some d → loaded_into s x ≡ record { answer = d.number; offset = d.offset; state = s }
unfolding leaves loaded_into fault_in
load_fault_by s (faulty k at) d e = let h : record { number = fault_number k; offset = at } ≡ d = cc in rw (← h) refl
load_fault_by s (acceptable p) d e = let z : ◌≡◌ {A = ℕ} 0 1 = cc in absurd (omega arith)

-- A LOAD OF AN IMAGE WITH A FAULT TELLS IT, with where it begins
pub load_fault : (s o : Octets) (d : Diagnosis) → eqb (length s) Lengths.state ≡ true → diagnose either_version o ≡ some d
    → hub_load s o ≡ record { answer = d.number; offset = d.offset; state = s }
unfolding hub_load load_meaning diagnose
load_fault s o d n e = rw (n, load_meaning) (load_fault_by s (judge either_version o) d e)

-- A STATE IS WELL FORMED EXACTLY IF IT IS THE ENCODING OF A WELL-FORMED HUB
pub state_exact : (s : Octets) → (state_ok s ≡ true) ↔ ((h : Hub) × (well_formed h ≡ true) × (s ≡ encode h))
state_exact s = (λ e. (decode s, state_well s e, state_back s e), λ x. rw x.2 (encode_ok x.0 x.1))
