-- No call but save writes more than 1,024 octets: the reply buffer that 01 asks for suffices. One lemma to a row, and the rows as one list.
use Rattle.std.specs.Prelude.{ℕ, suc, ◌+◌, ◌*◌, ◌≤◌, ◌^◌, ◌≡◌, Bool, true, false, ◌&&◌, not, List, [], ◌∷◌, ◌++◌, take, drop, eqb, leb, ltb}
use Rattle.std.proofs.Common.{arith, sym, length-append, length-take, lit<}
use Rattle.std.proofs.Math.Path.{refl}
use Rattle.std.proofs.Math.Option.{Option, none, some}
use Rattle.std.proofs.Math.ListN.{length}
use Rattle.std.proofs.Math.Dec.{lit≤}
use Rattle.model.specs.Lengths as Lengths
use Rattle.model.specs.Statuses as Statuses
use Rattle.model.specs.Events as Events
use Rattle.model.specs.Octets.{Octets, command_complete, command_status, event, le16, le32, octet, same}
use Rattle.model.specs.Advertising.{Advertising, Schedule, advertising_added, advertising_removed, instances, present, removed_instance, removed_of}
use Rattle.model.specs.Advertising.{rescheduled}
use Rattle.model.specs.State.{Controller, Hardware, Host, Hub, OpenCommand, PlainHub, Table, controller_at, current_settings, hardware_ok}
use Rattle.model.specs.State.{settings_of, table_of}
use Rattle.model.specs.Reasons.{Reason, first_of}
use Rattle.model.specs.Tables.{entries}
use Rattle.model.specs.Rules.{Immediate, ImmediateRule, RadioRule, Rule, done, general, immediate, new_settings, radio, refuse, act, unless}
use Rattle.model.specs.Immediate.{add_advertising, advertising_checks, remove_advertising}
use Rattle.model.specs.Immediate.{KeyList, add_device, add_uuid, block_device, class_of, identity_key_list, link_key_list, load_keys, long_term_key_list}
use Rattle.model.specs.Immediate.{new_class}
use Rattle.model.specs.Immediate.{read_information, removals, remove_device, remove_uuid, set_bondable, set_local_name, sized, unblock_device}
use Rattle.model.specs.Immediate.{unpair_device}
use Rattle.model.specs.Commands.{command_codes, event_codes, present_from, read_commands, read_indexes, read_version, rows, rule, words}
use Rattle.model.specs.Hub.{Call, Outcome, Result, Verdict, acted, anyway, bad_argument, bad_packet, busy_or, by_rule, by_status, call, call_plain}
use Rattle.model.specs.Hub.{clock, clock_out}
use Rattle.model.specs.Hub.{code_of, command, command_out, ends, finish, finish_by, finished, general_out, immediate_at, immediate_done, index_of}
use Rattle.model.specs.Hub.{keep, no_room, octets_of}
use Rattle.model.specs.Hub.{outcome, owed_to, packet_ok, plug, plug_out, radio_after_busy, radio_at, radio_before_busy, refusal_form, refusal_octets}
use Rattle.model.specs.Hub.{refused, report}
use Rattle.model.specs.Hub.{report_out, save, step_of, tick, tick_events, under_way, unless_busy, unplug, unplug_out, unplugged, verdict, within}
use Rattle.model.specs.WellFormed.{controller_ok, plain_ok, well_formed}
use Rattle.model.specs.Layout.{decode}
use Rattle.model.specs.Meanings.{bad_state, laid_out, meaning, state_ok}
use Rattle.model.proofs.Model.Demand3.{state_well}
use Rattle.model.proofs.Model.Keeps.{well_fit}
use Rattle.model.proofs.Model.Layout.{length_words}
use Rattle.model.proofs.Model.RoundTrip.{length_entries}
use Rattle.model.proofs.Model.Parts.{lengths, table_ok_lem}
use Rattle.model.specs.Tables.{rule_at}
use Rattle.model.proofs.Model.Stays.{controller_ok_lem, plain_fit}
use Rattle.model.proofs.Model.Tables.{table_fit}
use Rattle.model.proofs.Model.EveryRow.{Each, ◌&◌, end, found}
use Rattle.model.proofs.Model.Tests.{either, equal, no_way}

-- every call but save
unfoldable pub not_save : Call → Bool
not_save (command room packet) = true
not_save (report room i s) = true
not_save (clock room now) = true
not_save (plug room i f) = true
not_save (unplug room i) = true
not_save (save room) = false

-- 1. The parts of a reply -----------------------------------------------------------------------------------------------------------------

-- a number of 16 bits takes two octets
pub length_le16 : (n : ℕ) → length (le16 n) ≡ 2
unfolding le16
length_le16 n = refl

-- a number of 32 bits takes four
pub length_le32 : (n : ℕ) → length (le32 n) ≡ 4
unfolding le32
length_le32 n = refl

-- an event has six octets before its own
length_event : (code i : ℕ) (ps : Octets) → length (event code i ps) ≡ 6 + length ps
unfolding event le16
length_event code i ps = omega arith

-- Command Complete has nine
pub length_complete : (i code s : ℕ) (ps : Octets) → length (command_complete i code s ps) ≡ 9 + length ps
unfolding command_complete event le16
length_complete i code s ps = omega arith

-- Command Status is nine
pub length_status : (i code status : ℕ) → length (command_status i code status) ≡ 9
unfolding command_status event le16
length_status i code status = refl

-- New Settings has ten octets, or there is none
room_settings : (i : ℕ) (c d : Controller) → length (new_settings i c d) ≤ 10
unfolding new_settings event le16 le32
room_settings i c d =
    either {A = Octets} (λ o. length o ≤ 10) (eqb (current_settings (settings_of c)) (current_settings (settings_of d))) (λ _. lit≤ tt) (λ _. lit≤ tt)

-- Class Of Device Changed has nine, or there is none
room_class : (i : ℕ) (r s : Host) → length (new_class i r s) ≤ 9
unfolding new_class class_of event le16
room_class i r s = either {A = Octets} (λ o. length o ≤ 9) (same (class_of r) (class_of s)) (λ _. lit≤ tt) (λ _. lit≤ tt)

-- Device Removed has thirteen for each entry
room_removals : (i : ℕ) (m : Octets → Bool) (rs : List Octets) → length (removals i m rs) ≤ 13 * length rs
unfolding removals
room_removals i m [] = lit≤ tt
room_removals i m (r ∷ rs) =
    either {A = Octets} (λ o. length (o ++ removals i m rs) ≤ 13 * suc (length rs)) (m r)
    (λ _. simp (length-append, length_event, length-take) (omega (arith, room_removals i m rs)))
    (λ _. omega (arith, room_removals i m rs))

-- Advertising Removed has seven for each number that went
room_removed_of : (i : ℕ) (s t : Schedule) (ks : List ℕ) → length (removed_of i s t ks) ≤ 7 * length ks
unfolding removed_of
room_removed_of i s t [] = lit≤ tt
room_removed_of i s t (k ∷ ks) =
    either {A = Octets} (λ o. length (o ++ removed_of i s t ks) ≤ 7 * suc (length ks)) (present s k && not (present t k))
    (λ _. simp (length-append, length_event) (omega (arith, room_removed_of i s t ks)))
    (λ _. omega (arith, room_removed_of i s t ks))

-- of five numbers at most 35
room_removed : (i : ℕ) (a b : Advertising) → length (advertising_removed i a b) ≤ 35
unfolding advertising_removed
room_removed i a b = room_removed_of i a.schedule b.schedule instances

-- 2. What a row may write ---------------------------------------------------------------------------------------------------------------------

-- return parameters and events of a command that is never Busy
unfoldable pub Room : Immediate → Type 0
Room (refuse r) = Unit {0}
Room (done out evs host) = length out + length evs ≤ 1000

-- a command that is never Busy, for a well-formed controller
unfoldable pub RoomImmediate : ImmediateRule → Type 0
RoomImmediate q = (i : ℕ) (c : Controller) (ps : Octets) → controller_ok c ≡ true → q.size ps ≡ true → Room (act q i c ps)

-- a rule; a settings command's reply is bounded whatever its rule
unfoldable pub RoomRule : Rule → Type 0
RoomRule (general f) = (p : PlainHub) → length p.controllers ≡ 4 → length (f p) ≤ 1000
RoomRule (immediate q) = RoomImmediate q
RoomRule (radio r) = Unit {0}

-- whatever the checks say, it is enough that the answer fits
unless_room : (x : Option Reason) (q : Immediate) → Room q → Room (unless x q)
unfolding unless Room
unless_room (some r) q h = tt
unless_room none q h = h

-- settings and New Settings
settings_out : (i : ℕ) (c d : Controller) (r : Host) → Room (done (le32 (current_settings (settings_of d))) (new_settings i c d) r)
unfolding Room le32
settings_out i c d r = omega (arith, room_settings i c d)

-- class and Class Of Device Changed
class_out : (i : ℕ) (r s : Host) → Room (done (class_of s) (new_class i r s) s)
unfolding Room class_of
class_out i r s = omega (arith, room_class i r s)

-- at most eight octets and one event with at most eight
event_out : (code i : ℕ) (out ps : Octets) (r : Host) → length out ≤ 8 → length ps ≤ 8 → Room (done out (event code i ps) r)
unfolding Room
event_out code i out ps r h g = simp length_event (omega arith)

-- a name, and the event with it
name_out_lem : (i : ℕ) (ps : Octets) (b : Bool) (r : Host) → length ps ≡ 260 → Room
    (done ps (elim b [ true ↦ [] | false ↦ event Events.local_name_changed i ps ]) r)
unfolding Room
name_out_lem i ps b r n = either {A = Octets} (λ o. length ps + length o ≤ 1000) b (λ _. omega arith) (λ _. simp length_event (omega arith))

-- seven octets, and Device Removed for at most 32 entries
removed_out : (i : ℕ) (m : Octets → Bool) (t : Table) (ps : Octets) (r : Host) → length ps ≡ 7 → length t ≡ 32 → Room (done ps (removals i m (entries t)) r)
unfolding Room
removed_out i m t ps r n k = omega (arith, room_removals i m (entries t), length_entries t)

-- the first seven octets are at most eight
take_seven : (ps : Octets) → length (take 7 ps) ≤ 8
take_seven ps = simp length-take (omega arith)

-- 3. The rows -----------------------------------------------------------------------------------------------------------------------------------

-- Read Controller Information: 280 octets
room_read_info : RoomImmediate read_information
unfolding RoomImmediate read_information Room le16 le32 class_of unless first_of
room_read_info i c ps e z = let n = lengths c e in simp length-append (omega (arith, n.public_address, n.name))

-- Set Bondable
room_bondable : RoomImmediate set_bondable
unfolding RoomImmediate set_bondable
room_bondable i c ps e z = unless_room _ _ (settings_out i c _ _)

-- Set Local Name
room_name : RoomImmediate set_local_name
unfolding RoomImmediate set_local_name sized
room_name i c ps e z = unless_room _ _ (name_out_lem i ps (same ps c.host.name) _ (equal _ _ z))

-- Add UUID
room_add_uuid : RoomImmediate add_uuid
unfolding RoomImmediate add_uuid
room_add_uuid i c ps e z = unless_room _ _ (class_out i _ _)

-- Remove UUID
room_remove_uuid : RoomImmediate remove_uuid
unfolding RoomImmediate remove_uuid
room_remove_uuid i c ps e z = unless_room _ _ (class_out i _ _)

-- the three key lists
room_load : (l : KeyList) → RoomImmediate (load_keys l)
unfolding RoomImmediate load_keys Room
room_load l i c ps e z = unless_room _ _ (lit≤ tt)

-- Unpair
room_unpair : RoomImmediate unpair_device
unfolding RoomImmediate unpair_device
room_unpair i c ps e z = unless_room _ _ (event_out Events.device_unpaired i _ _ _ (take_seven ps) (take_seven ps))

-- Block
room_block : RoomImmediate block_device
unfolding RoomImmediate block_device sized
room_block i c ps e z = let n : length ps ≡ 7 = equal _ _ z in unless_room _ _ (event_out Events.device_blocked i _ _ _ (omega arith) (omega arith))

-- Unblock
room_unblock : RoomImmediate unblock_device
unfolding RoomImmediate unblock_device sized
room_unblock i c ps e z = let n : length ps ≡ 7 = equal _ _ z in unless_room _ _ (event_out Events.device_unblocked i _ _ _ (omega arith) (omega arith))

-- Add Device
room_add_device : RoomImmediate add_device
unfolding RoomImmediate add_device sized
room_add_device i c ps e z = let n : length ps ≡ 8 = equal _ _ z in unless_room _ _ (event_out Events.device_added i _ _ _ (take_seven ps) (omega arith))

-- Remove Device
room_remove_device : RoomImmediate remove_device
unfolding RoomImmediate remove_device sized
room_remove_device i c ps e z =
    unless_room _ _ (removed_out i _ _ _ _ (equal _ _ z) (table_fit (rule_at 5) c.radio.hardware (table_of c.host 5) (table_ok_lem c 5 e (lit< tt))).slots)

-- Add Advertising
room_add_advertising : RoomImmediate add_advertising
unfolding RoomImmediate add_advertising advertising_checks Room advertising_added
room_add_advertising i c ps e z =
    unless_room _ _ (either {A = Octets} (λ o. 1 + length o ≤ 1000) (present c.host.advertising.schedule (octet ps 0)) (λ _. lit≤ tt)
    (λ _. simp length_event (lit≤ tt)))

-- Remove Advertising
room_remove_advertising : RoomImmediate remove_advertising
unfolding RoomImmediate remove_advertising Room
room_remove_advertising i c ps e z = unless_room _ _
    (omega (
      arith,
      room_removed i c.host.advertising
          (rescheduled c.host.advertising (removed_instance (octet ps 0) c.host.advertising.schedule)),
    ))

-- no more indexes are present than there are
length_present : (i : ℕ) (s : List (Option Controller)) → length (present_from i s) ≤ length s
unfolding present_from
length_present i [] = lit≤ tt
length_present i (none ∷ s) = omega (arith, length_present (suc i) s)
length_present i (some c ∷ s) = omega (arith, length_present (suc i) s)

-- Read Management Version Information: 3 octets
room_version : (p : PlainHub) → length p.controllers ≡ 4 → length (read_version p) ≤ 1000
unfolding read_version le16
room_version p n = lit≤ tt

-- Read Management Supported Commands: 70 octets
room_commands : (p : PlainHub) → length p.controllers ≡ 4 → length (read_commands p) ≤ 1000
unfolding read_commands command_codes event_codes words le16
room_commands p n = lit≤ tt

-- Read Controller Index List: at most 10 octets
room_indexes : (p : PlainHub) → length p.controllers ≡ 4 → length (read_indexes p) ≤ 1000
unfolding read_indexes le16
room_indexes p n = omega (arith, length_words (present_from 0 p.controllers), length_present 0 p.controllers)

-- 4. All rows -------------------------------------------------------------------------------------------------------------------------------------

-- every row of the table
all_room : Each (λ code u. RoomRule u) rows
unfolding rows RoomRule
all_room =
    room_version
    & room_commands
    & room_indexes
    & room_read_info
    & tt
    & tt
    & tt
    & room_bondable
    & tt
    & room_name
    & room_add_uuid
    & room_remove_uuid
    & room_load link_key_list
    & room_load long_term_key_list
    & room_unpair
    & room_block
    & room_unblock
    & tt
    & tt
    & room_load identity_key_list
    & room_add_device
    & room_remove_device
    & room_add_advertising
    & room_remove_advertising
    & end

-- every rule that a code finds
pub rule_room : (code : ℕ) (u : Rule) → rule code ≡ some u → RoomRule u
unfolding rule
rule_room code u e = found (λ code u. RoomRule u) code rows u all_room e

-- 5. Outcomes -------------------------------------------------------------------------------------------------------------------------------------

-- the outcome writes at most n octets
abbrev Writes : ℕ → Outcome → Type 0
Writes n o = length (octets_of o) ≤ n

-- a refusal by Command Status
status_refusal_room : (i code : ℕ) (r : Reason) → Writes Lengths.reply_buffer (refused (by_status i code) r)
unfolding octets_of by_status refusal_octets command_status event le16
status_refusal_room i code r = lit≤ tt

-- a refusal with an address
refusal_room : (a : Bool) (i code : ℕ) (ps : Octets) (r : Reason) → Writes Lengths.reply_buffer (refused (refusal_form a i code ps) r)
unfolding octets_of refusal_form refusal_octets
refusal_room false i code ps r = status_refusal_room i code r
refusal_room true i code ps r = simp (length_complete, length-take) (omega arith)

-- a settings command that acts: reply 13, New Settings 10, Advertising Removed 35
acted_room : (p : PlainHub) (i code : ℕ) (ps : Octets) (r : RadioRule) (c : Controller) → Writes Lengths.reply_buffer (acted p i code ps r c)
unfolding octets_of acted le32
acted_room p i code ps r c =
    simp (length-append, length_complete)
    (omega (arith, room_settings i c (r.effect c ps), room_removed i c.host.advertising (r.effect c ps).host.advertising))

-- a command that is never Busy
done_room : (p : PlainHub) (i code : ℕ) (ps : Octets) (a : Bool) (c : Controller) (q : Immediate) → Room q
    → Writes Lengths.reply_buffer (immediate_done p i code ps a c q)
unfolding octets_of immediate_done Room
done_room p i code ps a c (refuse r) h = refusal_room a i code ps r
done_room p i code ps a c (done out evs host) h = simp (length-append, length_complete) (omega arith)

-- a general command
general_room : (p : PlainHub) (i code : ℕ) (ps : Octets) (f : PlainHub → Octets) → length (f p) ≤ 1000 → Writes Lengths.reply_buffer (general_out p i code ps f)
unfolding octets_of general_out
general_room p i code ps f h =
    either (Writes Lengths.reply_buffer) (eqb i 0xFFFF)
    (λ _. either (Writes Lengths.reply_buffer) (eqb (length ps) 0) (λ _. simp length_complete (omega arith)) (λ _. status_refusal_room i code _))
    (λ _. status_refusal_room i code _)

-- a settings command, from the checks after Busy on
after_busy_room : (p : PlainHub) (i code : ℕ) (ps : Octets) (r : RadioRule) (c : Controller) (x : Option Reason)
    → Writes Lengths.reply_buffer (outcome (radio_after_busy p i code ps r c x))
unfolding outcome radio_after_busy
after_busy_room p i code ps r c (some x) = status_refusal_room i code x
after_busy_room p i code ps r c none = acted_room p i code ps r c

-- a settings command, from the checks before Busy on
before_busy_room : (p : PlainHub) (i code : ℕ) (ps : Octets) (r : RadioRule) (c : Controller) (x : Option Reason)
    → Writes Lengths.reply_buffer (outcome (radio_before_busy p i code ps r c x))
unfolding outcome radio_before_busy
before_busy_room p i code ps r c (some x) = status_refusal_room i code x
before_busy_room p i code ps r c none = after_busy_room p i code ps r c (first_of (r.after_busy c.radio ps))

-- a settings command, with its controller
radio_room : (p : PlainHub) (i code : ℕ) (ps : Octets) (r : RadioRule) (s : Option Controller) → Writes Lengths.reply_buffer
    (outcome (radio_at p i code ps r s))
unfolding outcome radio_at
radio_room p i code ps r none = status_refusal_room i code _
radio_room p i code ps r (some c) =
    either (λ v. Writes Lengths.reply_buffer (outcome v)) (eqb (length ps) r.size)
    (λ _. before_busy_room p i code ps r c (first_of (r.before_busy c.radio ps))) (λ _. status_refusal_room i code _)

-- New Settings and Advertising Removed at a clock reading: 45 for each index
room_ticks : (step i : ℕ) (s : List (Option Controller)) → length (tick_events step i s) ≤ 45 * length s
unfolding tick_events le32
room_ticks step i [] = lit≤ tt
room_ticks step i (none ∷ s) = omega (arith, room_ticks step (suc i) s)
room_ticks step i (some c ∷ s) =
    let r : Octets = advertising_removed i c.host.advertising (tick step c).host.advertising in
    either {A = Octets} (λ o. length (o ++ (r ++ tick_events step (suc i) s)) ≤ 45 * suc (length s)) (ends step c.host.settings.timer)
    (λ _. simp (length-append, length_event)
    (omega (arith, room_ticks step (suc i) s, room_removed i c.host.advertising (tick step c).host.advertising)))
    (λ _. simp length-append (omega (arith, room_ticks step (suc i) s, room_removed i c.host.advertising (tick step c).host.advertising)))

-- a plug: six
plug_room : (p : PlainHub) (i : ℕ) (f : Hardware) (s : Option Controller) → Writes Lengths.reply_buffer (plug_out p i f s)
unfolding octets_of plug_out
plug_room p i f (some c) = lit≤ tt
plug_room p i f none = either (Writes Lengths.reply_buffer) (ltb i 4 && hardware_ok f) (λ _. simp length_event (lit≤ tt)) (λ _. lit≤ tt)

-- an unplug: six
unplug_room : (p : PlainHub) (i : ℕ) (s : Option Controller) → Writes 6 (unplug_out p i s)
unfolding octets_of unplug_out
unplug_room p i none = lit≤ tt
unplug_room p i (some c) = simp length_event (lit≤ tt)

-- a reply buffer too small leaves nothing to write
within_room : (n need room : ℕ) (o : Outcome) → Writes n o → Writes n (within need room o)
unfolding octets_of within
within_room n need room o h = either (Writes n) (ltb room need) (λ _. omega arith) (λ _. h)

module _ (p : PlainHub) (e : plain_ok p ≡ true) where
  -- a command, by its rule
  by_room : (i code : ℕ) (ps : Octets) (u : Option Rule) → rule code ≡ u → (s : Option Controller) → controller_at p i ≡ s
      → Writes Lengths.reply_buffer (outcome (by_rule p i code ps u))
  unfolding outcome by_rule immediate_at RoomRule RoomImmediate
  by_room i code ps none eu s es = status_refusal_room i code _
  by_room i code ps (some (general f)) eu s es = general_room p i code ps f (rule_room code (general f) eu p (equal _ _ (plain_fit p e).four))
  by_room i code ps (some (immediate q)) eu none es = rw es (status_refusal_room i code _)
  by_room i code ps (some (immediate q)) eu (some c) es =
      rw es (either (Writes Lengths.reply_buffer) (q.size ps)
      (λ z. done_room p i code ps q.by_address c (act q i c ps) (rule_room code (immediate q) eu i c ps (controller_ok_lem p i c e es) z))
      (λ _. status_refusal_room i code _))
  by_room i code ps (some (radio r)) eu s es = radio_room p i code ps r (controller_at p i)

  -- a command
  command_room : (room : ℕ) (packet : Octets) → Writes Lengths.reply_buffer (outcome (verdict p room packet))
  unfolding outcome verdict octets_of
  command_room room packet =
      either (λ v. Writes Lengths.reply_buffer (outcome v)) (ltb room Lengths.reply_buffer) (λ _. lit≤ tt)
      (λ _. either (λ v. Writes Lengths.reply_buffer (outcome v)) (packet_ok packet)
      (λ _. by_room (index_of packet) (code_of packet) (drop 6 packet) (rule (code_of packet)) refl (controller_at p (index_of packet)) refl)
      (λ _. lit≤ tt))

  -- a clock reading: at most 180
  clock_room : (now : ℕ) → Writes Lengths.reply_buffer (clock_out p now)
  unfolding clock_out octets_of
  clock_room now =
      let n : length p.controllers ≡ 4 = equal _ _ (plain_fit p e).four in
      either (Writes Lengths.reply_buffer) (leb (2 ^ 31) (step_of p.clock now)) (λ _. lit≤ tt)
      (λ _. omega (arith, room_ticks (step_of p.clock now) 0 p.controllers))

-- 6. Our hub ------------------------------------------------------------------------------------------------------------------------------------------

-- Command Status: nine
status_room : (i code s : ℕ) → length (command_status i code s) ≤ 9
unfolding command_status event le16
status_room i code s = lit≤ tt

-- what a report of status 0 writes
finish_by_room : (p : PlainHub) (i : ℕ) (o : OpenCommand) (u : Option Rule) (s : Option Controller) → Writes Lengths.reply_buffer (finish_by p i o u s)
unfolding finish_by octets_of
finish_by_room p i o none s = lit≤ tt
finish_by_room p i o (some (general f)) s = lit≤ tt
finish_by_room p i o (some (immediate q)) s = lit≤ tt
finish_by_room p i o (some (radio r)) none = lit≤ tt
finish_by_room p i o (some (radio r)) (some c) = acted_room p i o.code o.params r c

-- it, with its rule and its controller looked up
finish_room : (p : PlainHub) (i : ℕ) (o : OpenCommand) → Writes Lengths.reply_buffer (finish p i o)
unfolding finish
finish_room p i o = finish_by_room p i o (rule o.code) (controller_at p i)

-- Busy, started, or done at once
busy_room : (h : Hub) (i code : ℕ) (ps : Octets) (o : Outcome) (w : Bool) (x : Option OpenCommand) → Writes Lengths.reply_buffer o
    → length (busy_or h i code ps o w x).octets ≤ Lengths.reply_buffer
unfolding busy_or keep
busy_room h i code ps o w (some x) r = omega (arith, status_room i code Statuses.busy)
busy_room h i code ps o true none r = lit≤ tt
busy_room h i code ps o false none r = r

-- a command, decided
command_out_room : (h : Hub) (i code : ℕ) (ps : Octets) (v : Verdict) (x : Option OpenCommand) → Writes Lengths.reply_buffer (outcome v)
    → length (command_out h i code ps v x).octets ≤ Lengths.reply_buffer
unfolding command_out keep outcome
command_out_room h i code ps (anyway o) x r = r
command_out_room h i code ps (unless_busy o w) x r = busy_room h i code ps o w x r

-- a report
report_room : (h : Hub) (i s : ℕ) (x : Option OpenCommand) → length (report_out h i s x).octets ≤ Lengths.reply_buffer
unfolding report_out keep octets_of
report_room h i s none = lit≤ tt
report_room h i s (some o) =
    either {A = Result Hub} (λ r. length r.octets ≤ Lengths.reply_buffer) (ltb Statuses.highest s) (λ _. lit≤ tt)
    (λ _. either {A = Result Hub} (λ r. length r.octets ≤ Lengths.reply_buffer) (eqb s 0) (λ _. finish_room h.plain i o)
    (λ _. omega (arith, status_room i o.code s)))

-- the reply owed to a command that is cut off
owed_room : (i : ℕ) (x : Option OpenCommand) → length (owed_to i x) ≤ 9
unfolding owed_to
owed_room i none = lit≤ tt
owed_room i (some o) = status_room i o.code Statuses.invalid_index

-- an unplug: at most nine and six
unplugged_room : (h : Hub) (i : ℕ) (o : Outcome) → Writes 6 o → length (unplugged h i o).octets ≤ Lengths.reply_buffer
unfolding unplugged keep octets_of
unplugged_room h i (finished o p) r = simp length-append (omega (arith, owed_room i (under_way h i)))
unplugged_room h i (refused f x) r = omega arith
unplugged_room h i bad_packet r = lit≤ tt
unplugged_room h i no_room r = lit≤ tt
unplugged_room h i bad_argument r = lit≤ tt

-- no call but save writes more than 1,024 octets, however wide its arguments
pub room_hub : (h : Hub) (c : Call) → well_formed h ≡ true → not_save c ≡ true → length (call h c).octets ≤ Lengths.reply_buffer
unfolding call keep call_plain octets_of not_save
room_hub h (command room packet) e n = command_out_room h _ _ _ (verdict h.plain room packet) (under_way h (index_of packet))
    (command_room h.plain (well_fit h e).plain room packet)
room_hub h (report room i s) e n =
    either {A = Result Hub} (λ r. length r.octets ≤ Lengths.reply_buffer) (ltb room Lengths.reply_buffer) (λ _. lit≤ tt)
    (λ _. report_room h i s (under_way h i))
room_hub h (clock room now) e n =
    within_room Lengths.reply_buffer Lengths.reply_buffer room (clock_out h.plain now) (clock_room h.plain (well_fit h e).plain now)
room_hub h (plug room i f) e n =
    within_room Lengths.reply_buffer Lengths.reply_buffer room (plug_out h.plain i f (controller_at h.plain i))
    (plug_room h.plain i f (controller_at h.plain i))
room_hub h (unplug room i) e n =
    unplugged_room h i _ (within_room 6 Lengths.reply_buffer room (unplug_out h.plain i (controller_at h.plain i))
    (unplug_room h.plain i (controller_at h.plain i)))
room_hub h (save room) e n = no_way (sym n)

-- NO CALL BUT SAVE WRITES MORE THAN 1,024 OCTETS, whatever the lent octets hold and however wide the arguments
pub room_state : (s : Octets) (c : Call) → not_save c ≡ true → length (meaning s c).octets ≤ Lengths.reply_buffer
unfolding meaning laid_out bad_state
room_state s c n =
    either {A = Result Octets} (λ r. length r.octets ≤ Lengths.reply_buffer) (state_ok s) (λ t. room_hub (decode s) c (state_well s t) n) (λ _. lit≤ tt)
