-- The theorems, over the octets of the lent state, each by name. The proofs are in Proof/.
use Rattle.std.specs.Prelude.{ℕ, suc, ◌/◌, ◌%◌, ◌^◌, ◌≤◌, ◌<◌, ◌≡◌, refl, Bool, true, false, [], ◌∷◌, map, ◌↔◌, length, get_or, take, drop, eqb, leb, ltb}
use Rattle.std.proofs.Common.{arith, sym, ap, ◌∙◌, lit≤}
use Rattle.std.proofs.Math.Option.{Option, none, some}
use Rattle.model.specs.Lengths as Lengths
use Rattle.model.specs.Octets.{Octets, all_zero, bytes, octet, open_octets, used_part}
use Rattle.model.specs.Advertising.{open_advertising}
use Rattle.model.specs.State.{Hub, PlainHub, Table, idle, open_state}
use Rattle.model.specs.Reasons.{open_reasons}
use Rattle.model.specs.Tables.{entries, holds, long_term_keys, open_tables, rule_at}
use Rattle.model.specs.LookUp.{key_length, look_up}
use Rattle.model.specs.Commands.{Row, command_codes, rows}
use Rattle.model.specs.Image.{One, Two, has_image, image, image_of, name_back, names_clean, open_image, reloaded_hub, tailless_hub, version_octet}
use Rattle.model.specs.Reading.{acceptable, either_version, judge, load, only}
use Rattle.model.specs.Hub.{Call, Outcome, Result, answer_of, call, call_plain, clock, command, keep, octets_of, plug, report, save}
use Rattle.model.specs.Hub.{save_out, state_of, unplug, within}
use Rattle.model.specs.WellFormed.{call_wide, open_wellformed, plain_ok, well_formed}
use Rattle.model.specs.Layout.{decode, encode, line_cleared}
use Rattle.model.specs.Meanings.{bad_state, hub_command, hub_load, hub_look_up, hub_name, hub_on_air, hub_save, hub_stream, laid_out, load_meaning}
use Rattle.model.specs.Meanings.{Loaded, leaves, loaded_into, told_look_up}
use Rattle.model.specs.Meanings.{meaning, state_ok}
use Rattle.model.specs.Moves.{Moved, hub_downgrade, hub_upgrade, writes}
use Rattle.model.specs.Written.{LoadAnswer, LookUpAnswer, MoveAnswer, ReadAnswer, OneReply, Written, room_of}
use Rattle.model.specs.Demand3.{Demand3}
use Rattle.model.specs.Cutting.{CuttingDoesNotMatter, LeftAside, LineMayBeCut, LumpTold}
use Rattle.model.specs.Fairness.{Fairness, InTime}
use Rattle.model.proofs.Examples.{dual_hardware, full_controller, full_hub, full_table, records}
use Rattle.model.proofs.Model.Decode.{decode_encode}
use Rattle.model.proofs.Model.Demand3.{encode_ok, idle_ok, meaning_is, state_back, state_well, taken}
use Rattle.model.proofs.Model.Feeding.{line_cut}
use Rattle.model.proofs.Model.InTime.{fairness, in_time}
use Rattle.model.proofs.Model.Keeps.{keeps_state, load_refused_same, load_state, refused_same, state_exact}
use Rattle.model.proofs.Model.Line.{cutting, demand3}
use Rattle.model.proofs.Model.Load.{Accepted, accepts, either_takes, load_ok, loaded_by, loads_by}
use Rattle.model.proofs.Model.Diagnosis.{inside}
use Rattle.model.proofs.Model.Long.{long_call}
use Rattle.model.proofs.Model.LookUp.{first_matches, first_of_none, keyed, keyed_by_master, look_up_answered, looked_back, none_before_first}
use Rattle.model.proofs.Model.LookUp.{walk_ends, walked_all, walked_found}
use Rattle.model.proofs.Model.Names.{name_answered, name_most, name_no_zero, name_same, used_ends}
use Rattle.model.proofs.Model.OnAir.{on_air_answered, on_air_most, on_air_same}
use Rattle.model.proofs.Model.OneLump.{left_aside, lump_keeps, lump_refused, lump_room, lump_told}
use Rattle.model.proofs.Model.Room.{not_save, room_state}
use Rattle.model.proofs.Model.Moves.{accepted_answer, back_loads, back_there, clean_exactly, forth_loads, in_version, move_most, moves_told}
use Rattle.model.proofs.Model.Moves.{other_answer, refused_answer, said_two, there_back, upgraded, was_moved}
use Rattle.model.proofs.Model.Tails.{name_through}
use Rattle.model.proofs.Model.RoundTrip.{image_most, saved_accepted}
use Rattle.model.proofs.Model.SavedAgain.{written_again}
use Rattle.model.proofs.Model.Tests.{and_true, either}
use Rattle.model.proofs.Model.Written.{load_answered, one_reply, silent, state_written, to_six}

-- DEMAND 3, whole: for any image that load takes into any buffer and any list of calls and lumps
pub demand_3 : Demand3
demand_3 = demand3

-- Well formed ---------------------------------------------------------------------------------------------------------------------------------

-- A well-formed state is exactly the encoding of a valid hub.
pub state_is_encoding : (s : Octets) → (state_ok s ≡ true) ↔ ((h : Hub) × (well_formed h ≡ true) × (s ≡ encode h))
state_is_encoding = state_exact

-- decode and encode are inverse on well-formed states: reading back what was laid out gives the hub.
pub decode_of_encode : (h : Hub) → well_formed h ≡ true → decode (encode h) ≡ h
decode_of_encode = decode_encode

-- Laying out what was read gives the octets.
pub encode_of_decode : (s : Octets) → state_ok s ≡ true → encode (decode s) ≡ s
encode_of_decode s e = sym (state_back s e)

-- Every call keeps a state well formed.
pub calls_keep : (s : Octets) (c : Call) → state_ok s ≡ true → call_wide c ≡ true → state_ok (meaning s c).state ≡ true
calls_keep = keeps_state

-- Load makes a well-formed state.
pub load_makes : (buffer image : Octets) → bytes image ≡ true → (hub_load buffer image).answer ≡ 0 → state_ok (hub_load buffer image).state ≡ true
load_makes = load_state

-- A call answered 2 to 6 changes nothing.
pub refused_changes_nothing : (s : Octets) (c : Call) → leb 2 (meaning s c).answer ≡ true → (meaning s c).state ≡ s
refused_changes_nothing = refused_same

-- A load answered 5 or 71 to 77 changes nothing.
pub refused_load_changes_nothing : (buffer image : Octets) → leb 2 (hub_load buffer image).answer ≡ true → (hub_load buffer image).state ≡ buffer
refused_load_changes_nothing = load_refused_same

-- The image -----------------------------------------------------------------------------------------------------------------------------------

-- save of a hub, with room for the largest image
save_call : (h : Hub) (room : ℕ) → ltb room Lengths.largest_image ≡ false → call h (save room) ≡ record { answer = 0; octets = image h.plain; state = h }
unfolding call keep call_plain within save_out answer_of octets_of state_of
save_call h room r = rw (r, within)

-- save on the state of a well-formed hub, with that room
save_is : (h : Hub) (room : ℕ) → well_formed h ≡ true → ltb room Lengths.largest_image ≡ false
    → hub_save (encode h) room ≡ record { answer = 0; octets = image h.plain; state = encode h }
unfolding hub_save laid_out
save_is h room e r = meaning_is h (save room) e ∙ ap laid_out (save_call h room r)

-- A save of a well-formed state, with room, is answered 0 (02, E7).
pub saves_answered : (s : Octets) (room : ℕ) → state_ok s ≡ true → ltb room Lengths.largest_image ≡ false → (hub_save s room).answer ≡ 0
unfolding hub_save meaning laid_out
saves_answered s room e r = rw (e, meaning, save_call (decode s) room r)

-- save after a load that took the image
save_loaded : (buffer o : Octets) (p : PlainHub) (room : ℕ) → plain_ok p ≡ true → (hub_load buffer o).state ≡ encode (idle p)
    → ltb room Lengths.largest_image ≡ false
    → hub_save (hub_load buffer o).state room ≡ record { answer = 0; octets = image_of Two p; state = (hub_load buffer o).state }
unfolding idle image
save_loaded buffer o p room k s r = rw (s, save_is (idle p) room (idle_ok p k) r)

-- An accepted image of version 2 is saved again octet for octet.
pub accepted_image_saved_again : (buffer o : Octets) (room : ℕ) → bytes o ≡ true → octet o 4 ≡ 2 → (hub_load buffer o).answer ≡ 0
    → ltb room Lengths.largest_image ≡ false
    → hub_save (hub_load buffer o).state room ≡ record { answer = 0; octets = o; state = (hub_load buffer o).state }
unfolding version_octet
accepted_image_saved_again buffer o room b v e r =
    let t = taken buffer o e in
    let a = loaded_by o t.hub t.loads in
    save_loaded buffer o t.hub room (load_ok o t.hub b t.loads) t.state r
    ∙ rw (written_again Two o t.hub b (in_version a.0 Two o t.hub v a.1))

-- Load of an acceptable image, into a buffer of the right length, is answered 0, and makes the state that the image gives.
pub load_is : (buffer o : Octets) (p : PlainHub) → eqb (length buffer) Lengths.state ≡ true → judge either_version o ≡ acceptable p
    → hub_load buffer o ≡ record { answer = 0; offset = 0; state = encode (idle p) }
unfolding hub_load load_meaning leaves loaded_into
load_is buffer o p n l = rw (n, load_meaning, l)

-- what is known where a save is answered 0: a state that is well formed, and the room
record Saved (s : Octets) (room : ℕ) : Type 0 where
  state : state_ok s ≡ true
  roomy : ltb room Lengths.largest_image ≡ false

-- a save that is answered 0 found both
saved : (s : Octets) (room : ℕ) → (hub_save s room).answer ≡ 0 → Saved s room
unfolding hub_save meaning laid_out bad_state call keep call_plain within answer_of
saved s room =
    either {A = Result Octets} (λ r. r.answer ≡ 0 → Saved s room) (state_ok s)
    (λ e. either {A = Outcome} (λ o. answer_of o ≡ 0 → Saved s room) (ltb room Lengths.largest_image) (λ _ z. absurd (omega arith))
    (λ r _. record { state = e; roomy = r }))
    (λ _ z. absurd (omega arith))

-- A saved image loads to the state that `reloaded_hub` says: power and discoverable off, no timer, clock 0, nothing open and nothing waiting, the records in
-- the lowest slots, no advertising, zeros behind the used part of each name.
pub saved_image_loads : (s buffer : Octets) (room : ℕ) → (hub_save s room).answer ≡ 0 → eqb (length buffer) Lengths.state ≡ true
    → hub_load buffer (hub_save s room).octets ≡ record { answer = 0; offset = 0; state = encode (idle (reloaded_hub Two (decode s).plain)) }
unfolding well_formed image
saved_image_loads s buffer room a n =
    let t = saved s room a in
    let e = t.state in
    let p : PlainHub = (decode s).plain in
    let w = state_well s e in
    let i : (hub_save s room).octets ≡ image_of Two p = ap (λ (x : Octets). (hub_save x room).octets) (state_back s e)
    ∙ ap (λ (x : Result Octets). x.octets) (save_is (decode s) room w t.roomy) in
    let k = saved_accepted Two p (and_true (plain_ok p) _ w).0 (said_two p.controllers) in
    rw i (load_is buffer (image_of Two p) (reloaded_hub Two p) n (accepts either_version Two (image_of Two p) (reloaded_hub Two p) (either_takes Two) k))

-- save of a well-formed hub writes at most 16,014 octets
save_length : (h : Hub) (room : ℕ) → well_formed h ≡ true → length (call h (save room)).octets ≤ Lengths.largest_image
unfolding call keep call_plain within save_out octets_of well_formed image
save_length h room e =
    either {A = Outcome} (λ o. length (octets_of o) ≤ Lengths.largest_image) (ltb room Lengths.largest_image) (λ _. lit≤ tt)
    (λ _. image_most Two h.plain (and_true (plain_ok h.plain) _ e).0)

-- No image is longer than 16,014 octets, whatever is lent and whatever is loaded.
pub no_image_longer : (s : Octets) (room : ℕ) → length (hub_save s room).octets ≤ Lengths.largest_image
unfolding hub_save meaning laid_out bad_state
no_image_longer s room =
    either {A = Result Octets} (λ r. length r.octets ≤ Lengths.largest_image) (state_ok s) (λ e. save_length (decode s) room (state_well s e)) (λ _. lit≤ tt)

-- the hub with all tables full is well formed
full_valid : plain_ok full_hub ≡ true
unfolding open_octets open_advertising open_state open_reasons open_tables open_image open_wellformed dual_hardware records full_table full_controller full_hub
full_valid = refl

-- its image has 16,014 octets
full_length : length (image full_hub) ≡ Lengths.largest_image
unfolding open_octets open_advertising open_state open_reasons open_tables open_image dual_hardware records full_table full_controller full_hub
full_length = refl

-- One is that long: that of four controllers with all tables full.
pub one_image_that_long : (state_ok (encode (idle full_hub)) ≡ true)
    × (length (hub_save (encode (idle full_hub)) Lengths.largest_image).octets ≡ Lengths.largest_image)
unfolding idle
one_image_that_long =
    let w = idle_ok full_hub full_valid in
    (encode_ok (idle full_hub) w, ap (λ (x : Result Octets). length x.octets) (save_is (idle full_hub) Lengths.largest_image w refl) ∙ full_length)

-- The moves between the versions (02, E7) ----------------------------------------------------------------------------------------------------------

-- what load gives of an image of version 1
loaded_one : (o : Octets) (p : PlainHub) → load o ≡ some p → octet o 4 ≡ 1 → Accepted One o p
unfolding version_octet
loaded_one o p l v = let a = loaded_by o p l in in_version a.0 One o p v a.1

-- The move to version 2 of an image that load takes is save after load.
pub upgrade_is_load_and_save : (buffer o : Octets) (room : ℕ) → bytes o ≡ true → (hub_load buffer o).answer ≡ 0 → octet o 4 ≡ 1
    → ltb room Lengths.largest_image ≡ false
    → hub_upgrade o room ≡ record { answer = 0; offset = 0; octets = (hub_save (hub_load buffer o).state room).octets }
upgrade_is_load_and_save buffer o room b e v r =
    let t = taken buffer o e in
    let s = save_loaded buffer o t.hub room (load_ok o t.hub b t.loads) t.state r in
    upgraded o t.hub room (loaded_one o t.hub t.loads v) r ∙ rw s

-- An image of version 1 moved to version 2 and back. It loads to a hub p and is its image; what comes back is the image of p with zeros behind the used
-- part of each name, and all else the same; and that is the same image exactly if every name of p has only zeros there.
pub upgrade_and_back : (o : Octets) (room : ℕ) → bytes o ≡ true → (hub_upgrade o room).answer ≡ 0
    → (p : PlainHub) × (load o ≡ some p) × (o ≡ image_of One p)
    × (hub_downgrade (hub_upgrade o room).octets room ≡ record { answer = 0; offset = 0; octets = image_of One (tailless_hub p) })
    × ((image_of One (tailless_hub p) ≡ o) ↔ (names_clean p.controllers ≡ true))
unfolding hub_upgrade
upgrade_and_back o room b e =
    let m = was_moved One Two o room e in (
      m.hub,
      loads_by One o m.hub m.from,
      sym (written_again One o m.hub b m.from),
      rw m.octets (there_back o m.hub room b m.from m.enough),
      clean_exactly o m.hub b m.from,
    )

-- An image of version 2 moved to version 1 and back is the same.
pub downgrade_and_back : (o : Octets) (room : ℕ) → bytes o ≡ true → (hub_downgrade o room).answer ≡ 0
    → hub_upgrade (hub_downgrade o room).octets room ≡ record { answer = 0; offset = 0; octets = o }
unfolding hub_downgrade
downgrade_and_back o room b e =
    let m = was_moved Two One o room e in rw m.octets (back_there o m.hub room b m.from m.tells m.enough)

-- An image of version 1 whose names are clean, loaded, saved and moved back, is the same.
pub clean_image_comes_back : (buffer o : Octets) (p : PlainHub) (room : ℕ) → bytes o ≡ true → eqb (length buffer) Lengths.state ≡ true → octet o 4 ≡ 1
    → load o ≡ some p → names_clean p.controllers ≡ true → ltb room Lengths.largest_image ≡ false
    → hub_downgrade (hub_save (hub_load buffer o).state room).octets room ≡ record { answer = 0; offset = 0; octets = o }
clean_image_comes_back buffer o p room b n v l c r =
    let a = loaded_one o p l v in
    let q = load_is buffer o p n (accepts either_version One o p (either_takes One) a) in
    let s = save_loaded buffer o p room (load_ok o p b l) (ap (λ (x : Loaded). x.state) q) r in
    rw s (there_back o p room b a r ∙ rw ((clean_exactly o p b a).1 c))

-- With room, an image that load takes and that has version 2 is moved back exactly if every controller that supports BR/EDR has it on; else 8.
pub downgrades_answered : (o : Octets) (p : PlainHub) (room : ℕ) → octet o 4 ≡ 2 → load o ≡ some p → ltb room Lengths.largest_image ≡ false
    → (hub_downgrade o room).answer ≡ elim (has_image One p.controllers) [ true ↦ 0 | false ↦ 8 ]
unfolding hub_downgrade version_octet
downgrades_answered o p room v l r = let a = loaded_by o p l in accepted_answer Two One o p room (in_version a.0 Two o p v a.1) r

-- One that load takes and that has version 1 is moved to version 2, always.
pub upgrades_answered : (o : Octets) (p : PlainHub) (room : ℕ) → octet o 4 ≡ 1 → load o ≡ some p → ltb room Lengths.largest_image ≡ false
    → (hub_upgrade o room).answer ≡ 0
unfolding writes
upgrades_answered o p room v l r = ap (λ (m : Moved). m.answer) (upgraded o p room (loaded_one o p l v) r)

-- With room, an image that load does not take is answered 71 to 77 by both moves.
pub bad_image_not_moved : (o : Octets) (room : ℕ) → load o ≡ none → ltb room Lengths.largest_image ≡ false
    → ((71 ≤ (hub_upgrade o room).answer) × ((hub_upgrade o room).answer ≤ 77)) × ((71 ≤ (hub_downgrade o room).answer) × ((hub_downgrade o room).answer ≤ 77))
unfolding hub_upgrade hub_downgrade
bad_image_not_moved o room n r = (
  refused_answer One Two o room r (λ p a. none_some p (sym n ∙ loads_by One o p a)),
  refused_answer Two One o room r (λ p a. none_some p (sym n ∙ loads_by Two o p a)),
)
  where
    none_some : (p : PlainHub) → ◌≡◌ {A = Option PlainHub} none (some p) → ⊥
    none_some p e = let z : ◌≡◌ {A = ℕ} 0 1 = cc in absurd (omega arith)

-- With room, one that has a version octet, and another than that of the version moved from, is answered 72 with offset 4, whatever else it holds.
pub other_version_not_moved : (o : Octets) (room : ℕ) → 5 ≤ length o → ltb room Lengths.largest_image ≡ false
    → ((octet o 4 ≡ 1 → ⊥) → hub_upgrade o room ≡ record { answer = 72; offset = 4; octets = [] })
    × ((octet o 4 ≡ 2 → ⊥) → hub_downgrade o room ≡ record { answer = 72; offset = 4; octets = [] })
unfolding hub_upgrade hub_downgrade version_octet
other_version_not_moved o room l r = (λ n. other_answer One Two o room l r n, λ n. other_answer Two One o room l r n)

-- An image that was moved back loads to what it loaded to before.
pub downgraded_loads : (o : Octets) (room : ℕ) → bytes o ≡ true → (hub_downgrade o room).answer ≡ 0 → load (hub_downgrade o room).octets ≡ load o
unfolding hub_downgrade
downgraded_loads o room b e =
    let m = was_moved Two One o room e in rw m.octets (back_loads o m.hub b m.from m.tells ∙ sym (loads_by Two o m.hub m.from))

-- One that was moved to version 2 loads to the same, with zeros behind the used part of each name.
pub upgraded_loads : (o : Octets) (p : PlainHub) (room : ℕ) → bytes o ≡ true → (hub_upgrade o room).answer ≡ 0 → load o ≡ some p
    → load (hub_upgrade o room).octets ≡ some (tailless_hub p)
unfolding hub_upgrade
upgraded_loads o p room b e l =
    let m = was_moved One Two o room e in
    let q : m.hub ≡ p = cc (sym (loads_by One o m.hub m.from) ∙ l) in
    rw (m.octets, ← q) (forth_loads o m.hub b m.from)

-- A name that went through version 2 is as long as it was, the same up to its first zero, and zero from there on.
pub only_tails_lost : (room : ℕ) (n : Octets) → length n ≡ room → (length (name_back Two room n) ≡ room)
    × (take (length (used_part n)) (name_back Two room n) ≡ take (length (used_part n)) n) × (all_zero (drop (length (used_part n)) (name_back Two room n)) ≡ true)
only_tails_lost = name_through

-- A move to version 2 is answered 0, 4 or 71 to 77, one back to version 1 also 8; only with 0 anything is written, and only with 71 to 77 an offset is
-- told, at most the length of the image.
pub moves_answered : (o : Octets) (room : ℕ) → MoveAnswer (length o) false (hub_upgrade o room).answer (hub_upgrade o room).offset (hub_upgrade o room).octets
    × MoveAnswer (length o) true (hub_downgrade o room).answer (hub_downgrade o room).offset (hub_downgrade o room).octets
moves_answered o room = moves_told (length o) o room (λ v. inside (only v) o)

-- No move writes more than 16,014 octets.
pub no_move_longer : (o : Octets) (room : ℕ) → bytes o ≡ true
    → (length (hub_upgrade o room).octets ≤ Lengths.largest_image) × (length (hub_downgrade o room).octets ≤ Lengths.largest_image)
unfolding hub_upgrade hub_downgrade
no_move_longer o room b = (move_most One Two o room b, move_most Two One o room b)

-- Commands -----------------------------------------------------------------------------------------------------------------------------------

-- Read Management Supported Commands lists the codes of the table of commands from the third on, and no other.
pub commands_listed : map (λ (r : Row). r.0) (drop 2 rows) ≡ command_codes
unfolding rows command_codes
commands_listed = refl

-- What is written ----------------------------------------------------------------------------------------------------------------------------

-- Every call writes what its answer lets it write: nothing, one status reply, or, where it is done, what its rule gives.
pub answer_says_what_is_written : (s : Octets) (c : Call) → Written c (meaning s c).answer (meaning s c).octets
answer_says_what_is_written = state_written

-- A call answered 1 or 3 to 6 writes nothing.
pub silent_answers : (s : Octets) (c : Call) → ((meaning s c).answer ≡ 0 → ⊥) → ((meaning s c).answer ≡ 2 → ⊥) → (meaning s c).octets ≡ []
silent_answers s c = silent c _ _ (state_written s c)

-- Only a command is answered 2, and it writes exactly one status reply, with the code and index of its packet.
pub refused_writes_one_reply : (s : Octets) (c : Call) → (meaning s c).answer ≡ 2 → OneReply c (meaning s c).octets
refused_writes_one_reply s c = one_reply c _ _ (state_written s c)

-- Every answer is one of 0 to 6.
pub answers_are_seven : (s : Octets) (c : Call) → (meaning s c).answer ≤ 6
answers_are_seven s c = to_six c _ _ (state_written s c)

-- Load answers 0, 5 or 71 to 77, and only with those it tells an offset, at most the length of the image.
pub loads_answered : (buffer image : Octets) → LoadAnswer (length image) (hub_load buffer image).answer (hub_load buffer image).offset
loads_answered buffer image = load_answered (length image) buffer image (inside either_version image)

-- Room ----------------------------------------------------------------------------------------------------------------------------------------

-- No call writes more than the reply buffer that it asks for: 1,024 octets, save 16,014.
pub no_reply_longer : (s : Octets) (c : Call) → length (meaning s c).octets ≤ room_of c
unfolding room_of not_save hub_save
no_reply_longer s (command room packet) = room_state s (command room packet) refl
no_reply_longer s (report room i status) = room_state s (report room i status) refl
no_reply_longer s (clock room reading) = room_state s (clock room reading) refl
no_reply_longer s (plug room i f) = room_state s (plug room i f) refl
no_reply_longer s (unplug room i) = room_state s (unplug room i) refl
no_reply_longer s (save room) = no_image_longer s room

-- No call asks for more than 16,014 octets.
pub room_most : (c : Call) → room_of c ≤ Lengths.largest_image
unfolding room_of
room_most (command room packet) = omega arith
room_most (report room i status) = omega arith
room_most (clock room reading) = omega arith
room_most (plug room i f) = omega arith
room_most (unplug room i) = omega arith
room_most (save room) = omega arith

-- The count of octets written fits 24 bits.
pub count_fits : (s : Octets) (c : Call) → length (meaning s c).octets < 2 ^ 24
count_fits s c = omega (arith, no_reply_longer s c, room_most c)

-- Names -----------------------------------------------------------------------------------------------------------------------------------------

-- Asking for a name changes no state.
pub name_changes_nothing : (s : Octets) (index which room : ℕ) → (hub_name s index which room).state ≡ s
name_changes_nothing = name_same

-- At most 248 octets are told of a name.
pub no_name_longer : (s : Octets) (index which room : ℕ) → length (hub_name s index which room).octets ≤ 248
no_name_longer = name_most

-- It is answered 0, 4, 5 or 6, and only with 0 anything is written.
pub names_answered : (s : Octets) (index which room : ℕ) → ReadAnswer (hub_name s index which room).answer (hub_name s index which room).octets
names_answered = name_answered

-- The used part of a name ends where a zero stands, or with the name.
pub used_part_ends : (name : Octets) → length (used_part name) < length name → octet name (length (used_part name)) ≡ 0
used_part_ends = used_ends

-- No zero octet is among them.
pub no_zero_in_a_name : (s : Octets) (index which room k : ℕ) → k < length (hub_name s index which room).octets
    → octet (hub_name s index which room).octets k ≡ 0 → ⊥
no_zero_in_a_name = name_no_zero

-- On air -----------------------------------------------------------------------------------------------------------------------------------------

-- Asking what is on air changes no state.
pub on_air_changes_nothing : (s : Octets) (index room : ℕ) → (hub_on_air s index room).state ≡ s
on_air_changes_nothing = on_air_same

-- It is answered 0, 4, 5 or 6, and only with 0 anything is written.
pub on_air_is_answered : (s : Octets) (index room : ℕ) → ReadAnswer (hub_on_air s index room).answer (hub_on_air s index room).octets
on_air_is_answered = on_air_answered

-- At most 65 octets are told.
pub no_on_air_longer : (s : Octets) (index room : ℕ) → length (hub_on_air s index room).octets ≤ 65
no_on_air_longer = on_air_most

-- FAIRNESS: with LE and power on all the time, an instance that is not taken away waits for less than one longest turn of each of the other four, lumps
-- among the calls and octets waiting or not (02, E1 and E6). While it was on air at no moment, fewer seconds have passed than that.
pub comes_on_air : Fairness
comes_on_air = fairness

-- Once that many seconds have passed, in any list of calls and lumps, it was on air at some moment.
pub on_air_in_time : InTime
on_air_in_time = in_time

-- Look-ups -----------------------------------------------------------------------------------------------------------------------------------------

-- A look-up that finds: the slot told holds a record that matches, no record before it does, and the walk ends there.
pub look_up_finds : (m : Octets → Bool) (t : Table) → holds m t ≡ true
    → ((r : Octets) × (get_or t (look_up m t).slot none ≡ some r) × (m r ≡ true)) × (holds m (take (look_up m t).slot t) ≡ false)
    × ((look_up m t).walked ≡ suc (look_up m t).slot)
unfolding look_up
look_up_finds m t e = (first_matches m t e, none_before_first m t, walked_found m t e)

-- One that does not: the slot told is the number of slots, and the walk has seen every record.
pub look_up_misses : (m : Octets → Bool) (t : Table) → holds m t ≡ false
    → ((look_up m t).slot ≡ length t) × (entries (take (look_up m t).walked t) ≡ entries t)
unfolding look_up
look_up_misses m t e = (first_of_none m t e, walked_all m t e)

-- A walk ends with a slot in use: no slot is walked behind the last one.
pub walk_ends_in_use : (m : Octets → Bool) (t : Table) (k : ℕ) → (look_up m t).walked ≡ suc k → (r : Octets) × (get_or t k none ≡ some r)
unfolding look_up
walk_ends_in_use = walk_ends

-- A host is answered 0, 5 or 6, and only with 0 it is told anything: a slot and the slots walked, each at most 32.
pub look_ups_answered : (s : Octets) (index table : ℕ) (key : Octets) → LookUpAnswer (hub_look_up s index table key).answer (hub_look_up s index table key).extra
look_ups_answered = look_up_answered

-- It reads both back from the one number.
pub looked_up_read_back : (m : Octets → Bool) (t : Table) → length t ≡ 32
    → ((told_look_up (look_up m t)).extra % 256 ≡ (look_up m t).slot) × ((told_look_up (look_up m t)).extra / 256 ≡ (look_up m t).walked)
looked_up_read_back = looked_back

-- What a look-up goes by is what no two records of a table share, by the table's own rule.
pub looked_for_by_key : (k : ℕ) (r : Octets) → k < 6 → (k ≡ long_term_keys → ⊥) → (rule_at k).key r ≡ take (key_length k) r
looked_for_by_key = keyed

-- Of long term keys their Master is not looked at: two may have one address and type.
pub master_not_looked_at : (r : Octets) → (rule_at long_term_keys).key r ≡ octet r 8 ∷ take (key_length long_term_keys) r
master_not_looked_at = keyed_by_master

-- Packets off the serial line (02, E6) ----------------------------------------------------------------------------------------------------------

-- WHERE THE LINE IS CUT makes no difference: its packets are answered, write and change the state as they do one by one, each where its last octet is taken.
pub cutting_does_not_matter : CuttingDoesNotMatter
cutting_does_not_matter = cutting

-- The same of a host at a line of whole packets, which lends the next octets as it likes, and again those that were not taken.
pub line_may_be_cut : LineMayBeCut
line_may_be_cut = line_cut

-- What a lump is told, whatever is lent: 4 or 5 and nothing taken, 9 and all taken, or what the command call of the finished packet is told.
pub lump_is_told : (s o : Octets) (room : ℕ) → bytes o ≡ true → LumpTold s o room (hub_stream s o room)
lump_is_told = lump_told

-- What a packet over 1,160 octets comes to depends only on its length, its header and its first four octets of parameters.
pub long_packet : (s p q : Octets) (room : ℕ) → bytes p ≡ true → bytes q ≡ true → Lengths.longest_kept < length p → length p ≡ length q
    → take Lengths.long_head p ≡ take Lengths.long_head q → hub_command s p room ≡ hub_command s q room
unfolding hub_command meaning
long_packet s p q room bp bq l n t =
    ap {B = Result Octets} (λ (r : Result Hub). elim (state_ok s) [ true ↦ laid_out r | false ↦ bad_state s ])
    (long_call (decode s) room p q (record { long = l; size = n; ten = t; octets = (bp, bq) }))

-- Waiting octets lie aside: no call is told anything else because of them, and every call leaves them.
pub waiting_lies_aside : (s : Octets) (c : Call) → state_ok s ≡ true → call_wide c ≡ true → LeftAside s c
waiting_lies_aside = left_aside

-- Every lump keeps a state well formed.
pub lumps_keep : (s o : Octets) (room : ℕ) → state_ok s ≡ true → bytes o ≡ true → state_ok (hub_stream s o room).result.state ≡ true
lumps_keep = lump_keeps

-- A lump that is refused, or finishes no packet, changes nothing but the waiting octets.
pub refused_lump_changes_nothing : (s o : Octets) (room : ℕ) → bytes o ≡ true → leb 2 (hub_stream s o room).result.answer ≡ true
    → line_cleared (hub_stream s o room).result.state ≡ line_cleared s
refused_lump_changes_nothing = lump_refused

-- No lump writes more than 1,024 octets.
pub no_lump_reply_longer : (s o : Octets) (room : ℕ) → bytes o ≡ true → length (hub_stream s o room).result.octets ≤ Lengths.reply_buffer
no_lump_reply_longer = lump_room
