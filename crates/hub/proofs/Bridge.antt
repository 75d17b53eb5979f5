-- The ways out of a call, each as one law over plain variables.
-- Assumes nothing.
use Prim.Native.Nat.{ℕ, ◌≤◌, ◌<◌}
use native.Mathlib.Omega.{arith}
use mathlib.Core.Path.{◌≡◌, refl}
use mathlib.Core.Bool.{true, false}
use lib.ListN.{drop}
use Rattle.model.specs.Lengths as Lengths
use Rattle.model.specs.Octets.{Octets, u16}
use Rattle.model.specs.State.{controller_at}
use Rattle.model.specs.declared.Hardware.{Hardware}
use Rattle.model.specs.Hub.{command, report, clock, plug, unplug, save, save_out, bad_packet, no_room, code_of, index_of, packet_ok, answer_of, octets_of}
use Rattle.model.specs.Hub.{state_of, clock_out, plug_out, unplug_out, unplugged}
use Rattle.model.specs.Layout.{decode}
use Rattle.model.specs.Meanings.{bad_state, hub_name, hub_on_air, reading, state_ok, laid_out, meaning}
use Rattle.model.proofs.Theorems.{no_name_longer, no_on_air_longer}
use Rattle.model.specs.Answers.{count_of}
use Rattle.replies.specs.Answers.{Gives}
use Rattle.model.specs.declared.Answer.{Answer}
use Rattle.model.specs.declared.Answer.TheVariants.{BadPacket, SmallBuffer, BadState}
use Rattle.outcomes.specs.Outcomes.{ended, any_command, reported, name_read, on_air_read}
use Rattle.outcomes.proofs.Endings.{ends_silent}
use Rattle.outcomes.proofs.Routes.{command_small, command_bad, command_whole, report_small, report_whole, clock_small, clock_whole, plug_small}
use Rattle.outcomes.proofs.Routes.{plug_whole, unplug_small, unplug_whole, save_small, save_whole}
use Rattle.outcomes.proofs.Routes.{name_small, name_whole, on_air_small, on_air_whole}

-- a reply buffer that is too short
small : (s d : Octets) → state_ok s ≡ true → Gives (ended s no_room) SmallBuffer d d s
unfolding octets_of state_of answer_of
small s d ok = ends_silent s d no_room SmallBuffer ok refl refl refl refl

-- 1. A command ----------------------------------------------------------------------------------------------------------------------------------

-- a reply buffer too short for a command is 4 (01, What a call answers)
pub command_no_room : (s p d : Octets) (room : ℕ) → state_ok s ≡ true → room < Lengths.reply_buffer → Gives (meaning s (command room p)) SmallBuffer d d s
command_no_room s p d room ok l = rw (command_small s room p ok l) (small s d ok)

-- a packet without a whole header, or with another length than its header says, is 3 (01, What a call answers)
pub command_no_packet : (s p d : Octets) (room : ℕ) → state_ok s ≡ true → Lengths.reply_buffer ≤ room → packet_ok p ≡ false
    → Gives (meaning s (command room p)) BadPacket d d s
unfolding octets_of state_of answer_of
command_no_packet s p d room ok l e = rw (command_bad s room p ok l e) (ends_silent s d bad_packet BadPacket ok refl refl refl refl)

-- else it comes to what the dispatch gives for its index, code and parameters
pub command_done : (s p d d' s' : Octets) (room index code : ℕ) (r : Answer) → state_ok s ≡ true → Lengths.reply_buffer ≤ room → packet_ok p ≡ true
    → code ≡ u16 p 0 → index ≡ u16 p 2
    → Gives (any_command s index code (drop 6 p)) r d d' s' → Gives (meaning s (command room p)) r d d' s'
unfolding code_of index_of
command_done s p d d' s' room index code r ok l e ec ei k = rw (command_whole s room p ok l e) (rw (ec, ei) at k)

-- 2. The other calls ----------------------------------------------------------------------------------------------------------------------------

-- a report with too short a reply buffer: 4
pub report_no_room : (s d : Octets) (room i status : ℕ) → state_ok s ≡ true → room < Lengths.reply_buffer
    → Gives (meaning s (report room i status)) SmallBuffer d d s
report_no_room s d room i status ok l = rw (report_small s room i status ok l) (small s d ok)

-- with room, it comes to what is done with the command under way at that index, if there is one
pub report_done : (s d d' s' : Octets) (room i status : ℕ) (r : Answer) → state_ok s ≡ true → Lengths.reply_buffer ≤ room → Gives (reported s i status) r d d' s'
    → Gives (meaning s (report room i status)) r d d' s'
report_done s d d' s' room i status r ok l k = rw (report_whole s room i status ok l) k

-- a clock reading with too short a reply buffer: 4
pub clock_no_room : (s d : Octets) (room reading : ℕ) → state_ok s ≡ true → room < Lengths.reply_buffer → Gives (meaning s (clock room reading)) SmallBuffer d d s
clock_no_room s d room reading ok l = rw (clock_small s room reading ok l) (small s d ok)

-- with room, it comes to the model's word on the reading, with the open commands as they were
pub clock_done : (s d d' s' : Octets) (room reading : ℕ) (r : Answer) → state_ok s ≡ true → Lengths.reply_buffer ≤ room
    → Gives (ended s (clock_out (decode s).plain reading)) r d d' s'
    → Gives (meaning s (clock room reading)) r d d' s'
clock_done s d d' s' room reading r ok l k = rw (clock_whole s room reading ok l) k

-- plug with too short a reply buffer: 4
pub plug_no_room : (s d : Octets) (room i : ℕ) (f : Hardware) → state_ok s ≡ true → room < Lengths.reply_buffer
    → Gives (meaning s (plug room i f)) SmallBuffer d d s
plug_no_room s d room i f ok l = rw (plug_small s room i f ok l) (small s d ok)

-- with room, it comes to the model's word on the hardware and what stands at the index, with the open commands as they were
pub plug_done : (s d d' s' : Octets) (room i : ℕ) (f : Hardware) (r : Answer) → state_ok s ≡ true → Lengths.reply_buffer ≤ room
    → Gives (ended s (plug_out (decode s).plain i f (controller_at (decode s).plain i))) r d d' s' → Gives (meaning s (plug room i f)) r d d' s'
plug_done s d d' s' room i f r ok l k = rw (plug_whole s room i f ok l) k

-- unplug with too short a reply buffer: 4
pub unplug_no_room : (s d : Octets) (room i : ℕ) → state_ok s ≡ true → room < Lengths.reply_buffer → Gives (meaning s (unplug room i)) SmallBuffer d d s
unplug_no_room s d room i ok l = rw (unplug_small s room i ok l) (small s d ok)

-- with room, it comes to the model's word on what stands at the index, behind the reply owed to a command under way there
pub unplug_done : (s d d' s' : Octets) (room i : ℕ) (r : Answer) → state_ok s ≡ true → Lengths.reply_buffer ≤ room
    → Gives (laid_out (unplugged (decode s) i (unplug_out (decode s).plain i (controller_at (decode s).plain i)))) r d d' s'
    → Gives (meaning s (unplug room i)) r d d' s'
unplug_done s d d' s' room i r ok l k = rw (unplug_whole s room i ok l) k

-- a reply buffer too short for the longest image is 4 (01, What a call answers)
pub save_no_room : (s d : Octets) (room : ℕ) → state_ok s ≡ true → room < Lengths.largest_image → Gives (meaning s (save room)) SmallBuffer d d s
save_no_room s d room ok l = rw (save_small s room ok l) (small s d ok)

-- with room, it comes to the model's word on the image of the hub, with the state as it was
pub save_done : (s d d' s' : Octets) (room : ℕ) (r : Answer) → state_ok s ≡ true → Lengths.largest_image ≤ room
    → Gives (ended s (save_out (decode s).plain)) r d d' s' → Gives (meaning s (save room)) r d d' s'
save_done s d d' s' room r ok l k = rw (save_whole s room ok l) k

-- 3. A name, which is no call --------------------------------------------------------------------------------------------------------------------

-- a state that is not well formed: 5
pub name_bad : (s d : Octets) (i which room : ℕ) → state_ok s ≡ false → Gives (hub_name s i which room) BadState d d s
unfolding bad_state hub_name reading
name_bad s d i which room e = rw (e, reading) (record { answer = refl; count = refl; reply = refl; state = refl })

-- too short a reply buffer: 4
pub name_no_room : (s d : Octets) (i which room : ℕ) → state_ok s ≡ true → room < Lengths.reply_buffer → Gives (hub_name s i which room) SmallBuffer d d s
name_no_room s d i which room ok l = rw (name_small s i which room ok l) (small s d ok)

-- with room, it comes to the model's word on what stands at the index
pub name_done : (s d d' s' : Octets) (i which room : ℕ) (r : Answer) → state_ok s ≡ true → Lengths.reply_buffer ≤ room
    → Gives (name_read s i which) r d d' s' → Gives (hub_name s i which room) r d d' s'
name_done s d d' s' i which room r ok l k = rw (name_whole s i which room ok l) k

-- the count of a name is far below that of an image
pub name_count : (s d d' s' : Octets) (i which room : ℕ) (r : Answer) → Gives (hub_name s i which room) r d d' s' → count_of r ≤ Lengths.largest_image
name_count s d d' s' i which room r g = rw g.count (omega (arith, no_name_longer s i which room))

-- 4. What is on air, which is no call -------------------------------------------------------------------------------------------------------------

-- a state that is not well formed: answer 5
pub on_air_bad : (s d : Octets) (i room : ℕ) → state_ok s ≡ false → Gives (hub_on_air s i room) BadState d d s
unfolding hub_on_air reading bad_state
on_air_bad s d i room e = rw (e, reading) (record { answer = refl; count = refl; reply = refl; state = refl })

-- too short a reply buffer: answer 4
pub on_air_no_room : (s d : Octets) (i room : ℕ) → state_ok s ≡ true → room < Lengths.reply_buffer → Gives (hub_on_air s i room) SmallBuffer d d s
on_air_no_room s d i room ok l = rw (on_air_small s i room ok l) (small s d ok)

-- with room, what stands at the index tells
pub on_air_done : (s d d' s' : Octets) (i room : ℕ) (r : Answer) → state_ok s ≡ true → Lengths.reply_buffer ≤ room
    → Gives (on_air_read s i) r d d' s' → Gives (hub_on_air s i room) r d d' s'
on_air_done s d d' s' i room r ok l k = rw (on_air_whole s i room ok l) k

-- its count is far below that of an image
pub on_air_count : (s d d' s' : Octets) (i room : ℕ) (r : Answer) → Gives (hub_on_air s i room) r d d' s' → count_of r ≤ Lengths.largest_image
on_air_count s d d' s' i room r g = rw g.count (omega (arith, no_on_air_longer s i room))
