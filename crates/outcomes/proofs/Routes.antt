-- The way from a call to the part that serves it: each test that the code makes, as one step of the model's meaning.
use Prim.Native.Nat.{ℕ, ◌≤◌, ◌<◌}
use mathlib.Core.Path.{◌≡◌, ap, ◌∙◌}
use mathlib.Core.Bool.{true, false}
use mathlib.Core.Option.{none, some}
use borrow.Author.Tests.{lt-ltb, le-ltb}
use Rattle.model.specs.Lengths as Lengths
use Rattle.model.specs.Octets.{Octets}
use Rattle.model.specs.State.{PlainHub, controller_at}
use Rattle.model.specs.declared.Hardware.{Hardware}
use Rattle.model.specs.declared.Reason.TheVariants.{CodeUnknown, ControllerAbsent}
use Rattle.model.specs.Rules.{ImmediateRule, RadioRule, immediate, radio}
use Rattle.model.specs.Rules.{general as general_rule}
use Rattle.model.specs.Commands.{rule}
use Rattle.model.specs.Hub.{Call, command, report, clock, plug, unplug, save, save_out, Outcome, refused, bad_packet, no_room, anyway, call}
use Rattle.model.specs.Hub.{call_plain, command_out, under_way, index_of, code_of, params_of, packet_ok, verdict, by_rule, by_status, immediate_at, radio_at}
use Rattle.model.specs.Hub.{within, clock_out, plug_out, unplug_out, unplugged}
use Rattle.model.specs.Layout.{decode}
use Rattle.model.specs.Meanings.{state_ok, laid_out, meaning, reading, hub_name, hub_on_air}
use Rattle.layout.specs.Places.{Ready, open_at, present_at}
use Rattle.layout.proofs.Reading.{present_controller, absent_controller}
use Rattle.outcomes.specs.Outcomes.{ended, general_command, immediate_command, radio_command, any_command, reported, name_read, on_air_read}

-- 1. Answer 5 -----------------------------------------------------------------------------------------------------------------------------------

-- a call on a well-formed state means what the model says of it
pub meaning_well : (s : Octets) (c : Call) → state_ok s ≡ true → meaning s c ≡ laid_out (call (decode s) c)
unfolding meaning
meaning_well s c e = rw (e, meaning)

-- 2. Commands ---------------------------------------------------------------------------------------------------------------------------------

-- a reply buffer under 1,024 octets is told before the packet is looked at
verdict_small : (p : PlainHub) (room : ℕ) (packet : Octets) → room < Lengths.reply_buffer → verdict p room packet ≡ anyway no_room
unfolding verdict
verdict_small p room packet l = rw (lt-ltb room Lengths.reply_buffer l, verdict)

-- then a packet under six octets, or with a wrong length field
verdict_bad : (p : PlainHub) (room : ℕ) (packet : Octets) → Lengths.reply_buffer ≤ room → packet_ok packet ≡ false → verdict p room packet ≡ anyway bad_packet
unfolding verdict
verdict_bad p room packet l e = rw (le-ltb room Lengths.reply_buffer l, verdict, e)

-- else the rule of its code gives the verdict
verdict_good : (p : PlainHub) (room : ℕ) (packet : Octets) → Lengths.reply_buffer ≤ room → packet_ok packet ≡ true
    → verdict p room packet ≡ by_rule p (index_of packet) (code_of packet) (params_of packet) (rule (code_of packet))
unfolding verdict
verdict_good p room packet l e = rw (le-ltb room Lengths.reply_buffer l, verdict, e)

-- a reply buffer that is too short, a packet that is not whole, and the way on
pub command_small : (s : Octets) (room : ℕ) (packet : Octets) → state_ok s ≡ true → room < Lengths.reply_buffer → meaning s
    (command room packet) ≡ ended s no_room
unfolding call command_out ended
command_small s room packet ok l = rw (meaning_well s (command room packet) ok, verdict_small (decode s).plain room packet l)

-- with room for a reply, a packet that is not whole ends the call: answer 3
pub command_bad : (s : Octets) (room : ℕ) (packet : Octets) → state_ok s ≡ true → Lengths.reply_buffer ≤ room → packet_ok packet ≡ false
    → meaning s (command room packet) ≡ ended s bad_packet
unfolding call command_out ended
command_bad s room packet ok l e = rw (meaning_well s (command room packet) ok, verdict_bad (decode s).plain room packet l e)

-- a whole packet goes on by its index, code and parameters
pub command_whole : (s : Octets) (room : ℕ) (packet : Octets) → state_ok s ≡ true → Lengths.reply_buffer ≤ room → packet_ok packet ≡ true
    → meaning s (command room packet) ≡ any_command s (index_of packet) (code_of packet) (params_of packet)
unfolding call any_command open_at under_way
command_whole s room packet ok l e =
    rw (meaning_well s (command room packet) ok, verdict_good (decode s).plain room packet l e)

-- by the rule of the code
pub route_unknown : (s : Octets) (i code : ℕ) (ps : Octets) → rule code ≡ none → any_command s i code ps ≡ ended s (refused (by_status i code) CodeUnknown)
unfolding any_command by_rule command_out ended
route_unknown s i code ps e = rw e

-- a general command asks for no controller
pub route_general : (s : Octets) (i code : ℕ) (ps : Octets) (f : PlainHub → Octets) → rule code ≡ some (general_rule f)
    → any_command s i code ps ≡ general_command s i code ps f
unfolding any_command by_rule command_out ended general_command
route_general s i code ps f e = rw e

module _ (s : Octets) (i code : ℕ) (ps : Octets) (q : ImmediateRule) (known : rule code ≡ some (immediate q)) where
  -- a command that is never Busy is served by the controller at a present index
  pub route_immediate : Ready s i → any_command s i code ps ≡ immediate_command s i code ps q
  unfolding any_command by_rule command_out immediate_command ended
  route_immediate g = rw (known, present_controller s i g)

  -- to an absent index it is Invalid Index
  pub route_immediate_absent : present_at s i ≡ false → any_command s i code ps ≡ ended s (refused (by_status i code) ControllerAbsent)
  unfolding any_command by_rule command_out immediate_at ended
  route_immediate_absent e = rw (known, absent_controller s i e)

module _ (s : Octets) (i code : ℕ) (ps : Octets) (r : RadioRule) (known : rule code ≡ some (radio r)) where
  -- a settings command that can be Busy contends with what is under way at a present index
  pub route_radio : Ready s i → any_command s i code ps ≡ radio_command s i code ps r
  unfolding any_command by_rule radio_command
  route_radio g = rw (known, present_controller s i g)

  -- to an absent index it too is Invalid Index
  pub route_radio_absent : present_at s i ≡ false → any_command s i code ps ≡ ended s (refused (by_status i code) ControllerAbsent)
  unfolding any_command by_rule command_out radio_at ended
  route_radio_absent e = rw (known, absent_controller s i e)

-- 3. The other calls --------------------------------------------------------------------------------------------------------------------------

-- a reply buffer shorter than the call needs: answer 4
within_small : (need room : ℕ) (o : Outcome) → room < need → within need room o ≡ no_room
unfolding within
within_small need room o l = rw (lt-ltb room need l, within)

-- one that is long enough takes nothing from the outcome
within_enough : (need room : ℕ) (o : Outcome) → need ≤ room → within need room o ≡ o
unfolding within
within_enough need room o l = rw (le-ltb room need l, within)

-- a report with a reply buffer under 1,024 octets: answer 4, and the state as it was
pub report_small : (s : Octets) (room i status : ℕ) → state_ok s ≡ true → room < Lengths.reply_buffer → meaning s (report room i status) ≡ ended s no_room
unfolding call ended
report_small s room i status ok l = rw (meaning_well s (report room i status) ok, lt-ltb room Lengths.reply_buffer l, call)

-- with room, a report meets what is under way at its index
pub report_whole : (s : Octets) (room i status : ℕ) → state_ok s ≡ true → Lengths.reply_buffer ≤ room → meaning s (report room i status) ≡ reported s i status
unfolding call reported open_at under_way
report_whole s room i status ok l = rw (meaning_well s (report room i status) ok, le-ltb room Lengths.reply_buffer l, call)

-- the same lack of room, of clock
pub clock_small : (s : Octets) (room reading : ℕ) → state_ok s ≡ true → room < Lengths.reply_buffer → meaning s (clock room reading) ≡ ended s no_room
unfolding call call_plain ended
clock_small s room reading ok l = rw (meaning_well s (clock room reading) ok, within_small Lengths.reply_buffer room (clock_out (decode s).plain reading) l)

-- with room, clock does what the at-once hub does, and leaves what is under way
pub clock_whole : (s : Octets) (room reading : ℕ) → state_ok s ≡ true → Lengths.reply_buffer ≤ room
    → meaning s (clock room reading) ≡ ended s (clock_out (decode s).plain reading)
unfolding call call_plain ended
clock_whole s room reading ok l = rw (meaning_well s (clock room reading) ok, within_enough Lengths.reply_buffer room (clock_out (decode s).plain reading) l)

-- the same lack of room, of plug
pub plug_small : (s : Octets) (room i : ℕ) (f : Hardware) → state_ok s ≡ true → room < Lengths.reply_buffer → meaning s (plug room i f) ≡ ended s no_room
unfolding call call_plain ended
plug_small s room i f ok l =
    rw (meaning_well s (plug room i f) ok, within_small Lengths.reply_buffer room (plug_out (decode s).plain i f (controller_at (decode s).plain i)) l)

-- with room, plug does what the at-once hub does, by what stands at the index
pub plug_whole : (s : Octets) (room i : ℕ) (f : Hardware) → state_ok s ≡ true → Lengths.reply_buffer ≤ room
    → meaning s (plug room i f) ≡ ended s (plug_out (decode s).plain i f (controller_at (decode s).plain i))
unfolding call call_plain ended
plug_whole s room i f ok l =
    rw (meaning_well s (plug room i f) ok, within_enough Lengths.reply_buffer room (plug_out (decode s).plain i f (controller_at (decode s).plain i)) l)

-- the same lack of room, of unplug
pub unplug_small : (s : Octets) (room i : ℕ) → state_ok s ≡ true → room < Lengths.reply_buffer → meaning s (unplug room i) ≡ ended s no_room
unfolding call call_plain ended unplugged
unplug_small s room i ok l =
    rw (meaning_well s (unplug room i) ok, within_small Lengths.reply_buffer room (unplug_out (decode s).plain i (controller_at (decode s).plain i)) l)

-- with room, unplug also writes the reply that a command under way is owed
pub unplug_whole : (s : Octets) (room i : ℕ) → state_ok s ≡ true → Lengths.reply_buffer ≤ room
    → meaning s (unplug room i) ≡ laid_out (unplugged (decode s) i (unplug_out (decode s).plain i (controller_at (decode s).plain i)))
unfolding call call_plain
unplug_whole s room i ok l =
    rw (meaning_well s (unplug room i) ok, within_enough Lengths.reply_buffer room (unplug_out (decode s).plain i (controller_at (decode s).plain i)) l)

-- save needs a reply buffer of 16,014 octets: with less, answer 4
pub save_small : (s : Octets) (room : ℕ) → state_ok s ≡ true → room < Lengths.largest_image → meaning s (save room) ≡ ended s no_room
unfolding call call_plain ended
save_small s room ok l = rw (meaning_well s (save room) ok, within_small Lengths.largest_image room (save_out (decode s).plain) l)

-- with room, save writes the image, if there is one, and changes nothing
pub save_whole : (s : Octets) (room : ℕ) → state_ok s ≡ true → Lengths.largest_image ≤ room
    → meaning s (save room) ≡ ended s (save_out (decode s).plain)
unfolding call call_plain ended
save_whole s room ok l = rw (meaning_well s (save room) ok, within_enough Lengths.largest_image room (save_out (decode s).plain) l)

-- what a host reads is told in the same order: of a well-formed state the room is looked at, then what was asked
reading_well : (s : Octets) (room : ℕ) (o : Outcome) → state_ok s ≡ true → reading s room o ≡ ended s (within Lengths.reply_buffer room o)
unfolding reading ended laid_out
reading_well s room o ok = rw (ok, reading)

-- too short a reply buffer: answer 4
reading_small : (s : Octets) (room : ℕ) (o : Outcome) → state_ok s ≡ true → room < Lengths.reply_buffer → reading s room o ≡ ended s no_room
reading_small s room o ok l = reading_well s room o ok ∙ ap (ended s) (within_small Lengths.reply_buffer room o l)

-- with room, what it comes to
reading_whole : (s : Octets) (room : ℕ) (o : Outcome) → state_ok s ≡ true → Lengths.reply_buffer ≤ room → reading s room o ≡ ended s o
reading_whole s room o ok l = reading_well s room o ok ∙ ap (ended s) (within_enough Lengths.reply_buffer room o l)

-- a name, with too short a reply buffer
pub name_small : (s : Octets) (i which room : ℕ) → state_ok s ≡ true → room < Lengths.reply_buffer → hub_name s i which room ≡ ended s no_room
unfolding hub_name
name_small s i which room ok l = reading_small s room _ ok l

-- with room, what stands at the index tells
pub name_whole : (s : Octets) (i which room : ℕ) → state_ok s ≡ true → Lengths.reply_buffer ≤ room → hub_name s i which room ≡ name_read s i which
unfolding hub_name name_read
name_whole s i which room ok l = reading_whole s room _ ok l

-- what is on air, with too short a reply buffer
pub on_air_small : (s : Octets) (i room : ℕ) → state_ok s ≡ true → room < Lengths.reply_buffer → hub_on_air s i room ≡ ended s no_room
unfolding hub_on_air
on_air_small s i room ok l = reading_small s room _ ok l

-- with room, what stands at the index tells
pub on_air_whole : (s : Octets) (i room : ℕ) → state_ok s ≡ true → Lengths.reply_buffer ≤ room → hub_on_air s i room ≡ on_air_read s i
unfolding hub_on_air on_air_read
on_air_whole s i room ok l = reading_whole s room _ ok l
