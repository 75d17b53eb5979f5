-- The lazy programs that 01 names (01, How strict the statements are): none of them is the model. Each differs from it in what a short list of calls is told.
use Rattle.std.specs.Prelude.{ℕ, ◌≡◌, refl, Bool, true, false, List, [], ◌∷◌, ◌++◌}
use Rattle.model.specs.Octets.{open_octets, same, le32, command_status, command_complete}
use Rattle.model.specs.Advertising.{open_advertising}
use Rattle.model.specs.State.{open_state, Hub, fresh, idle}
use Rattle.model.specs.Reasons.{open_reasons}
use Rattle.model.specs.Tables.{open_tables}
use Rattle.model.specs.Rules.{open_rules}
use Rattle.model.specs.Immediate.{open_immediate}
use Rattle.model.specs.Commands.{open_commands_lem}
use Rattle.model.specs.Image.{open_image}
use Rattle.model.specs.Hub.{open_hub, Call, command, report, clock, plug, unplug, save, Result, call, index_of, code_of}
use Rattle.model.specs.Demand3.{open_demand3, Entry, entry, trace}
use Rattle.model.proofs.Examples.{to, dual_hardware, plug_dual, read_version_packet}

-- what a list of calls is told: each answer and the octets written
unfoldable pub transcript : List Entry → List ℕ
transcript [] = []
transcript (entry c a o ∷ es) = a ∷ (o ++ transcript es)

-- Set Bondable on
unfoldable pub bondable_on : Call
bondable_on = to (0x09 ∷ 0 ∷ 0 ∷ 0 ∷ 1 ∷ 0 ∷ 1 ∷ [])

-- Set Bondable off
unfoldable pub bondable_off : Call
bondable_off = to (0x09 ∷ 0 ∷ 0 ∷ 0 ∷ 1 ∷ 0 ∷ 0 ∷ [])

-- the first refuses all: commands are Busy, other calls 6
unfoldable pub always_busy : Hub → Call → Result Hub
always_busy h (command room packet) = record { answer = 2; octets = command_status (index_of packet) (code_of packet) 0x0A; state = h }
always_busy h (report room i s) = record { answer = 6; octets = []; state = h }
always_busy h (clock room reading) = record { answer = 6; octets = []; state = h }
always_busy h (plug room i f) = record { answer = 6; octets = []; state = h }
always_busy h (unplug room i) = record { answer = 6; octets = []; state = h }
always_busy h (save room) = record { answer = 6; octets = []; state = h }

-- the second tells every command of a success and of settings that never change, here those of a dual-mode controller as it is plugged
unfoldable pub same_settings : Hub → Call → Result Hub
same_settings h (command room packet) = record { answer = 0; octets = command_complete (index_of packet) (code_of packet) 0 (le32 0x0280); state = h }
same_settings h (report room i s) = call h (report room i s)
same_settings h (clock room reading) = call h (clock room reading)
same_settings h (plug room i f) = call h (plug room i f)
same_settings h (unplug room i) = call h (unplug room i)
same_settings h (save room) = call h (save room)

-- the third keeps nothing: commands are answered as they should be, and forgotten
unfoldable pub stores_nothing : Hub → Call → Result Hub
stores_nothing h (command room packet) = record { answer = (call h (command room packet)).answer; octets = (call h (command room packet)).octets; state = h }
stores_nothing h (report room i s) = call h (report room i s)
stores_nothing h (clock room reading) = call h (clock room reading)
stores_nothing h (plug room i f) = call h (plug room i f)
stores_nothing h (unplug room i) = call h (unplug room i)
stores_nothing h (save room) = call h (save room)

-- the fourth carries out one command, and those that come later are only answered: it remembers whether it has acted
pub record Once : Type 0 where
  pub acted : Bool
  pub hub : Hub

-- a result, with what it remembers
unfoldable pub with_hub : Bool → Result Hub → Result Once
with_hub b r = record { answer = r.answer; octets = r.octets; state = record { acted = b; hub = r.state } }

-- by whether it has acted
unfoldable pub acts_once_by : Bool → Hub → Call → Result Once
acts_once_by true h (command room packet) = with_hub true (stores_nothing h (command room packet))
acts_once_by false h (command room packet) = with_hub true (call h (command room packet))
acts_once_by b h (report room i s) = with_hub b (call h (report room i s))
acts_once_by b h (clock room reading) = with_hub b (call h (clock room reading))
acts_once_by b h (plug room i f) = with_hub b (call h (plug room i f))
acts_once_by b h (unplug room i) = with_hub b (call h (unplug room i))
acts_once_by b h (save room) = with_hub b (call h (save room))

-- the program itself
unfoldable pub acts_once : Once → Call → Result Once
acts_once s c = acts_once_by s.acted s.hub c

-- NONE IS THE MODEL: for each a list of calls, from the fresh state, that is told something else ---------------------------------------------------

-- the first: even Read Management Version is Busy
pub always_busy_differs : same (transcript (trace always_busy (idle fresh) (to read_version_packet ∷ [])))
    (transcript (trace call (idle fresh) (to read_version_packet ∷ []))) ≡ false
unfolding open_octets open_advertising open_state open_reasons open_tables open_rules open_immediate open_commands_lem open_image open_hub open_demand3 to
    read_version_packet transcript always_busy
always_busy_differs = refl

-- the second: bondable turned on does not show in the settings
pub same_settings_differs : same (transcript (trace same_settings (idle fresh) (plug_dual ∷ bondable_on ∷ [])))
    (transcript (trace call (idle fresh) (plug_dual ∷ bondable_on ∷ []))) ≡ false
unfolding open_octets open_advertising open_state open_reasons open_tables open_rules open_immediate open_commands_lem open_image open_hub open_demand3 to
    dual_hardware
    plug_dual bondable_on transcript same_settings
same_settings_differs = refl

-- the third: bondable turned on is not in the image
pub stores_nothing_differs : same (transcript (trace stores_nothing (idle fresh) (plug_dual ∷ bondable_on ∷ save 16014 ∷ [])))
    (transcript (trace call (idle fresh) (plug_dual ∷ bondable_on ∷ save 16014 ∷ []))) ≡ false
unfolding open_octets open_advertising open_state open_reasons open_tables open_rules open_immediate open_commands_lem open_image open_hub open_demand3 to
    dual_hardware
    plug_dual bondable_on transcript stores_nothing
stores_nothing_differs = refl

-- the fourth: bondable turned on and off again is still on in the image
pub acts_once_differs : same (transcript (trace acts_once (record { acted = false; hub = idle fresh }) (plug_dual ∷ bondable_on ∷ bondable_off ∷ save 16014 ∷ [])))
    (transcript (trace call (idle fresh) (plug_dual ∷ bondable_on ∷ bondable_off ∷ save 16014 ∷ []))) ≡ false
unfolding open_octets open_advertising open_state open_reasons open_tables open_rules open_immediate open_commands_lem open_image open_hub open_demand3 to
    dual_hardware
    plug_dual bondable_on
    bondable_off transcript stores_nothing with_hub acts_once_by acts_once
acts_once_differs = refl
