-- Advertising by examples (02, E1): which instance is on air second by second, and what the commands, the clock and power are answered. One list, one claim.
use Rattle.std.specs.Prelude.{ℕ, zero, suc, ◌≡◌, refl, true, List, [], ◌∷◌, ◌++◌, take, drop}
use Rattle.std.proofs.Math.Option.{none, some}
use Rattle.model.specs.Statuses as Statuses
use Rattle.model.specs.Codes as Codes
use Rattle.model.specs.Octets.{open_octets, Octets, le16}
use Rattle.model.specs.Advertising.{open_advertising, Schedule, instances, second}
use Rattle.model.specs.State.{open_state, Hub, controller_at, flag, idle}
use Rattle.model.specs.Reasons.{open_reasons}
use Rattle.model.specs.Tables.{open_tables}
use Rattle.model.specs.Rules.{open_rules}
use Rattle.model.specs.Immediate.{open_immediate}
use Rattle.model.specs.Commands.{open_commands_lem}
use Rattle.model.specs.Image.{open_image, image}
use Rattle.model.specs.Reading.{open_reading, load}
use Rattle.model.specs.Hub.{open_hub, Call, Outcome, Result, answer_of, call, clock, octets_of, report, unplug}
use Rattle.model.specs.Stream.{open_stream, HostCall, direct, stream, stream_out}
use Rattle.model.specs.WellFormed.{open_wellformed}
use Rattle.model.specs.Layout.{open_layout}
use Rattle.model.specs.Meanings.{open_meanings, hub_on_air, on_air_out}
use Rattle.model.specs.Demand3.{open_demand3, after}
use Rattle.model.specs.Fairness.{open_fairness, longest, moments, off_air, others, seconds_passed, steady, sum_of}
use Rattle.model.proofs.Examples.{Example, all_given, answered, dual_hardware, gives, hub_after, plug_dual, power_on, to}
use Rattle.model.proofs.EasyErrors.{leaves, refused_with, send}

-- the instance on air now, and after each of n seconds
unfoldable pub airing : ℕ → Schedule → List ℕ
airing zero s = s.on_air ∷ []
airing (suc n) s = s.on_air ∷ airing n (second s)

-- instance 1 with duration 2 and timeout 5 begins its turn; instance 2 has duration 3 and no timeout
unfoldable pub two_instances : Schedule
two_instances = record { durations = 2 ∷ 3 ∷ 0 ∷ 0 ∷ 0 ∷ []; timeouts = 5 ∷ 0 ∷ 0 ∷ 0 ∷ 0 ∷ []; on_air = 1; left = 2 }

-- Add Advertising with two octets of data each way
unfoldable pub add : (k duration timeout : ℕ) → Call
add k d t = send Codes.add_advertising 0 (k ∷ 0 ∷ 0 ∷ 0 ∷ 0 ∷ (le16 d ++ (le16 t ++ (2 ∷ 2 ∷ 7 ∷ 8 ∷ 9 ∷ 10 ∷ []))))

-- Remove Advertising
unfoldable pub remove : ℕ → Call
remove k = send Codes.remove_advertising 0 (k ∷ [])

-- Command Complete with the instance, answer 0
unfoldable pub done_with : (code k : ℕ) → List ℕ
done_with code k = 0 ∷ 1 ∷ 0 ∷ 0 ∷ 0 ∷ 4 ∷ 0 ∷ (le16 code ++ (0 ∷ k ∷ []))

-- Advertising Added
unfoldable pub added_event : ℕ → List ℕ
added_event k = 0x23 ∷ 0 ∷ 0 ∷ 0 ∷ 1 ∷ 0 ∷ k ∷ []

-- Advertising Removed
unfoldable pub removed_event : ℕ → List ℕ
removed_event k = 0x24 ∷ 0 ∷ 0 ∷ 0 ∷ 1 ∷ 0 ∷ k ∷ []

-- index 0 powered; instance 1 with duration 2 and timeout 5, instance 3 with duration 0, which means 2
unfoldable pub rotating : List Call
rotating = plug_dual ∷ power_on ∷ report 1024 0 0 ∷ add 1 2 5 ∷ add 3 0 0 ∷ []

-- index 0 with instances 4 and 2, added in that order while power is off; Set Powered on is under way
unfoldable pub powering_on : List Call
powering_on = plug_dual ∷ add 4 3 0 ∷ add 2 5 0 ∷ power_on ∷ []

-- index 0 powered, connectable and discoverable for 10 seconds; instance 1 with a timeout of 3
unfoldable pub both_ending : List Call
both_ending =
    plug_dual
    ∷ send Codes.set_connectable 0 (1 ∷ [])
    ∷ power_on
    ∷ report 1024 0 0
    ∷ send Codes.set_discoverable 0 (1 ∷ 10 ∷ 0 ∷ [])
    ∷ report 1024 0 0
    ∷ add 1 2 3
    ∷ []

-- the answer and the octets that the driver is told at index 0 of a lent state
unfoldable pub told_of : Octets → List ℕ
told_of s = let r : Result Octets = hub_on_air s 0 1024 in r.answer ∷ r.octets

-- the same of the hub that the state means
unfoldable pub told : Hub → List ℕ
told h = let o : Outcome = on_air_out h.plain (controller_at h.plain 0) in answer_of o ∷ octets_of o

-- it is told instance k with its data
unfoldable pub airs : ℕ → List ℕ
airs k = 0 ∷ k ∷ 2 ∷ 2 ∷ 7 ∷ 8 ∷ 9 ∷ 10 ∷ []

-- the hub with instances, saved and loaded, where the image was taken, and then given these calls
unfoldable pub loaded_back : List Call → Hub
loaded_back calls = elim (load (image (hub_after rotating).plain)) [ none ↦ hub_after rotating | some p ↦ after call (idle p) calls ]

-- Add Advertising of instance 2 with duration 4, no timeout and no data, as it comes off the serial line
unfoldable pub add_second : Octets
add_second = le16 Codes.add_advertising ++ (0 ∷ 0 ∷ 11 ∷ 0 ∷ 2 ∷ 0 ∷ 0 ∷ 0 ∷ 0 ∷ 4 ∷ 0 ∷ 0 ∷ 0 ∷ 0 ∷ 0 ∷ [])

-- it comes in two lumps with a second between them, and then the clock shows n seconds
unfoldable pub in_two_lumps : ℕ → List HostCall
in_two_lumps n = stream 1024 (take 9 add_second) ∷ direct (clock 1024 1) ∷ stream 1024 (drop 9 add_second) ∷ direct (clock 1024 n) ∷ []

-- of a list of calls and lumps behind `rotating`, for instance 3: what fairness asks (1 for yes), the seconds passed, and the sum over the other instances
unfoldable pub fair : List HostCall → List ℕ
fair calls =
    let h : Hub = hub_after rotating in
    let ms : List Schedule = moments (λ h. h) call stream_out 0 h calls in
    flag (steady (λ h. h) call stream_out 0 3 h calls) 1
    ∷ flag (off_air 3 ms) 1
    ∷ seconds_passed (λ h. h) call stream_out h calls
    ∷ sum_of (longest ms) (others 3 instances)
    ∷ []

-- the examples
unfoldable pub rotations : List Example
rotations =
    -- 02's own example: a timeout of 5 in turns of 2 seconds; then the other instance is alone, and begins anew
    gives (airing 16 two_instances) (1 ∷ 1 ∷ 2 ∷ 2 ∷ 2 ∷ 1 ∷ 1 ∷ 2 ∷ 2 ∷ 2 ∷ 1 ∷ 2 ∷ 2 ∷ 2 ∷ 2 ∷ 2 ∷ 2 ∷ [])
    -- Advertising Added for an instance that was not there; one that is changed writes none
    ∷ gives (answered (plug_dual ∷ []) (add 2 9 0)) (done_with Codes.add_advertising 2 ++ added_event 2)
    ∷ gives (answered (plug_dual ∷ add 2 9 0 ∷ []) (add 2 7 0)) (done_with Codes.add_advertising 2)
    -- instance 6 and a flag, Invalid Parameters; a timeout with power off and LE off, Rejected
    ∷ gives (answered rotating (add 6 1 0)) (refused_with Codes.add_advertising 0 Statuses.invalid_parameters)
    ∷ gives (answered rotating (send Codes.add_advertising 0 (1 ∷ 1 ∷ 0 ∷ 0 ∷ 0 ∷ 1 ∷ 0 ∷ 0 ∷ 0 ∷ 0 ∷ 0 ∷ [])))
    (refused_with Codes.add_advertising 0 Statuses.invalid_parameters)
    ∷ gives (answered (plug_dual ∷ []) (add 1 2 5)) (refused_with Codes.add_advertising 0 Statuses.rejected)
    ∷ gives (answered (plug_dual ∷ send Codes.set_low_energy 0 (0 ∷ []) ∷ []) (add 1 2 0)) (refused_with Codes.add_advertising 0 Statuses.rejected)
    -- a clock step of 8: instance 1 is on air for 2, 2 and the last 1 of its timeout, with instance 3 between, for 2 and 2: it goes after the ninth
    ∷ gives (answered rotating (clock 1024 8)) (0 ∷ [])
    ∷ gives (answered rotating (clock 1024 9)) (0 ∷ removed_event 1)
    -- instance 1 is changed while it is on air: its turn ends, and with a timeout of 1 it goes in the second behind the two of instance 3
    ∷ gives (answered (rotating ++ (add 1 2 1 ∷ [])) (clock 1024 2)) (0 ∷ [])
    ∷ gives (answered (rotating ++ (add 1 2 1 ∷ [])) (clock 1024 3)) (0 ∷ removed_event 1)
    -- fairness: instance 3 waits for one turn of instance 1, and not a second longer
    ∷ gives (fair (direct (clock 1024 1) ∷ [])) (1 ∷ 1 ∷ 1 ∷ 2 ∷ [])
    ∷ gives (fair (direct (clock 1024 2) ∷ [])) (1 ∷ 0 ∷ 2 ∷ 2 ∷ [])
    -- lumps too: instance 2 is added while instance 1 is on air, and instance 3 waits for the turns of both
    ∷ gives (fair (in_two_lumps 5)) (1 ∷ 1 ∷ 5 ∷ 6 ∷ [])
    ∷ gives (fair (in_two_lumps 6)) (1 ∷ 0 ∷ 6 ∷ 6 ∷ [])
    -- the driver is answered what to send
    ∷ gives (told_of (leaves rotating)) (airs 1)
    -- with power off none is on air; when it comes on, the lowest instance begins, though it was added last, and no event tells it
    ∷ gives (told (hub_after powering_on)) (0 ∷ [])
    ∷ gives (answered powering_on (report 1024 0 0))
    (0 ∷ 1 ∷ 0 ∷ 0 ∷ 0 ∷ 7 ∷ 0 ∷ 5 ∷ 0 ∷ 0 ∷ 0x81 ∷ 2 ∷ 0 ∷ 0 ∷ 6 ∷ 0 ∷ 0 ∷ 0 ∷ 4 ∷ 0 ∷ 0x81 ∷ 2 ∷ 0 ∷ 0 ∷ [])
    ∷ gives (told (hub_after (powering_on ++ (report 1024 0 0 ∷ [])))) (airs 2)
    -- a discoverable timer and a timeout end in one clock step: New Settings is told first, though the timeout ended first
    ∷ gives (answered both_ending (clock 1024 10)) (0 ∷ 6 ∷ 0 ∷ 0 ∷ 0 ∷ 4 ∷ 0 ∷ 0x83 ∷ 2 ∷ 0 ∷ 0 ∷ removed_event 1)
    -- two removals in one clock step are told ascending, though instance 3 went after 3 seconds and instance 1 after 6; then none is on air
    ∷ gives (answered (rotating ++ (add 3 2 1 ∷ [])) (clock 1024 3)) (0 ∷ removed_event 3)
    ∷ gives (answered (rotating ++ (add 3 2 1 ∷ [])) (clock 1024 6)) (0 ∷ (removed_event 1 ++ removed_event 3))
    ∷ gives (told (hub_after (rotating ++ (add 3 2 1 ∷ clock 1024 6 ∷ [])))) (0 ∷ [])
    -- the one on air is removed: the next comes on air
    ∷ gives (answered rotating (remove 1)) (done_with Codes.remove_advertising 1 ++ removed_event 1)
    ∷ gives (told (hub_after (rotating ++ (remove 1 ∷ [])))) (airs 3)
    -- an unplug writes Index Removed alone, no Advertising Removed
    ∷ gives (answered rotating (unplug 1024 0)) (0 ∷ 5 ∷ 0 ∷ 0 ∷ 0 ∷ 0 ∷ 0 ∷ [])
    -- the image has no instances: saved and loaded, none is on air, with power on again neither
    ∷ gives (told (loaded_back [])) (0 ∷ [])
    ∷ gives (told (loaded_back (power_on ∷ report 1024 0 0 ∷ []))) (0 ∷ [])
    -- Remove Advertising of all, with events in ascending order, of one, of one that is absent, and of all where there are none
    ∷ gives (answered rotating (remove 0)) (done_with Codes.remove_advertising 0 ++ (removed_event 1 ++ removed_event 3))
    ∷ gives (answered rotating (remove 3)) (done_with Codes.remove_advertising 3 ++ removed_event 3)
    ∷ gives (answered rotating (remove 2)) (refused_with Codes.remove_advertising 0 Statuses.invalid_parameters)
    ∷ gives (answered (plug_dual ∷ []) (remove 0)) (done_with Codes.remove_advertising 0)
    -- when the radio reports: instance 1, which has a timeout, goes with power, and both go with Low Energy; told behind New Settings
    ∷ gives (answered (rotating ++ (send Codes.set_powered 0 (0 ∷ []) ∷ [])) (report 1024 0 0))
    (0 ∷ 1 ∷ 0 ∷ 0 ∷ 0 ∷ 7 ∷ 0 ∷ 5 ∷ 0 ∷ 0 ∷ 0x80 ∷ 2 ∷ 0 ∷ 0 ∷ 6 ∷ 0 ∷ 0 ∷ 0 ∷ 4 ∷ 0 ∷ 0x80 ∷ 2 ∷ 0 ∷ 0 ∷ removed_event 1)
    ∷ gives (answered (rotating ++ (send Codes.set_low_energy 0 (0 ∷ []) ∷ [])) (report 1024 0 0))
    (0 ∷ 1 ∷ 0 ∷ 0 ∷ 0 ∷ 7 ∷ 0 ∷ 0x0D ∷ 0 ∷ 0 ∷ 0x81 ∷ 0 ∷ 0 ∷ 0 ∷ 6 ∷ 0 ∷ 0 ∷ 0 ∷ 4 ∷ 0 ∷ 0x81 ∷ 0 ∷ 0 ∷ 0 ∷ (removed_event 1 ++ removed_event 3))
    ∷ []

-- E1'S EXAMPLES HOLD
pub rotations_hold : all_given rotations ≡ true
unfolding open_octets open_advertising open_state open_reasons open_tables open_rules open_immediate open_commands_lem open_image open_reading open_hub open_stream
    open_wellformed open_layout open_meanings
    open_demand3 open_fairness to dual_hardware plug_dual power_on gives all_given send refused_with answered leaves airing two_instances add remove done_with
    added_event removed_event rotating powering_on both_ending told_of told hub_after airs loaded_back add_second in_two_lumps fair rotations
rotations_hold = refl
