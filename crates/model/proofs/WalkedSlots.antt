-- The look-up by examples (02, E4): the slot, and how many slots are walked, in tables that are empty, closed up, full, or have gaps. One list, one claim.
use Rattle.std.specs.Prelude.{ℕ, zero, suc, ◌/◌, ◌%◌, ◌≡◌, refl, true, List, [], ◌∷◌, ◌++◌, replicate}
use Rattle.model.specs.Codes as Codes
use Rattle.model.specs.Octets.{open_octets, Octets}
use Rattle.model.specs.Advertising.{open_advertising}
use Rattle.model.specs.State.{open_state, controller_at}
use Rattle.model.specs.Reasons.{open_reasons}
use Rattle.model.specs.Tables.{open_tables, blocked_devices, devices, identity_keys, link_keys, long_term_keys, uuids}
use Rattle.model.specs.LookUp.{open_lookup}
use Rattle.model.specs.Rules.{open_rules}
use Rattle.model.specs.Immediate.{open_immediate}
use Rattle.model.specs.Commands.{open_commands_lem}
use Rattle.model.specs.Image.{open_image}
use Rattle.model.specs.Hub.{open_hub, Call}
use Rattle.model.specs.Stream.{open_stream}
use Rattle.model.specs.WellFormed.{open_wellformed}
use Rattle.model.specs.Layout.{open_layout}
use Rattle.model.specs.Meanings.{open_meanings, LookUpReply, hub_look_up, look_up_out}
use Rattle.model.specs.Demand3.{open_demand3}
use Rattle.model.proofs.Examples.{Example, add_hint, all_given, dual_hardware, gives, hub_after, plug_dual, to}
use Rattle.model.proofs.EasyErrors.{leaves, send}

-- device n: an address, LE Public
unfoldable pub device : ℕ → Octets
device n = n ∷ 2 ∷ 3 ∷ 4 ∷ 5 ∷ 6 ∷ 1 ∷ []

-- Block Device
unfoldable pub block : ℕ → Call
block n = send Codes.block_device 0 (device n)

-- Unblock Device
unfoldable pub unblock : ℕ → Call
unblock n = send Codes.unblock_device 0 (device n)

-- devices n to 1 blocked, the first of them n
unfoldable pub block_down : ℕ → List Call
block_down zero = []
block_down (suc n) = block (suc n) ∷ block_down n

-- two long term keys of device 1, Master 0 and 1, behind one of device 2
unfoldable pub load_three : Call
load_three =
    send Codes.load_long_term_keys 0
    (3 ∷ 0 ∷ (device 2 ++ (0 ∷ 0 ∷ 16 ∷ replicate 26 0)) ++ (device 1 ++ (0 ∷ 0 ∷ 16 ∷ replicate 26 0)) ++ (device 1 ++ (0 ∷ 1 ∷ 16 ∷ replicate 26 0)))

-- what a look-up is answered, as numbers: the answer, the slot, the slots walked
unfoldable pub numbers_of : LookUpReply → List ℕ
numbers_of u = u.answer ∷ u.extra % 256 ∷ u.extra / 256 ∷ []

-- a key looked for in a table at index 0 of a hub of the model
unfoldable pub looked : List Call → ℕ → Octets → List ℕ
looked calls k key = numbers_of (look_up_out k key (controller_at (hub_after calls).plain 0))

-- device n looked for among the blocked devices after these calls
unfoldable pub looked_for : List Call → ℕ → List ℕ
looked_for calls n = looked (plug_dual ∷ calls) blocked_devices (device n)

-- the examples
unfoldable pub walks : List Example
walks =
    -- no slot is in use: none is walked
    gives (looked_for [] 1) (0 ∷ 32 ∷ 0 ∷ [])
    -- three devices closed up: the first, the last, and one that is not there
    ∷ gives (looked_for (block_down 3) 3) (0 ∷ 0 ∷ 1 ∷ [])
    ∷ gives (looked_for (block_down 3) 1) (0 ∷ 2 ∷ 3 ∷ [])
    ∷ gives (looked_for (block_down 3) 9) (0 ∷ 32 ∷ 3 ∷ [])
    -- the first two are gone: a walk goes over their slots, also for one that is gone or never was there
    ∷ gives (looked_for (block_down 3 ++ (unblock 3 ∷ unblock 2 ∷ [])) 1) (0 ∷ 2 ∷ 3 ∷ [])
    ∷ gives (looked_for (block_down 3 ++ (unblock 3 ∷ unblock 2 ∷ [])) 2) (0 ∷ 32 ∷ 3 ∷ [])
    ∷ gives (looked_for (block_down 3 ++ (unblock 3 ∷ unblock 2 ∷ [])) 9) (0 ∷ 32 ∷ 3 ∷ [])
    -- the last is gone: a walk ends before its slot
    ∷ gives (looked_for (block_down 3 ++ (unblock 1 ∷ [])) 9) (0 ∷ 32 ∷ 2 ∷ [])
    -- all are gone
    ∷ gives (looked_for (block_down 3 ++ (unblock 2 ∷ unblock 3 ∷ unblock 1 ∷ [])) 2) (0 ∷ 32 ∷ 0 ∷ [])
    -- a full table: its last slot is walked too; with a gap at its start as well
    ∷ gives (looked_for (block_down 32) 1) (0 ∷ 31 ∷ 32 ∷ [])
    ∷ gives (looked_for (block_down 32) 99) (0 ∷ 32 ∷ 32 ∷ [])
    ∷ gives (looked_for (block_down 32 ++ (unblock 32 ∷ [])) 1) (0 ∷ 31 ∷ 32 ∷ [])
    -- of two long term keys under one address and type the first is found
    ∷ gives (looked (plug_dual ∷ load_three ∷ []) long_term_keys (device 1)) (0 ∷ 1 ∷ 2 ∷ [])
    -- a UUID is looked for by its 16 octets
    ∷ gives (looked (plug_dual ∷ add_hint 1 0x20 ∷ add_hint 2 0x20 ∷ []) uuids (2 ∷ replicate 15 0)) (0 ∷ 1 ∷ 2 ∷ [])
    ∷ gives (looked (plug_dual ∷ add_hint 1 0x20 ∷ add_hint 2 0x20 ∷ []) uuids (3 ∷ replicate 15 0)) (0 ∷ 32 ∷ 2 ∷ [])
    -- a device that is blocked is in no other table
    ∷ gives (looked (plug_dual ∷ block 1 ∷ []) devices (device 1)) (0 ∷ 32 ∷ 0 ∷ [])
    -- no controller; a table above 5; keys of another length than their table's
    ∷ gives (looked [] blocked_devices (device 1)) (6 ∷ 0 ∷ 0 ∷ [])
    ∷ gives (looked (plug_dual ∷ []) 6 (device 1)) (6 ∷ 0 ∷ 0 ∷ [])
    ∷ gives (looked (plug_dual ∷ []) uuids (device 1)) (6 ∷ 0 ∷ 0 ∷ [])
    ∷ gives (looked (plug_dual ∷ []) link_keys (device 1 ++ (0 ∷ []))) (6 ∷ 0 ∷ 0 ∷ [])
    ∷ gives (looked (plug_dual ∷ []) identity_keys (replicate 16 0)) (6 ∷ 0 ∷ 0 ∷ [])
    -- over the octets, once: a state that is not well formed, and one that is
    ∷ gives (numbers_of (hub_look_up [] 0 blocked_devices (device 1))) (5 ∷ 0 ∷ 0 ∷ [])
    ∷ gives (numbers_of (hub_look_up (leaves (plug_dual ∷ block 2 ∷ block 1 ∷ [])) 0 blocked_devices (device 1))) (0 ∷ 1 ∷ 2 ∷ [])
    ∷ []

-- E4'S EXAMPLES HOLD
pub walks_hold : all_given walks ≡ true
unfolding open_octets open_advertising open_state open_reasons open_tables open_lookup open_rules open_immediate open_commands_lem open_image open_hub
    open_stream open_wellformed open_layout open_meanings open_demand3 to dual_hardware plug_dual gives all_given send hub_after add_hint leaves device block unblock block_down
    load_three numbers_of looked looked_for walks
walks_hold = refl
