-- The errors that 01 warns of (01, Easy errors to shut out): what a short list of calls is answered, and the state it leaves, where one of them would show.
-- One list, one claim. The first of them, a length summed in sixteen bits, is shut out by a starred example, Load Link Keys with 17 octets (Examples.antt).
use Rattle.std.specs.Prelude.{ℕ, ◌+◌, ◌≡◌, refl, true, List, [], ◌∷◌, ◌++◌, length, replicate}
use Rattle.model.specs.Codes as Codes
use Rattle.model.specs.Octets.{open_octets, Octets, le16}
use Rattle.model.specs.Advertising.{open_advertising}
use Rattle.model.specs.State.{open_state}
use Rattle.model.specs.Reasons.{open_reasons}
use Rattle.model.specs.Tables.{open_tables}
use Rattle.model.specs.Rules.{open_rules}
use Rattle.model.specs.Immediate.{open_immediate}
use Rattle.model.specs.Commands.{open_commands_lem}
use Rattle.model.specs.Image.{open_image}
use Rattle.model.specs.Hub.{open_hub, Call, report, clock, plug}
use Rattle.model.specs.Layout.{open_layout, encode}
use Rattle.model.specs.Demand3.{open_demand3}
use Rattle.model.proofs.Examples.{Example, add_hint, all_given, answered, dual_hardware, gives, hub_after, plug_dual, power_on, remove_hint, to}

-- a command with these parameters
unfoldable pub send : (code index : ℕ) → Octets → Call
send code i ps = to (le16 code ++ (le16 i ++ (le16 (length ps) ++ ps)))

-- Command Status, answer 2
unfoldable pub refused_with : (code index status : ℕ) → List ℕ
refused_with code i status = 2 ∷ 2 ∷ 0 ∷ (le16 i ++ (3 ∷ 0 ∷ (le16 code ++ (status ∷ []))))

-- the octets of the state after these calls
unfoldable pub leaves : List Call → Octets
leaves calls = encode (hub_after calls)

-- the sum of octets
unfoldable pub total : Octets → ℕ
total [] = 0
total (x ∷ o) = x + total o

-- two link keys, the last with key type 9
unfoldable pub last_key_wrong : Call
last_key_wrong = send Codes.load_link_keys 0 (0 ∷ 2 ∷ 0 ∷ ((1 ∷ replicate 24 0) ++ (2 ∷ 0 ∷ 0 ∷ 0 ∷ 0 ∷ 0 ∷ 0 ∷ 9 ∷ replicate 17 0)))

-- index 0 powered, connectable and discoverable for 10 seconds at clock 0; then 4 seconds, and Set Low Energy under way
unfoldable pub discoverable_for10 : List Call
discoverable_for10 =
    plug_dual
    ∷ send Codes.set_connectable 0 (1 ∷ [])
    ∷ power_on
    ∷ report 1024 0 0
    ∷ send Codes.set_discoverable 0 (1 ∷ 10 ∷ 0 ∷ [])
    ∷ report 1024 0 0
    ∷ clock 1024 4
    ∷ send Codes.set_low_energy 0 (1 ∷ [])
    ∷ []

-- Set Discoverable for 100 seconds
unfoldable pub discoverable_for100 : Call
discoverable_for100 = send Codes.set_discoverable 0 (1 ∷ 100 ∷ 0 ∷ [])

-- the examples, in the paper's order
unfoldable pub easy_errors : List Example
easy_errors =
    -- a list stored while some of its records are still unchecked: it is refused for its last record, and the state is as it was
    gives (answered (plug_dual ∷ []) last_key_wrong) (refused_with Codes.load_link_keys 0 0x0D)
    ∷ gives (leaves (plug_dual ∷ last_key_wrong ∷ [])) (leaves (plug_dual ∷ []))
    -- a hint that two UUIDs have, gone from the class with one of them: of 0x24 and 0x04 the first is left whole, and the class has not changed
    ∷ gives (answered (plug_dual ∷ add_hint 1 0x24 ∷ add_hint 2 0x04 ∷ []) (remove_hint 2)) (0 ∷ 1 ∷ 0 ∷ 0 ∷ 0 ∷ 6 ∷ 0 ∷ 0x11 ∷ 0 ∷ 0 ∷ 0 ∷ 0 ∷ 0x24 ∷ [])
    -- Busy by what is under way at another index: index 0 is Busy, index 1 is not
    ∷ gives (answered (plug_dual ∷ plug 1024 1 dual_hardware ∷ power_on ∷ []) power_on) (refused_with Codes.set_powered 0 0x0A)
    ∷ gives (answered (plug_dual ∷ plug 1024 1 dual_hardware ∷ power_on ∷ []) (send Codes.set_powered 1 (1 ∷ []))) (1 ∷ [])
    -- Set Static Address refused only while power is on: power is off, but Set Powered is under way
    ∷ gives (answered (plug_dual ∷ power_on ∷ []) (send Codes.set_static_address 0 (1 ∷ 2 ∷ 3 ∷ 4 ∷ 5 ∷ 0xC0 ∷ []))) (refused_with Codes.set_static_address 0 0x0A)
    -- Set Discoverable that is refused and starts the timer anew all the same: refused at 4, the timer still ends at 10
    ∷ gives (answered discoverable_for10 discoverable_for100) (refused_with Codes.set_discoverable 0 0x0A)
    ∷ gives (answered (discoverable_for10 ++ (discoverable_for100 ∷ [])) (clock 1024 9)) (0 ∷ [])
    ∷ gives (answered (discoverable_for10 ++ (discoverable_for100 ∷ [])) (clock 1024 10)) (0 ∷ 6 ∷ 0 ∷ 0 ∷ 0 ∷ 4 ∷ 0 ∷ 0x83 ∷ 0x02 ∷ 0 ∷ 0 ∷ [])
    -- octets that say nothing and are not zero (01, The hub and its calls): after plug only present, version, manufacturer, supported, address, BR/EDR and LE
    -- are other than zero; so again when a slot is freed
    ∷ gives (total (leaves (plug_dual ∷ [])) ∷ []) ((1 + 6 + 15 + (0x81 + 0x02) + (1 + 2 + 3 + 4 + 5 + 6) + 1 + 1) ∷ [])
    ∷ gives (leaves (plug_dual ∷ add_hint 1 0x20 ∷ remove_hint 1 ∷ [])) (leaves (plug_dual ∷ []))
    ∷ []

-- THE EASY ERRORS ARE SHUT OUT
pub easy_errors_shut_out : all_given easy_errors ≡ true
unfolding open_octets open_advertising open_state open_reasons open_tables open_rules open_immediate open_commands_lem open_image open_hub open_layout open_demand3
    to dual_hardware plug_dual power_on add_hint remove_hint gives all_given send refused_with hub_after answered leaves total last_key_wrong discoverable_for10
    discoverable_for100 easy_errors
easy_errors_shut_out = refl
