-- Static random addresses by examples (02, E2): the two addresses with both top bits whose random part, the 46 bits below, is all zeros or all ones, and their
-- neighbours, one bit changed; what each place where the rule holds says to them; and what has no such rule. One list, one claim.
use Rattle.std.specs.Prelude.{ℕ, zero, suc, ◌+◌, ◌-◌, ◌/◌, ◌^◌, ◌≡◌, refl, true, false, List, [], ◌∷◌, ◌++◌, replicate}
use Rattle.std.proofs.Math.Option.{some}
use Rattle.model.specs.Lengths as Lengths
use Rattle.model.specs.Statuses as Statuses
use Rattle.model.specs.Codes as Codes
use Rattle.model.specs.Octets.{open_octets, Octets, bit, le16, le32, octet}
use Rattle.model.specs.Advertising.{open_advertising}
use Rattle.model.specs.State.{open_state, Controller, PlainHub, flag, fresh, plugged, static_random}
use Rattle.model.specs.State.{with_controller, with_host, with_static_address, with_table}
use Rattle.model.specs.Reasons.{open_reasons}
use Rattle.model.specs.Tables.{open_tables, identity_keys, loaded, long_term_keys}
use Rattle.model.specs.Rules.{open_rules}
use Rattle.model.specs.Immediate.{open_immediate}
use Rattle.model.specs.Commands.{open_commands_lem}
use Rattle.model.specs.Image.{open_image, image}
use Rattle.model.specs.Reading.{open_reading}
use Rattle.model.specs.Hub.{open_hub, Call, plug, report}
use Rattle.model.specs.WellFormed.{open_wellformed, plain_ok}
use Rattle.model.specs.Layout.{open_layout}
use Rattle.model.specs.Meanings.{open_meanings, hub_load}
use Rattle.model.specs.Demand3.{open_demand3}
use Rattle.model.proofs.Examples.{Example, all_given, answered, dual_hardware, gives, hub_after, plug_dual, power_on, to}
use Rattle.model.proofs.EasyErrors.{leaves, refused_with, send}

-- the octets of a packet for an address of 48 bits
unfoldable pub address_of : ℕ → Octets
address_of n = le32 n ++ le16 (n / 4294967296)

-- a number with bit k changed
unfoldable pub changed : ℕ → ℕ → ℕ
changed k n = elim (bit k n) [ true ↦ n - 2 ^ k | false ↦ n + 2 ^ k ]

-- of the addresses with one bit changed, from bit k - 1 down to bit 0: 1 for a static random one, else 0
unfoldable pub neighbours : ℕ → ℕ → List ℕ
neighbours n zero = []
neighbours n (suc k) = flag (static_random (address_of (changed k n))) 1 ∷ neighbours n k

-- both top bits, and zeros below them
unfoldable pub zeros_below : ℕ
zeros_below = 0xC00000000000

-- both top bits, and ones below them
unfoldable pub ones_below : ℕ
ones_below = 0xFFFFFFFFFFFF

-- a long term key for an address of this type
unfoldable pub long_term_key : ℕ → ℕ → Octets
long_term_key type n = address_of n ++ (type ∷ 0 ∷ 0 ∷ 16 ∷ replicate 26 0)

-- an identity resolving key for one
unfoldable pub identity_key : ℕ → ℕ → Octets
identity_key type n = address_of n ++ (type ∷ replicate 16 0)

-- LE Public
abbrev le_public : ℕ
le_public = 1

-- LE Random
abbrev le_random : ℕ
le_random = 2

-- Set Static Address
unfoldable pub set_to : ℕ → Call
set_to n = send Codes.set_static_address 0 (address_of n)

-- the number of a command's answer where a dual-mode controller was just plugged
unfoldable pub answer_to : Call → ℕ
answer_to c = octet (answered (plug_dual ∷ []) c) 0

-- a list of one long term key
unfoldable pub load_long_term_key : ℕ → ℕ → Call
load_long_term_key type n = send Codes.load_long_term_keys 0 (1 ∷ 0 ∷ long_term_key type n)

-- a list of one identity resolving key
unfoldable pub load_identity_key : ℕ → ℕ → Call
load_identity_key type n = send Codes.load_identity_keys 0 (1 ∷ 0 ∷ identity_key type n)

-- a controller that has BR/EDR and no LE is plugged at index 0
unfoldable pub plug_bredr : Call
plug_bredr = plug 1024 0 (record { public_address = 1 ∷ 2 ∷ 3 ∷ 4 ∷ 5 ∷ 6 ∷ []; version = 6; manufacturer = 15; supported = 0x0081 })

-- a dual-mode controller with one record in a table
unfoldable pub with_record : ℕ → Octets → Controller
with_record k r = with_host (plugged dual_hardware) (with_table (plugged dual_hardware).host k (loaded (r ∷ [])))

-- one with a static address
unfoldable pub with_static : ℕ → Controller
with_static n = record { radio = with_static_address (plugged dual_hardware).radio (address_of n); host = (plugged dual_hardware).host }

-- a hub that has this controller, whatever its rules: the answer to its image, and 1 if it is well formed
unfoldable pub kept : Controller → List ℕ
kept c =
    let p : PlainHub = with_controller fresh 0 (some c) in
    (hub_load (replicate Lengths.state 0) (image p)).answer ∷ flag (plain_ok p) 1 ∷ []

-- an address in each place where it has to be a static random one: the command and both lists of keys; image and state with it as static address, with a
-- long term key and with an identity resolving key for it
unfoldable pub every_place : ℕ → List ℕ
every_place n =
    answer_to (set_to n)
    ∷ answer_to (load_long_term_key le_random n)
    ∷ answer_to (load_identity_key le_random n)
    ∷ (kept (with_static n) ++ (kept (with_record long_term_keys (long_term_key le_random n)) ++ kept (with_record identity_keys (identity_key le_random n))))

-- taken in every place
unfoldable pub taken_there : List ℕ
taken_there = 0 ∷ 0 ∷ 0 ∷ 0 ∷ 1 ∷ 0 ∷ 1 ∷ 0 ∷ 1 ∷ []

-- refused in every place, an image with 74 for the static address and with 76 for a key
unfoldable pub refused_there : List ℕ
refused_there = 2 ∷ 2 ∷ 2 ∷ 74 ∷ 0 ∷ 76 ∷ 0 ∷ 76 ∷ 0 ∷ []

-- the examples
unfoldable pub static_addresses : List Example
static_addresses =
    -- with one of the two top bits changed it is no static random address, with one of the 46 below it is one
    gives (neighbours zeros_below 48) (0 ∷ 0 ∷ replicate 46 1)
    ∷ gives (neighbours ones_below 48) (0 ∷ 0 ∷ replicate 46 1)
    -- C0:00:00:00:00:00, FF:FF:FF:FF:FF:FF, and one of the 46 bits changed: the lowest, and the highest, as in D0:00:00:00:00:00
    ∷ gives (every_place zeros_below) refused_there
    ∷ gives (every_place ones_below) refused_there
    ∷ gives (every_place 0xC00000000001) taken_there
    ∷ gives (every_place 0xFFFFFFFFFFFE) taken_there
    ∷ gives (every_place 0xD00000000000) taken_there
    ∷ gives (every_place 0xDFFFFFFFFFFF) taken_there
    -- the refusal is Invalid Parameters, also where there is no LE, for which a static random address is Not Supported, and while power is on, Rejected
    ∷ gives (answered (plug_bredr ∷ []) (set_to zeros_below)) (refused_with Codes.set_static_address 0 Statuses.invalid_parameters)
    ∷ gives (answered (plug_bredr ∷ []) (set_to 0xD00000000000)) (refused_with Codes.set_static_address 0 Statuses.not_supported)
    ∷ gives (answered (plug_dual ∷ power_on ∷ report 1024 0 0 ∷ []) (set_to ones_below)) (refused_with Codes.set_static_address 0 Statuses.invalid_parameters)
    ∷ gives (answered (plug_dual ∷ power_on ∷ report 1024 0 0 ∷ []) (set_to 0xD00000000000)) (refused_with Codes.set_static_address 0 Statuses.rejected)
    ∷ gives (answered (plug_dual ∷ []) (load_long_term_key le_random zeros_below)) (refused_with Codes.load_long_term_keys 0 Statuses.invalid_parameters)
    ∷ gives (answered (plug_dual ∷ []) (load_identity_key le_random ones_below)) (refused_with Codes.load_identity_keys 0 Statuses.invalid_parameters)
    -- zero clears the static address
    ∷ gives (leaves (plug_dual ∷ set_to 0xD00000000000 ∷ set_to 0 ∷ [])) (leaves (plug_dual ∷ []))
    -- keys for LE Public have no such rule
    ∷ gives (answer_to (load_long_term_key le_public ones_below) ∷ answer_to (load_identity_key le_public zeros_below) ∷ []) (0 ∷ 0 ∷ [])
    -- nor have Block Device, Add Device and Unpair Device: two are done, the third is Not Powered
    ∷ gives (answer_to (send Codes.block_device 0 (address_of zeros_below ++ (2 ∷ []))) ∷ []) (0 ∷ [])
    ∷ gives (answer_to (send Codes.add_device 0 (address_of ones_below ++ (2 ∷ 0 ∷ []))) ∷ []) (0 ∷ [])
    ∷ gives (octet (answered (plug_dual ∷ []) (send Codes.unpair_device 0 (address_of zeros_below ++ (2 ∷ 0 ∷ [])))) 9 ∷ []) (Statuses.not_powered ∷ [])
    ∷ []

-- E2'S EXAMPLES HOLD
pub static_addresses_hold : all_given static_addresses ≡ true
unfolding open_octets open_advertising open_state open_reasons open_tables open_rules open_immediate open_commands_lem open_image open_reading open_hub open_wellformed
    open_layout open_meanings open_demand3 to dual_hardware plug_dual power_on gives all_given send refused_with hub_after answered leaves address_of changed neighbours
    zeros_below ones_below long_term_key identity_key set_to answer_to load_long_term_key load_identity_key plug_bredr with_record with_static kept every_place taken_there refused_there static_addresses
static_addresses_hold = refl
