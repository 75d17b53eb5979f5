-- Set BR/EDR by examples (02, E5): when it is taken, what it changes, what the commands beside it say where BR/EDR is off, and save. One list, one claim.
use Rattle.std.specs.Prelude.{ℕ, ◌≡◌, refl, Bool, true, false, List, [], ◌∷◌, ◌++◌, drop, replicate, take}
use Rattle.std.proofs.Math.Option.{some}
use Rattle.model.specs.Statuses as Statuses
use Rattle.model.specs.Codes as Codes
use Rattle.model.specs.Octets.{open_octets, octet}
use Rattle.model.specs.Advertising.{open_advertising, no_advertising}
use Rattle.model.specs.State.{open_state, Controller, Hardware, flag, fresh, no_tables, with_controller}
use Rattle.model.specs.Reasons.{open_reasons}
use Rattle.model.specs.Tables.{open_tables}
use Rattle.model.specs.Rules.{open_rules}
use Rattle.model.specs.Immediate.{open_immediate}
use Rattle.model.specs.Commands.{open_commands_lem}
use Rattle.model.specs.Image.{open_image}
use Rattle.model.specs.Reading.{open_reading}
use Rattle.model.specs.Hub.{open_hub, Call, plug, report, save, unplug}
use Rattle.model.specs.WellFormed.{open_wellformed, plain_ok}
use Rattle.model.specs.Layout.{open_layout}
use Rattle.model.specs.Demand3.{open_demand3}
use Rattle.model.proofs.Examples.{Example, all_given, answered, dual_hardware, gives, hub_after, plug_dual, power_on, to}
use Rattle.model.proofs.EasyErrors.{refused_with, send}
use Rattle.model.proofs.StaticAddresses.{address_of, plug_bredr, set_to}

-- Set BR/EDR with a value
unfoldable pub set_bredr_to : ℕ → Call
set_bredr_to v = send Codes.set_bredr 0 (v ∷ [])

-- hardware with these supported settings
unfoldable pub hardware_of : ℕ → Hardware
hardware_of s = record { public_address = 1 ∷ 2 ∷ 3 ∷ 4 ∷ 5 ∷ 6 ∷ []; version = 6; manufacturer = 15; supported = s }

-- a controller that has LE and no BR/EDR is plugged at index 0
unfoldable pub plug_le : Call
plug_le = plug 1024 0 (hardware_of 0x0201)

-- power on, and the radio's report
unfoldable pub powered : List Call
powered = power_on ∷ report 1024 0 0 ∷ []

-- a dual-mode controller that is plugged, and its BR/EDR turned off
unfoldable pub le_alone : List Call
le_alone = plug_dual ∷ set_bredr_to 0 ∷ []

-- the same with a static address
unfoldable pub le_with_static : List Call
le_with_static = le_alone ++ (set_to 0xD00000000000 ∷ [])

-- Command Complete with Current_Settings, answer 0: two octets of them, the others are zero
unfoldable pub settings_told : (code low high : ℕ) → List ℕ
settings_told code low high = 0 ∷ 1 ∷ 0 ∷ 0 ∷ 0 ∷ 7 ∷ 0 ∷ code ∷ 0 ∷ 0 ∷ low ∷ high ∷ 0 ∷ 0 ∷ []

-- New Settings behind it
unfoldable pub settings_changed : (code low high : ℕ) → List ℕ
settings_changed code low high = settings_told code low high ++ (6 ∷ 0 ∷ 0 ∷ 0 ∷ 4 ∷ 0 ∷ low ∷ high ∷ 0 ∷ 0 ∷ [])

-- the number of a command's answer behind others
unfoldable pub answer_behind : List Call → Call → ℕ
answer_behind before c = octet (answered before c) 0

-- an unpowered controller of this hardware, with these settings, is well formed: 1, else 0
unfoldable pub fits : (discoverable connectable bredr low_energy : Bool) → Hardware → ℕ
fits d k b l f =
    let c : Controller = record {
      radio = record { hardware = f; powered = false; connectable = k; bredr = b; low_energy = l; static_address = replicate 6 0 };
      host = record {
        settings = record { timer = record { discoverable = d; seconds = 0 }; bondable = false };
        name = replicate 260 0;
        tables = no_tables;
        advertising = no_advertising;
      };
    } in
    flag (plain_ok (with_controller fresh 0 (some c))) 1

-- the examples
unfoldable pub low_energy_alone : List Example
low_energy_alone =
    -- plug gives BR/EDR as supported, so turning it on changes nothing, and off is told by New Settings, bit 7 gone
    gives (answered (plug_dual ∷ []) (set_bredr_to 1)) (settings_told Codes.set_bredr 0x80 0x02)
    ∷ gives (answered (plug_dual ∷ []) (set_bredr_to 0)) (settings_changed Codes.set_bredr 0x00 0x02)
    ∷ gives (answered le_alone (set_bredr_to 1)) (settings_changed Codes.set_bredr 0x80 0x02)
    -- off takes discoverable with it
    ∷ gives (answered (plug_dual ∷ send Codes.set_connectable 0 (1 ∷ []) ∷ send Codes.set_discoverable 0 (1 ∷ 0 ∷ 0 ∷ []) ∷ []) (set_bredr_to 0))
    (settings_changed Codes.set_bredr 0x02 0x02)
    -- the checks in their order: the value, BR/EDR support, LE support; then off while powered, on beside a static address, Low Energy off
    ∷ gives (answered (plug_le ∷ []) (set_bredr_to 2)) (refused_with Codes.set_bredr 0 Statuses.invalid_parameters)
    ∷ gives (answered (plug_le ∷ []) (set_bredr_to 0)) (refused_with Codes.set_bredr 0 Statuses.not_supported)
    ∷ gives (answered (plug_bredr ∷ []) (set_bredr_to 1)) (refused_with Codes.set_bredr 0 Statuses.not_supported)
    ∷ gives (answered (plug_dual ∷ powered) (set_bredr_to 0)) (refused_with Codes.set_bredr 0 Statuses.rejected)
    ∷ gives (answered le_with_static (set_bredr_to 1)) (refused_with Codes.set_bredr 0 Statuses.rejected)
    ∷ gives (answered (plug_dual ∷ set_to 0xD00000000000 ∷ []) (set_bredr_to 1)) (refused_with Codes.set_bredr 0 Statuses.rejected)
    ∷ gives (answered (plug_dual ∷ send Codes.set_low_energy 0 (0 ∷ []) ∷ []) (set_bredr_to 0)) (refused_with Codes.set_bredr 0 Statuses.rejected)
    ∷ gives (answered (plug_dual ∷ send Codes.set_low_energy 0 (0 ∷ []) ∷ []) (set_bredr_to 1)) (refused_with Codes.set_bredr 0 Statuses.rejected)
    -- on while powered is started, makes others Busy until its report, and is Busy itself while another is under way
    ∷ gives (answered (plug_dual ∷ powered) (set_bredr_to 1)) (1 ∷ [])
    ∷ gives (answered (plug_dual ∷ (powered ++ (set_bredr_to 1 ∷ []))) (report 1024 0 0)) (settings_told Codes.set_bredr 0x81 0x02)
    ∷ gives (answered (plug_dual ∷ (powered ++ (set_bredr_to 1 ∷ []))) (send Codes.set_connectable 0 (1 ∷ []))) (refused_with Codes.set_connectable 0 Statuses.busy)
    ∷ gives (answered (plug_dual ∷ power_on ∷ []) (set_bredr_to 1)) (refused_with Codes.set_bredr 0 Statuses.busy)
    ∷ gives (answered (plug_dual ∷ power_on ∷ []) (set_bredr_to 2)) (refused_with Codes.set_bredr 0 Statuses.invalid_parameters)
    -- values and support come before Busy, all that is Rejected behind it
    ∷ gives (answered (plug_le ∷ power_on ∷ []) (set_bredr_to 0)) (refused_with Codes.set_bredr 0 Statuses.not_supported)
    ∷ gives (answered (plug_dual ∷ (powered ++ (set_bredr_to 1 ∷ []))) (set_bredr_to 0)) (refused_with Codes.set_bredr 0 Statuses.busy)
    ∷ gives (answered (le_alone ++ (power_on ∷ [])) (send Codes.set_low_energy 0 (0 ∷ []))) (refused_with Codes.set_low_energy 0 Statuses.busy)
    ∷ gives (answered (le_alone ++ (power_on ∷ [])) (send Codes.set_discoverable 0 (1 ∷ 0 ∷ 0 ∷ []))) (refused_with Codes.set_discoverable 0 Statuses.busy)
    ∷ gives (answered (plug_dual ∷ (powered ++ (set_bredr_to 1 ∷ []))) (unplug 1024 0)) (0 ∷ 2 ∷ 0 ∷ 0 ∷ 0 ∷ 3 ∷ 0 ∷ 0x2A ∷ 0 ∷ 0x11 ∷ 5 ∷ 0 ∷ 0 ∷ 0 ∷ 0 ∷ 0 ∷ [])
    -- with BR/EDR off: discoverable is turned on no more, off is taken; Low Energy is turned off no more
    ∷ gives (answered (le_alone ++ (send Codes.set_connectable 0 (1 ∷ []) ∷ [])) (send Codes.set_discoverable 0 (1 ∷ 0 ∷ 0 ∷ [])))
    (refused_with Codes.set_discoverable 0 Statuses.rejected)
    ∷ gives (answer_behind le_alone (send Codes.set_discoverable 0 (0 ∷ 0 ∷ 0 ∷ [])) ∷ []) (0 ∷ [])
    ∷ gives (answered le_alone (send Codes.set_low_energy 0 (0 ∷ []))) (refused_with Codes.set_low_energy 0 Statuses.rejected)
    ∷ gives (answer_behind le_alone (send Codes.set_low_energy 0 (1 ∷ [])) ∷ []) (0 ∷ [])
    -- bit 15 beside a public address: set where BR/EDR is off, not where it is on
    ∷ gives (answered le_alone (set_to 0xD00000000000)) (settings_changed Codes.set_static_address 0x00 0x82)
    ∷ gives (answered (plug_dual ∷ []) (set_to 0xD00000000000)) (settings_told Codes.set_static_address 0x80 0x02)
    ∷ gives (answered (plug_le ∷ []) (set_to 0xD00000000000)) (settings_changed Codes.set_static_address 0x00 0x82)
    -- link keys go by support: a list of none is taken
    ∷ gives (answer_behind le_alone (send Codes.load_link_keys 0 (0 ∷ 0 ∷ 0 ∷ [])) ∷ []) (0 ∷ [])
    -- save: flag bit 7 is off where BR/EDR is, on where it is, and off where it is not supported (02, E7)
    ∷ gives (take 2 (drop 23 (answered le_alone (save 16014)))) (0x02 ∷ 0x00 ∷ [])
    ∷ gives (take 2 (drop 23 (answered (le_alone ++ (set_bredr_to 1 ∷ [])) (save 16014)))) (0x02 ∷ 0x80 ∷ [])
    ∷ gives (take 2 (drop 23 (answered (plug_le ∷ []) (save 16014)))) (0x02 ∷ 0x00 ∷ [])
    -- well formed: BR/EDR only where supported, BR/EDR or Low Energy on, discoverable only with BR/EDR
    ∷ gives (fits false false false true dual_hardware ∷ fits false true true false dual_hardware ∷ fits true true true true dual_hardware ∷ []) (1 ∷ 1 ∷ 1 ∷ [])
    ∷ gives (fits false false false false dual_hardware ∷ fits true true false true dual_hardware ∷ fits true false true true dual_hardware ∷ []) (0 ∷ 0 ∷ 0 ∷ [])
    ∷ gives (fits false false true true (hardware_of 0x0201) ∷ fits false false false true (hardware_of 0x0201) ∷ []) (0 ∷ 1 ∷ [])
    ∷ []

-- E5'S EXAMPLES HOLD
pub low_energy_alone_holds : all_given low_energy_alone ≡ true
unfolding open_octets open_advertising open_state open_reasons open_tables open_rules open_immediate open_commands_lem open_image open_reading open_hub open_wellformed
    open_layout open_demand3 to dual_hardware plug_dual power_on gives all_given send refused_with hub_after answered address_of plug_bredr set_to set_bredr_to
    hardware_of plug_le powered le_alone le_with_static settings_told settings_changed answer_behind fits low_energy_alone
low_energy_alone_holds = refl
