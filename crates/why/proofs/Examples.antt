-- Examples of what is told, by computation: packets on a few hubs, and the text of each.
use Prim.Native.Nat.{ℕ}
use Prim.Native.String.{String}
use mathlib.Core.Path.{◌≡◌, refl}
use mathlib.Core.Bool.{Bool, true, ◌&&◌}
use mathlib.Core.List.{List, [], ◌∷◌, ◌++◌}
use lib.ListN.{length, replicate}
use Rattle.model.specs.Codes as Codes
use Rattle.model.specs.Octets.{Octets, le16, open_octets, same}
use Rattle.model.specs.Advertising.{open_advertising}
use Rattle.model.specs.State.{Hub, open_state}
use Rattle.model.specs.Reasons.{open_reasons}
use Rattle.model.specs.Tables.{open_tables}
use Rattle.model.specs.Rules.{open_rules}
use Rattle.model.specs.Immediate.{open_immediate}
use Rattle.model.specs.Commands.{open_commands_lem}
use Rattle.model.specs.Image.{open_image}
use Rattle.model.specs.Hub.{open_hub, report}
use Rattle.model.specs.Demand3.{open_demand3}
use Rattle.model.proofs.Examples.{dual_hardware, empty_image, hub_after, plug_dual, power_on, to}
use Rattle.why.specs.Findings.{open_findings, why}
use Rattle.why.specs.Spelling.{open_spelling, spelled}
use Rattle.why.specs.Wording.{open_wording, text_of}

-- a dual-mode controller at index 0, as plug leaves it
unfoldable pub plain : Hub
plain = hub_after (plug_dual ∷ [])

-- the same with Set Powered under way
unfoldable pub busy : Hub
busy = hub_after (plug_dual ∷ power_on ∷ [])

-- a packet to index 0
unfoldable pub packet : ℕ → Octets → Octets
packet code ps = le16 code ++ (0 ∷ 0 ∷ (le16 (length ps) ++ ps))

-- the first with power, which the radio reported
unfoldable pub powered : Hub
powered = hub_after (plug_dual ∷ power_on ∷ report 1024 0 0 ∷ [])

-- the first connectable, then after a settings command that is done at once
unfoldable pub changed : ℕ → Octets → Hub
changed code ps = hub_after (plug_dual ∷ to (packet Codes.set_connectable (1 ∷ [])) ∷ to (packet code ps) ∷ [])

-- a link key of a device, of a type
unfoldable pub link_key : ℕ → ℕ → Octets
link_key device type = device ∷ 0 ∷ 0 ∷ 0 ∷ 0 ∷ 0 ∷ 0 ∷ type ∷ replicate 17 0

-- hub and packet, and the text
unfoldable pub tells : List (Hub × Octets × String)
tells =
    (plain, packet Codes.set_powered (1 ∷ []), "would be taken")
    ∷ (plain, packet 0x0008 [], "Unknown Command: the hub has no command of this code, octet 0")
    ∷ (plain, packet Codes.read_version [], "Invalid Index: the command is to the hub itself, and the index is not 65535, octet 2")
    ∷ (plain, 5 ∷ 0 ∷ 1 ∷ 0 ∷ 1 ∷ 0 ∷ 1 ∷ [], "Invalid Index: no controller has this index, octet 2")
    ∷ (plain, packet Codes.set_powered [], "Invalid Parameters: the length does not fit the command or the count in it, octet 4")
    -- a wrong length of a list is told at the count, where that is whole
    ∷ (plain, packet Codes.load_link_keys (0 ∷ 1 ∷ []), "Invalid Parameters: the length does not fit the command or the count in it, octet 4")
    ∷ (plain, packet Codes.load_link_keys (0 ∷ le16 2622), "Invalid Parameters: the length does not fit the command or the count in it, octet 7")
    ∷ (plain, packet Codes.load_long_term_keys (le16 1), "Invalid Parameters: the length does not fit the command or the count in it, octet 6")
    -- and of Add Advertising at its second length of data
    ∷ (plain, packet Codes.add_advertising (replicate 10 0), "Invalid Parameters: the length does not fit the command or the count in it, octet 4")
    ∷ (plain, packet Codes.add_advertising (replicate 12 0), "Invalid Parameters: the length does not fit the command or the count in it, octet 16")
    -- of fields that clash the later one is told
    ∷ (plain, packet Codes.set_discoverable (0 ∷ 5 ∷ 0 ∷ []), "Invalid Parameters: value 0 takes no timeout, octet 7")
    ∷ (plain, packet Codes.add_device (1 ∷ 0 ∷ 0 ∷ 0 ∷ 0 ∷ 0 ∷ 0 ∷ 2 ∷ []), "Invalid Parameters: a BR/EDR device takes only action 1, octet 13")
    -- octets are counted from the packet's first also inside a record, and repeats come behind all values
    ∷ (
      plain,
      packet Codes.load_link_keys (0 ∷ (le16 3 ++ (link_key 1 0 ++ (link_key 1 0 ++ link_key 2 9)))),
      "Invalid Parameters: the key type is above 8, record 2, octet 66",
    )
    ∷ (
      plain,
      packet Codes.load_link_keys (0 ∷ (le16 4 ++ (link_key 2 0 ++ (link_key 1 0 ++ (link_key 1 0 ++ link_key 2 1))))),
      "Invalid Parameters: two keys are for one device (long term keys: and the same Master), records 0 and 3",
    )
    -- what comes behind the values has no place, and Busy stands between Not Powered and Rejected
    ∷ (busy, packet Codes.set_discoverable (1 ∷ 5 ∷ 0 ∷ []), "Not Powered: a discoverable timeout needs power")
    ∷ (busy, packet Codes.set_discoverable (1 ∷ 0 ∷ 0 ∷ []), "Busy: another settings command is under way at this index")
    ∷ (plain, packet Codes.set_discoverable (1 ∷ 0 ∷ 0 ∷ []), "Rejected: connectable is off")
    ∷ (plain, packet Codes.unblock_device (1 ∷ 0 ∷ 0 ∷ 0 ∷ 0 ∷ 0 ∷ 0 ∷ []), "Invalid Parameters: the device is not blocked")
    -- Set BR/EDR, and what it turned off (02, E5)
    ∷ (plain, packet Codes.set_bredr (0 ∷ []), "would be taken")
    ∷ (plain, packet Codes.set_bredr (2 ∷ []), "Invalid Parameters: the value is not 0 or 1, octet 6")
    ∷ (busy, packet Codes.set_bredr (0 ∷ []), "Busy: another settings command is under way at this index")
    ∷ (powered, packet Codes.set_bredr (0 ∷ []), "Rejected: BR/EDR cannot be turned off while power is on")
    ∷ (powered, packet Codes.set_bredr (1 ∷ []), "would be taken")
    ∷ (
      changed Codes.set_static_address (1 ∷ 0 ∷ 0 ∷ 0 ∷ 0 ∷ 0xC0 ∷ []),
      packet Codes.set_bredr (1 ∷ []),
      "Rejected: BR/EDR cannot be turned on with a static address set",
    )
    ∷ (changed Codes.set_low_energy (0 ∷ []), packet Codes.set_bredr (0 ∷ []), "Rejected: Low Energy is off")
    ∷ (changed Codes.set_bredr (0 ∷ []), packet Codes.set_discoverable (1 ∷ 0 ∷ 0 ∷ []), "Rejected: BR/EDR is off")
    ∷ (changed Codes.set_bredr (0 ∷ []), packet Codes.set_discoverable (0 ∷ 0 ∷ 0 ∷ []), "would be taken")
    ∷ (changed Codes.set_bredr (0 ∷ []), packet Codes.set_low_energy (0 ∷ []), "Rejected: BR/EDR is off")
    ∷ []

-- each is told so
unfoldable pub all_told : List (Hub × Octets × String) → Bool
all_told [] = true
all_told (e ∷ es) = same (text_of (why e.0 e.1)) (spelled e.2) && all_told es

-- THE EXAMPLES HOLD
pub texts_hold : all_told tells ≡ true
unfolding open_octets open_advertising open_state open_reasons open_tables open_rules open_immediate open_commands_lem open_image open_hub
    open_demand3 open_findings open_spelling
    open_wording dual_hardware empty_image hub_after plug_dual power_on to plain busy powered changed packet link_key tells all_told
texts_hold = refl
