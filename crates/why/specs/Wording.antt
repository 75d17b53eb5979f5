-- What is told of a finding: the status by its name in 001, the condition in words, and the place (02, E3). Numbers are decimal and counted from 0.
-- docs/WHY.md has every wording with an example.
use Rattle.std.specs.Prelude.{ℕ, true, false, List, [], ◌∷◌, ◌++◌, eqb, Ok, Err}
use Prim.Native.String.{String}
use Rattle.model.specs.Statuses as Statuses
use Rattle.model.specs.Octets.{Octets}
use Rattle.model.specs.Reasons.{status_of}
use Rattle.model.specs.declared.Place.{Place}
use Rattle.model.specs.declared.Place.TheVariants.{Nowhere, AtOctet, InRecord, Records}
use Rattle.model.specs.declared.Reason.{Reason}
use Rattle.model.specs.declared.Reason.TheVariants.{CodeUnknown, IndexNotNone, ControllerAbsent, LengthWrong, CountAbove32}
use Rattle.model.specs.declared.Reason.TheVariants.{DebugFlagAbove1, KeyTypeAbove8, KeyTypeAbove4, MasterAbove1, KeySizeNot7To16}
use Rattle.model.specs.declared.Reason.TheVariants.{RecordRepeated, AddressTypeNotBredr, AddressTypeNotLe, AddressTypeAbove2, AddressZero}
use Rattle.model.specs.declared.Reason.TheVariants.{AddressNotStaticRandom, AddressZeroNotBredr, ValueAbove1, ValueAbove2}
use Rattle.model.specs.declared.Reason.TheVariants.{TimeoutWithValue0, NoTimeoutWithValue2, NameNotEnded, ShortNameNotEnded, UuidZero}
use Rattle.model.specs.declared.Reason.TheVariants.{DisconnectAbove1, ActionAbove2, ActionNot1ForBredr, InstanceNot1To5, AdvertisingFlags}
use Rattle.model.specs.declared.Reason.TheVariants.{AdvDataAbove31, ScanRspAbove31, BredrNotSupported, LeNotSupported}
use Rattle.model.specs.declared.Reason.TheVariants.{DiscoverableTimeoutUnpowered, Unpowered, NoAddressForPower, NotConnectable}
use Rattle.model.specs.declared.Reason.TheVariants.{BredrOff, LowEnergyNeeded, PoweredForBredrOff, StaticAddressForBredr, PoweredForStaticAddress}
use Rattle.model.specs.declared.Reason.TheVariants.{LowEnergyOff, AdvertisingTimeoutUnpowered}
use Rattle.model.specs.declared.Reason.TheVariants.{NoFreeSlot, UuidAbsent, NoKeyOfDevice, AlreadyBlocked, NotBlocked, DeviceAbsent}
use Rattle.model.specs.declared.Reason.TheVariants.{InstanceAbsent}
use Rattle.why.specs.declared.Objection.TheVariants.{Busy, Wrong}
use Rattle.why.specs.Findings.{Finding}
use Rattle.why.specs.Spelling.{spelled, decimal}

-- the statuses that the hub refuses with, by their names (001, Error Codes)
unfoldable pub status_names : List (ℕ × String)
status_names =
    (Statuses.unknown_command, "Unknown Command")
    ∷ (Statuses.failed, "Failed")
    ∷ (Statuses.not_paired, "Not Paired")
    ∷ (Statuses.no_resources, "No Resources")
    ∷ (Statuses.busy, "Busy")
    ∷ (Statuses.rejected, "Rejected")
    ∷ (Statuses.not_supported, "Not Supported")
    ∷ (Statuses.invalid_parameters, "Invalid Parameters")
    ∷ (Statuses.not_powered, "Not Powered")
    ∷ (Statuses.invalid_index, "Invalid Index")
    ∷ []

-- the name beside a number
unfoldable pub named : ℕ → List (ℕ × String) → String
named s [] = ""
named s (n ∷ ns) = elim (eqb s n.0) [ true ↦ n.1 | false ↦ named s ns ]

-- the name of a status
unfoldable pub status_name : ℕ → String
status_name s = named s status_names

-- why a packet is refused, in words: the condition that holds, or the rule that it goes against
unfoldable pub condition : Reason → String
condition CodeUnknown = "the hub has no command of this code"
condition IndexNotNone = "the command is to the hub itself, and the index is not 65535"
condition ControllerAbsent = "no controller has this index"
condition LengthWrong = "the length does not fit the command or the count in it"
condition CountAbove32 = "the list has more than 32 records"
condition DebugFlagAbove1 = "the debug flag is not 0 or 1"
condition KeyTypeAbove8 = "the key type is above 8"
condition KeyTypeAbove4 = "the key type is above 4"
condition MasterAbove1 = "Master is not 0 or 1"
condition KeySizeNot7To16 = "the encryption key size is not 7 to 16"
condition RecordRepeated = "two keys are for one device (long term keys: and the same Master)"
condition AddressTypeNotBredr = "the address type is not 0 (BR/EDR)"
condition AddressTypeNotLe = "the address type is not 1 or 2 (Low Energy)"
condition AddressTypeAbove2 = "the address type is above 2"
condition AddressZero = "the address is zero"
condition AddressNotStaticRandom = "the address is not a static random one"
condition AddressZeroNotBredr = "address zero (all devices) takes only address type 0"
condition ValueAbove1 = "the value is not 0 or 1"
condition ValueAbove2 = "the value is not 0, 1 or 2"
condition TimeoutWithValue0 = "value 0 takes no timeout"
condition NoTimeoutWithValue2 = "value 2 needs a timeout"
condition NameNotEnded = "the name does not end with a zero"
condition ShortNameNotEnded = "the short name does not end with a zero"
condition UuidZero = "the UUID is zero"
condition DisconnectAbove1 = "the disconnect flag is not 0 or 1"
condition ActionAbove2 = "the action is above 2"
condition ActionNot1ForBredr = "a BR/EDR device takes only action 1"
condition InstanceNot1To5 = "the advertising instance is not 1 to 5"
condition AdvertisingFlags = "the advertising flags are not zero"
condition AdvDataAbove31 = "the advertising data are over 31 octets"
condition ScanRspAbove31 = "the scan response data are over 31 octets"
condition BredrNotSupported = "the controller does not support BR/EDR"
condition LeNotSupported = "the controller does not support Low Energy"
condition DiscoverableTimeoutUnpowered = "a discoverable timeout needs power"
condition Unpowered = "the controller is not powered"
condition NoAddressForPower = "the controller has no public and no static address"
condition NotConnectable = "connectable is off"
condition BredrOff = "BR/EDR is off"
condition LowEnergyNeeded = "without BR/EDR support Low Energy stays on"
condition PoweredForBredrOff = "BR/EDR cannot be turned off while power is on"
condition StaticAddressForBredr = "BR/EDR cannot be turned on with a static address set"
condition PoweredForStaticAddress = "the static address cannot be set while power is on"
condition LowEnergyOff = "Low Energy is off"
condition AdvertisingTimeoutUnpowered = "an advertising timeout needs power"
condition NoFreeSlot = "the table has no free slot"
condition UuidAbsent = "the table does not hold this UUID"
condition NoKeyOfDevice = "no key of this device is held"
condition AlreadyBlocked = "the device is blocked already"
condition NotBlocked = "the device is not blocked"
condition DeviceAbsent = "the table does not hold this device"
condition InstanceAbsent = "there is no such advertising instance"

-- a place in words: an octet, counted from the packet's first; an octet and the record that it is in; two records; or nothing
unfoldable pub place_words : Place → Octets
place_words Nowhere = []
place_words (AtOctet n) = spelled ", octet " ++ decimal n
place_words (InRecord k n) = spelled ", record " ++ (decimal k ++ (spelled ", octet " ++ decimal n))
place_words (Records a b) = spelled ", records " ++ (decimal a ++ (spelled " and " ++ decimal b))

-- what is told
unfoldable pub text_of : Finding → Octets
text_of (Ok _) = spelled "would be taken"
text_of (Err Busy) = spelled (status_name Statuses.busy) ++ spelled ": another settings command is under way at this index"
text_of (Err (Wrong r p)) = spelled (status_name (status_of r)) ++ (spelled ": " ++ (spelled (condition r) ++ place_words p))

-- Named on an `unfolding` line, this opens every definition of the module: for examples that are computed.
unfoldable pub open_wording : Unit {0}
unfolding status_names named status_name condition place_words text_of
open_wording = tt
