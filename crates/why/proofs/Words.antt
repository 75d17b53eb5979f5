-- No two conditions are told by the same words, and no two statuses by the same name.
use mathlib.Core.Path.{◌≡◌, refl}
use mathlib.Core.Bool.{true}
use mathlib.Core.List.{List, [], ◌∷◌, map}
use Prim.Native.Nat.{ℕ}
use Prim.Native.String.{String}
use Rattle.model.specs.Octets.{open_octets}
use Rattle.model.specs.declared.Reason.{Reason}
use Rattle.model.specs.declared.Reason.TheVariants.{CodeUnknown, IndexNotNone, ControllerAbsent, LengthWrong, CountAbove32}
use Rattle.model.specs.declared.Reason.TheVariants.{DebugFlagAbove1, KeyTypeAbove8, KeyTypeAbove4, MasterAbove1, KeySizeNot7To16}
use Rattle.model.specs.declared.Reason.TheVariants.{RecordRepeated, AddressTypeNotBredr, AddressTypeNotLe, AddressTypeAbove2, AddressZero}
use Rattle.model.specs.declared.Reason.TheVariants.{AddressNotStaticRandom, AddressZeroNotBredr, ValueAbove1, ValueAbove2}
use Rattle.model.specs.declared.Reason.TheVariants.{TimeoutWithValue0, NoTimeoutWithValue2, NameNotEnded, ShortNameNotEnded, UuidZero}
use Rattle.model.specs.declared.Reason.TheVariants.{DisconnectAbove1, ActionAbove2, ActionNot1ForBredr, InstanceNot1To5, AdvertisingFlags}
use Rattle.model.specs.declared.Reason.TheVariants.{AdvDataAbove31, ScanRspAbove31, BredrNotSupported, LeNotSupported}
use Rattle.model.specs.declared.Reason.TheVariants.{DiscoverableTimeoutUnpowered, Unpowered, NoAddressForPower, NotConnectable}
use Rattle.model.specs.declared.Reason.TheVariants.{BredrOff, LowEnergyNeeded, PoweredForBredrOff, StaticAddressForBredr, PoweredForStaticAddress}
use Rattle.model.specs.declared.Reason.TheVariants.{LowEnergyOff, AdvertisingTimeoutUnpowered}
use Rattle.model.specs.declared.Reason.TheVariants.{NoFreeSlot, UuidAbsent, NoKeyOfDevice, AlreadyBlocked, NotBlocked, DeviceAbsent}
use Rattle.model.specs.declared.Reason.TheVariants.{InstanceAbsent}
use Rattle.model.specs.Tables.{distinct, open_tables}
use Rattle.why.specs.Spelling.{open_spelling, spelled}
use Rattle.why.specs.Wording.{condition, open_wording, status_names}

-- every reason
unfoldable pub reasons : List Reason
reasons =
    CodeUnknown ∷ IndexNotNone ∷ ControllerAbsent ∷ LengthWrong ∷ CountAbove32 ∷ DebugFlagAbove1 ∷ KeyTypeAbove8 ∷ KeyTypeAbove4 ∷ MasterAbove1
    ∷ KeySizeNot7To16 ∷ RecordRepeated ∷ AddressTypeNotBredr ∷ AddressTypeNotLe ∷ AddressTypeAbove2 ∷ AddressZero ∷ AddressNotStaticRandom
    ∷ AddressZeroNotBredr ∷ ValueAbove1 ∷ ValueAbove2 ∷ TimeoutWithValue0 ∷ NoTimeoutWithValue2 ∷ NameNotEnded ∷ ShortNameNotEnded ∷ UuidZero
    ∷ DisconnectAbove1 ∷ ActionAbove2 ∷ ActionNot1ForBredr ∷ InstanceNot1To5 ∷ AdvertisingFlags ∷ AdvDataAbove31 ∷ ScanRspAbove31
    ∷ BredrNotSupported ∷ LeNotSupported ∷ DiscoverableTimeoutUnpowered ∷ Unpowered ∷ NoAddressForPower ∷ NotConnectable ∷ BredrOff
    ∷ LowEnergyNeeded ∷ PoweredForBredrOff ∷ StaticAddressForBredr ∷ PoweredForStaticAddress ∷ LowEnergyOff ∷ AdvertisingTimeoutUnpowered
    ∷ NoFreeSlot ∷ UuidAbsent ∷ NoKeyOfDevice ∷ AlreadyBlocked ∷ NotBlocked ∷ DeviceAbsent ∷ InstanceAbsent ∷ []

-- each condition has words of its own
pub conditions_differ : distinct (map (λ (r : Reason). spelled (condition r)) reasons) ≡ true
unfolding reasons open_octets open_tables open_spelling open_wording
conditions_differ = refl

-- each status has a name of its own
pub names_differ : distinct (map (λ (n : ℕ × String). spelled n.1) status_names) ≡ true
unfolding open_octets open_tables open_spelling open_wording
names_differ = refl
