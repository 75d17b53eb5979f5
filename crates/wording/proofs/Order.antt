-- What the rest of a `match` on a reason tells: none of the reasons of its arms, so that its place in the list is further on.
use Rattle.std.proofs.Common.{◌≡◌, ◌≤◌, refl, arith, lit≤}
use Rattle.model.specs.declared.Reason.{Reason}
use Rattle.model.specs.declared.Reason.TheVariants.{CodeUnknown, IndexNotNone, ControllerAbsent, LengthWrong, CountAbove32, DebugFlagAbove1, KeyTypeAbove8}
use Rattle.model.specs.declared.Reason.TheVariants.{KeyTypeAbove4, MasterAbove1, KeySizeNot7To16, RecordRepeated, AddressTypeNotBredr, AddressTypeNotLe}
use Rattle.model.specs.declared.Reason.TheVariants.{AddressTypeAbove2, AddressZero, AddressNotStaticRandom, AddressZeroNotBredr, ValueAbove1, ValueAbove2}
use Rattle.model.specs.declared.Reason.TheVariants.{TimeoutWithValue0, NoTimeoutWithValue2, NameNotEnded, ShortNameNotEnded, UuidZero, DisconnectAbove1}
use Rattle.model.specs.declared.Reason.TheVariants.{ActionAbove2, ActionNot1ForBredr, InstanceNot1To5, AdvertisingFlags, AdvDataAbove31, ScanRspAbove31}
use Rattle.model.specs.declared.Reason.TheVariants.{BredrNotSupported, LeNotSupported, DiscoverableTimeoutUnpowered, Unpowered, NoAddressForPower}
use Rattle.model.specs.declared.Reason.TheVariants.{NotConnectable, BredrOff, LowEnergyNeeded, PoweredForBredrOff, StaticAddressForBredr}
use Rattle.model.specs.declared.Reason.TheVariants.{PoweredForStaticAddress, LowEnergyOff, AdvertisingTimeoutUnpowered}
use Rattle.model.specs.declared.Reason.TheVariants.{NoFreeSlot, UuidAbsent, NoKeyOfDevice, AlreadyBlocked, NotBlocked, DeviceAbsent, InstanceAbsent}
use Rattle.wording.specs.Order.{order}

-- past the first arms
pub past_first : (r : Reason) → (r ≡ CodeUnknown → ⊥) → (r ≡ IndexNotNone → ⊥) → (r ≡ ControllerAbsent → ⊥) → (r ≡ LengthWrong → ⊥) → (r ≡
    CountAbove32 → ⊥) → (r ≡ DebugFlagAbove1 → ⊥) → (r ≡ KeyTypeAbove8 → ⊥) → (r ≡ KeyTypeAbove4 → ⊥) → (r ≡ MasterAbove1 → ⊥) → (r ≡ KeySizeNot7To16 → ⊥)
    → (r ≡ RecordRepeated → ⊥) → (r ≡ AddressTypeNotBredr → ⊥) → (r ≡ AddressTypeNotLe → ⊥) → (r ≡ AddressTypeAbove2 → ⊥) → (r ≡ AddressZero → ⊥) → (r ≡
    AddressNotStaticRandom → ⊥) → (r ≡ AddressZeroNotBredr → ⊥) → 17 ≤ order r
unfolding order
past_first CodeUnknown n _ _ _ _ _ _ _ _ _ _ _ _ _ _ _ _ = absurd (n refl)
past_first IndexNotNone _ n _ _ _ _ _ _ _ _ _ _ _ _ _ _ _ = absurd (n refl)
past_first ControllerAbsent _ _ n _ _ _ _ _ _ _ _ _ _ _ _ _ _ = absurd (n refl)
past_first LengthWrong _ _ _ n _ _ _ _ _ _ _ _ _ _ _ _ _ = absurd (n refl)
past_first CountAbove32 _ _ _ _ n _ _ _ _ _ _ _ _ _ _ _ _ = absurd (n refl)
past_first DebugFlagAbove1 _ _ _ _ _ n _ _ _ _ _ _ _ _ _ _ _ = absurd (n refl)
past_first KeyTypeAbove8 _ _ _ _ _ _ n _ _ _ _ _ _ _ _ _ _ = absurd (n refl)
past_first KeyTypeAbove4 _ _ _ _ _ _ _ n _ _ _ _ _ _ _ _ _ = absurd (n refl)
past_first MasterAbove1 _ _ _ _ _ _ _ _ n _ _ _ _ _ _ _ _ = absurd (n refl)
past_first KeySizeNot7To16 _ _ _ _ _ _ _ _ _ n _ _ _ _ _ _ _ = absurd (n refl)
past_first RecordRepeated _ _ _ _ _ _ _ _ _ _ n _ _ _ _ _ _ = absurd (n refl)
past_first AddressTypeNotBredr _ _ _ _ _ _ _ _ _ _ _ n _ _ _ _ _ = absurd (n refl)
past_first AddressTypeNotLe _ _ _ _ _ _ _ _ _ _ _ _ n _ _ _ _ = absurd (n refl)
past_first AddressTypeAbove2 _ _ _ _ _ _ _ _ _ _ _ _ _ n _ _ _ = absurd (n refl)
past_first AddressZero _ _ _ _ _ _ _ _ _ _ _ _ _ _ n _ _ = absurd (n refl)
past_first AddressNotStaticRandom _ _ _ _ _ _ _ _ _ _ _ _ _ _ _ n _ = absurd (n refl)
past_first AddressZeroNotBredr _ _ _ _ _ _ _ _ _ _ _ _ _ _ _ _ n = absurd (n refl)
past_first ValueAbove1 _ _ _ _ _ _ _ _ _ _ _ _ _ _ _ _ _ = lit≤ tt
past_first ValueAbove2 _ _ _ _ _ _ _ _ _ _ _ _ _ _ _ _ _ = lit≤ tt
past_first TimeoutWithValue0 _ _ _ _ _ _ _ _ _ _ _ _ _ _ _ _ _ = lit≤ tt
past_first NoTimeoutWithValue2 _ _ _ _ _ _ _ _ _ _ _ _ _ _ _ _ _ = lit≤ tt
past_first NameNotEnded _ _ _ _ _ _ _ _ _ _ _ _ _ _ _ _ _ = lit≤ tt
past_first ShortNameNotEnded _ _ _ _ _ _ _ _ _ _ _ _ _ _ _ _ _ = lit≤ tt
past_first UuidZero _ _ _ _ _ _ _ _ _ _ _ _ _ _ _ _ _ = lit≤ tt
past_first DisconnectAbove1 _ _ _ _ _ _ _ _ _ _ _ _ _ _ _ _ _ = lit≤ tt
past_first ActionAbove2 _ _ _ _ _ _ _ _ _ _ _ _ _ _ _ _ _ = lit≤ tt
past_first ActionNot1ForBredr _ _ _ _ _ _ _ _ _ _ _ _ _ _ _ _ _ = lit≤ tt
past_first InstanceNot1To5 _ _ _ _ _ _ _ _ _ _ _ _ _ _ _ _ _ = lit≤ tt
past_first AdvertisingFlags _ _ _ _ _ _ _ _ _ _ _ _ _ _ _ _ _ = lit≤ tt
past_first AdvDataAbove31 _ _ _ _ _ _ _ _ _ _ _ _ _ _ _ _ _ = lit≤ tt
past_first ScanRspAbove31 _ _ _ _ _ _ _ _ _ _ _ _ _ _ _ _ _ = lit≤ tt
past_first BredrNotSupported _ _ _ _ _ _ _ _ _ _ _ _ _ _ _ _ _ = lit≤ tt
past_first LeNotSupported _ _ _ _ _ _ _ _ _ _ _ _ _ _ _ _ _ = lit≤ tt
past_first DiscoverableTimeoutUnpowered _ _ _ _ _ _ _ _ _ _ _ _ _ _ _ _ _ = lit≤ tt
past_first Unpowered _ _ _ _ _ _ _ _ _ _ _ _ _ _ _ _ _ = lit≤ tt
past_first NoAddressForPower _ _ _ _ _ _ _ _ _ _ _ _ _ _ _ _ _ = lit≤ tt
past_first NotConnectable _ _ _ _ _ _ _ _ _ _ _ _ _ _ _ _ _ = lit≤ tt
past_first BredrOff _ _ _ _ _ _ _ _ _ _ _ _ _ _ _ _ _ = lit≤ tt
past_first LowEnergyNeeded _ _ _ _ _ _ _ _ _ _ _ _ _ _ _ _ _ = lit≤ tt
past_first PoweredForBredrOff _ _ _ _ _ _ _ _ _ _ _ _ _ _ _ _ _ = lit≤ tt
past_first StaticAddressForBredr _ _ _ _ _ _ _ _ _ _ _ _ _ _ _ _ _ = lit≤ tt
past_first PoweredForStaticAddress _ _ _ _ _ _ _ _ _ _ _ _ _ _ _ _ _ = lit≤ tt
past_first LowEnergyOff _ _ _ _ _ _ _ _ _ _ _ _ _ _ _ _ _ = lit≤ tt
past_first AdvertisingTimeoutUnpowered _ _ _ _ _ _ _ _ _ _ _ _ _ _ _ _ _ = lit≤ tt
past_first NoFreeSlot _ _ _ _ _ _ _ _ _ _ _ _ _ _ _ _ _ = lit≤ tt
past_first UuidAbsent _ _ _ _ _ _ _ _ _ _ _ _ _ _ _ _ _ = lit≤ tt
past_first NoKeyOfDevice _ _ _ _ _ _ _ _ _ _ _ _ _ _ _ _ _ = lit≤ tt
past_first AlreadyBlocked _ _ _ _ _ _ _ _ _ _ _ _ _ _ _ _ _ = lit≤ tt
past_first NotBlocked _ _ _ _ _ _ _ _ _ _ _ _ _ _ _ _ _ = lit≤ tt
past_first DeviceAbsent _ _ _ _ _ _ _ _ _ _ _ _ _ _ _ _ _ = lit≤ tt
past_first InstanceAbsent _ _ _ _ _ _ _ _ _ _ _ _ _ _ _ _ _ = lit≤ tt

-- past the arms in the middle
pub past_middle : (r : Reason) → 17 ≤ order r → (r ≡ ValueAbove1 → ⊥) → (r ≡ ValueAbove2 → ⊥) → (r ≡ TimeoutWithValue0 → ⊥) → (r ≡ NoTimeoutWithValue2
    → ⊥) → (r ≡ NameNotEnded → ⊥) → (r ≡ ShortNameNotEnded → ⊥) → (r ≡ UuidZero → ⊥) → (r ≡ DisconnectAbove1 → ⊥) → (r ≡ ActionAbove2 → ⊥) → (r ≡
    ActionNot1ForBredr → ⊥) → (r ≡ InstanceNot1To5 → ⊥) → (r ≡ AdvertisingFlags → ⊥) → (r ≡ AdvDataAbove31 → ⊥) → (r ≡ ScanRspAbove31 → ⊥) → (r ≡
    BredrNotSupported → ⊥) → (r ≡ LeNotSupported → ⊥) → (r ≡ DiscoverableTimeoutUnpowered → ⊥) → (r ≡ Unpowered → ⊥) → (r ≡ NoAddressForPower → ⊥) → 36 ≤
    order r
unfolding order
past_middle CodeUnknown l _ _ _ _ _ _ _ _ _ _ _ _ _ _ _ _ _ _ _ = absurd (omega arith)
past_middle IndexNotNone l _ _ _ _ _ _ _ _ _ _ _ _ _ _ _ _ _ _ _ = absurd (omega arith)
past_middle ControllerAbsent l _ _ _ _ _ _ _ _ _ _ _ _ _ _ _ _ _ _ _ = absurd (omega arith)
past_middle LengthWrong l _ _ _ _ _ _ _ _ _ _ _ _ _ _ _ _ _ _ _ = absurd (omega arith)
past_middle CountAbove32 l _ _ _ _ _ _ _ _ _ _ _ _ _ _ _ _ _ _ _ = absurd (omega arith)
past_middle DebugFlagAbove1 l _ _ _ _ _ _ _ _ _ _ _ _ _ _ _ _ _ _ _ = absurd (omega arith)
past_middle KeyTypeAbove8 l _ _ _ _ _ _ _ _ _ _ _ _ _ _ _ _ _ _ _ = absurd (omega arith)
past_middle KeyTypeAbove4 l _ _ _ _ _ _ _ _ _ _ _ _ _ _ _ _ _ _ _ = absurd (omega arith)
past_middle MasterAbove1 l _ _ _ _ _ _ _ _ _ _ _ _ _ _ _ _ _ _ _ = absurd (omega arith)
past_middle KeySizeNot7To16 l _ _ _ _ _ _ _ _ _ _ _ _ _ _ _ _ _ _ _ = absurd (omega arith)
past_middle RecordRepeated l _ _ _ _ _ _ _ _ _ _ _ _ _ _ _ _ _ _ _ = absurd (omega arith)
past_middle AddressTypeNotBredr l _ _ _ _ _ _ _ _ _ _ _ _ _ _ _ _ _ _ _ = absurd (omega arith)
past_middle AddressTypeNotLe l _ _ _ _ _ _ _ _ _ _ _ _ _ _ _ _ _ _ _ = absurd (omega arith)
past_middle AddressTypeAbove2 l _ _ _ _ _ _ _ _ _ _ _ _ _ _ _ _ _ _ _ = absurd (omega arith)
past_middle AddressZero l _ _ _ _ _ _ _ _ _ _ _ _ _ _ _ _ _ _ _ = absurd (omega arith)
past_middle AddressNotStaticRandom l _ _ _ _ _ _ _ _ _ _ _ _ _ _ _ _ _ _ _ = absurd (omega arith)
past_middle AddressZeroNotBredr l _ _ _ _ _ _ _ _ _ _ _ _ _ _ _ _ _ _ _ = absurd (omega arith)
past_middle ValueAbove1 _ n _ _ _ _ _ _ _ _ _ _ _ _ _ _ _ _ _ _ = absurd (n refl)
past_middle ValueAbove2 _ _ n _ _ _ _ _ _ _ _ _ _ _ _ _ _ _ _ _ = absurd (n refl)
past_middle TimeoutWithValue0 _ _ _ n _ _ _ _ _ _ _ _ _ _ _ _ _ _ _ _ = absurd (n refl)
past_middle NoTimeoutWithValue2 _ _ _ _ n _ _ _ _ _ _ _ _ _ _ _ _ _ _ _ = absurd (n refl)
past_middle NameNotEnded _ _ _ _ _ n _ _ _ _ _ _ _ _ _ _ _ _ _ _ = absurd (n refl)
past_middle ShortNameNotEnded _ _ _ _ _ _ n _ _ _ _ _ _ _ _ _ _ _ _ _ = absurd (n refl)
past_middle UuidZero _ _ _ _ _ _ _ n _ _ _ _ _ _ _ _ _ _ _ _ = absurd (n refl)
past_middle DisconnectAbove1 _ _ _ _ _ _ _ _ n _ _ _ _ _ _ _ _ _ _ _ = absurd (n refl)
past_middle ActionAbove2 _ _ _ _ _ _ _ _ _ n _ _ _ _ _ _ _ _ _ _ = absurd (n refl)
past_middle ActionNot1ForBredr _ _ _ _ _ _ _ _ _ _ n _ _ _ _ _ _ _ _ _ = absurd (n refl)
past_middle InstanceNot1To5 _ _ _ _ _ _ _ _ _ _ _ n _ _ _ _ _ _ _ _ = absurd (n refl)
past_middle AdvertisingFlags _ _ _ _ _ _ _ _ _ _ _ _ n _ _ _ _ _ _ _ = absurd (n refl)
past_middle AdvDataAbove31 _ _ _ _ _ _ _ _ _ _ _ _ _ n _ _ _ _ _ _ = absurd (n refl)
past_middle ScanRspAbove31 _ _ _ _ _ _ _ _ _ _ _ _ _ _ n _ _ _ _ _ = absurd (n refl)
past_middle BredrNotSupported _ _ _ _ _ _ _ _ _ _ _ _ _ _ _ n _ _ _ _ = absurd (n refl)
past_middle LeNotSupported _ _ _ _ _ _ _ _ _ _ _ _ _ _ _ _ n _ _ _ = absurd (n refl)
past_middle DiscoverableTimeoutUnpowered _ _ _ _ _ _ _ _ _ _ _ _ _ _ _ _ _ n _ _ = absurd (n refl)
past_middle Unpowered _ _ _ _ _ _ _ _ _ _ _ _ _ _ _ _ _ _ n _ = absurd (n refl)
past_middle NoAddressForPower _ _ _ _ _ _ _ _ _ _ _ _ _ _ _ _ _ _ _ n = absurd (n refl)
past_middle NotConnectable _ _ _ _ _ _ _ _ _ _ _ _ _ _ _ _ _ _ _ _ = lit≤ tt
past_middle BredrOff _ _ _ _ _ _ _ _ _ _ _ _ _ _ _ _ _ _ _ _ = lit≤ tt
past_middle LowEnergyNeeded _ _ _ _ _ _ _ _ _ _ _ _ _ _ _ _ _ _ _ _ = lit≤ tt
past_middle PoweredForBredrOff _ _ _ _ _ _ _ _ _ _ _ _ _ _ _ _ _ _ _ _ = lit≤ tt
past_middle StaticAddressForBredr _ _ _ _ _ _ _ _ _ _ _ _ _ _ _ _ _ _ _ _ = lit≤ tt
past_middle PoweredForStaticAddress _ _ _ _ _ _ _ _ _ _ _ _ _ _ _ _ _ _ _ _ = lit≤ tt
past_middle LowEnergyOff _ _ _ _ _ _ _ _ _ _ _ _ _ _ _ _ _ _ _ _ = lit≤ tt
past_middle AdvertisingTimeoutUnpowered _ _ _ _ _ _ _ _ _ _ _ _ _ _ _ _ _ _ _ _ = lit≤ tt
past_middle NoFreeSlot _ _ _ _ _ _ _ _ _ _ _ _ _ _ _ _ _ _ _ _ = lit≤ tt
past_middle UuidAbsent _ _ _ _ _ _ _ _ _ _ _ _ _ _ _ _ _ _ _ _ = lit≤ tt
past_middle NoKeyOfDevice _ _ _ _ _ _ _ _ _ _ _ _ _ _ _ _ _ _ _ _ = lit≤ tt
past_middle AlreadyBlocked _ _ _ _ _ _ _ _ _ _ _ _ _ _ _ _ _ _ _ _ = lit≤ tt
past_middle NotBlocked _ _ _ _ _ _ _ _ _ _ _ _ _ _ _ _ _ _ _ _ = lit≤ tt
past_middle DeviceAbsent _ _ _ _ _ _ _ _ _ _ _ _ _ _ _ _ _ _ _ _ = lit≤ tt
past_middle InstanceAbsent _ _ _ _ _ _ _ _ _ _ _ _ _ _ _ _ _ _ _ _ = lit≤ tt

-- past the last arms there is none
pub past_last : {A : Type 0} (r : Reason) → 36 ≤ order r → (r ≡ NotConnectable → ⊥) → (r ≡ BredrOff → ⊥) → (r ≡ LowEnergyNeeded → ⊥) → (r ≡
    PoweredForBredrOff → ⊥) → (r ≡ StaticAddressForBredr → ⊥) → (r ≡ PoweredForStaticAddress → ⊥) → (r ≡ LowEnergyOff → ⊥) → (r ≡
    AdvertisingTimeoutUnpowered → ⊥) → (r ≡ NoFreeSlot → ⊥) → (r ≡ UuidAbsent → ⊥) → (r ≡ NoKeyOfDevice → ⊥) → (r ≡ AlreadyBlocked → ⊥) → (r ≡ NotBlocked
    → ⊥) → (r ≡ DeviceAbsent → ⊥) → (r ≡ InstanceAbsent → ⊥) → A
unfolding order
past_last CodeUnknown l _ _ _ _ _ _ _ _ _ _ _ _ _ _ _ = absurd (omega arith)
past_last IndexNotNone l _ _ _ _ _ _ _ _ _ _ _ _ _ _ _ = absurd (omega arith)
past_last ControllerAbsent l _ _ _ _ _ _ _ _ _ _ _ _ _ _ _ = absurd (omega arith)
past_last LengthWrong l _ _ _ _ _ _ _ _ _ _ _ _ _ _ _ = absurd (omega arith)
past_last CountAbove32 l _ _ _ _ _ _ _ _ _ _ _ _ _ _ _ = absurd (omega arith)
past_last DebugFlagAbove1 l _ _ _ _ _ _ _ _ _ _ _ _ _ _ _ = absurd (omega arith)
past_last KeyTypeAbove8 l _ _ _ _ _ _ _ _ _ _ _ _ _ _ _ = absurd (omega arith)
past_last KeyTypeAbove4 l _ _ _ _ _ _ _ _ _ _ _ _ _ _ _ = absurd (omega arith)
past_last MasterAbove1 l _ _ _ _ _ _ _ _ _ _ _ _ _ _ _ = absurd (omega arith)
past_last KeySizeNot7To16 l _ _ _ _ _ _ _ _ _ _ _ _ _ _ _ = absurd (omega arith)
past_last RecordRepeated l _ _ _ _ _ _ _ _ _ _ _ _ _ _ _ = absurd (omega arith)
past_last AddressTypeNotBredr l _ _ _ _ _ _ _ _ _ _ _ _ _ _ _ = absurd (omega arith)
past_last AddressTypeNotLe l _ _ _ _ _ _ _ _ _ _ _ _ _ _ _ = absurd (omega arith)
past_last AddressTypeAbove2 l _ _ _ _ _ _ _ _ _ _ _ _ _ _ _ = absurd (omega arith)
past_last AddressZero l _ _ _ _ _ _ _ _ _ _ _ _ _ _ _ = absurd (omega arith)
past_last AddressNotStaticRandom l _ _ _ _ _ _ _ _ _ _ _ _ _ _ _ = absurd (omega arith)
past_last AddressZeroNotBredr l _ _ _ _ _ _ _ _ _ _ _ _ _ _ _ = absurd (omega arith)
past_last ValueAbove1 l _ _ _ _ _ _ _ _ _ _ _ _ _ _ _ = absurd (omega arith)
past_last ValueAbove2 l _ _ _ _ _ _ _ _ _ _ _ _ _ _ _ = absurd (omega arith)
past_last TimeoutWithValue0 l _ _ _ _ _ _ _ _ _ _ _ _ _ _ _ = absurd (omega arith)
past_last NoTimeoutWithValue2 l _ _ _ _ _ _ _ _ _ _ _ _ _ _ _ = absurd (omega arith)
past_last NameNotEnded l _ _ _ _ _ _ _ _ _ _ _ _ _ _ _ = absurd (omega arith)
past_last ShortNameNotEnded l _ _ _ _ _ _ _ _ _ _ _ _ _ _ _ = absurd (omega arith)
past_last UuidZero l _ _ _ _ _ _ _ _ _ _ _ _ _ _ _ = absurd (omega arith)
past_last DisconnectAbove1 l _ _ _ _ _ _ _ _ _ _ _ _ _ _ _ = absurd (omega arith)
past_last ActionAbove2 l _ _ _ _ _ _ _ _ _ _ _ _ _ _ _ = absurd (omega arith)
past_last ActionNot1ForBredr l _ _ _ _ _ _ _ _ _ _ _ _ _ _ _ = absurd (omega arith)
past_last InstanceNot1To5 l _ _ _ _ _ _ _ _ _ _ _ _ _ _ _ = absurd (omega arith)
past_last AdvertisingFlags l _ _ _ _ _ _ _ _ _ _ _ _ _ _ _ = absurd (omega arith)
past_last AdvDataAbove31 l _ _ _ _ _ _ _ _ _ _ _ _ _ _ _ = absurd (omega arith)
past_last ScanRspAbove31 l _ _ _ _ _ _ _ _ _ _ _ _ _ _ _ = absurd (omega arith)
past_last BredrNotSupported l _ _ _ _ _ _ _ _ _ _ _ _ _ _ _ = absurd (omega arith)
past_last LeNotSupported l _ _ _ _ _ _ _ _ _ _ _ _ _ _ _ = absurd (omega arith)
past_last DiscoverableTimeoutUnpowered l _ _ _ _ _ _ _ _ _ _ _ _ _ _ _ = absurd (omega arith)
past_last Unpowered l _ _ _ _ _ _ _ _ _ _ _ _ _ _ _ = absurd (omega arith)
past_last NoAddressForPower l _ _ _ _ _ _ _ _ _ _ _ _ _ _ _ = absurd (omega arith)
past_last NotConnectable _ n _ _ _ _ _ _ _ _ _ _ _ _ _ _ = absurd (n refl)
past_last BredrOff _ _ n _ _ _ _ _ _ _ _ _ _ _ _ _ = absurd (n refl)
past_last LowEnergyNeeded _ _ _ n _ _ _ _ _ _ _ _ _ _ _ _ = absurd (n refl)
past_last PoweredForBredrOff _ _ _ _ n _ _ _ _ _ _ _ _ _ _ _ = absurd (n refl)
past_last StaticAddressForBredr _ _ _ _ _ n _ _ _ _ _ _ _ _ _ _ = absurd (n refl)
past_last PoweredForStaticAddress _ _ _ _ _ _ n _ _ _ _ _ _ _ _ _ = absurd (n refl)
past_last LowEnergyOff _ _ _ _ _ _ _ n _ _ _ _ _ _ _ _ = absurd (n refl)
past_last AdvertisingTimeoutUnpowered _ _ _ _ _ _ _ _ n _ _ _ _ _ _ _ = absurd (n refl)
past_last NoFreeSlot _ _ _ _ _ _ _ _ _ n _ _ _ _ _ _ = absurd (n refl)
past_last UuidAbsent _ _ _ _ _ _ _ _ _ _ n _ _ _ _ _ = absurd (n refl)
past_last NoKeyOfDevice _ _ _ _ _ _ _ _ _ _ _ n _ _ _ _ = absurd (n refl)
past_last AlreadyBlocked _ _ _ _ _ _ _ _ _ _ _ _ n _ _ _ = absurd (n refl)
past_last NotBlocked _ _ _ _ _ _ _ _ _ _ _ _ _ n _ _ = absurd (n refl)
past_last DeviceAbsent _ _ _ _ _ _ _ _ _ _ _ _ _ _ n _ = absurd (n refl)
past_last InstanceAbsent _ _ _ _ _ _ _ _ _ _ _ _ _ _ _ n = absurd (n refl)
