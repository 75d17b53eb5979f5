-- The reasons numbered as the model lists them: the functions that write the conditions take a third of them each.
use Rattle.std.specs.Prelude.{ℕ}
use Rattle.model.specs.declared.Reason.{Reason}
use Rattle.model.specs.declared.Reason.TheVariants.{CodeUnknown, IndexNotNone, ControllerAbsent, LengthWrong, CountAbove32, DebugFlagAbove1, KeyTypeAbove8}
use Rattle.model.specs.declared.Reason.TheVariants.{KeyTypeAbove4, MasterAbove1, KeySizeNot7To16, RecordRepeated, AddressTypeNotBredr, AddressTypeNotLe}
use Rattle.model.specs.declared.Reason.TheVariants.{AddressTypeAbove2, AddressZero, AddressNotStaticRandom, AddressZeroNotBredr, ValueAbove1, ValueAbove2}
use Rattle.model.specs.declared.Reason.TheVariants.{TimeoutWithValue0, NoTimeoutWithValue2, NameNotEnded, ShortNameNotEnded, UuidZero, DisconnectAbove1}
use Rattle.model.specs.declared.Reason.TheVariants.{ActionAbove2, ActionNot1ForBredr, InstanceNot1To5, AdvertisingFlags, AdvDataAbove31, ScanRspAbove31}
use Rattle.model.specs.declared.Reason.TheVariants.{BredrNotSupported, LeNotSupported, DiscoverableTimeoutUnpowered, Unpowered, NoAddressForPower}
use Rattle.model.specs.declared.Reason.TheVariants.{NotConnectable, BredrOff, LowEnergyNeeded, PoweredForBredrOff, StaticAddressForBredr}
use Rattle.model.specs.declared.Reason.TheVariants.{PoweredForStaticAddress, LowEnergyOff, AdvertisingTimeoutUnpowered}
use Rattle.model.specs.declared.Reason.TheVariants.{NoFreeSlot, UuidAbsent, NoKeyOfDevice, AlreadyBlocked, NotBlocked, DeviceAbsent, InstanceAbsent}

-- the place of a reason in the model's list
unfoldable pub order : Reason → ℕ
order CodeUnknown = 0
order IndexNotNone = 1
order ControllerAbsent = 2
order LengthWrong = 3
order CountAbove32 = 4
order DebugFlagAbove1 = 5
order KeyTypeAbove8 = 6
order KeyTypeAbove4 = 7
order MasterAbove1 = 8
order KeySizeNot7To16 = 9
order RecordRepeated = 10
order AddressTypeNotBredr = 11
order AddressTypeNotLe = 12
order AddressTypeAbove2 = 13
order AddressZero = 14
order AddressNotStaticRandom = 15
order AddressZeroNotBredr = 16
order ValueAbove1 = 17
order ValueAbove2 = 18
order TimeoutWithValue0 = 19
order NoTimeoutWithValue2 = 20
order NameNotEnded = 21
order ShortNameNotEnded = 22
order UuidZero = 23
order DisconnectAbove1 = 24
order ActionAbove2 = 25
order ActionNot1ForBredr = 26
order InstanceNot1To5 = 27
order AdvertisingFlags = 28
order AdvDataAbove31 = 29
order ScanRspAbove31 = 30
order BredrNotSupported = 31
order LeNotSupported = 32
order DiscoverableTimeoutUnpowered = 33
order Unpowered = 34
order NoAddressForPower = 35
order NotConnectable = 36
order BredrOff = 37
order LowEnergyNeeded = 38
order PoweredForBredrOff = 39
order StaticAddressForBredr = 40
order PoweredForStaticAddress = 41
order LowEnergyOff = 42
order AdvertisingTimeoutUnpowered = 43
order NoFreeSlot = 44
order UuidAbsent = 45
order NoKeyOfDevice = 46
order AlreadyBlocked = 47
order NotBlocked = 48
order DeviceAbsent = 49
order InstanceAbsent = 50
