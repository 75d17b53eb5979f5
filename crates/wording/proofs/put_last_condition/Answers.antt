-- `wording::put_last_condition` meets its contract: the words of each reason are those of the definitions. What an arm asks for stands in one tuple.
use Rattle.why.specs.Spelling.{spelled}
use Rattle.why.specs.Wording.{condition}
use Rattle.wording.proofs.Order.{past_last}
use Rattle.wording.proofs.put_last_condition.Goals as goal

pub returns-in-NotConnectable : goal.returns-in-NotConnectable
unfolding condition spelled
returns-in-NotConnectable c = rw c.in-NotConnectable.is c.put.ensures

pub returns-in-BredrOff : goal.returns-in-BredrOff
unfolding condition spelled
returns-in-BredrOff c = rw c.in-BredrOff.is c.put-in-BredrOff.ensures

pub returns-in-LowEnergyNeeded : goal.returns-in-LowEnergyNeeded
unfolding condition spelled
returns-in-LowEnergyNeeded c = rw c.in-LowEnergyNeeded.is c.put-in-LowEnergyNeeded.ensures

pub returns-in-PoweredForBredrOff : goal.returns-in-PoweredForBredrOff
unfolding condition spelled
returns-in-PoweredForBredrOff c = rw c.in-PoweredForBredrOff.is c.put-in-PoweredForBredrOff.ensures

pub returns-in-StaticAddressForBredr : goal.returns-in-StaticAddressForBredr
unfolding condition spelled
returns-in-StaticAddressForBredr c = rw c.in-StaticAddressForBredr.is c.put-in-StaticAddressForBredr.ensures

pub returns-in-PoweredForStaticAddress : goal.returns-in-PoweredForStaticAddress
unfolding condition spelled
returns-in-PoweredForStaticAddress c = rw c.in-PoweredForStaticAddress.is c.put-in-PoweredForStaticAddress.ensures

pub returns-in-LowEnergyOff : goal.returns-in-LowEnergyOff
unfolding condition spelled
returns-in-LowEnergyOff c = rw c.in-LowEnergyOff.is c.put-in-LowEnergyOff.ensures

pub returns-in-AdvertisingTimeoutUnpowered : goal.returns-in-AdvertisingTimeoutUnpowered
unfolding condition spelled
returns-in-AdvertisingTimeoutUnpowered c = rw c.in-AdvertisingTimeoutUnpowered.is c.put-in-AdvertisingTimeoutUnpowered.ensures

pub returns-in-NoFreeSlot : goal.returns-in-NoFreeSlot
unfolding condition spelled
returns-in-NoFreeSlot c = rw c.in-NoFreeSlot.is c.put-in-NoFreeSlot.ensures

pub returns-in-UuidAbsent : goal.returns-in-UuidAbsent
unfolding condition spelled
returns-in-UuidAbsent c = rw c.in-UuidAbsent.is c.put-in-UuidAbsent.ensures

pub returns-in-NoKeyOfDevice : goal.returns-in-NoKeyOfDevice
unfolding condition spelled
returns-in-NoKeyOfDevice c = rw c.in-NoKeyOfDevice.is c.put-in-NoKeyOfDevice.ensures

pub returns-in-AlreadyBlocked : goal.returns-in-AlreadyBlocked
unfolding condition spelled
returns-in-AlreadyBlocked c = rw c.in-AlreadyBlocked.is c.put-in-AlreadyBlocked.ensures

pub returns-in-NotBlocked : goal.returns-in-NotBlocked
unfolding condition spelled
returns-in-NotBlocked c = rw c.in-NotBlocked.is c.put-in-NotBlocked.ensures

pub returns-in-DeviceAbsent : goal.returns-in-DeviceAbsent
unfolding condition spelled
returns-in-DeviceAbsent c = rw c.in-DeviceAbsent.is c.put-in-DeviceAbsent.ensures

pub returns-in-InstanceAbsent : goal.returns-in-InstanceAbsent
unfolding condition spelled
returns-in-InstanceAbsent c = rw c.in-InstanceAbsent.is c.put-in-InstanceAbsent.ensures

pub returns-in_default : goal.returns-in_default
returns-in_default c = past_last _ c.requires.1 c.in_default.not-NotConnectable c.in_default.not-BredrOff c.in_default.not-LowEnergyNeeded c.in_default.not-PoweredForBredrOff c.in_default.not-StaticAddressForBredr c.in_default.not-PoweredForStaticAddress c.in_default.not-LowEnergyOff c.in_default.not-AdvertisingTimeoutUnpowered c.in_default.not-NoFreeSlot c.in_default.not-UuidAbsent c.in_default.not-NoKeyOfDevice c.in_default.not-AlreadyBlocked c.in_default.not-NotBlocked c.in_default.not-DeviceAbsent c.in_default.not-InstanceAbsent
