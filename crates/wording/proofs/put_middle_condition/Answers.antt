-- `wording::put_middle_condition` meets its contract: the words of each reason are those of the definitions. What an arm asks for stands in one tuple.
use Rattle.why.specs.Spelling.{spelled}
use Rattle.why.specs.Wording.{condition}
use Rattle.wording.proofs.Order.{past_middle}
use borrow.Author.Rules.{rules}
use Rattle.wording.proofs.put_middle_condition.Goals as goal

pub returns-in-ValueAbove1 : goal.returns-in-ValueAbove1
unfolding condition spelled
returns-in-ValueAbove1 c = rw c.in-ValueAbove1.is c.put.ensures

pub returns-in-ValueAbove2 : goal.returns-in-ValueAbove2
unfolding condition spelled
returns-in-ValueAbove2 c = rw c.in-ValueAbove2.is c.put-in-ValueAbove2.ensures

pub returns-in-TimeoutWithValue0 : goal.returns-in-TimeoutWithValue0
unfolding condition spelled
returns-in-TimeoutWithValue0 c = rw c.in-TimeoutWithValue0.is c.put-in-TimeoutWithValue0.ensures

pub returns-in-NoTimeoutWithValue2 : goal.returns-in-NoTimeoutWithValue2
unfolding condition spelled
returns-in-NoTimeoutWithValue2 c = rw c.in-NoTimeoutWithValue2.is c.put-in-NoTimeoutWithValue2.ensures

pub returns-in-NameNotEnded : goal.returns-in-NameNotEnded
unfolding condition spelled
returns-in-NameNotEnded c = rw c.in-NameNotEnded.is c.put-in-NameNotEnded.ensures

pub returns-in-ShortNameNotEnded : goal.returns-in-ShortNameNotEnded
unfolding condition spelled
returns-in-ShortNameNotEnded c = rw c.in-ShortNameNotEnded.is c.put-in-ShortNameNotEnded.ensures

pub returns-in-UuidZero : goal.returns-in-UuidZero
unfolding condition spelled
returns-in-UuidZero c = rw c.in-UuidZero.is c.put-in-UuidZero.ensures

pub returns-in-DisconnectAbove1 : goal.returns-in-DisconnectAbove1
unfolding condition spelled
returns-in-DisconnectAbove1 c = rw c.in-DisconnectAbove1.is c.put-in-DisconnectAbove1.ensures

pub returns-in-ActionAbove2 : goal.returns-in-ActionAbove2
unfolding condition spelled
returns-in-ActionAbove2 c = rw c.in-ActionAbove2.is c.put-in-ActionAbove2.ensures

pub returns-in-ActionNot1ForBredr : goal.returns-in-ActionNot1ForBredr
unfolding condition spelled
returns-in-ActionNot1ForBredr c = rw c.in-ActionNot1ForBredr.is c.put-in-ActionNot1ForBredr.ensures

pub returns-in-InstanceNot1To5 : goal.returns-in-InstanceNot1To5
unfolding condition spelled
returns-in-InstanceNot1To5 c = rw c.in-InstanceNot1To5.is c.put-in-InstanceNot1To5.ensures

pub returns-in-AdvertisingFlags : goal.returns-in-AdvertisingFlags
unfolding condition spelled
returns-in-AdvertisingFlags c = rw c.in-AdvertisingFlags.is c.put-in-AdvertisingFlags.ensures

pub returns-in-AdvDataAbove31 : goal.returns-in-AdvDataAbove31
unfolding condition spelled
returns-in-AdvDataAbove31 c = rw c.in-AdvDataAbove31.is c.put-in-AdvDataAbove31.ensures

pub returns-in-ScanRspAbove31 : goal.returns-in-ScanRspAbove31
unfolding condition spelled
returns-in-ScanRspAbove31 c = rw c.in-ScanRspAbove31.is c.put-in-ScanRspAbove31.ensures

pub returns-in-BredrNotSupported : goal.returns-in-BredrNotSupported
unfolding condition spelled
returns-in-BredrNotSupported c = rw c.in-BredrNotSupported.is c.put-in-BredrNotSupported.ensures

pub returns-in-LeNotSupported : goal.returns-in-LeNotSupported
unfolding condition spelled
returns-in-LeNotSupported c = rw c.in-LeNotSupported.is c.put-in-LeNotSupported.ensures

pub returns-in-DiscoverableTimeoutUnpowered : goal.returns-in-DiscoverableTimeoutUnpowered
unfolding condition spelled
returns-in-DiscoverableTimeoutUnpowered c = rw c.in-DiscoverableTimeoutUnpowered.is c.put-in-DiscoverableTimeoutUnpowered.ensures

pub returns-in-Unpowered : goal.returns-in-Unpowered
unfolding condition spelled
returns-in-Unpowered c = rw c.in-Unpowered.is c.put-in-Unpowered.ensures

pub returns-in-NoAddressForPower : goal.returns-in-NoAddressForPower
unfolding condition spelled
returns-in-NoAddressForPower c = rw c.in-NoAddressForPower.is c.put-in-NoAddressForPower.ensures

pub put_last_condition-requires : goal.put_last_condition-requires
put_last_condition-requires c = (search rules, past_middle _ c.requires.1 c.in_default.not-ValueAbove1 c.in_default.not-ValueAbove2 c.in_default.not-TimeoutWithValue0 c.in_default.not-NoTimeoutWithValue2 c.in_default.not-NameNotEnded c.in_default.not-ShortNameNotEnded c.in_default.not-UuidZero c.in_default.not-DisconnectAbove1 c.in_default.not-ActionAbove2 c.in_default.not-ActionNot1ForBredr c.in_default.not-InstanceNot1To5 c.in_default.not-AdvertisingFlags c.in_default.not-AdvDataAbove31 c.in_default.not-ScanRspAbove31 c.in_default.not-BredrNotSupported c.in_default.not-LeNotSupported c.in_default.not-DiscoverableTimeoutUnpowered c.in_default.not-Unpowered c.in_default.not-NoAddressForPower)

pub returns-in_default : goal.returns-in_default
returns-in_default c = c.put_last_condition.ensures
