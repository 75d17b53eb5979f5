-- `wording::put_condition` meets its contract: the words of each reason are those of the definitions. What an arm asks for stands in one tuple.
use Rattle.why.specs.Spelling.{spelled}
use Rattle.why.specs.Wording.{condition}
use Rattle.wording.proofs.Order.{past_first}
use borrow.Author.Rules.{rules}
use Rattle.wording.proofs.put_condition.Goals as goal

pub returns-in-CodeUnknown : goal.returns-in-CodeUnknown
unfolding condition spelled
returns-in-CodeUnknown c = rw c.in-CodeUnknown.is c.put.ensures

pub returns-in-IndexNotNone : goal.returns-in-IndexNotNone
unfolding condition spelled
returns-in-IndexNotNone c = rw c.in-IndexNotNone.is c.put-in-IndexNotNone.ensures

pub returns-in-ControllerAbsent : goal.returns-in-ControllerAbsent
unfolding condition spelled
returns-in-ControllerAbsent c = rw c.in-ControllerAbsent.is c.put-in-ControllerAbsent.ensures

pub returns-in-LengthWrong : goal.returns-in-LengthWrong
unfolding condition spelled
returns-in-LengthWrong c = rw c.in-LengthWrong.is c.put-in-LengthWrong.ensures

pub returns-in-CountAbove32 : goal.returns-in-CountAbove32
unfolding condition spelled
returns-in-CountAbove32 c = rw c.in-CountAbove32.is c.put-in-CountAbove32.ensures

pub returns-in-DebugFlagAbove1 : goal.returns-in-DebugFlagAbove1
unfolding condition spelled
returns-in-DebugFlagAbove1 c = rw c.in-DebugFlagAbove1.is c.put-in-DebugFlagAbove1.ensures

pub returns-in-KeyTypeAbove8 : goal.returns-in-KeyTypeAbove8
unfolding condition spelled
returns-in-KeyTypeAbove8 c = rw c.in-KeyTypeAbove8.is c.put-in-KeyTypeAbove8.ensures

pub returns-in-KeyTypeAbove4 : goal.returns-in-KeyTypeAbove4
unfolding condition spelled
returns-in-KeyTypeAbove4 c = rw c.in-KeyTypeAbove4.is c.put-in-KeyTypeAbove4.ensures

pub returns-in-MasterAbove1 : goal.returns-in-MasterAbove1
unfolding condition spelled
returns-in-MasterAbove1 c = rw c.in-MasterAbove1.is c.put-in-MasterAbove1.ensures

pub returns-in-KeySizeNot7To16 : goal.returns-in-KeySizeNot7To16
unfolding condition spelled
returns-in-KeySizeNot7To16 c = rw c.in-KeySizeNot7To16.is c.put-in-KeySizeNot7To16.ensures

pub returns-in-RecordRepeated : goal.returns-in-RecordRepeated
unfolding condition spelled
returns-in-RecordRepeated c = rw c.in-RecordRepeated.is c.put-in-RecordRepeated.ensures

pub returns-in-AddressTypeNotBredr : goal.returns-in-AddressTypeNotBredr
unfolding condition spelled
returns-in-AddressTypeNotBredr c = rw c.in-AddressTypeNotBredr.is c.put-in-AddressTypeNotBredr.ensures

pub returns-in-AddressTypeNotLe : goal.returns-in-AddressTypeNotLe
unfolding condition spelled
returns-in-AddressTypeNotLe c = rw c.in-AddressTypeNotLe.is c.put-in-AddressTypeNotLe.ensures

pub returns-in-AddressTypeAbove2 : goal.returns-in-AddressTypeAbove2
unfolding condition spelled
returns-in-AddressTypeAbove2 c = rw c.in-AddressTypeAbove2.is c.put-in-AddressTypeAbove2.ensures

pub returns-in-AddressZero : goal.returns-in-AddressZero
unfolding condition spelled
returns-in-AddressZero c = rw c.in-AddressZero.is c.put-in-AddressZero.ensures

pub returns-in-AddressNotStaticRandom : goal.returns-in-AddressNotStaticRandom
unfolding condition spelled
returns-in-AddressNotStaticRandom c = rw c.in-AddressNotStaticRandom.is c.put-in-AddressNotStaticRandom.ensures

pub returns-in-AddressZeroNotBredr : goal.returns-in-AddressZeroNotBredr
unfolding condition spelled
returns-in-AddressZeroNotBredr c = rw c.in-AddressZeroNotBredr.is c.put-in-AddressZeroNotBredr.ensures

pub put_middle_condition-requires : goal.put_middle_condition-requires
put_middle_condition-requires c = (search rules, past_first _ c.in_default.not-CodeUnknown c.in_default.not-IndexNotNone c.in_default.not-ControllerAbsent c.in_default.not-LengthWrong c.in_default.not-CountAbove32 c.in_default.not-DebugFlagAbove1 c.in_default.not-KeyTypeAbove8 c.in_default.not-KeyTypeAbove4 c.in_default.not-MasterAbove1 c.in_default.not-KeySizeNot7To16 c.in_default.not-RecordRepeated c.in_default.not-AddressTypeNotBredr c.in_default.not-AddressTypeNotLe c.in_default.not-AddressTypeAbove2 c.in_default.not-AddressZero c.in_default.not-AddressNotStaticRandom c.in_default.not-AddressZeroNotBredr)

pub returns-in_default : goal.returns-in_default
returns-in_default c = c.put_middle_condition.ensures
