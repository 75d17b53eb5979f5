-- The answers of a call, once: the number of each, the count of octets that comes with it, and the offset that comes with a fault of an image (01, What a
-- call answers; 8: 02, E7; 9: 02, E6; 71 to 77: 02, E8). The model's results and the contracts of the code are both said by these.
use Rattle.std.specs.Prelude.{ℕ}
pub use Rattle.model.specs.declared.Answer.{Answer}
pub use Rattle.model.specs.declared.Answer.TheVariants.{Done, Started, Refused, BadPacket, SmallBuffer, BadState, BadArgument, BadImage, NotInImage, Incomplete}
use Rattle.model.specs.declared.ImageFault.{ImageFault}
use Rattle.model.specs.declared.ImageFault.TheVariants.{BadLength, BadVersion, BadIndex, BadField, BadCount, BadRecord, Repeated}

-- the number of what is wrong with an image (02, E8)
abbrev pub fault_number : ImageFault → ℕ
fault_number BadLength = 71
fault_number BadVersion = 72
fault_number BadIndex = 73
fault_number BadField = 74
fault_number BadCount = 75
fault_number BadRecord = 76
fault_number Repeated = 77

-- the number of an answer
abbrev pub number_of : Answer → ℕ
number_of (Done n) = 0
number_of Started = 1
number_of (Refused n) = 2
number_of BadPacket = 3
number_of SmallBuffer = 4
number_of BadState = 5
number_of BadArgument = 6
number_of (BadImage k at) = fault_number k
number_of NotInImage = 8
number_of Incomplete = 9

-- the count of octets written: only a call that is done or refused writes any
abbrev pub count_of : Answer → ℕ
count_of (Done n) = n
count_of Started = 0
count_of (Refused n) = n
count_of BadPacket = 0
count_of SmallBuffer = 0
count_of BadState = 0
count_of BadArgument = 0
count_of (BadImage k at) = 0
count_of NotInImage = 0
count_of Incomplete = 0

-- the offset told: of a fault of an image where that begins, with any other answer 0 (02, E8)
abbrev pub offset_of : Answer → ℕ
offset_of (Done n) = 0
offset_of Started = 0
offset_of (Refused n) = 0
offset_of BadPacket = 0
offset_of SmallBuffer = 0
offset_of BadState = 0
offset_of BadArgument = 0
offset_of (BadImage k at) = at
offset_of NotInImage = 0
offset_of Incomplete = 0
