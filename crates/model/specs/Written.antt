-- What a call writes with each of its answers: the column of 01's table of answers that says so, as a claim over number and octets.
use Rattle.std.specs.Prelude.{ℕ, ◌+◌, ◌*◌, ◌≤◌, ◌≡◌, Bool, true, false, ◌||◌, [], length, take, eqb}
use Rattle.model.specs.Lengths as Lengths
use Rattle.model.specs.Statuses as Statuses
use Rattle.model.specs.Codes as Codes
use Rattle.model.specs.Octets.{Octets, command_complete, command_status}
use Rattle.model.specs.declared.ImageFault.{ImageFault}
use Rattle.model.specs.Answers.{number_of, Done, Started, Refused, BadPacket, SmallBuffer, BadState, BadArgument, BadImage, NotInImage}
use Rattle.model.specs.Reasons.{Reason, status_of, CodeUnknown, ControllerAbsent, IndexNotNone, LengthWrong}
use Rattle.model.specs.Hub.{Call, command, report, clock, plug, unplug, save, code_of, index_of, params_of}

-- the octets of reply buffer that a call asks for, whatever it will write (01, What a call answers, 4)
unfoldable pub room_of : Call → ℕ
room_of (command room packet) = Lengths.reply_buffer
room_of (report room i s) = Lengths.reply_buffer
room_of (clock room reading) = Lengths.reply_buffer
room_of (plug room i f) = Lengths.reply_buffer
room_of (unplug room i) = Lengths.reply_buffer
room_of (save room) = Lengths.largest_image

-- the five address commands: Unpair Device, Block Device, Unblock Device, Add Device, Remove Device (01, Order inside a command)
unfoldable pub address_command : ℕ → Bool
address_command code =
    eqb code Codes.unpair_device
    || (eqb code Codes.block_device
    || (eqb code Codes.unblock_device
    || (eqb code Codes.add_device
    || eqb code Codes.remove_device)))

-- the six settings commands that can be Busy (01, Commands, paragraph on settings; 02, E5)
unfoldable pub busy_command : ℕ → Bool
busy_command code =
    eqb code Codes.set_powered
    || (eqb code Codes.set_discoverable
    || (eqb code Codes.set_connectable
    || (eqb code Codes.set_low_energy
    || (eqb code Codes.set_bredr
    || eqb code Codes.set_static_address))))

-- the reasons that stand before all others: code, index, length of the parameters (01, Order inside a command)
pub data UpToLength : Reason → Type 0 where
  unknown_code : UpToLength CodeUnknown
  wrong_index : UpToLength IndexNotNone
  no_controller : UpToLength ControllerAbsent
  wrong_length : UpToLength LengthWrong

-- The one reply to a refused command, with the code and index of its packet (01, Order inside a command).
pub data StatusReply (packet : Octets) : Octets → Type 0 where
  -- Command Status with the status of a reason, of a command that is no address command
  by_command_status : (r : Reason) → address_command (code_of packet) ≡ false
      → StatusReply packet (command_status (index_of packet) (code_of packet) (status_of r))
  -- Command Status of any command, for its code, its index or its length
  up_to_length : {r : Reason} → UpToLength r → StatusReply packet (command_status (index_of packet) (code_of packet) (status_of r))
  -- Command Complete with the address and type of the packet, only of an address command
  by_command_complete : (r : Reason) → address_command (code_of packet) ≡ true
      → StatusReply packet (command_complete (index_of packet) (code_of packet) (status_of r) (take 7 (params_of packet)))
  -- Busy, only of a settings command that can be
  busy : busy_command (code_of packet) ≡ true → StatusReply packet (command_status (index_of packet) (code_of packet) Statuses.busy)

-- the calls whose arguments can be wrong: report, clock, plug, unplug (01, What a call answers, row 6)
unfoldable pub has_argument : Call → Bool
has_argument (command room packet) = false
has_argument (report room i s) = true
has_argument (clock room reading) = true
has_argument (plug room i f) = true
has_argument (unplug room i) = true
has_argument (save room) = false

-- what a call that is refused writes: the call is a command, and its one reply is all
pub data OneReply : Call → Octets → Type 0 where
  of_command : {room : ℕ} {packet o : Octets} → StatusReply packet o → OneReply (command room packet) o

-- What a call may write with the number it answers. Only a command is started or refused, and only a command's packet is bad.
pub data Written : Call → ℕ → Octets → Type 0 where
  -- 0: what its rule gives
  done : {c : Call} {o : Octets} → Written c (number_of (Done (length o))) o
  -- 1: nothing
  started : {room : ℕ} {packet : Octets} → Written (command room packet) (number_of Started) []
  -- 2: one status reply
  refused : {room : ℕ} {packet o : Octets} → StatusReply packet o → Written (command room packet) (number_of (Refused (length o))) o
  -- 3: nothing
  bad_packet : {room : ℕ} {packet : Octets} → Written (command room packet) (number_of BadPacket) []
  -- 4, 5 and 6: nothing
  small_buffer : {c : Call} → Written c (number_of SmallBuffer) []
  bad_state : {c : Call} → Written c (number_of BadState) []
  bad_argument : {c : Call} → has_argument c ≡ true → Written c (number_of BadArgument) []

-- what is answered to a host that reads beside the calls, and what is written: what it asked for, or nothing
pub data ReadAnswer : ℕ → Octets → Type 0 where
  told : {o : Octets} → ReadAnswer (number_of (Done (length o))) o
  no_room : ReadAnswer (number_of SmallBuffer) []
  bad_state : ReadAnswer (number_of BadState) []
  wrong : ReadAnswer (number_of BadArgument) []

-- what is answered to a host that looks a record up, and the number it is told beside it: slot and slots walked, each at most 32, or 0
pub data LookUpAnswer : ℕ → ℕ → Type 0 where
  told : {slot walked : ℕ} → slot ≤ 32 → walked ≤ 32 → LookUpAnswer (number_of (Done 0)) (slot + 256 * walked)
  bad_state : LookUpAnswer (number_of BadState) 0
  wrong : LookUpAnswer (number_of BadArgument) 0

-- what a move of an image of n octets answers, the offset that comes with it, and what is written: an image, or nothing; 8 only where it goes back to
-- version 1, an offset only with 71 to 77, and then one in the image or at its end
pub data MoveAnswer (n : ℕ) : (back : Bool) → (answer offset : ℕ) → Octets → Type 0 where
  moved : {back : Bool} {o : Octets} → MoveAnswer n back (number_of (Done (length o))) 0 o
  no_room : {back : Bool} → MoveAnswer n back (number_of SmallBuffer) 0 []
  bad_image : {back : Bool} (k : ImageFault) (at : ℕ) → at ≤ n → MoveAnswer n back (number_of (BadImage k at)) at []
  not_in_image : MoveAnswer n true (number_of NotInImage) 0 []

-- what load of an image of n octets answers, and the offset that comes with it: done, a state buffer of another length, or an image that it does not take
pub data LoadAnswer (n : ℕ) : (answer offset : ℕ) → Type 0 where
  loaded : LoadAnswer n (number_of (Done 0)) 0
  bad_state : LoadAnswer n (number_of BadState) 0
  bad_image : (k : ImageFault) (at : ℕ) → at ≤ n → LoadAnswer n (number_of (BadImage k at)) at
