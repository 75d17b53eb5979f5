-- Packets straight off the serial line (02, E6). The line is read in lumps, octets as they happen to come: a lump can be empty, end inside a packet, or reach
-- into the next one. Those of the packet that is coming in wait beside the open commands; with its last octet our hub is given the packet as one command.
use Rattle.std.specs.Prelude.{ℕ, ◌+◌, ◌-◌, min, Bool, true, false, [], ◌++◌, length, take, replicate, leb, ltb}
use Rattle.model.specs.Lengths as Lengths
use Rattle.model.specs.Octets.{Octets, u16}
use Rattle.model.specs.State.{Hub, Waiting, nothing_waits, with_waiting}
use Rattle.model.specs.Answers.{number_of, Incomplete}
use Rattle.model.specs.Hub.{Call, Result, call, command, keep, no_room}

-- What a host calls: one of the calls of Hub.antt, or a lump with the length of the reply buffer. The at-once hub is given no lumps: of a list only the
-- packets count that they finish, each as a command (02, E6; Demand3.antt).
pub data HostCall : Type 0 where
  direct : Call → HostCall
  stream : (room : ℕ) (octets : Octets) → HostCall

-- How long a packet is that begins so: the header, and as many octets of parameters as its length field says. Octets that are not there yet are read as
-- zero, so that this is more than there are as long as the header is not whole.
unfoldable pub length_said : Octets → ℕ
length_said o = 6 + u16 o 4

-- how many are kept of n octets of a packet that begins so: all of them, but of a packet over 1,160 octets only the first ten (02, E6)
unfoldable pub kept_count : ℕ → Octets → ℕ
kept_count n o = elim (ltb Lengths.longest_kept (length_said o)) [ true ↦ min Lengths.long_head n | false ↦ n ]

-- what waits when n octets were taken of a packet that begins so
unfoldable pub waiting_at : ℕ → Octets → Waiting
waiting_at n o = record { taken = n; kept = take (kept_count n o) o }

-- what waits when these are taken too
unfoldable pub grown : Waiting → Octets → Waiting
grown w o = waiting_at (w.taken + length o) (w.kept ++ o)

-- how many octets of a lump are taken: all, or those up to the end of the packet (02, E6)
unfoldable pub takes : Waiting → Octets → ℕ
takes w o = min (length o) (length_said (w.kept ++ o) - w.taken)

-- the last octet of the packet is there
unfoldable pub complete : Waiting → Bool
complete w = leb (length_said w.kept) w.taken

-- The packet, with zeros for the octets that were not kept: nothing depends on them (Theorems.antt, long-packet).
unfoldable pub packet_in : Waiting → Octets
packet_in w = w.kept ++ replicate (w.taken - length w.kept) 0

-- what comes of a lump: how many of its octets were taken; and answer, octets written and state
pub record Streamed (S : Type 0) : Type 0 where
  pub taken : ℕ
  pub result : Result S

-- A packet that is complete is a command, and nothing waits any more. Else the answer is 9, nothing is written, and what there is of it waits (02, E6).
unfoldable pub taken_in : Hub → ℕ → Waiting → Result Hub
taken_in h room w = elim (complete w) [
  | true ↦ call (with_waiting h nothing_waits) (command room (packet_in w))
  | false ↦ record { answer = number_of Incomplete; octets = []; state = with_waiting h w }
]

-- A lump to our hub. Without room for a reply the answer is 4, and no octet is taken; else at most one packet is finished, and what lies behind it in the
-- lump is not taken (02, E6).
unfoldable pub stream_out : Hub → ℕ → Octets → Streamed Hub
stream_out h room o = elim (ltb room Lengths.reply_buffer) [
  | true ↦ record { taken = 0; result = keep h no_room }
  | false ↦ record { taken = takes h.waiting o; result = taken_in h room (grown h.waiting (take (takes h.waiting o) o)) }
]

-- Named on an `unfolding` line, this opens every definition of the module: for examples that are computed.
unfoldable pub open_stream : Unit {0}
unfolding length_said kept_count waiting_at grown takes complete packet_in taken_in stream_out
open_stream = tt
