-- Where the octets of the serial line are cut into lumps makes no difference to its packets (02, E6): the statement. And what a lump is told, and what the
-- other calls have to do with waiting octets.
use Rattle.std.specs.Prelude.{ℕ, ◌<◌, ◌≤◌, ◌≡◌, Bool, true, false, ◌&&◌, List, [], ◌∷◌, ◌++◌, length, take, drop, eqb, leb, ltb}
use Rattle.model.specs.Lengths as Lengths
use Rattle.model.specs.Octets.{Octets, bytes, joined}
use Rattle.model.specs.State.{with_waiting}
use Rattle.model.specs.Answers.{number_of, BadState, Incomplete, SmallBuffer}
use Rattle.model.specs.Tables.{every}
use Rattle.model.specs.Hub.{Call, command, packet_ok}
use Rattle.model.specs.Stream.{HostCall, direct, stream, Streamed, length_said, packet_in, waiting_at}
use Rattle.model.specs.WellFormed.{call_wide, host_calls_wide}
use Rattle.model.specs.Layout.{decode, encode, line_cleared}
use Rattle.model.specs.Meanings.{state_ok, meaning, stream_meaning, hub_command}
use Rattle.model.specs.Demand3.{Entry, entry, trace, after, HostEntry, made, lump, host_trace, host_after}

-- the octets taken of all lumps of a list, one behind the other: what has come in of the stream
unfoldable pub taken_octets : List HostEntry → Octets
taken_octets [] = []
taken_octets (made e ∷ es) = taken_octets es
taken_octets (lump room o n a w ∷ es) = take n o ++ taken_octets es

-- These packets in place of the lumps of a list: each of them at the lump with which as many octets were taken as it has, as a command with that lump's room,
-- answer and octets; nothing at the other lumps (02, E6). It goes by the octets taken and not by what was answered: `before` are those taken since the last
-- packet's end.
unfoldable pub by_packets : (before : Octets) → List Octets → List HostEntry → List Entry
by_packets before ps [] = []
by_packets before ps (made e ∷ es) = e ∷ by_packets before ps es
by_packets before [] (lump room o n a w ∷ es) = by_packets (before ++ take n o) [] es
by_packets before (p ∷ ps) (lump room o n a w ∷ es) = elim (eqb (length (before ++ take n o)) (length p)) [
  | true ↦ entry (command room p) a w ∷ by_packets [] ps es
  | false ↦ by_packets (before ++ take n o) (p ∷ ps) es
]

-- the calls of entries
unfoldable pub calls_of : List Entry → List Call
calls_of [] = []
calls_of (entry c a o ∷ es) = c ∷ calls_of es

-- from s on, these entries are what our hub tells the calls in them, and it ends in this state
pub record Told (s : Octets) (es : List Entry) (end : Octets) : Type 0 where
  pub entries : es ≡ trace meaning s (calls_of es)
  pub state : end ≡ after meaning s (calls_of es)

-- Waiting octets lie aside (02, E6): a call answers and writes what it does where nothing waits, comes to the same state but for them, and leaves them as
-- they were.
pub record LeftAside (s : Octets) (c : Call) : Type 0 where
  pub answer : (meaning s c).answer ≡ (meaning (line_cleared s) c).answer
  pub octets : (meaning s c).octets ≡ (meaning (line_cleared s) c).octets
  pub state : line_cleared (meaning s c).state ≡ (meaning (line_cleared s) c).state
  pub waiting : drop Lengths.blocks_end (meaning s c).state ≡ drop Lengths.blocks_end s

-- what has come in of a packet, as the state has it
abbrev pub coming_in : Octets → Octets
coming_in s = packet_in (decode s).waiting

-- What a lump is told, lent to a state s with this room.
pub data LumpTold (s o : Octets) (room : ℕ) : Streamed Octets → Type 0 where
  -- 5, for a state that is not well formed: no octet is taken, nothing is written, and the state is as it was
  not_well : state_ok s ≡ false → LumpTold s o room (record { taken = 0; result = record { answer = number_of BadState; octets = []; state = s } })
  -- 4, for a well-formed one and too short a reply buffer: the same
  too_small : state_ok s ≡ true → ltb room Lengths.reply_buffer ≡ true
      → LumpTold s o room (record { taken = 0; result = record { answer = number_of SmallBuffer; octets = []; state = s } })
  -- 9, while what came in before and the lump are short of a packet: every octet is taken, nothing is written, and they wait
  takes_all : length (coming_in s ++ o) < length_said (coming_in s ++ o)
      → LumpTold s o room (record {
        taken = length o;
        result = record {
          answer = number_of Incomplete;
          octets = [];
          state = encode (with_waiting (decode s) (waiting_at (length (coming_in s ++ o)) (coming_in s ++ o)));
        };
      })
  -- a packet is finished: what the command call with that packet comes to where nothing waits, which is 0, 1 or 2, and never 3
  finishes_packet : (n : ℕ) → 0 < n → n ≤ length o → packet_ok (coming_in s ++ take n o) ≡ true
      → leb (hub_command (line_cleared s) (coming_in s ++ take n o) room).answer 2 ≡ true
      → LumpTold s o room (record { taken = n; result = hub_command (line_cleared s) (coming_in s ++ take n o) room })

-- THE CLAIM: from any well-formed state with nothing waiting, for any list of calls and lumps of which the octets taken begin a stream of whole packets
-- (`rest` is what has not come in yet): our hub, given these packets one by one as commands, each where its last octet was taken, answers and writes the
-- same, and comes to the same state, waiting octets aside. Lumps may be empty, and other calls may stand between them.
abbrev pub CuttingDoesNotMatter : Type 0
CuttingDoesNotMatter = (s : Octets) (calls : List HostCall) (packets : List Octets) (rest : Octets)
    → state_ok s ≡ true → line_cleared s ≡ s → host_calls_wide calls ≡ true → every packet_ok packets ≡ true
    → taken_octets (host_trace meaning stream_meaning s calls) ++ rest ≡ joined packets
    → Told s (by_packets [] packets (host_trace meaning stream_meaning s calls)) (line_cleared (host_after meaning stream_meaning s calls))

-- A host at the line: between other calls it lends the next octets, as many as it likes or none, and goes on behind those that were taken.
pub data Feed : Type 0 where
  -- one of the calls
  other : Call → Feed
  -- the next octets of the line, at most so many, with the length of the reply buffer
  next : (room count : ℕ) → Feed

-- the calls that it makes, from state s on and with this line before it
unfoldable pub fed : (s line : Octets) → List Feed → List HostCall
fed s line [] = []
fed s line (other c ∷ fs) = direct c ∷ fed (meaning s c).state line fs
fed s line (next room n ∷ fs) =
    let r : Streamed Octets = stream_meaning s room (take n line) in
    stream room (take n line) ∷ fed r.result.state (drop r.taken line) fs

-- its other calls are as wide as their types
unfoldable pub feeds_wide : List Feed → Bool
feeds_wide [] = true
feeds_wide (other c ∷ fs) = call_wide c && feeds_wide fs
feeds_wide (next room n ∷ fs) = feeds_wide fs

-- THE SAME CLAIM of a host at a line of whole packets, however it cuts it
abbrev pub LineMayBeCut : Type 0
LineMayBeCut = (s : Octets) (feeds : List Feed) (packets : List Octets)
    → state_ok s ≡ true → line_cleared s ≡ s → feeds_wide feeds ≡ true → bytes (joined packets) ≡ true → every packet_ok packets ≡ true
    → Told s (by_packets [] packets (host_trace meaning stream_meaning s (fed s (joined packets) feeds)))
    (line_cleared (host_after meaning stream_meaning s (fed s (joined packets) feeds)))
