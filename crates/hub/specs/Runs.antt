-- A run: calls of the exported functions one after the other on one state buffer, each known by nothing but what its contract says; and demand 3 over
-- what a C host sees of it, the numbers returned and the buffers.
use Rattle.std.specs.Prelude.{ℕ, ◌/◌, ◌%◌, ◌^◌, ◌<◌, ◌≡◌, true, List, [], ◌∷◌, map, length, take}
use Rattle.model.specs.declared.Hardware.{Hardware}
use Rattle.model.specs.Octets.{Octets, bytes}
use Rattle.model.specs.Hub as Hub
use Rattle.model.specs.Stream.{HostCall, direct}
use Rattle.model.specs.Stream as Stream
use Rattle.model.specs.WellFormed.{hardware_wide, host_calls_wide}
use Rattle.model.specs.Layout.{cleared}
use Rattle.model.specs.Meanings.{hub_clock, hub_command, hub_load, hub_look_up, hub_name, hub_on_air, hub_plug, hub_report, hub_save, hub_stream, hub_unplug, meaning}
use Rattle.model.specs.Meanings.{plain_meaning, stream_meaning}
use Rattle.model.specs.Demand3.{Agrees, HostEntry, assembled, entry, host_after, lump, made, no_pending, reduce}
use Rattle.why.specs.Meaning.{hub_why}
use Rattle.hub.specs.Entries.{Explains, Returns, ReturnsLoaded, ReturnsTaken, look_up_number}

-- What a host reads ---------------------------------------------------------------------------------------------------------------------------

-- the answer in a number returned: its lowest eight bits
unfoldable pub answer_in : ℕ → ℕ
answer_in r = r % 256

-- the count in it: the 24 bits above them
unfoldable pub count_in : ℕ → ℕ
count_in r = r / 256 % 2 ^ 24

-- of hub_look_up the slot told: eight bits from bit 32 on
unfoldable pub slot_in : ℕ → ℕ
slot_in r = r / 2 ^ 32 % 256

-- and the slots walked: the bits above them
unfoldable pub walked_in : ℕ → ℕ
walked_in r = r / 2 ^ 40

-- of hub_stream the octets taken: the upper half
unfoldable pub taken_in : ℕ → ℕ
taken_in r = r / 2 ^ 32

-- of hub_load, hub_upgrade and hub_downgrade the offset of a fault: the upper half
unfoldable pub offset_in : ℕ → ℕ
offset_in r = r / 2 ^ 32

-- the octets written: so many from the start of the reply buffer
unfoldable pub octets_in : ℕ → Octets → Octets
octets_in r reply = take (count_in r) reply

-- a call or a lump as a host sees it: the call, the number returned, and the reply buffer afterwards
pub record Seen : Type 0 where
  pub call : HostCall
  pub returned : ℕ
  pub reply : Octets

-- the same as an entry of demand 3's list
unfoldable pub entry_by : HostCall → (returned : ℕ) (reply : Octets) → HostEntry
entry_by (direct c) r reply = made (entry c (answer_in r) (octets_in r reply))
entry_by (Stream.stream room o) r reply = lump room o (taken_in r) (answer_in r) (octets_in r reply)

-- of what is seen
unfoldable pub entry_of : Seen → HostEntry
entry_of x = entry_by x.call x.returned x.reply

-- Runs ----------------------------------------------------------------------------------------------------------------------------------------

-- One call on the state s: it returned r, the reply buffer is `after`, the state `left`. Each case is the contract of one function, for arguments
-- as wide as their C types (octets, a version of 8 bits, a manufacturer of 16, a reading of 32).
pub data Step (s : Octets) : HostCall → ℕ → Octets → Octets → Type 0 where
  -- hub_command
  command : {packet before after left : Octets} {r : ℕ} → bytes packet ≡ true → Returns (hub_command s packet (length before)) r before after left
      → Step s (direct (Hub.command (length before) packet)) r after left
  -- hub_report
  report : {index status r : ℕ} {before after left : Octets} → Returns (hub_report s index status (length before)) r before after left
      → Step s (direct (Hub.report (length before) index status)) r after left
  -- hub_clock
  clock : {reading r : ℕ} {before after left : Octets} → reading < 2 ^ 32 → Returns (hub_clock s reading (length before)) r before after left
      → Step s (direct (Hub.clock (length before) reading)) r after left
  -- hub_plug
  plug : {index r : ℕ} {hardware : Hardware} {before after left : Octets} → hardware_wide hardware ≡ true
      → Returns (hub_plug s index hardware (length before)) r before after left → Step s (direct (Hub.plug (length before) index hardware)) r after left
  -- hub_unplug
  unplug : {index r : ℕ} {before after left : Octets} → Returns (hub_unplug s index (length before)) r before after left
      → Step s (direct (Hub.unplug (length before) index)) r after left
  -- hub_save, which only reads the state
  save : {r : ℕ} {before after : Octets} → Returns (hub_save s (length before)) r before after s → Step s (direct (Hub.save (length before))) r after s
  -- hub_stream
  stream : {octets before after left : Octets} {r : ℕ} → bytes octets ≡ true → ReturnsTaken (hub_stream s octets (length before)) r before after left
      → Step s (Stream.stream (length before) octets) r after left

-- calls one after the other, each lent the state that the call before it left; names, what is on air, why a packet would be refused, and where a record
-- stands may be asked in between
pub data Run : Octets → List Seen → Octets → Type 0 where
  -- no call: the state is as it was
  ends : {s : Octets} → Run s [] s
  -- hub_name, which only reads the state, then the others: demand 3's list has no entry for it
  names : {s end before after : Octets} {xs : List Seen} (index which r : ℕ) → Returns (hub_name s index which (length before)) r before after s → Run s xs end
      → Run s xs end
  -- hub_on_air, likewise
  on_air : {s end before after : Octets} {xs : List Seen} (index r : ℕ) → Returns (hub_on_air s index (length before)) r before after s → Run s xs end
      → Run s xs end
  -- hub_why, likewise
  asks : {s end before after : Octets} {xs : List Seen} (packet : Octets) (r : ℕ) → Explains (hub_why s packet (length before)) r before after
      → Run s xs end → Run s xs end
  -- hub_look_up, likewise
  looks : {s end : Octets} {xs : List Seen} (index table : ℕ) (key : Octets) (r : ℕ) → r ≡ look_up_number (hub_look_up s index table key) → Run s xs end
      → Run s xs end
  -- a call, then the others
  step : {s next end : Octets} {x : Seen} {xs : List Seen} → Step s x.call x.returned x.reply next → Run next xs end → Run s (x ∷ xs) end

-- Demand 3 of every run -------------------------------------------------------------------------------------------------------------------------

-- every count seen is the number of octets written
unfoldable pub CountsTrue : List Seen → Type 0
CountsTrue [] = Unit
CountsTrue (x ∷ xs) = (count_in x.returned ≡ length (octets_in x.returned x.reply)) × CountsTrue xs

-- For any state that hub_load made and any run from it: every count is the number of octets written; and the at-once hub, given what is left of the calls
-- by the numbers and buffers seen, answers and writes the same, and ends in the same state once open commands and waiting octets are cleared.
abbrev pub Demand3OfRuns : Type 0
Demand3OfRuns = (buffer image s end : Octets) (r : ℕ) (xs : List Seen) → bytes image ≡ true → ReturnsLoaded (hub_load buffer image) r s → answer_in r ≡ 0
    → Run s xs end → CountsTrue xs × Agrees plain_meaning s (reduce no_pending (assembled [] (map entry_of xs))) (cleared end)

-- Runs are there: any calls and lumps with arguments as wide as their types can be made one after the other, on any octets as state.
abbrev pub EveryListRuns : Type 0
EveryListRuns = (s : Octets) (calls : List HostCall) → host_calls_wide calls ≡ true
    → (xs : List Seen) × (map (λ (x : Seen). x.call) xs ≡ calls) × Run s xs (host_after meaning stream_meaning s calls)
