-- Where each part of the lent state lies and what stands there: the definitions that the contracts cite, total functions of the octets.
use Rattle.std.specs.Prelude.{ℕ, ◌+◌, ◌*◌, ◌<◌, ◌≡◌, Bool, true, ◌&&◌, List, [], ◌∷◌, ◌++◌, length, get_or, drop, set, eqb, ltb}
use Rattle.std.proofs.Math.Option.{Option, none, some}
use Rattle.model.specs.Lengths as Lengths
use Rattle.model.specs.declared.Hardware.{Hardware}
use Rattle.model.specs.declared.Settings.{Settings}
use Rattle.model.specs.Octets.{Octets, le16, le32}
use Rattle.model.specs.State.{Controller, Hub, OpenCommand, bredr_supported, flag, le_supported, with_controller}
use Rattle.model.specs.Layout.{controller_back, decode}
use Rattle.model.specs.Meanings.{state_ok}
use Rattle.octets.specs.Parts.{part, place_at}

-- 1. Places -----------------------------------------------------------------------------------------------------------------------------------

-- where block i begins: after the clock, blocks of one length
abbrev pub base : ℕ → ℕ
base i = 4 + Lengths.block * i

-- the sizes of a block's pieces: present, open command, hardware, settings, name, six tables, schedule, Adv_Data and Scan_Rsp of five instances
unfoldable pub sizes : List ℕ
sizes =
    1 ∷ 5 ∷ 13 ∷ 14 ∷ 260 ∷ 548 ∷ 804 ∷ 1156 ∷ 740 ∷ 228 ∷ 260 ∷ 23
    ∷ 32 ∷ 32 ∷ 32 ∷ 32 ∷ 32
    ∷ 32 ∷ 32 ∷ 32 ∷ 32 ∷ 32 ∷ []

-- where piece k of block i begins
unfoldable pub place_of : ℕ → ℕ → ℕ
place_of i k = base i + place_at sizes k

-- where table k of block i begins: the tables are the pieces from 5 on
unfoldable pub table_place : ℕ → ℕ → ℕ
table_place i k = place_of i (5 + k)

-- 2. What stands there ------------------------------------------------------------------------------------------------------------------------

-- index i is one of four, and its block begins with 1
unfoldable pub present_at : Octets → ℕ → Bool
present_at s i = ltb i 4 && eqb (get_or s (base i) 0) 1

-- the controller that block i holds, if it holds one
unfoldable pub controller_of : Octets → ℕ → Controller
controller_of s i = controller_back (drop 6 (part s (base i) Lengths.block))

-- the command under way at index i
unfoldable pub open_at : Octets → ℕ → Option OpenCommand
open_at s i = get_or (decode s).open_commands i none

-- the hardware but for the address that follows it
unfoldable pub hardware_head : Hardware → Octets
hardware_head f = f.version ∷ (le16 f.manufacturer ++ le32 f.supported)

-- the flags and the timer: the settings but for the address that follows them
unfoldable pub settings_head : Settings → Octets
settings_head m =
    flag m.radio.powered 1
    ∷ flag m.radio.connectable 1
    ∷ flag m.host.timer.discoverable 1
    ∷ flag m.host.bondable 1
    ∷ flag m.radio.bredr 1
    ∷ flag m.radio.low_energy 1
    ∷ le16 m.host.timer.seconds

-- the flags of BR/EDR and Low Energy that plug sets
unfoldable pub transports_of : Hardware → Octets
transports_of f = flag (bredr_supported f) 1 ∷ flag (le_supported f) 1 ∷ []

-- 3. What a write makes of the hub ------------------------------------------------------------------------------------------------------------

-- the hub with controller i changed
unfoldable pub put_controller : Hub → ℕ → Controller → Hub
put_controller h i c = record { plain = with_controller h.plain i (some c); open_commands = h.open_commands; waiting = h.waiting }

-- the hub with index i empty, and nothing under way there
unfoldable pub emptied : Hub → ℕ → Hub
emptied h i = record { plain = with_controller h.plain i none; open_commands = set h.open_commands i none; waiting = h.waiting }

-- the hub with another reading of the clock
unfoldable pub with_clock : Hub → ℕ → Hub
with_clock h v = record { plain = record { clock = v; controllers = h.plain.controllers }; open_commands = h.open_commands; waiting = h.waiting }

-- 4. What a command may assume ----------------------------------------------------------------------------------------------------------------

-- the state is well formed and index i present, with the numbers that follow
pub record Ready (s : Octets) (i : ℕ) : Type 0 where
  pub ok : state_ok s ≡ true
  pub here : present_at s i ≡ true
  pub long : length s ≡ Lengths.state
  pub below : i < 4
