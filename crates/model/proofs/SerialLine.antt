-- Examples of packets off the serial line (02, E6): what lumps are told, one after the other. One list, one claim, computed.
use Rattle.std.specs.Prelude.{ℕ, zero, suc, ◌+◌, ◌-◌, ◌*◌, ◌≡◌, refl, true, List, [], ◌∷◌, ◌++◌, take, drop, replicate}
use Rattle.model.specs.Octets.{open_octets, Octets, le16}
use Rattle.model.specs.State.{open_state, Hub, fresh, idle}
use Rattle.model.specs.Reasons.{open_reasons}
use Rattle.model.specs.Tables.{open_tables}
use Rattle.model.specs.Rules.{open_rules}
use Rattle.model.specs.Immediate.{open_immediate}
use Rattle.model.specs.Commands.{open_commands_lem}
use Rattle.model.specs.Image.{open_image}
use Rattle.model.specs.Hub.{open_hub, call}
use Rattle.model.specs.Stream.{open_stream, HostCall, Streamed, direct, stream, stream_out}
use Rattle.model.specs.Demand3.{open_demand3, host_after}
use Rattle.model.proofs.Examples.{Example, all_given, dual_hardware, gives, plug_dual, read_version_packet, to, unknown_packet}
use Rattle.model.proofs.EasyErrors.{refused_with}

-- a lump with just room enough for the reply
unfoldable pub lump_of : Octets → HostCall
lump_of o = stream 1024 o

-- each octet as a lump of its own
unfoldable pub singly : Octets → List HostCall
singly [] = []
singly (x ∷ o) = lump_of (x ∷ []) ∷ singly o

-- the octets taken, the answer and the octets written of a lump that comes after others, from the fresh hub
unfoldable pub fed_to : List HostCall → ℕ → Octets → List ℕ
fed_to before room o =
    let r : Streamed Hub = stream_out (host_after call stream_out (idle fresh) before) room o in
    r.taken ∷ (r.result.answer ∷ r.result.octets)

-- what Read Management Version is told: answer 0 and the reply
unfoldable pub version_told : List ℕ
version_told = 0 ∷ 0x01 ∷ 0x00 ∷ 0xFF ∷ 0xFF ∷ 0x06 ∷ 0x00 ∷ 0x01 ∷ 0x00 ∷ 0x00 ∷ 0x01 ∷ 0x0A ∷ 0x00 ∷ []

-- n long term keys, of the addresses n and so on down to 1
unfoldable pub long_term_keys : ℕ → Octets
long_term_keys zero = []
long_term_keys (suc n) = (suc n ∷ 0 ∷ 0 ∷ 0 ∷ 0 ∷ 0 ∷ 1 ∷ 0 ∷ 0 ∷ 16 ∷ replicate 26 0) ++ long_term_keys n

-- Load Long Term Keys to index 0 with n keys: 1,160 octets with 32 keys, 1,196 with 33
unfoldable pub long_term_packet : ℕ → Octets
long_term_packet n = 0x13 ∷ 0 ∷ 0 ∷ 0 ∷ (le16 (2 + 36 * n) ++ (le16 n ++ long_term_keys n))

-- Load Link Keys to index 0 with 300 keys: 7,509 octets
unfoldable pub link_packet300 : Octets
link_packet300 = 0x12 ∷ 0 ∷ 0 ∷ 0 ∷ (le16 (3 + 25 * 300) ++ (0 ∷ (le16 300 ++ replicate (25 * 300) 0)))

-- the octets kept of a packet of n octets when so many of it were taken
unfoldable pub kept_of : (n taken : ℕ) → Octets
kept_of n taken =
    (host_after call stream_out (idle fresh) (lump_of (take taken (0x13 ∷ 0 ∷ 0 ∷ 0 ∷ (le16 (n - 6) ++ replicate (n - 6) 7))) ∷ [])).waiting.kept

-- the examples
unfoldable pub serial_line : List Example
serial_line =
    -- a packet in one lump; octet by octet; with the next one behind it, of which nothing is taken
    gives (fed_to [] 1024 read_version_packet) (6 ∷ version_told)
    ∷ gives (fed_to (singly (take 5 read_version_packet)) 1024 (drop 5 read_version_packet)) (1 ∷ version_told)
    ∷ gives (fed_to [] 1024 (read_version_packet ++ read_version_packet)) (6 ∷ version_told)
    -- five octets wait; no octets at all; too little room takes none
    ∷ gives (fed_to [] 1024 (take 5 read_version_packet)) (5 ∷ 9 ∷ [])
    ∷ gives (fed_to [] 1024 []) (0 ∷ 9 ∷ [])
    ∷ gives (fed_to [] 1023 read_version_packet) (0 ∷ 4 ∷ [])
    -- a command call between two lumps leaves what waits
    ∷ gives (fed_to (lump_of (take 3 read_version_packet) ∷ direct (to unknown_packet) ∷ []) 1024 (drop 3 read_version_packet)) (3 ∷ version_told)
    -- 32 long term keys are 1,160 octets, and load; 33 are more than is kept, and are No Resources
    ∷ gives (fed_to (direct plug_dual ∷ lump_of (take 700 (long_term_packet 32)) ∷ []) 1024 (drop 700 (long_term_packet 32)))
    (460 ∷ 0 ∷ 1 ∷ 0 ∷ 0 ∷ 0 ∷ 3 ∷ 0 ∷ 0x13 ∷ 0 ∷ 0 ∷ [])
    ∷ gives (fed_to (direct plug_dual ∷ lump_of (take 700 (long_term_packet 33)) ∷ []) 1024 (drop 700 (long_term_packet 33))) (496 ∷ refused_with 0x0013 0 0x07)
    -- 300 link keys, of which header and first four parameter octets tell the count
    ∷ gives (fed_to (direct plug_dual ∷ lump_of (take 7000 link_packet300) ∷ []) 1024 (drop 7000 link_packet300)) (509 ∷ refused_with 0x0012 0 0x07)
    -- of a packet of 1,160 octets all are kept, of one of 1,161 the first ten
    ∷ gives (kept_of 1160 20) (0x13 ∷ 0 ∷ 0 ∷ 0 ∷ 0x82 ∷ 4 ∷ replicate 14 7)
    ∷ gives (kept_of 1161 20) (0x13 ∷ 0 ∷ 0 ∷ 0 ∷ 0x83 ∷ 4 ∷ replicate 4 7)
    ∷ []

-- THE EXAMPLES HOLD
pub serial_line_holds : all_given serial_line ≡ true
unfolding open_octets open_state open_reasons open_tables open_rules open_immediate open_commands_lem open_image open_hub open_stream open_demand3
    dual_hardware plug_dual
    read_version_packet unknown_packet to gives all_given refused_with lump_of singly fed_to version_told long_term_keys long_term_packet link_packet300 kept_of serial_line
serial_line_holds = refl
