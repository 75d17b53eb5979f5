-- The starred examples of document 01, as one list with one claim, over the octets of the lent state (01, Examples from the bench).
use Rattle.std.specs.Prelude.{ℕ, zero, suc, ◌+◌, ◌*◌, ◌≡◌, refl, Bool, true, false, ◌&&◌, List, [], ◌∷◌, ◌++◌, map, length, replicate}
use Rattle.std.proofs.Math.Option.{some}
use Rattle.model.specs.Lengths as Lengths
use Rattle.model.specs.Octets.{open_octets, Octets, same, le16}
use Rattle.model.specs.Advertising.{open_advertising, no_advertising}
use Rattle.model.specs.State.{open_state, Hardware, Controller, Hub, PlainHub, Table, fresh, idle, plugged, no_timer}
use Rattle.model.specs.Reasons.{open_reasons}
use Rattle.model.specs.Tables.{open_tables, loaded}
use Rattle.model.specs.Rules.{open_rules}
use Rattle.model.specs.Immediate.{open_immediate}
use Rattle.model.specs.Commands.{open_commands_lem}
use Rattle.model.specs.Image.{open_image, image}
use Rattle.model.specs.Reading.{open_reading}
use Rattle.model.specs.Hub.{open_hub, step_of, Call, call, command, report, clock, plug, save, Result}
use Rattle.model.specs.WellFormed.{open_wellformed, calls_wide, plain_ok}
use Rattle.model.specs.Layout.{open_layout, encode}
use Rattle.model.specs.Meanings.{open_meanings, laid_out, meaning, hub_load}
use Rattle.model.specs.Demand3.{open_demand3, after}
use Rattle.model.proofs.Model.Demand3.{meaning_is, same_run}
use Rattle.model.proofs.Model.Stays.{stays}
use Rattle.model.proofs.Model.Tests.{and_true}

-- the empty image: `00 00 00 06 01 00`
unfoldable pub empty_image : Octets
empty_image = 0 ∷ 0 ∷ 0 ∷ 6 ∷ 1 ∷ 0 ∷ []

-- the fresh state: the empty image, loaded (01, The hub and its calls)
unfoldable pub start : Octets
start = (hub_load (replicate Lengths.state 0) empty_image).state

-- the answer and the octets of a call that comes after others, from the fresh state
unfoldable pub behind : List Call → Call → List ℕ
behind before c = let r : Result Octets = meaning (after meaning start before) c in r.answer ∷ r.octets

-- the fresh hub after these calls, as a state of the model
unfoldable pub hub_after : List Call → Hub
hub_after calls = after call (idle fresh) calls

-- the answer and the octets of a call over the model's states
unfoldable pub answered : List Call → Call → List ℕ
answered before c = let r : Result Hub = call (hub_after before) c in r.answer ∷ r.octets

-- a packet with just room enough for the reply
unfoldable pub to : Octets → Call
to packet = command 1024 packet

-- a dual-mode controller
unfoldable pub dual_hardware : Hardware
dual_hardware = record { public_address = 1 ∷ 2 ∷ 3 ∷ 4 ∷ 5 ∷ 6 ∷ []; version = 6; manufacturer = 15; supported = 0x0281 }

-- a dual-mode controller is plugged at index 0
unfoldable pub plug_dual : Call
plug_dual = plug 1024 0 dual_hardware

-- `01 00 FF FF 00 00`
unfoldable pub read_version_packet : Octets
read_version_packet = 0x01 ∷ 0x00 ∷ 0xFF ∷ 0xFF ∷ 0x00 ∷ 0x00 ∷ []

-- `08 00 00 00 00 00`
unfoldable pub unknown_packet : Octets
unknown_packet = 0x08 ∷ 0x00 ∷ 0x00 ∷ 0x00 ∷ 0x00 ∷ 0x00 ∷ []

-- `05 00 00 00 01 00 01`
unfoldable pub power_on : Call
power_on = to (0x05 ∷ 0x00 ∷ 0x00 ∷ 0x00 ∷ 0x01 ∷ 0x00 ∷ 0x01 ∷ [])

-- n link keys, of the addresses n - 1 and so on down to 0
unfoldable pub link_key_records : ℕ → Octets
link_key_records zero = []
link_key_records (suc n) = (n ∷ replicate 24 0) ++ link_key_records n

-- Load Link Keys with n keys and the right length
unfoldable pub link_key_packet : ℕ → Octets
link_key_packet n = 0x12 ∷ 0 ∷ 0 ∷ 0 ∷ (le16 (3 + 25 * n) ++ (0 ∷ (le16 n ++ link_key_records n)))

-- 17 octets of parameters and a count of 2,622
unfoldable pub wrapped_packet : Octets
wrapped_packet = 0x12 ∷ 0 ∷ 0 ∷ 0 ∷ 17 ∷ 0 ∷ 0 ∷ 0x3E ∷ 0x0A ∷ replicate 14 0

-- Add UUID, of a UUID that begins with u
unfoldable pub add_hint : ℕ → ℕ → Call
add_hint u hint = to (0x10 ∷ 0 ∷ 0 ∷ 0 ∷ 17 ∷ 0 ∷ u ∷ (replicate 15 0 ++ (hint ∷ [])))

-- Remove UUID, of the UUID that begins with u
unfoldable pub remove_hint : ℕ → Call
remove_hint u = to (0x11 ∷ 0 ∷ 0 ∷ 0 ∷ 16 ∷ 0 ∷ u ∷ replicate 15 0)

-- n records
unfoldable pub records : (ℕ → Octets) → ℕ → List Octets
records f zero = []
records f (suc n) = f n ∷ records f n

-- 32 records
unfoldable pub full_table : (ℕ → Octets) → Table
full_table f = loaded (records f 32)

-- a controller with all tables full, record k of a table begins with k + 1, and with the longest names
unfoldable pub full_controller : Controller
full_controller = record {
  radio = (plugged dual_hardware).radio;
  host = record {
    settings = record { timer = no_timer; bondable = false };
    name = replicate 248 1 ++ (0 ∷ (replicate 10 1 ++ (0 ∷ [])));
    tables =
        full_table (λ k. suc k ∷ replicate 16 0)
        ∷ full_table (λ k. suc k ∷ replicate 24 0)
        ∷ full_table (λ k. suc k ∷ 0 ∷ 0 ∷ 0 ∷ 0 ∷ 0 ∷ 1 ∷ 0 ∷ 0 ∷ 16 ∷ replicate 26 0)
        ∷ full_table (λ k. suc k ∷ 0 ∷ 0 ∷ 0 ∷ 0 ∷ 0 ∷ 1 ∷ replicate 16 0)
        ∷ full_table (λ k. suc k ∷ replicate 6 0)
        ∷ full_table (λ k. suc k ∷ 0 ∷ 0 ∷ 0 ∷ 0 ∷ 0 ∷ 0 ∷ 1 ∷ [])
        ∷ [];
    advertising = no_advertising;
  };
}

-- four such controllers
unfoldable pub full_hub : PlainHub
full_hub = record { clock = 0; controllers = replicate 4 (some full_controller) }

-- index 0 powered, connectable, and at clock 0xFFFFFFFF discoverable for so many seconds. The clock is set before the controller is there: a long step of a
-- controller is many single seconds to count (Advertising).
unfoldable pub discoverable_at_wrap : ℕ → List Call
discoverable_at_wrap seconds =
    clock 1024 0x7FFFFFFF
    ∷ clock 1024 0xFFFFFFFE
    ∷ plug_dual
    ∷ to (0x07 ∷ 0 ∷ 0 ∷ 0 ∷ 1 ∷ 0 ∷ 1 ∷ [])
    ∷ power_on
    ∷ report 1024 0 0
    ∷ clock 1024 0xFFFFFFFF
    ∷ to (0x06 ∷ 0 ∷ 0 ∷ 0 ∷ 3 ∷ 0 ∷ 1 ∷ seconds ∷ 0 ∷ [])
    ∷ report 1024 0 0
    ∷ []

-- 1 for a well-formed plain hub
unfoldable pub valid : PlainHub → ℕ
valid p = elim (plain_ok p) [ true ↦ 1 | false ↦ 0 ]

-- what the definitions give, and what the paper says
pub record Example : Type 0 where
  pub given : List ℕ
  pub paper : List ℕ

-- given, and as the paper says
unfoldable pub gives : List ℕ → List ℕ → Example
gives g p = record { given = g; paper = p }

-- each gives what the paper says
unfoldable pub all_given : List Example → Bool
all_given [] = true
all_given (e ∷ es) = same e.given e.paper && all_given es

-- a call behind others, and what the paper says of its answer and octets
pub record Told : Type 0 where
  pub before : List Call
  pub asked : Call
  pub paper : List ℕ

-- asked behind others, and as the paper says
unfoldable pub told : List Call → Call → List ℕ → Told
told cs c p = record { before = cs; asked = c; paper = p }

-- the examples that are calls, in the paper's order
unfoldable pub calls : List Told
calls =
    -- Read Management Version, with a reply buffer that is just long enough
    told [] (to read_version_packet) (0 ∷ 0x01 ∷ 0x00 ∷ 0xFF ∷ 0xFF ∷ 0x06 ∷ 0x00 ∷ 0x01 ∷ 0x00 ∷ 0x00 ∷ 0x01 ∷ 0x0A ∷ 0x00 ∷ [])
    -- an unknown code, to an index without a controller and to one with it
    ∷ told [] (to unknown_packet) (2 ∷ 0x02 ∷ 0x00 ∷ 0x00 ∷ 0x00 ∷ 0x03 ∷ 0x00 ∷ 0x08 ∷ 0x00 ∷ 0x01 ∷ [])
    ∷ told (plug_dual ∷ []) (to unknown_packet) (2 ∷ 0x02 ∷ 0x00 ∷ 0x00 ∷ 0x00 ∷ 0x03 ∷ 0x00 ∷ 0x08 ∷ 0x00 ∷ 0x01 ∷ [])
    -- a packet without the last octet of its header; a reply buffer one octet too short
    ∷ told [] (to (0x01 ∷ 0x00 ∷ 0xFF ∷ 0xFF ∷ 0x00 ∷ [])) (3 ∷ [])
    ∷ told [] (command 1023 read_version_packet) (4 ∷ [])
    -- Set Powered to a dual-mode controller is started, and a report of success brings the reply and New Settings
    ∷ told (plug_dual ∷ []) power_on (1 ∷ [])
    ∷ told (plug_dual ∷ power_on ∷ []) (report 1024 0 0)
    (0 ∷ 0x01 ∷ 0x00 ∷ 0x00 ∷ 0x00 ∷ 0x07 ∷ 0x00 ∷ 0x05 ∷ 0x00 ∷ 0x00 ∷ 0x81 ∷ 0x02 ∷ 0x00 ∷ 0x00
    ∷ 0x06 ∷ 0x00 ∷ 0x00 ∷ 0x00 ∷ 0x04 ∷ 0x00 ∷ 0x81 ∷ 0x02 ∷ 0x00 ∷ 0x00 ∷ [])
    -- Load Link Keys with 17 octets, which a sum in sixteen bits would take for the length of 2,622 keys
    ∷ told (plug_dual ∷ []) (to wrapped_packet) (2 ∷ 2 ∷ 0 ∷ 0 ∷ 0 ∷ 3 ∷ 0 ∷ 0x12 ∷ 0 ∷ 0x0D ∷ [])
    -- Load Link Keys with as many keys as the table has slots, and with one more
    ∷ told (plug_dual ∷ []) (to (link_key_packet 32)) (0 ∷ 1 ∷ 0 ∷ 0 ∷ 0 ∷ 3 ∷ 0 ∷ 0x12 ∷ 0 ∷ 0 ∷ [])
    ∷ told (plug_dual ∷ []) (to (link_key_packet 33)) (2 ∷ 2 ∷ 0 ∷ 0 ∷ 0 ∷ 3 ∷ 0 ∷ 0x12 ∷ 0 ∷ 0x07 ∷ [])
    -- the class of two UUIDs, and of the second alone
    ∷ told (plug_dual ∷ add_hint 1 0x20 ∷ []) (add_hint 2 0x04)
    (0 ∷ 1 ∷ 0 ∷ 0 ∷ 0 ∷ 6 ∷ 0 ∷ 0x10 ∷ 0 ∷ 0 ∷ 0 ∷ 0 ∷ 0x24 ∷ 7 ∷ 0 ∷ 0 ∷ 0 ∷ 3 ∷ 0 ∷ 0 ∷ 0 ∷ 0x24 ∷ [])
    ∷ told (plug_dual ∷ add_hint 1 0x20 ∷ add_hint 2 0x04 ∷ []) (remove_hint 1)
    (0 ∷ 1 ∷ 0 ∷ 0 ∷ 0 ∷ 6 ∷ 0 ∷ 0x11 ∷ 0 ∷ 0 ∷ 0 ∷ 0 ∷ 0x04 ∷ 7 ∷ 0 ∷ 0 ∷ 0 ∷ 3 ∷ 0 ∷ 0 ∷ 0 ∷ 0x04 ∷ [])
    -- the clock wraps: the step is 2, so that of two timers set at 0xFFFFFFFF that of 2 seconds ends at 1, and that of 3 does not
    ∷ told (discoverable_at_wrap 2) (clock 1024 1) (0 ∷ 6 ∷ 0 ∷ 0 ∷ 0 ∷ 4 ∷ 0 ∷ 0x83 ∷ 0x02 ∷ 0 ∷ 0 ∷ [])
    ∷ told (discoverable_at_wrap 3) (clock 1024 1) (0 ∷ [])
    -- the image of the fresh state
    ∷ told [] (save 16014) (0 ∷ 0x00 ∷ 0x00 ∷ 0x00 ∷ 0x06 ∷ 0x02 ∷ 0x00 ∷ [])
    ∷ []

-- such an example over the octets of the lent state
unfoldable pub over_octets : Told → Example
over_octets t = gives (behind t.before t.asked) t.paper

-- the others: the step of a clock that wraps; the empty image, which loads to the fresh state; the length of the longest image
unfoldable pub others : List Example
others =
    gives (step_of 0xFFFFFFFF 1 ∷ []) (2 ∷ [])
    ∷ gives start (encode (idle fresh))
    ∷ gives (valid full_hub ∷ length (image full_hub) ∷ []) (1 ∷ 16014 ∷ [])
    ∷ []

-- all of them, over the octets of the lent state
unfoldable pub examples : List Example
examples = map over_octets calls ++ others

-- The starred examples hold -------------------------------------------------------------------------------------------------------------------

-- They are computed over the model's states, and a law carries them to the octets: to compute each call over the 18,656 octets of a state would take most of
-- the time of the model's check.

-- the fresh state is that of a fresh hub
start_is : start ≡ encode (idle fresh)
unfolding open_octets open_advertising open_state open_tables open_image open_reading open_layout open_meanings empty_image start
start_is = refl

-- which is well formed
fresh_ok : plain_ok fresh ≡ true
unfolding open_octets open_state open_wellformed
fresh_ok = refl

-- over the octets a call is told what it is told over the model's states
behind_is : (cs : List Call) (c : Call) → calls_wide cs ≡ true → behind cs c ≡ answered cs c
unfolding behind hub_after answered laid_out
behind_is cs c w = rw (start_is, same_run fresh cs w fresh_ok, meaning_is (after call (idle fresh) cs) c (stays fresh cs w fresh_ok))

-- an example over the model's states
unfoldable over_hubs : Told → Example
over_hubs t = gives (answered t.before t.asked) t.paper

-- the arguments of every call before are as wide as their types
unfoldable told_wide : List Told → Bool
told_wide [] = true
told_wide (t ∷ ts) = calls_wide t.before && told_wide ts

-- so examples over the octets are those over the model's states
told_alike : (ts : List Told) → told_wide ts ≡ true → map over_octets ts ≡ map over_hubs ts
unfolding over_octets over_hubs told_wide
told_alike [] w = refl
told_alike (t ∷ ts) w =
    let a = and_true (calls_wide t.before) _ w in
    rw (behind_is t.before t.asked a.0, told_alike ts a.1)

-- and these are computed, the widths too
over_hubs_lem : (all_given (map over_hubs calls ++ others) ≡ true) × (told_wide calls ≡ true)
unfolding open_octets open_advertising open_state open_reasons open_tables open_rules open_immediate open_commands_lem open_image open_reading open_hub open_wellformed
    open_layout open_meanings
    open_demand3 empty_image start hub_after answered to dual_hardware plug_dual read_version_packet unknown_packet power_on link_key_records link_key_packet wrapped_packet
    add_hint remove_hint
    discoverable_at_wrap records full_table full_controller full_hub valid gives all_given told calls others over_hubs told_wide
over_hubs_lem = (refl, refl)

-- THE CLAIM: over the octets every example gives what the paper says
pub examples_hold : all_given examples ≡ true
unfolding examples
examples_hold = rw (told_alike calls over_hubs_lem.1) over_hubs_lem.0
