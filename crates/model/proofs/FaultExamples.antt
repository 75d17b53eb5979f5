-- What is wrong with an image, and where (02, E8): each number, and each order that is not free. One list, one claim.
use Rattle.std.specs.Prelude.{ℕ, ◌+◌, ◌≡◌, refl, true, List, [], ◌∷◌, ◌++◌, length, take, drop, replicate}
use Rattle.std.proofs.Math.Option.{Option, none, some}
use Rattle.model.specs.Octets.{open_octets, Octets, be32}
use Rattle.model.specs.Advertising.{open_advertising}
use Rattle.model.specs.State.{open_state}
use Rattle.model.specs.Reasons.{open_reasons}
use Rattle.model.specs.Tables.{open_tables}
use Rattle.model.specs.Image.{Version, One, Two, open_image}
use Rattle.model.specs.Reading.{open_reading, Diagnosis, diagnose, either_version, only}
use Rattle.model.proofs.Examples.{Example, all_given, gives}
use Rattle.model.proofs.ImageExamples.{both_on, dual, hi, le_on, le_only}

-- an image of so many controllers with this version octet, its length set right
unfoldable pub image_of_parts : (version controllers : ℕ) → Octets → Octets
image_of_parts v n body = be32 (6 + length body) ++ (v ∷ n ∷ body)

-- a controller by its index, supported settings, flags, static address, names' fields and tables
unfoldable pub controller : ℕ → (supported flags static names tables : Octets) → Octets
controller i s f a n ts = i ∷ 1 ∷ 2 ∷ 3 ∷ 4 ∷ 5 ∷ 6 ∷ 6 ∷ 0 ∷ 15 ∷ (s ++ (f ++ (a ++ (n ++ ts))))

-- supported settings: powered and BR/EDR
unfoldable pub bredr_only : Octets
bredr_only = 0 ∷ 0 ∷ 0 ∷ 0x81 ∷ []

-- no static address
unfoldable pub no_static : Octets
no_static = replicate 6 0

-- no records in any table
unfoldable pub no_records : Octets
no_records = replicate 6 0

-- no records but blocked devices, with their count
unfoldable pub blocked : ℕ → Octets → Octets
blocked n rs = 0 ∷ 0 ∷ 0 ∷ 0 ∷ n ∷ (rs ++ (0 ∷ []))

-- a device of this address and type
unfoldable pub device : (address type : ℕ) → Octets
device a t = a ∷ 0 ∷ 0 ∷ 0 ∷ 0 ∷ 0 ∷ t ∷ []

-- a usual controller with these tables: 34 octets, then the tables
unfoldable pub usual : ℕ → Octets → Octets
usual i ts = controller i dual both_on no_static hi ts

-- an image of it, at index 0: the tables begin at 34
unfoldable pub with_tables : Octets → Octets
with_tables ts = image_of_parts 2 1 (usual 0 ts)

-- an image of 40 octets that is acceptable
unfoldable pub plain : Octets
plain = with_tables no_records

-- the same octets with another one at a place below their length
unfoldable pub with_octet : ℕ → ℕ → Octets → Octets
with_octet k x o = take k o ++ (x ∷ drop (k + 1) o)

-- number and offset of a fault; nothing where there is none
unfoldable pub shown_fault : Option Diagnosis → List ℕ
shown_fault none = []
shown_fault (some d) = d.number ∷ d.offset ∷ []

-- what load finds
unfoldable pub wrong_in : Octets → List ℕ
wrong_in o = shown_fault (diagnose either_version o)

-- what the move from a version finds
unfoldable pub wrong_from : Version → Octets → List ℕ
wrong_from v o = shown_fault (diagnose (only v) o)

-- the examples
unfoldable pub fault_examples : List Example
fault_examples =
    -- nothing wrong; no octets; four; five, with a length field that is right and with another
    gives (wrong_in plain) []
    ∷ gives (wrong_in []) (71 ∷ 0 ∷ [])
    ∷ gives (wrong_in (take 4 plain)) (71 ∷ 4 ∷ [])
    ∷ gives (wrong_in (0 ∷ 0 ∷ 0 ∷ 5 ∷ 2 ∷ [])) (71 ∷ 5 ∷ [])
    ∷ gives (wrong_in (take 5 plain)) (71 ∷ 0 ∷ [])
    -- version 3; the version before the length field; a wrong length before what follows it; a move and the other version
    ∷ gives (wrong_in (with_octet 4 3 plain)) (72 ∷ 4 ∷ [])
    ∷ gives (wrong_in (with_octet 4 3 (with_octet 3 9 plain))) (72 ∷ 4 ∷ [])
    ∷ gives (wrong_in (with_octet 3 9 (with_octet 5 5 plain))) (71 ∷ 0 ∷ [])
    ∷ gives (wrong_from One plain ++ wrong_from Two plain) (72 ∷ 4 ∷ [])
    -- five controllers; index 4; the same index twice; a lower one behind a higher
    ∷ gives (wrong_in (with_octet 5 5 plain)) (73 ∷ 5 ∷ [])
    ∷ gives (wrong_in (image_of_parts 2 1 (usual 4 no_records))) (73 ∷ 6 ∷ [])
    ∷ gives (wrong_in (image_of_parts 2 2 (usual 1 no_records ++ usual 1 no_records))) (73 ∷ 40 ∷ [])
    ∷ gives (wrong_in (image_of_parts 2 2 (usual 1 no_records ++ usual 0 no_records))) (73 ∷ 40 ∷ [])
    -- supported settings: neither transport; a bit above 15; BR/EDR without a public address, where the later field is at fault
    ∷ gives (wrong_in (image_of_parts 2 1 (controller 0 (0 ∷ 0 ∷ 0 ∷ 1 ∷ []) both_on no_static hi no_records))) (74 ∷ 16 ∷ [])
    ∷ gives (wrong_in (image_of_parts 2 1 (controller 0 (0 ∷ 1 ∷ 2 ∷ 0x81 ∷ []) both_on no_static hi no_records))) (74 ∷ 16 ∷ [])
    ∷ gives (wrong_in (take 7 plain ++ (replicate 6 0 ++ drop 13 plain))) (74 ∷ 16 ∷ [])
    -- flags: another bit; bit 7 unsupported; both transports off; in version 1 bit 7 at all
    ∷ gives (wrong_in (with_octet 20 0x80 plain)) (74 ∷ 20 ∷ [])
    ∷ gives (wrong_in (image_of_parts 2 1 (controller 0 le_only both_on no_static hi no_records))) (74 ∷ 20 ∷ [])
    ∷ gives (wrong_in (image_of_parts 2 1 (controller 0 dual (replicate 4 0) no_static hi no_records))) (74 ∷ 20 ∷ [])
    ∷ gives (wrong_in (image_of_parts 1 1 (controller 0 dual both_on no_static (replicate 260 0) no_records))) (74 ∷ 20 ∷ [])
    -- flag bit 9 where Low Energy is not supported; clear where it is all there is, in version 1
    ∷ gives (wrong_in (image_of_parts 2 1 (controller 0 bredr_only both_on no_static hi no_records))) (74 ∷ 20 ∷ [])
    ∷ gives (wrong_in (image_of_parts 1 1 (controller 0 le_only (replicate 4 0) no_static (replicate 260 0) no_records))) (74 ∷ 20 ∷ [])
    -- a static address where Low Energy is not supported
    ∷ gives (wrong_in (image_of_parts 2 1 (controller 0 bredr_only (0 ∷ 0 ∷ 0 ∷ 0x80 ∷ []) (1 ∷ 2 ∷ 3 ∷ 4 ∷ 5 ∷ 0xC0 ∷ []) hi no_records))) (74 ∷ 24 ∷ [])
    -- a static address that is none, before a name that is none
    ∷ gives (wrong_in (image_of_parts 2 1 (controller 0 dual both_on (1 ∷ replicate 5 0) (2 ∷ 0x68 ∷ 0 ∷ 0 ∷ []) no_records))) (74 ∷ 24 ∷ [])
    -- names: a zero in the name; a short name of 11 octets; a length that reaches past the end; in version 1 no zero at the end of name and short name
    ∷ gives (wrong_in (image_of_parts 2 1 (controller 0 dual both_on no_static (2 ∷ 0x68 ∷ 0 ∷ 0 ∷ []) no_records))) (74 ∷ 30 ∷ [])
    ∷ gives (wrong_in (image_of_parts 2 1 (controller 0 dual both_on no_static (0 ∷ 11 ∷ replicate 11 0x62) no_records))) (74 ∷ 31 ∷ [])
    ∷ gives (wrong_in (with_octet 30 99 plain)) (71 ∷ 40 ∷ [])
    ∷ gives (wrong_in (image_of_parts 1 1 (controller 0 dual le_on no_static (replicate 249 0x61 ++ replicate 11 0x62) no_records))) (74 ∷ 30 ∷ [])
    ∷ gives (wrong_in (image_of_parts 1 1 (controller 0 dual le_on no_static (replicate 249 0 ++ replicate 11 0x62) no_records))) (74 ∷ 279 ∷ [])
    -- a table of 33, though no record is there; of 32 that end too early
    ∷ gives (wrong_in (with_tables (blocked 33 []))) (75 ∷ 38 ∷ [])
    ∷ gives (wrong_in (with_tables (blocked 32 (device 1 0)))) (71 ∷ 47 ∷ [])
    -- a record of type 3; a link key that its controller cannot have
    ∷ gives (wrong_in (with_tables (blocked 2 (device 1 0 ++ device 2 3)))) (76 ∷ 46 ∷ [])
    ∷ gives (wrong_in (image_of_parts 2 1 (controller 0 le_only le_on no_static hi (0 ∷ 1 ∷ (replicate 25 0 ++ (0 ∷ 0 ∷ 0 ∷ 0 ∷ [])))))) (76 ∷ 36 ∷ [])
    -- the later of two that are the same, before another fault and behind it; a fault of its own before its repeat
    ∷ gives (wrong_in (with_tables (blocked 3 (device 1 0 ++ (device 1 0 ++ device 2 3))))) (77 ∷ 46 ∷ [])
    ∷ gives (wrong_in (with_tables (blocked 3 (device 1 0 ++ (device 2 3 ++ device 1 0))))) (76 ∷ 46 ∷ [])
    ∷ gives (wrong_in (with_tables (0 ∷ 0 ∷ 0 ∷ 0 ∷ 0 ∷ 2 ∷ (device 1 1 ++ (0 ∷ (device 1 1 ++ (3 ∷ []))))))) (76 ∷ 48 ∷ [])
    -- the same in version 1, and in other tables: a count, two UUIDs that differ in their hints, an index that repeats
    ∷ gives (wrong_in (image_of_parts 1 1 (controller 0 dual le_on no_static (replicate 260 0) (33 ∷ [])))) (75 ∷ 290 ∷ [])
    ∷ gives (wrong_in (with_tables (2 ∷ (replicate 16 7 ++ (1 ∷ (replicate 16 7 ++ (2 ∷ replicate 5 0))))))) (77 ∷ 52 ∷ [])
    ∷ gives (wrong_in (image_of_parts 1 2 (controller 2 dual le_on no_static (replicate 260 0) no_records ++ (2 ∷ [])))) (73 ∷ 296 ∷ [])
    -- cut in a field: the public address, the flags
    ∷ gives (wrong_in (image_of_parts 2 1 (take 4 (usual 0 no_records)))) (71 ∷ 10 ∷ [])
    ∷ gives (wrong_in (image_of_parts 2 1 (take 16 (usual 0 no_records)))) (71 ∷ 22 ∷ [])
    -- a record that is not whole, at the end; octets left over, at the first of them; a whole controller that is missing
    ∷ gives (wrong_in (with_tables (blocked 3 (device 1 0 ++ device 2 0)))) (71 ∷ 54 ∷ [])
    ∷ gives (wrong_in (with_tables (no_records ++ (7 ∷ 7 ∷ 7 ∷ [])))) (71 ∷ 40 ∷ [])
    ∷ gives (wrong_in (image_of_parts 2 2 (usual 0 no_records))) (71 ∷ 40 ∷ [])
    ∷ []

-- E8'S EXAMPLES HOLD
pub fault_examples_hold : all_given fault_examples ≡ true
unfolding open_octets open_advertising open_state open_reasons open_tables open_image open_reading gives all_given dual le_only both_on le_on hi image_of_parts
    controller bredr_only no_static no_records blocked device usual with_tables plain with_octet shown_fault wrong_in wrong_from fault_examples
fault_examples_hold = refl
