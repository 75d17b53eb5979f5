-- Salvage of small images (02, E9), computed: each kind of item, and each order that is not free. One list, one claim.
use Prim.Native.Nat.{ℕ, ◌+◌}
use mathlib.Core.Path.{◌≡◌, refl}
use mathlib.Core.Bool.{true}
use mathlib.Core.List.{List, [], ◌∷◌, ◌++◌}
use lib.ListN.{length, take, drop, replicate}
use Rattle.model.specs.Octets.{open_octets, Octets}
use Rattle.model.specs.Advertising.{open_advertising}
use Rattle.model.specs.State.{open_state}
use Rattle.model.specs.Reasons.{open_reasons}
use Rattle.model.specs.Tables.{open_tables}
use Rattle.model.specs.Image.{open_image}
use Rattle.model.specs.Reading.{open_reading}
use Rattle.model.proofs.Examples.{Example, all_given, gives}
use Rattle.model.proofs.ImageExamples.{both_on, dual, hi, le_on, le_only}
use Rattle.model.proofs.FaultExamples.{blocked, controller, device, image_of_parts, no_records, no_static, plain, usual, with_octet, with_tables}
use Rattle.salvage.specs.Salvage.{Salvaged, hub_salvage, open_salvage}

-- an image of version 2 with these controllers
unfoldable pub of : ℕ → Octets → Octets
of n cs = image_of_parts 2 n cs

-- salvage with just enough room
unfoldable pub salvaged : Octets → Salvaged
salvaged o = hub_salvage o 16014 (length o + 16)

-- the image that is kept
unfoldable pub keeps : Octets → Octets
keeps o = (salvaged o).image

-- the list
unfoldable pub lists : Octets → Octets
lists o = (salvaged o).list

-- the list of these offsets, all below 256
unfoldable pub at : List ℕ → Octets
at [] = []
at (n ∷ ns) = 0 ∷ 0 ∷ 0 ∷ n ∷ at ns

-- number and offset
unfoldable pub told : Salvaged → List ℕ
told s = s.answer ∷ s.offset ∷ (s.image ++ s.list)

-- blocked devices: a good one, the same again, and one of a type that does not exist
unfoldable pub spoilt : Octets
spoilt = blocked 3 (device 1 0 ++ (device 1 0 ++ device 2 3))

-- the examples
unfoldable pub salvage_examples : List Example
salvage_examples =
    -- an acceptable image comes out as it is
    gives (keeps plain) plain
    ∷ gives (lists plain) []
    -- a wrong length alone is one item, and is set right; octets left over are cut off, with a length that counted them and with one that did not
    ∷ gives (keeps (with_octet 3 0 plain)) plain
    ∷ gives (lists (with_octet 3 0 plain)) (0 ∷ 0 ∷ 0 ∷ 0 ∷ [])
    ∷ gives (keeps (plain ++ (7 ∷ 7 ∷ []))) plain
    ∷ gives (lists (plain ++ (7 ∷ 7 ∷ []))) (at (0 ∷ 40 ∷ []))
    ∷ gives (lists (with_tables (no_records ++ (7 ∷ [])))) (at (40 ∷ []))
    -- a repeated record, and one that breaks its rule
    ∷ gives (keeps (with_tables spoilt)) (with_tables (blocked 1 (device 1 0)))
    ∷ gives (lists (with_tables spoilt)) (at (46 ∷ 53 ∷ []))
    -- what repeats a record that was dropped is kept
    ∷ gives (keeps (with_tables (0 ∷ 0 ∷ 0 ∷ 0 ∷ 0 ∷ 2 ∷ (device 1 1 ++ (3 ∷ (device 1 1 ++ (0 ∷ [])))))))
    (with_tables (0 ∷ 0 ∷ 0 ∷ 0 ∷ 0 ∷ 1 ∷ (device 1 1 ++ (0 ∷ []))))
    ∷ gives (lists (with_tables (0 ∷ 0 ∷ 0 ∷ 0 ∷ 0 ∷ 2 ∷ (device 1 1 ++ (3 ∷ (device 1 1 ++ (0 ∷ []))))))) (at (40 ∷ []))
    -- a link key that its controller cannot have
    ∷ gives (lists (of 1 (controller 0 le_only le_on no_static hi (0 ∷ 1 ∷ (replicate 25 0 ++ (0 ∷ 0 ∷ 0 ∷ 0 ∷ [])))))) (at (36 ∷ []))
    -- a controller with an index of 4 is dropped with its records, which are not listed
    ∷ gives (keeps (of 2 (usual 4 spoilt ++ usual 1 no_records))) (of 1 (usual 1 no_records))
    ∷ gives (lists (of 2 (usual 4 spoilt ++ usual 1 no_records))) (at (6 ∷ []))
    -- the last kept index counts, and not the last seen: behind 1, 3 with a wrong name, and 1 again, 2 is kept
    ∷ gives (keeps (of 4 (usual 1 no_records ++ (controller 3 dual both_on no_static (1 ∷ 0 ∷ 0 ∷ []) no_records ++ (usual 1 no_records ++ usual 2 no_records)))))
    (of 2 (usual 1 no_records ++ usual 2 no_records))
    ∷ gives (lists (of 4 (usual 1 no_records ++ (controller 3 dual both_on no_static (1 ∷ 0 ∷ 0 ∷ []) no_records ++ (usual 1 no_records ++ usual 2 no_records)))))
    (at (40 ∷ 73 ∷ []))
    -- more controllers than four, as the count says: three times the same, and three others
    ∷ gives (lists (of 6 (usual 0 no_records ++ (usual 0 no_records ++ (usual 0 no_records ++ (usual 1 no_records ++ (usual 2 no_records ++ usual 3 no_records)))))))
    (at (40 ∷ 74 ∷ []))
    -- a count of controllers that is too high: the next is not whole, at the end
    ∷ gives (keeps (with_octet 5 9 plain)) plain
    ∷ gives (lists (with_octet 5 9 plain)) (at (40 ∷ []))
    -- a count of 33 ends everything, at that count; the tables behind it are empty, and so is what follows
    ∷ gives (keeps (of 2 (usual 0 (blocked 33 []) ++ usual 1 no_records))) (of 1 (usual 0 no_records))
    ∷ gives (lists (of 2 (usual 0 (blocked 33 []) ++ usual 1 no_records))) (at (38 ∷ []))
    -- a record that is not whole: those before it are kept
    ∷ gives (keeps (with_tables (blocked 3 (device 1 0 ++ device 2 0)))) (with_tables (blocked 2 (device 1 0 ++ device 2 0)))
    ∷ gives (lists (with_tables (blocked 3 (device 1 0 ++ device 2 0)))) (at (53 ∷ []))
    -- inside a controller that is dropped: the controller, and then where everything ends
    ∷ gives (lists (of 2 (usual 0 no_records ++ usual 0 (blocked 33 [])))) (at (40 ∷ 72 ∷ []))
    ∷ gives (lists (of 2 (usual 0 no_records ++ take 43 (usual 0 (blocked 3 (device 1 0 ++ device 2 0)))))) (at (40 ∷ 80 ∷ []))
    -- a fixed part that is not whole, and a missing table count
    ∷ gives (lists (of 1 (take 20 (usual 0 no_records)))) (at (6 ∷ []))
    ∷ gives (keeps (of 1 (take 30 (usual 0 no_records)))) plain
    ∷ gives (lists (of 1 (take 30 (usual 0 no_records)))) (at (36 ∷ []))
    -- nothing behind the version octet; the smallest output of each version
    ∷ gives (keeps (0 ∷ 0 ∷ 0 ∷ 5 ∷ 1 ∷ [])) (0 ∷ 0 ∷ 0 ∷ 6 ∷ 1 ∷ 0 ∷ [])
    ∷ gives (lists (0 ∷ 0 ∷ 0 ∷ 5 ∷ 1 ∷ [])) (at (5 ∷ []))
    ∷ gives (keeps (9 ∷ 9 ∷ 9 ∷ 9 ∷ 2 ∷ 0 ∷ 1 ∷ [])) (0 ∷ 0 ∷ 0 ∷ 6 ∷ 2 ∷ 0 ∷ [])
    ∷ gives (lists (9 ∷ 9 ∷ 9 ∷ 9 ∷ 2 ∷ 0 ∷ 1 ∷ [])) (at (0 ∷ 6 ∷ []))
    -- refused: room for the image and the list first, then the version, at 4 or where the octets end
    ∷ gives (told (hub_salvage plain 16013 56) ++ told (hub_salvage plain 16014 55)) (4 ∷ 0 ∷ 4 ∷ 0 ∷ [])
    ∷ gives (told (hub_salvage [] 16014 15) ++ told (hub_salvage [] 16014 16)) (4 ∷ 0 ∷ 72 ∷ 0 ∷ [])
    ∷ gives (told (salvaged (take 4 plain)) ++ told (salvaged (with_octet 4 3 plain))) (72 ∷ 4 ∷ 72 ∷ 4 ∷ [])
    ∷ []

-- E9'S EXAMPLES HOLD
pub salvage_examples_hold : all_given salvage_examples ≡ true
unfolding open_octets open_advertising open_state open_reasons open_tables open_image open_reading open_salvage gives all_given dual le_only both_on le_on hi
    image_of_parts controller no_static no_records blocked device usual with_tables plain with_octet of salvaged keeps lists at told spoilt salvage_examples
salvage_examples_hold = refl
