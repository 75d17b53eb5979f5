-- Small images in both versions, saved and moved between the versions (02, E7). One list, one claim.
use Rattle.std.specs.Prelude.{ℕ, ◌+◌, ◌≡◌, refl, true, List, [], ◌∷◌, ◌++◌, length, replicate}
use Rattle.std.proofs.Math.Option.{none, some}
use Rattle.model.specs.Octets.{open_octets, Octets, be32}
use Rattle.model.specs.Advertising.{open_advertising}
use Rattle.model.specs.State.{open_state}
use Rattle.model.specs.Reasons.{open_reasons}
use Rattle.model.specs.Tables.{open_tables}
use Rattle.model.specs.Image.{open_image}
use Rattle.model.specs.Reading.{open_reading, load}
use Rattle.model.specs.Hub.{open_hub, save}
use Rattle.model.specs.Demand3.{open_demand3}
use Rattle.model.specs.Moves.{open_moves, Moved, hub_upgrade, hub_downgrade}
use Rattle.model.proofs.Examples.{Example, all_given, answered, dual_hardware, gives, hub_after, plug_dual}

-- an image of one controller with this version octet, its length set right
unfoldable pub image_with : (version : ℕ) → Octets → Octets
image_with v body = be32 (6 + length body) ++ (v ∷ 1 ∷ body)

-- a controller at index 0, by its supported settings, flags and names' fields; one device is blocked
unfoldable pub part : (supported flags names : Octets) → Octets
part s f n =
    0 ∷ 1 ∷ 2 ∷ 3 ∷ 4 ∷ 5 ∷ 6 ∷ 6 ∷ 0 ∷ 15 ∷ (s ++ (f ++ (replicate 6 0 ++ (n ++ (0 ∷ 0 ∷ 0 ∷ 0 ∷ 1 ∷ 9 ∷ 9 ∷ 9 ∷ 9 ∷ 9 ∷ 9 ∷ 0 ∷ 0 ∷ [])))))

-- supported settings: powered and both transports
unfoldable pub dual : Octets
dual = 0 ∷ 0 ∷ 0x02 ∷ 0x81 ∷ []

-- supported settings: powered and Low Energy
unfoldable pub le_only : Octets
le_only = 0 ∷ 0 ∷ 0x02 ∷ 0x01 ∷ []

-- flags: bits 7 and 9
unfoldable pub both_on : Octets
both_on = 0 ∷ 0 ∷ 0x02 ∷ 0x80 ∷ []

-- flags: bit 9 alone
unfoldable pub le_on : Octets
le_on = 0 ∷ 0 ∷ 0x02 ∷ 0x00 ∷ []

-- the name "hi" and no short name, as fields of version 2
unfoldable pub hi : Octets
hi = 2 ∷ 0x68 ∷ 0x69 ∷ 0 ∷ []

-- the same in version 1, with an octet that stands behind the first zero of the name
unfoldable pub hi_one : (tail : ℕ) → Octets
hi_one x = 0x68 ∷ 0x69 ∷ 0 ∷ x ∷ replicate 256 0

-- an image of version 2 with both transports on and that name
unfoldable pub two : Octets
two = image_with 2 (part dual both_on hi)

-- the image of version 1 that says the same; BR/EDR has no flag there
unfoldable pub one : (tail : ℕ) → Octets
one x = image_with 1 (part dual le_on (hi_one x))

-- number and octets of a move
unfoldable pub shown : Moved → List ℕ
shown m = m.answer ∷ m.octets

-- what a move to version 2 is answered
unfoldable pub forth : Octets → ℕ
forth o = (hub_upgrade o 16014).answer

-- what a move back to version 1 is answered
unfoldable pub back : Octets → ℕ
back o = (hub_downgrade o 16014).answer

-- 1 if load takes an image, else 0
unfoldable pub loads : Octets → ℕ
loads o = elim (load o) [ none ↦ 0 | some p ↦ 1 ]

-- the examples
unfoldable pub image_examples : List Example
image_examples =
    -- a dual-mode controller that was plugged in is saved in 38 octets, each name as one zero
    gives (answered (plug_dual ∷ []) (save 16014))
    (0 ∷ 0 ∷ 0 ∷ 0 ∷ 38 ∷ 2 ∷ 1 ∷ (0 ∷ 1 ∷ 2 ∷ 3 ∷ 4 ∷ 5 ∷ 6 ∷ 6 ∷ 0 ∷ 15 ∷ 0 ∷ 0 ∷ 0x02 ∷ 0x81 ∷ 0 ∷ 0 ∷ 0x02 ∷ 0x80 ∷ (replicate 6 0 ++ (0 ∷ 0 ∷ replicate 6 0))))
    -- to version 2: the name by its length, flag bit 7 on, and whatever stands behind the first zero of the name is lost
    ∷ gives (shown (hub_upgrade (one 0) 16014)) (0 ∷ two)
    ∷ gives (shown (hub_upgrade (one 7) 16014)) (0 ∷ two)
    -- back to version 1: 303 octets in place of 47, and zeros behind the name; what was clean has come back the same
    ∷ gives (shown (hub_downgrade two 16014)) (0 ∷ one 0)
    ∷ gives (length two ∷ length (one 0) ∷ []) (47 ∷ 303 ∷ [])
    -- with BR/EDR off where it is supported, 8; where it is not supported, 0
    ∷ gives (shown (hub_downgrade (image_with 2 (part dual le_on hi)) 16014)) (8 ∷ [])
    ∷ gives (back (image_with 2 (part le_only le_on hi)) ∷ []) (0 ∷ [])
    -- load takes both versions, the empty image too, and no third
    ∷ gives (loads two ∷ loads (one 0) ∷ loads (one 7) ∷ loads (0 ∷ 0 ∷ 0 ∷ 6 ∷ 1 ∷ 0 ∷ []) ∷ loads (0 ∷ 0 ∷ 0 ∷ 6 ∷ 2 ∷ 0 ∷ []) ∷ []) (1 ∷ 1 ∷ 1 ∷ 1 ∷ 1 ∷ [])
    ∷ gives (loads (0 ∷ 0 ∷ 0 ∷ 6 ∷ 3 ∷ 0 ∷ []) ∷ loads (0 ∷ 0 ∷ 0 ∷ 6 ∷ 0 ∷ 0 ∷ []) ∷ loads [] ∷ []) (0 ∷ 0 ∷ 0 ∷ [])
    -- each move takes its own version, and wants room for the largest image, before all else
    ∷ gives (forth two ∷ back (one 0) ∷ []) (72 ∷ 72 ∷ [])
    ∷ gives ((hub_downgrade two 16013).answer ∷ (hub_upgrade two 16013).answer ∷ []) (4 ∷ 4 ∷ [])
    ∷ gives ((hub_upgrade [] 16013).answer ∷ (hub_upgrade [] 16014).answer ∷ []) (4 ∷ 71 ∷ [])
    -- names of version 2: at most 248 and 10 octets, none of them zero, all of them there
    ∷ gives (back (image_with 2 (part dual both_on (248 ∷ (replicate 248 0x61 ++ (10 ∷ replicate 10 0x62))))) ∷ []) (0 ∷ [])
    ∷ gives (back (image_with 2 (part dual both_on (249 ∷ (replicate 249 0x61 ++ (0 ∷ []))))) ∷ []) (74 ∷ [])
    ∷ gives (back (image_with 2 (part dual both_on (0 ∷ 11 ∷ replicate 11 0x62))) ∷ []) (74 ∷ [])
    ∷ gives (back (image_with 2 (part dual both_on (2 ∷ 0x68 ∷ 0 ∷ 0 ∷ []))) ∷ back (image_with 2 (part dual both_on (255 ∷ []))) ∷ []) (74 ∷ 71 ∷ [])
    -- flag bit 7: only where it is supported, off only with bit 9 on; version 1 has none
    ∷ gives (back (image_with 2 (part le_only both_on hi)) ∷ back (image_with 2 (part dual (replicate 4 0) hi)) ∷ []) (74 ∷ 74 ∷ [])
    ∷ gives (forth (image_with 1 (part dual both_on (hi_one 0))) ∷ []) (74 ∷ [])
    ∷ []

-- E7'S EXAMPLES HOLD
pub image_examples_hold : all_given image_examples ≡ true
unfolding open_octets open_advertising open_state open_reasons open_tables open_image open_reading open_hub open_demand3 open_moves dual_hardware plug_dual gives
    all_given hub_after answered image_with part dual le_only both_on le_on hi hi_one two one shown forth back loads image_examples
image_examples_hold = refl
