-- What a walk through an image comes to, for one who is told only how far it came; and what the whole image is found to be.
use Rattle.std.specs.Prelude.{ℕ, suc, ◌≤◌, ◌<◌, ◌≡◌, List, [], ◌∷◌, length, drop, set, Result, Ok, Err}
use Rattle.std.proofs.Math.Option.{Option, none, some}
use Rattle.model.specs.declared.Version.{Version}
use Rattle.model.specs.Octets.{Octets, octet}
use Rattle.model.specs.State.{Controller}
use Rattle.model.specs.Image.{version_octet}
use Rattle.model.specs.Reading as Reading
use Rattle.model.specs.Reading.{End, Item, Judged, Slots, Walk, acceptable, cut, faulty, goes_on, hub_of, items, walk, walk_controllers}
use Rattle.fields.specs.declared.FaultAt.{FaultAt}
use Rattle.fields.specs.Reads.{Begins}

-- the first fault of what was walked: that of the first thing dropped, or of the thing at which the walk ended
unfoldable pub first_fault : List Item → End → Option Reading.Fault
first_fault (i ∷ is) e = some i.fault
first_fault [] (cut i) = some i.fault
first_fault [] (goes_on o) = none

-- nothing was dropped up to a place, and the walk goes on from there; or the first fault begins at a place
abbrev pub Comes : {A : Type 0} → Octets → Walk A → Result ℕ FaultAt → Type 0
Comes image w (Ok p) = (p ≤ length image) × (w.dropped ≡ []) × (w.end ≡ goes_on (drop p image))
Comes image w (Err f) = Begins image (first_fault w.dropped w.end) f.fault f.at

-- One controller at a place: where it keeps every rule, the walk goes on behind it, with the controller put at its index and only higher indexes to come;
-- else the walk has its fault.
abbrev pub Continues : Octets → Version → (low at : ℕ) → Result ℕ FaultAt → Type 0
Continues image v low at (Ok p) =
    (p ≤ length image) × (at < length image) × (octet image at ≤ 3) × (c : Controller)
    × ((n : ℕ) (found : Slots) → walk_controllers v (suc n) low found (goes_on (drop at image))
    ≡ walk_controllers v n (suc (octet image at)) (set found (octet image at) (some c)) (goes_on (drop p image)))
Continues image v low at (Err f) = (n : ℕ) (found : Slots) → Comes image (walk_controllers v (suc n) low found (goes_on (drop at image))) (Err f)

-- what the whole image is found to be: acceptable in a version, which its version octet says; or its first fault
abbrev pub Judges : Octets → Judged → Result Version FaultAt → Type 0
Judges image j (Ok v) =
    (6 ≤ length image) × (octet image 4 ≡ version_octet v) × (items (walk v (drop 5 image)) ≡ []) × (j ≡ acceptable (hub_of (walk v (drop 5 image))))
Judges image j (Err f) = j ≡ faulty f.fault f.at
