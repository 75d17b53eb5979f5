-- The whole image written anew, and what a move answers.
use Prim.Native.Nat.{ℕ, ◌+◌, ◌≤◌, ◌<◌}
use native.Mathlib.Omega.{arith}
use mathlib.Core.Path.{◌≡◌, refl, sym, ap, ◌∙◌}
use mathlib.Core.Bool.{true, false}
use mathlib.Core.List.{[], ◌∷◌, ◌++◌}
use lib.ListN.{length, drop, get_or}
use borrow.Author.Tests.{le-ltb, lt-ltb}
use Rattle.model.specs.declared.Answer.TheVariants.{BadImage, Done, NotInImage, SmallBuffer}
use Rattle.model.specs.declared.ImageFault.{ImageFault}
use Rattle.model.specs.declared.Version.{Version}
use Rattle.model.specs.Lengths as Lengths
use Rattle.model.specs.Octets.{Octets, be32, bytes}
use Rattle.model.specs.State.{PlainHub}
use Rattle.model.specs.Image.{has_image, image_of, version_octet}
use Rattle.model.specs.Reading.{acceptable, faulty, hub_of, items, judge, only, walk}
use Rattle.model.specs.Moves.{Moved, only_answer, rewritten, with_room, writes}
use Rattle.model.proofs.Model.Load.{kept_ok, only_by}
use Rattle.model.proofs.Model.RoundTrip.{image_most}
use Rattle.model.proofs.Model.Tables.{bytes_drop}
use Rattle.octets.specs.Parts.{write_at}
use Rattle.octets.proofs.Parts.{write_front}
use Rattle.image.proofs.SaveLaws.{head_written}
use Rattle.moves.specs.Moving.{Gives, all_said, controllers_in}
use Rattle.moves.proofs.Controllers.{body, whole}

-- 1. Written -------------------------------------------------------------------------------------------------------------------------------------

-- the image by what was walked: its length, and its octets
image_by : (to v : Version) (image : Octets) → 6 ≤ length image → items (walk v (drop 5 image)) ≡ []
    → image_of to (hub_of (walk v (drop 5 image)))
    ≡ be32 (6 + length (body to v (get_or image 5 0) (drop 6 image))) ++ (version_octet to ∷ get_or image 5 0 ∷ body to v (get_or image 5 0) (drop 6 image))
unfolding image_of
image_by to v image h e = let w = whole v to image h e in rw (w.images, w.count)

-- its length
image_length : (to v : Version) (image : Octets) → 6 ≤ length image → items (walk v (drop 5 image)) ≡ []
    → length (image_of to (hub_of (walk v (drop 5 image)))) ≡ 6 + length (body to v (get_or image 5 0) (drop 6 image))
unfolding be32
image_length to v image h e = let l : ℕ = length (body to v (get_or image 5 0) (drop 6 image)) in ap {B = ℕ} length (image_by to v image h e) ∙ omega arith

-- there is room for it
pub image_room : (to v : Version) (image : Octets) → bytes image ≡ true → 6 ≤ length image → items (walk v (drop 5 image)) ≡ []
    → 6 + length (body to v (get_or image 5 0) (drop 6 image)) ≤ Lengths.largest_image
image_room to v image w h e =
    omega (arith, image_length to v image h e, image_most to (hub_of (walk v (drop 5 image))) (kept_ok v (drop 5 image) (bytes_drop 5 image w)))

-- the head, written before the controllers
pub all_written : (to v : Version) (image out d d1 d2 d3 : Octets) (p : ℕ) → 6 ≤ length image → items (walk v (drop 5 image)) ≡ [] → 6 ≤ length out
    → p ≡ 6 + length (body to v (get_or image 5 0) (drop 6 image)) → d ≡ write_at out 6 (body to v (get_or image 5 0) (drop 6 image))
    → d1 ≡ write_at d 0 (be32 p) → d2 ≡ write_at d1 4 (version_octet to ∷ []) → d3 ≡ write_at d2 5 (get_or image 5 0 ∷ [])
    → (p ≡ length (image_of to (hub_of (walk v (drop 5 image))))) × (d3 ≡ write_at out 0 (image_of to (hub_of (walk v (drop 5 image)))))
all_written to v image out d d1 d2 d3 p h e l q w a b c =
    let f = head_written out d1 d2 d3 (body to v (get_or image 5 0) (drop 6 image)) p (version_octet to) (get_or image 5 0) l (a ∙ rw w) b c in
    (q ∙ sym (image_length to v image h e), rw (image_by to v image h e) (rw q at f))

-- 2. Answered -------------------------------------------------------------------------------------------------------------------------------------

-- too little room
pub small : (to v : Version) (image out : Octets) → length out < Lengths.largest_image
    → Gives (with_room (length out) (rewritten to (judge (only v) image))) SmallBuffer out out
unfolding with_room only_answer
small to v image out h = rw (lt-ltb (length out) Lengths.largest_image h, with_room) (record { answer = refl; offset = refl; count = refl; output = refl })

-- room enough
roomy : (m : Moved) (room : ℕ) → Lengths.largest_image ≤ room → with_room room m ≡ m
unfolding with_room
roomy m room h = rw (le-ltb _ _ h, with_room)

-- an image with a fault
pub faulted : (to v : Version) (image out : Octets) (k : ImageFault) (at : ℕ) → Lengths.largest_image ≤ length out → judge (only v) image ≡ faulty k at
    → Gives (with_room (length out) (rewritten to (judge (only v) image))) (BadImage k at) out out
unfolding rewritten only_answer
faulted to v image out k at h j =
    rw (roomy (rewritten to (judge (only v) image)) (length out) h, j) (record { answer = refl; offset = refl; count = refl; output = refl })

-- an image that is acceptable in the version it is moved from drops nothing, and gives the hub of what was walked
pub accepted_only : (v : Version) (image : Octets) (p : PlainHub) → judge (only v) image ≡ acceptable p
    → (items (walk v (drop 5 image)) ≡ []) × (p ≡ hub_of (walk v (drop 5 image)))
accepted_only v image p e = let a = only_by v image p e in (a.whole, sym a.hub)

-- the version cannot say it
pub unsaid : (to v : Version) (image out : Octets) (p : PlainHub) → Lengths.largest_image ≤ length out → 6 ≤ length image → judge (only v) image ≡ acceptable p
    → false ≡ all_said to (controllers_in v (get_or image 5 0) (drop 6 image))
    → Gives (with_room (length out) (rewritten to (judge (only v) image))) NotInImage out out
unfolding rewritten only_answer
unsaid to v image out p h six j s =
    let a = accepted_only v image p j in
    let n : has_image to p.controllers ≡ false = rw a.1 ((whole v to image six a.0).said ∙ sym s) in
    rw (roomy (rewritten to (judge (only v) image)) (length out) h, j, rewritten, n) (record { answer = refl; offset = refl; count = refl; output = refl })

-- it is written
pub moved : (to v : Version) (image out d : Octets) (p : PlainHub) (r : ℕ) → bytes image ≡ true → Lengths.largest_image ≤ length out → 6 ≤ length image
    → judge (only v) image ≡ acceptable p → true ≡ all_said to (controllers_in v (get_or image 5 0) (drop 6 image))
    → r ≡ length (image_of to (hub_of (walk v (drop 5 image)))) → d ≡ write_at out 0 (image_of to (hub_of (walk v (drop 5 image))))
    → Gives (with_room (length out) (rewritten to (judge (only v) image))) (Done r) out d
unfolding rewritten writes
moved to v image out d p r w h six j s n e =
    let a = accepted_only v image p j in
    let y : has_image to p.controllers ≡ true = rw a.1 ((whole v to image six a.0).said ∙ sym s) in
    let m = image_room to v image w six a.0 in
    let l : length (image_of to (hub_of (walk v (drop 5 image)))) ≤ length out = omega (arith, image_length to v image six a.0) in
    rw (roomy (rewritten to (judge (only v) image)) (length out) h, j, rewritten, y, a.1)
    (record { answer = refl; offset = refl; count = n; output = e ∙ write_front out (image_of to (hub_of (walk v (drop 5 image)))) l })
