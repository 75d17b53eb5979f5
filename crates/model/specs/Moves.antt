-- An image moved from one version to the other (02, E7). No state has a part in it.
use Rattle.std.specs.Prelude.{ℕ, true, false, [], length, ltb}
use Rattle.model.specs.Lengths as Lengths
use Rattle.model.specs.Octets.{Octets}
use Rattle.model.specs.Answers.{Answer, number_of, offset_of, Done, SmallBuffer, BadImage, NotInImage}
use Rattle.model.specs.Image.{Version, One, Two, has_image, image_of}
use Rattle.model.specs.Reading.{Judged, acceptable, faulty, judge, only}

-- what a move comes to: its number, the offset of a fault, and the octets written
pub record Moved : Type 0 where
  pub answer : ℕ
  pub offset : ℕ
  pub octets : Octets

-- an answer alone
unfoldable pub only_answer : Answer → Moved
only_answer a = record { answer = number_of a; offset = offset_of a; octets = [] }

-- an image that is written
unfoldable pub writes : Octets → Moved
writes o = record { answer = number_of (Done (length o)); offset = 0; octets = o }

-- 4 where the output has less room than the largest image, before all else (02, E7)
unfoldable pub with_room : ℕ → Moved → Moved
with_room room m = elim (ltb room Lengths.largest_image) [ true ↦ only_answer SmallBuffer | false ↦ m ]

-- an image written anew in a version: its first fault and where that begins, if it is not acceptable (02, E8); then 8 if the version cannot say what it
-- says, so that a supported BR/EDR is off (02, E7)
unfoldable pub rewritten : Version → Judged → Moved
rewritten v (faulty k at) = only_answer (BadImage k at)
rewritten v (acceptable p) = elim (has_image v p.controllers) [ true ↦ writes (image_of v p) | false ↦ only_answer NotInImage ]

-- version 1 to version 2
unfoldable pub hub_upgrade : (image : Octets) (room : ℕ) → Moved
hub_upgrade o room = with_room room (rewritten Two (judge (only One) o))

-- version 2 back to version 1
unfoldable pub hub_downgrade : (image : Octets) (room : ℕ) → Moved
hub_downgrade o room = with_room room (rewritten One (judge (only Two) o))

-- Named on an `unfolding` line, this opens every definition of the module: for examples that are computed.
unfoldable pub open_moves : Unit {0}
unfolding only_answer writes with_room rewritten hub_upgrade hub_downgrade
open_moves = tt
