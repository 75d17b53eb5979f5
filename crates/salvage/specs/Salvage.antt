-- Salvage: of any octets an image that loads, and a list of what was dropped for it (02, E9). What is kept and what is dropped is said by the one reading of an
-- image (Reading.antt of the model); here stands what is written of it. No state has a part in it.
use Rattle.std.specs.Prelude.{ℕ, ◌+◌, ◌-◌, true, false, ◌||◌, List, [], ◌∷◌, ◌++◌, map, length, take, drop, eqb, leb, ltb}
use Rattle.std.proofs.Math.Option.{Option, none, some}
use Rattle.model.specs.declared.Answer.{Answer}
use Rattle.model.specs.declared.Answer.TheVariants.{BadImage, Done, SmallBuffer}
use Rattle.model.specs.declared.ImageFault.TheVariants.{BadVersion}
use Rattle.model.specs.declared.Version.{Version}
use Rattle.model.specs.Lengths as Lengths
use Rattle.model.specs.Octets.{Octets, be32, joined, number, octet}
use Rattle.model.specs.Answers.{number_of, offset_of}
use Rattle.model.specs.Image.{image_of}
use Rattle.model.specs.Reading.{Item, either_version, hub_of, items, walk}

-- how much longer than the input the room for the list has to be (02, E9)
abbrev pub list_more : ℕ
list_more = 16

-- what salvage comes to: its number, the offset of a version that is not taken, the image that is written, and the list
pub record Salvaged : Type 0 where
  pub answer : ℕ
  pub offset : ℕ
  pub image : Octets
  pub list : Octets

-- refused: nothing is written
unfoldable pub only_answer : Answer → Salvaged
only_answer a = record { answer = number_of a; offset = offset_of a; image = []; list = [] }

-- where the thing begins that an item is of; n octets are the whole input
unfoldable pub begins_at : ℕ → Item → ℕ
begins_at n i = n - i.left

-- the length field is listed, at the beginning, if it does not say the length of the input (02, E9)
unfoldable pub length_item : Octets → List ℕ
length_item o = elim (eqb (number 0 (take 4 o)) (length o)) [ true ↦ [] | false ↦ 0 ∷ [] ]

-- where each thing begins that is dropped, and before them the length field
unfoldable pub offsets : Version → Octets → List ℕ
offsets v o = length_item o ++ map (begins_at (length o)) (items (walk v (drop 5 o)))

-- the list: each of these in four octets, the high one first (02, E9)
unfoldable pub list_of : List ℕ → Octets
list_of ns = joined (map be32 ns)

-- what is kept is written in the version in which it was read; a third version, or none, is not taken (02, E9)
unfoldable pub salvaged_as : Octets → Option Version → Salvaged
salvaged_as o none = only_answer (BadImage BadVersion 4)
salvaged_as o (some v) =
    let image : Octets = image_of v (hub_of (walk v (drop 5 o))) in
    record { answer = number_of (Done (length image)); offset = 0; image = image; list = list_of (offsets v o) }

-- Room for the largest image and for the list comes first; then the version octet, which has to be there (02, E9). Where it is not, the fault is at the end.
unfoldable pub hub_salvage : (octets : Octets) (room list_room : ℕ) → Salvaged
hub_salvage o room list_room = elim (ltb room Lengths.largest_image || ltb list_room (length o + list_more)) [
  | true ↦ only_answer SmallBuffer
  | false ↦ elim (leb 5 (length o)) [ true ↦ salvaged_as o (either_version (octet o 4)) | false ↦ only_answer (BadImage BadVersion (length o)) ]
]

-- the second number that is told: how long the list is, or the offset of the version; never both
unfoldable pub extra_of : Salvaged → ℕ
extra_of s = length s.list + s.offset

-- Named on an `unfolding` line, this opens every definition of the module: for examples that are computed.
unfoldable pub open_salvage : Unit {0}
unfolding only_answer begins_at length_item offsets list_of salvaged_as hub_salvage extra_of
open_salvage = tt
