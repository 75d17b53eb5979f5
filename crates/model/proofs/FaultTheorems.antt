-- The theorems about what is wrong with an image (02, E8), each by name. The proofs are in Proof/.
use Rattle.std.specs.Prelude.{ℕ, ◌-◌, ◌^◌, ◌≤◌, ◌<◌, ◌≡◌, true, false, [], ◌↔◌, length, drop, take, eqb, ltb}
use Rattle.std.proofs.Common.{arith}
use Rattle.std.proofs.Math.Option.{Option, none, some}
use Rattle.model.specs.Lengths as Lengths
use Rattle.model.specs.Octets.{Octets, bytes, number, octet}
use Rattle.model.specs.State.{PlainHub, idle}
use Rattle.model.specs.Image.{One, Two, Version, version_octet}
use Rattle.model.specs.Reading.{BadLength, BadVersion, Diagnosis, ImageFault, NoneBefore, diagnose, either_version, faulty, judge, load, only}
use Rattle.model.specs.Layout.{encode}
use Rattle.model.specs.Meanings.{hub_load}
use Rattle.model.specs.Moves.{hub_downgrade, hub_upgrade}
use Rattle.model.specs.FirstFault.{first_fault, told_of}
use Rattle.model.proofs.Theorems.{load_is}
use Rattle.model.proofs.Model.Diagnosis.{diagnosis_inside, fits, judged_alike, none_exactly, not_taken, other_length, too_short}
use Rattle.model.proofs.Model.FileOrder.{first_told, none_before}
use Rattle.model.proofs.Model.Keeps.{load_fault}
use Rattle.model.proofs.Model.Load.{accepts, either_takes, loaded_by}
use Rattle.model.proofs.Model.Moves.{fault_answer, move_offset, moves_told}
use Rattle.model.proofs.Model.Written.{load_answered, load_offset}

-- Nothing is at fault exactly where load takes the image.
pub no_fault_exactly_where_taken : (o : Octets) → (diagnose either_version o ≡ none) ↔ ((p : PlainHub) × (load o ≡ some p))
no_fault_exactly_where_taken = none_exactly

-- A fault has one of the seven numbers; its offset is at most the length of the image, and fits the 32 bits in which it is told.
pub fault_has_number_and_place : (takes : ℕ → Option Version) (o : Octets) (d : Diagnosis) → bytes o ≡ true → diagnose takes o ≡ some d
    → (71 ≤ d.number) × (d.number ≤ 77) × (d.offset ≤ length o) × (d.offset < 2 ^ 32)
fault_has_number_and_place = diagnosis_inside

-- An image that load takes, into a buffer of the right length, is answered 0 and makes its state.
pub taken_image_loads : (buffer o : Octets) (p : PlainHub) → eqb (length buffer) Lengths.state ≡ true → load o ≡ some p
    → hub_load buffer o ≡ record { answer = 0; offset = 0; state = encode (idle p) }
taken_image_loads buffer o p n l = let a = loaded_by o p l in load_is buffer o p n (accepts either_version a.0 o p (either_takes a.0) a.1)

-- Load, into a buffer of the right length, answers with number and offset of the fault, and leaves the buffer.
pub load_tells_the_fault : (buffer o : Octets) (d : Diagnosis) → eqb (length buffer) Lengths.state ≡ true → diagnose either_version o ≡ some d
    → hub_load buffer o ≡ record { answer = d.number; offset = d.offset; state = buffer }
load_tells_the_fault = load_fault

-- So do the moves, with room, of an image that is to have the version moved from.
pub moves_tell_the_fault : (o : Octets) (room : ℕ) (d : Diagnosis) → ltb room Lengths.largest_image ≡ false
    → (diagnose (only One) o ≡ some d → hub_upgrade o room ≡ record { answer = d.number; offset = d.offset; octets = [] })
    × (diagnose (only Two) o ≡ some d → hub_downgrade o room ≡ record { answer = d.number; offset = d.offset; octets = [] })
unfolding hub_upgrade hub_downgrade
moves_tell_the_fault o room d r = (fault_answer One Two o room d r, fault_answer Two One o room d r)

-- The offset that load tells fits 32 bits, whatever is lent.
pub load_offset_fits : (buffer o : Octets) → bytes o ≡ true → (hub_load buffer o).offset < 2 ^ 32
load_offset_fits buffer o b = omega (arith, load_offset (2 ^ 32 - 1) _ _ (load_answered (2 ^ 32 - 1) buffer o (fits either_version o b)))

-- So do those of the moves.
pub move_offsets_fit : (o : Octets) (room : ℕ) → bytes o ≡ true → ((hub_upgrade o room).offset < 2 ^ 32) × ((hub_downgrade o room).offset < 2 ^ 32)
move_offsets_fit o room b =
    let m = moves_told (2 ^ 32 - 1) o room (λ v. fits (only v) o b) in
    (omega (arith, move_offset (2 ^ 32 - 1) false _ _ _ m.0), omega (arith, move_offset (2 ^ 32 - 1) true _ _ _ m.1))

-- Of an image of that version they find what load finds.
pub moves_judge_as_load : (v : Version) (o : Octets) → octet o 4 ≡ version_octet v → judge (only v) o ≡ judge either_version o
moves_judge_as_load = judged_alike

-- The head is looked at first. Without a version octet it is 71 at the end, whatever there is; then 72 for a version that is not taken; then 71 at the
-- beginning where the length field says another length.
pub head_comes_first : (takes : ℕ → Option Version) (o : Octets) → (length o < 5 → judge takes o ≡ faulty BadLength (length o))
    × (5 ≤ length o → takes (octet o 4) ≡ none → judge takes o ≡ faulty BadVersion 4)
    × ((v : Version) → 5 ≤ length o → takes (octet o 4) ≡ some v → eqb (number 0 (take 4 o)) (length o) ≡ false → judge takes o ≡ faulty BadLength 0)
head_comes_first takes o = (too_short takes o, not_taken takes o, λ v. other_length takes v o)

-- THE FAULT THAT IS TOLD IS THE FIRST ONE: behind a right head it is the first thing in the order of the file that is not whole, or not right, or there is
-- none.
pub first_fault_is_told : (takes : ℕ → Option Version) (v : Version) (o : Octets) → 5 ≤ length o → takes (octet o 4) ≡ some v
    → eqb (number 0 (take 4 o)) (length o) ≡ true → diagnose takes o ≡ told_of (length o) (first_fault v (drop 5 o))
first_fault_is_told = first_told

-- Nothing before its place has a part in it: whatever other octets stand from there on, as many as before, no fault is told before it. (Of a fault at the end
-- of the file this says nothing, since no other octets can stand there.)
pub nothing_before_is_at_fault : (takes : ℕ → Option Version) (o q : Octets) (k : ImageFault) (at : ℕ) → judge takes o ≡ faulty k at → 5 ≤ at
    → length q ≡ length o → take at q ≡ take at o → NoneBefore at (judge takes q)
nothing_before_is_at_fault = none_before
