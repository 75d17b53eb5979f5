-- What a host reads of the number of a load and of a move: the answer, the count, and the offset of a fault.
-- Assumes nothing.
use Prim.Native.Nat.{ℕ, ◌+◌, ◌*◌, ◌/◌, ◌^◌, ◌≤◌, ◌<◌}
use native.Mathlib.Omega.{arith}
use mathlib.Core.Path.{◌≡◌}
use mathlib.Core.Bool.{Bool, true}
use lib.ListN.{length}
use Rattle.model.specs.Octets.{Octets, bytes}
use Rattle.model.specs.Lengths as Lengths
use Rattle.model.specs.Meanings.{hub_load}
use Rattle.model.specs.Moves.{Moved, hub_downgrade, hub_upgrade}
use Rattle.model.specs.Written.{LoadAnswer, MoveAnswer}
use Rattle.model.specs.Written as Case
use Rattle.model.proofs.Theorems.{loads_answered, moves_answered, no_move_longer}
use Rattle.model.proofs.Model.Load.{fault_number_lem}
use Rattle.hub.specs.Entries.{ReturnsLoaded, ReturnsMoved}
use Rattle.hub.specs.Runs.{answer_in, count_in, offset_in}

-- an answer of eight bits, a count of 24 and a third number are read back as they were put in
pub read_back_third : (r a n t : ℕ) → r ≡ a + 256 * n + 2 ^ 32 * t → a < 256 → n < 2 ^ 24 → (answer_in r ≡ a) × (count_in r ≡ n) × (r / 2 ^ 32 ≡ t)
unfolding answer_in count_in
read_back_third r a n t e k l = rw e (omega arith, omega arith, omega arith)

-- what load answers has eight bits
load_small : (n a at : ℕ) → LoadAnswer n a at → a < 256
load_small n a at Case.loaded = omega arith
load_small n a at Case.bad_state = omega arith
load_small n a at (Case.bad_image k x h) = omega (arith, fault_number_lem k)

-- and what a move answers
move_small : (n : ℕ) (back : Bool) (a at : ℕ) (o : Octets) → MoveAnswer n back a at o → a < 256
move_small n back a at o Case.moved = omega arith
move_small n back a at o Case.no_room = omega arith
move_small n back a at o (Case.bad_image k x h) = omega (arith, fault_number_lem k)
move_small n back a at o Case.not_in_image = omega arith

-- A HOST READS BACK answer and offset of a load; the count is 0
pub load_seen : (buffer image : Octets) (r : ℕ) (s : Octets) → ReturnsLoaded (hub_load buffer image) r s
    → (answer_in r ≡ (hub_load buffer image).answer) × (count_in r ≡ 0) × (offset_in r ≡ (hub_load buffer image).offset)
unfolding offset_in
load_seen buffer image r s l =
    read_back_third r (hub_load buffer image).answer 0 (hub_load buffer image).offset (omega (arith, l.number))
    (load_small (length image) _ _ (loads_answered buffer image)) (omega arith)

-- and answer, count and offset of a move
move_seen : (m : Moved) (r : ℕ) (before after : Octets) → m.answer < 256 → length m.octets ≤ Lengths.largest_image → ReturnsMoved m r before after
    → (answer_in r ≡ m.answer) × (count_in r ≡ length m.octets) × (offset_in r ≡ m.offset)
unfolding offset_in
move_seen m r before after k l e = read_back_third r m.answer (length m.octets) m.offset e.number k (omega arith)

-- of the move to version 2
pub upgrade_seen : (image : Octets) (r : ℕ) (before after : Octets) → bytes image ≡ true → ReturnsMoved (hub_upgrade image (length before)) r before after
    → (answer_in r ≡ (hub_upgrade image (length before)).answer) × (count_in r ≡ length (hub_upgrade image (length before)).octets)
    × (offset_in r ≡ (hub_upgrade image (length before)).offset)
upgrade_seen image r before after w =
    move_seen (hub_upgrade image (length before)) r before after (move_small (length image) _ _ _ _ (moves_answered image (length before)).0)
    (no_move_longer image (length before) w).0

-- of the move back to version 1
pub downgrade_seen : (image : Octets) (r : ℕ) (before after : Octets) → bytes image ≡ true → ReturnsMoved (hub_downgrade image (length before)) r before after
    → (answer_in r ≡ (hub_downgrade image (length before)).answer) × (count_in r ≡ length (hub_downgrade image (length before)).octets)
    × (offset_in r ≡ (hub_downgrade image (length before)).offset)
downgrade_seen image r before after w =
    move_seen (hub_downgrade image (length before)) r before after (move_small (length image) _ _ _ _ (moves_answered image (length before)).1)
    (no_move_longer image (length before) w).1
