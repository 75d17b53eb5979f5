-- Each write to a well-formed state, as the change of the hub that it makes; and what lies at the places of a present controller.
use mathlib.Core.Path.{◌≡◌, refl, ap, sym, ◌∙◌}
use Prim.Native.Nat.{ℕ, ◌<◌}
use native.Mathlib.Omega.{arith}
use native.Mathlib.Nat.{add-zero}
use mathlib.Core.Bool.{true}
use mathlib.Core.List.{List, []}
use mathlib.Core.Option.{Option, none, some}
use lib.ListN.{length, get_or, set, replicate, length-replicate}
use lib.Seq.{take_all, set-get_or}
use lib.Dec.{lit<}
use Rattle.model.specs.Lengths as Lengths
use Rattle.model.specs.declared.Settings.{Settings}
use Rattle.model.specs.Octets.{Octets, le16}
use Rattle.model.specs.State.{Controller, Hub, OpenCommand, settings_of, with_controller, with_host, with_name}
use Rattle.model.specs.Hub.{with_open}
use Rattle.model.specs.WellFormed.{controller_ok, plain_ok, well_formed}
use Rattle.model.specs.Layout.{block, decode, encode, open_part, settings_part}
use Rattle.model.proofs.Model.Demand3.{state_back, state_well}
use Rattle.model.proofs.Model.Layout.{length_open}
use Rattle.model.proofs.Model.Stays.{controller_ok_lem}
use Rattle.model.proofs.Model.Tests.{and_true}
use Rattle.octets.specs.Parts.{part, write_at}
use Rattle.octets.proofs.Parts.{join, lengths, write_whole}
use Rattle.layout.specs.Places.{Ready, base, controller_of, emptied, open_at, place_of, put_controller, sizes}
use Rattle.rules.specs.Effects.{with_settings}
use Rattle.layout.proofs.Reading.{present_controller, present_slot}
use Rattle.layout.proofs.Lens.{Shaped, block_put, all_long, join_block, piece_length, piece_read, piece_write, pieces, pieces_sized, shaped}
use Rattle.layout.proofs.Lens.{state_is, state_put, with_block, with_slot, write_in}

-- 1. One slot of the hub, changed -----------------------------------------------------------------------------------------------------------------

-- another controller beside the open command that stands there
pub put_controller_lem : (h : Hub) (i : ℕ) (d : Controller) → with_slot h i (some d) (get_or h.open_commands i none) ≡ put_controller h i d
unfolding with_slot put_controller
put_controller_lem h i d = rw set-get_or

-- another open command beside the controller that stands there
pub put_open : (h : Hub) (i : ℕ) (c : Controller) (o : Option OpenCommand) → get_or h.plain.controllers i none ≡ some c
    → with_slot h i (some c) o ≡ with_open h i o
unfolding with_slot with_open with_controller
put_open h i c o e = rw (← e, set-get_or)

-- an empty slot, with nothing under way
pub put_none : (h : Hub) (i : ℕ) → with_slot h i none none ≡ emptied h i
unfolding with_slot emptied
put_none h i = refl

-- an empty block is zeros
zeros : (n : ℕ) → n ≡ Lengths.block → replicate n 0 ≡ block none none
unfolding block
zeros n e = rw e

-- a write over a whole piece
pub write_piece : (ps : List Octets) (k : ℕ) (w : Octets) → length w ≡ length (get_or ps k []) → write_in ps k 0 w ≡ set ps k w
unfolding write_in
write_piece ps k w e = ap (λ (x : Octets). set ps k x) (write_whole (get_or ps k []) w e)

-- 2. A well-formed state and a present index ----------------------------------------------------------------------------------------------------

-- the controller at a present index is valid
pub controller_fine : (s : Octets) (i : ℕ) → Ready s i → controller_ok (controller_of s i) ≡ true
unfolding well_formed
controller_fine s i r =
    controller_ok_lem (decode s).plain i (controller_of s i) (and_true (plain_ok (decode s).plain) _ (state_well s r.ok)).0 (present_controller s i r)

module _ (s : Octets) (i : ℕ) (r : Ready s i) where
  -- the shape of the hub
  pub shape : Shaped (decode s) i
  shape = shaped (decode s) i (state_well s r.ok) r.below

  -- the block of a present index is the pieces of its controller and its open command
  pub now_is : s ≡ with_block (decode s) i (join (pieces (controller_of s i) (open_at s i)))
  unfolding open_at
  now_is =
      state_back s r.ok ∙ state_is (decode s) i shape.below
      ∙ rw (present_slot s i r.here, join_block (controller_of s i) (get_or (decode s).open_commands i none))

  -- and they have their sizes
  pub now_sized : lengths (pieces (controller_of s i) (open_at s i)) ≡ sizes
  now_sized = pieces_sized (controller_of s i) (open_at s i) (controller_fine s i r)

  -- what is read in piece k
  pub piece_at : (k n : ℕ) → n ≡ get_or sizes k 0 → part s (place_of i k) n ≡ get_or (pieces (controller_of s i) (open_at s i)) k []
  unfolding part
  piece_at k n e =
      let ps = pieces (controller_of s i) (open_at s i) in
      let q = piece_read (decode s) i shape ps now_sized k 0 n (omega arith) in
      let m = piece_length (decode s) i shape ps now_sized k in
      ap (λ (x : Octets). part x (place_of i k) n) now_is ∙ (rw add-zero at q) ∙ take_all n (get_or ps k []) (omega arith)

  -- piece k written anew, where that makes the pieces of a controller d and an open command o
  pub piece_changed : (k : ℕ) (w : Octets) (d : Controller) (o : Option OpenCommand) → k < 22 → length w ≡ get_or sizes k 0
      → set (pieces (controller_of s i) (open_at s i)) k w ≡ pieces d o
      → write_at s (place_of i k) w ≡ encode (with_slot (decode s) i (some d) o)
  piece_changed k w d o l n e =
      let ps = pieces (controller_of s i) (open_at s i) in
      let q = piece_write (decode s) i shape ps now_sized k 0 w l (omega arith) in
      let m : length w ≡ length (get_or ps k []) = n ∙ sym (piece_length (decode s) i shape ps now_sized k) in
      let p : write_in ps k 0 w ≡ pieces d o = write_piece ps k w m ∙ e in
      let f : with_block (decode s) i (join (pieces d o)) ≡ encode (with_slot (decode s) i (some d) o) = rw (← join_block d o)
      (state_put (decode s) i (some d) o shape.beside) in
      ap (λ (x : Octets). write_at x (place_of i k) w) now_is ∙ (rw (add-zero, p) at q) ∙ f

  -- a piece of the controller written anew, with the open command as it was
  pub controller_changed : (k : ℕ) (w : Octets) (d : Controller) → k < 22 → length w ≡ get_or sizes k 0
      → set (pieces (controller_of s i) (open_at s i)) k w ≡ pieces d (open_at s i)
      → write_at s (place_of i k) w ≡ encode (put_controller (decode s) i d)
  unfolding open_at
  controller_changed k w d l n e = piece_changed k w d (open_at s i) l n e ∙ ap encode (put_controller_lem (decode s) i d)

  -- the piece of the open command, written anew
  pub open_changed : (o : Option OpenCommand) → write_at s (place_of i 1) (open_part o) ≡ encode (with_open (decode s) i o)
  unfolding pieces sizes
  open_changed o =
      piece_changed 1 (open_part o) (controller_of s i) o (lit< tt) (length_open o) refl
      ∙ ap encode (put_open (decode s) i (controller_of s i) o (present_slot s i r.here))

  -- the piece of the settings, written anew
  pub settings_changed_lem : (m : Settings) → length m.radio.static_address ≡ 6
      → write_at s (place_of i 3) (settings_part m) ≡ encode (put_controller (decode s) i (with_settings (controller_of s i) m))
  unfolding pieces sizes with_settings settings_part settings_of le16
  settings_changed_lem m n = controller_changed 3 (settings_part m) (with_settings (controller_of s i) m) (lit< tt) (omega arith) refl

  -- the piece of the name, written anew
  pub name_changed_lem : (ps : Octets) → length ps ≡ 260
      → write_at s (place_of i 4) ps ≡ encode (put_controller (decode s) i (with_host (controller_of s i) (with_name (controller_of s i).host ps)))
  unfolding pieces sizes with_host with_name settings_of
  name_changed_lem ps n = controller_changed 4 ps (with_host (controller_of s i) (with_name (controller_of s i).host ps)) (lit< tt) n refl

  -- the block made zero, whole
  pub block_emptied : (n : ℕ) → n ≡ Lengths.block → write_at s (base i) (replicate n 0) ≡ encode (emptied (decode s) i)
  block_emptied n e =
      let ps = pieces (controller_of s i) (open_at s i) in
      let q = block_put (decode s) i shape (join ps) (all_long (decode s) i shape ps now_sized) (replicate n 0) (length-replicate {A = ℕ} n 0 ∙ e) in
      ap (λ (x : Octets). write_at x (base i) (replicate n 0)) now_is ∙ q ∙ ap (λ (x : Octets). with_block (decode s) i x) (zeros n e)
      ∙ state_put (decode s) i none none shape.beside
      ∙ ap encode (put_none (decode s) i)
