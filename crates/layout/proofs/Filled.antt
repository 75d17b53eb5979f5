-- The block of an absent index, which is zero, filled by plug; the fresh state; the clock.
use mathlib.Core.Path.{◌≡◌, refl, ap, sym, ◌∙◌}
use Prim.Native.Nat.{ℕ, ◌+◌, ◌<◌}
use native.Mathlib.Omega.{arith}
use native.Mathlib.Nat.{add-zero}
use mathlib.Core.Bool.{true, false}
use mathlib.Core.List.{List, [], ◌∷◌, map}
use mathlib.Core.Option.{Option, none, some}
use lib.ListN.{length, get_or, drop, replicate, length-replicate}
use lib.Dec.{lit<, lit≤}
use Rattle.model.specs.Lengths as Lengths
use Rattle.model.specs.declared.Hardware.{Hardware}
use Rattle.model.specs.Octets.{Octets, le16, le32}
use Rattle.model.specs.Advertising.{no_advertising, no_schedule}
use Rattle.model.specs.Commands.{words}
use Rattle.model.specs.State.{OpenCommand, bredr_supported, flag, fresh, idle, le_supported, no_tables, no_timer, nothing_waits, plugged, settings_of}
use Rattle.model.specs.Tables.{blocked_rule, device_rule, identity_key_rule, link_key_rule, long_term_key_rule, table_rules, uuid_rule}
use Rattle.model.specs.Layout.{data_part, schedule_part, waiting_part}
use Rattle.model.specs.Layout.{block, blocks, decode, encode, hardware_part, occupancy, open_part, region, settings_part, slot_octets, slots}
use Rattle.model.specs.Meanings.{state_ok}
use Rattle.model.proofs.Model.Demand3.{state_back, state_well}
use Rattle.octets.specs.Parts.{place_at, write_at}
use Rattle.octets.proofs.Parts.{join, lengths, write_split, write_whole}
use Rattle.layout.specs.Places.{base, hardware_head, open_at, place_of, present_at, put_controller, sizes, transports_of, with_clock}
use Rattle.layout.proofs.Reading.{absent_open, absent_slot}
use Rattle.layout.proofs.Lens.{Shaped, advertising_pieces, join_block, piece_write, pieces, region_pieces, shaped, state_is, state_put, with_block}
use Rattle.layout.proofs.Lens.{with_slot}
use Rattle.layout.proofs.Lens.{write_in_sized, write_in}
use Rattle.layout.proofs.Change.{put_controller_lem}
use Rattle.table.proofs.Regions.{word_over}

-- 1. A block filled ---------------------------------------------------------------------------------------------------------------------------

-- the pieces of a block that is zero
zero_pieces : List Octets
zero_pieces = map (λ n. replicate n 0) sizes

-- they have their sizes
zero_sized : lengths zero_pieces ≡ sizes
unfolding zero_pieces lengths sizes
zero_sized = refl

-- joined, they are the block of an absent index
zero_block : (o : Option OpenCommand) → block none o ≡ join zero_pieces
unfolding zero_pieces join sizes block
zero_block o = refl

-- the hardware fills its piece
length_hardware : (f : Hardware) → length f.public_address ≡ 6 → length (hardware_part f) ≡ 13
unfolding hardware_part le16 le32
length_hardware f n = omega arith

-- with 1 before them, the hardware and the flags of BR/EDR and Low Energy, they are those of a controller just plugged
filled_pieces : (f : Hardware) → length f.public_address ≡ 6
    → write_in (write_in (write_in zero_pieces 0 0 (1 ∷ [])) 2 0 (hardware_part f)) 3 4 (transports_of f) ≡ pieces (plugged f) none
unfolding zero_pieces sizes transports_of write_in write_at pieces open_part plugged settings_part settings_of no_timer no_tables flag le16 le32 region_pieces region
    advertising_pieces schedule_part data_part words no_advertising no_schedule occupancy slots slot_octets table_rules uuid_rule link_key_rule long_term_key_rule
    identity_key_rule blocked_rule device_rule
filled_pieces f n =
    let hw : write_at (replicate 13 0) 0 (hardware_part f) ≡ hardware_part f = write_whole (replicate 13 0) (hardware_part f) (length_hardware f n) in
    ap {B = List Octets}
    (λ x. (1 ∷ []) ∷ replicate 5 0 ∷ x ∷ (0 ∷ 0 ∷ 0 ∷ 0 ∷ flag (bredr_supported f) 1 ∷ flag (le_supported f) 1 ∷ replicate 8 0) ∷ drop 4 zero_pieces) hw

-- the hardware in two writes
two_parts : (d : Octets) (b : ℕ) (f : Hardware) → write_at (write_at d (b + 6) (hardware_head f)) (b + 13) f.public_address ≡ write_at d (b + 6) (hardware_part f)
unfolding hardware_head hardware_part le16 le32
two_parts d b f =
    let e : b + 13 ≡ b + 6 + 7 = omega arith in
    rw e (sym (write_split d (b + 6) (hardware_head f) f.public_address))

module _ (s : Octets) (i : ℕ) (f : Hardware) (ok : state_ok s ≡ true) (l : i < 4) (gone : present_at s i ≡ false) (n : length f.public_address ≡ 6) where
  -- the shape of the hub
  shape : Shaped (decode s) i
  shape = shaped (decode s) i (state_well s ok) l

  -- the block of the absent index is those pieces
  zero_now : s ≡ with_block (decode s) i (join zero_pieces)
  zero_now = state_back s ok ∙ state_is (decode s) i shape.below ∙ rw (absent_slot s i l gone, zero_block (get_or (decode s).open_commands i none))

  -- present, hardware and the two flags, each in its piece
  three_writes : write_at (write_at (write_at s (place_of i 0 + 0) (1 ∷ [])) (place_of i 2 + 0) (hardware_part f)) (place_of i 3 + 4) (transports_of f)
      ≡ with_block (decode s) i (join (pieces (plugged f) none))
  unfolding sizes transports_of
  three_writes =
      let h = decode s in
      let ps = write_in zero_pieces 0 0 (1 ∷ []) in
      let z = write_in_sized zero_pieces 0 0 (1 ∷ []) zero_sized in
      let qs = write_in ps 2 0 (hardware_part f) in
      let y = write_in_sized ps 2 0 (hardware_part f) z in
      let m = length_hardware f n in
      let one = ap (λ (x : Octets). write_at x (place_of i 0 + 0) (1 ∷ [])) zero_now
      ∙ piece_write h i shape zero_pieces zero_sized 0 0 (1 ∷ []) (lit< tt) (lit≤ tt) in
      let two = ap (λ (x : Octets). write_at x (place_of i 2 + 0) (hardware_part f)) one
      ∙ piece_write h i shape ps z 2 0 (hardware_part f) (lit< tt) (omega arith) in
      ap (λ (x : Octets). write_at x (place_of i 3 + 4) (transports_of f)) two
      ∙ piece_write h i shape qs y 3 4 (transports_of f) (lit< tt) (lit≤ tt)
      ∙ ap (λ (x : List Octets). with_block h i (join x)) (filled_pieces f n)

  -- with the pieces of a controller just plugged, the state is that of the hub with it
  plugged_state : with_block (decode s) i (join (pieces (plugged f) none)) ≡ encode (put_controller (decode s) i (plugged f))
  unfolding open_at
  plugged_state =
      let o : get_or (decode s).open_commands i none ≡ none = absent_open s i l gone in
      let p : with_slot (decode s) i (some (plugged f)) none ≡ put_controller (decode s) i (plugged f) = rw o at (put_controller_lem (decode s) i (plugged f)) in
      rw (← join_block (plugged f) none) (state_put (decode s) i (some (plugged f)) none shape.beside) ∙ ap encode p

  -- the four writes of plug: present, the hardware in two parts, the two flags
  pub block_filled : write_at (write_at (write_at (write_at s (base i) (1 ∷ [])) (base i + 6) (hardware_head f)) (base i + 13) f.public_address)
      (base i + 23) (transports_of f)
      ≡ encode (put_controller (decode s) i (plugged f))
  unfolding place_of place_at sizes
  block_filled =
      let e : base i + 23 ≡ base i + 19 + 4 = omega arith in
      let g = three_writes in
      rw (two_parts (write_at s (base i) (1 ∷ [])) (base i) f, e) ((simp add-zero at g) ∙ plugged_state)

-- 2. The fresh state --------------------------------------------------------------------------------------------------------------------------

-- zeros are the fresh state
fresh_zeros : (n : ℕ) → n ≡ Lengths.state → replicate n 0 ≡ encode (idle fresh)
unfolding encode idle fresh nothing_waits blocks block waiting_part le32
fresh_zeros n e = rw e

-- a state of the right length made zero
pub state_cleared : (s : Octets) (n : ℕ) → length s ≡ Lengths.state → n ≡ Lengths.state → write_at s 0 (replicate n 0) ≡ encode (idle fresh)
state_cleared s n e m =
    let z : length (replicate {A = ℕ} n 0) ≡ length s = length-replicate {A = ℕ} n 0 ∙ m ∙ sym e in
    write_whole s (replicate n 0) z ∙ fresh_zeros n m

-- 3. The clock --------------------------------------------------------------------------------------------------------------------------------

-- the clock written anew
pub clock_changed : (s : Octets) (v : ℕ) → state_ok s ≡ true → write_at s 0 (le32 v) ≡ encode (with_clock (decode s) v)
unfolding encode with_clock
clock_changed s v ok = ap (λ (x : Octets). write_at x 0 (le32 v)) (state_back s ok) ∙ word_over _ v _
