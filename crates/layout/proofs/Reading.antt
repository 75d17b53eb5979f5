-- Reading by places: `decode` is reading at fixed places, so each read is said in the model's words and holds of any octets.
use mathlib.Core.Path.{◌≡◌, refl, ap, sym, ◌∙◌}
use Prim.Native.Nat.{ℕ, zero, suc, ◌+◌, ◌*◌, ◌≤◌, ◌<◌}
use native.Mathlib.Omega.{arith}
use native.Mathlib.Nat.{add-zero}
use mathlib.Core.Bool.{Bool, true, false}
use mathlib.Core.Option.{Option, none, some}
use lib.ListN.{get_or, take, drop}
use lib.Seq.{get_or-drop, drop-drop}
use lib.Dec.{eqb, ltb, lit<, lit≤}
use borrow.Author.Tests.{lt-ltb, ltb-true}
use Rattle.model.specs.Lengths as Lengths
use Rattle.model.specs.declared.Hardware.{Hardware}
use Rattle.model.specs.declared.Settings.{Settings}
use Rattle.model.specs.Octets.{Octets, u16, u32}
use Rattle.model.specs.State.{Controller, controller_at, settings_of}
use Rattle.model.specs.Layout.{controller_back, controller_in, controllers_in, decode, open_back, open_in, opens_in}
use Rattle.model.proofs.Model.Tests.{and_true}
use Rattle.octets.specs.Parts.{part, place_at}
use Rattle.octets.proofs.Parts.{get_d_part, part_part}
use Rattle.layout.specs.Places.{Ready, base, controller_of, open_at, place_of, present_at, sizes}
use Rattle.model.specs.Meanings.{state_ok}
use Rattle.model.proofs.Model.Demand3.{state_long}

-- 1. The blocks of the decoded state ----------------------------------------------------------------------------------------------------------

-- the controller of block i
controllers_at : (n : ℕ) (o : Octets) (i : ℕ) → i < n → get_or (controllers_in n o) i none ≡ controller_in (part o (Lengths.block * i) Lengths.block)
unfolding controllers_in part
controllers_at zero o i l = absurd (omega arith)
controllers_at (suc n) o zero l = refl
controllers_at (suc n) o (suc i) l =
    let e : Lengths.block * suc i ≡ Lengths.block + Lengths.block * i = omega arith in
    rw (e, ← drop-drop (Lengths.block * i) Lengths.block o) (controllers_at n (drop Lengths.block o) i (omega arith))

-- the open command of block i
opens_at : (n : ℕ) (o : Octets) (i : ℕ) → i < n → get_or (opens_in n o) i none ≡ open_in (part o (Lengths.block * i) Lengths.block)
unfolding opens_in part
opens_at zero o i l = absurd (omega arith)
opens_at (suc n) o zero l = refl
opens_at (suc n) o (suc i) l =
    let e : Lengths.block * suc i ≡ Lengths.block + Lengths.block * i = omega arith in
    rw (e, ← drop-drop (Lengths.block * i) Lengths.block o) (opens_at n (drop Lengths.block o) i (omega arith))

-- the octets of block i, from behind the clock and from the start
block_octets : (s : Octets) (i : ℕ) → part (drop 4 s) (Lengths.block * i) Lengths.block ≡ part s (base i) Lengths.block
unfolding part
block_octets s i = rw (drop-drop (Lengths.block * i) 4 s)

-- the controller of block i of the decoded state
block_controller : (s : Octets) (i : ℕ) → i < 4 → get_or (decode s).plain.controllers i none ≡ controller_in (part s (base i) Lengths.block)
unfolding decode
block_controller s i l = controllers_at 4 (drop 4 s) i l ∙ ap controller_in (block_octets s i)

-- and its open command
pub block_open : (s : Octets) (i : ℕ) → i < 4 → open_at s i ≡ open_in (part s (base i) Lengths.block)
unfolding decode open_at
block_open s i l = opens_at 4 (drop 4 s) i l ∙ ap open_in (block_octets s i)

-- a block's first octet
first_octet : (s : Octets) (i : ℕ) → get_or (part s (base i) Lengths.block) 0 0 ≡ get_or s (base i) 0
first_octet s i = get_d_part s (base i) Lengths.block 0 (omega arith) ∙ rw add-zero

-- by the first octet: a controller
pub controller_some : (o : Octets) → eqb (get_or o 0 0) 1 ≡ true → controller_in o ≡ some (controller_back (drop 6 o))
unfolding controller_in
controller_some o e = rw (e, controller_in)

-- no controller
controller_none : (o : Octets) → eqb (get_or o 0 0) 1 ≡ false → controller_in o ≡ none
unfolding controller_in
controller_none o e = rw (e, controller_in)

-- an open command, or none by its code
pub open_some : (o : Octets) → eqb (get_or o 0 0) 1 ≡ true → open_in o ≡ open_back (drop 1 o)
unfolding open_in
open_some o e = rw (e, open_in)

-- no open command
open_none : (o : Octets) → eqb (get_or o 0 0) 1 ≡ false → open_in o ≡ none
unfolding open_in
open_none o e = rw (e, open_in)

-- 2. Present and absent -----------------------------------------------------------------------------------------------------------------------

-- a present index is one of four
pub present_below : (s : Octets) (i : ℕ) → present_at s i ≡ true → i < 4
unfolding present_at
present_below s i e = ltb-true i 4 (and_true (ltb i 4) _ e).0

-- the two tests, of the state and of the index, make `Ready`
pub ready : (s : Octets) (i : ℕ) → state_ok s ≡ true → present_at s i ≡ true → Ready s i
ready s i ok here = record { ok = ok; here = here; long = state_long s ok; below = present_below s i here }

-- the test of a present index, taken apart
pub present_octet : (s : Octets) (i : ℕ) → present_at s i ≡ true → (i < 4) × (eqb (get_or (part s (base i) Lengths.block) 0 0) 1 ≡ true)
unfolding present_at
present_octet s i e = let a = and_true (ltb i 4) _ e in (ltb-true i 4 a.0, rw (first_octet s i) a.1)

-- a present index holds the controller that stands there
pub present_slot : (s : Octets) (i : ℕ) → present_at s i ≡ true → get_or (decode s).plain.controllers i none ≡ some (controller_of s i)
unfolding controller_of
present_slot s i e =
    let a = present_octet s i e in
    block_controller s i a.0 ∙ controller_some (part s (base i) Lengths.block) a.1

-- so does the hub
pub present_controller : (s : Octets) (i : ℕ) → Ready s i → controller_at (decode s).plain i ≡ some (controller_of s i)
unfolding controller_at
present_controller s i r = rw (lt-ltb i 4 r.below, controller_at) (present_slot s i r.here)

-- an absent index below 4: the first octet is not 1
absent_octet : (s : Octets) (i : ℕ) → i < 4 → present_at s i ≡ false → eqb (get_or (part s (base i) Lengths.block) 0 0) 1 ≡ false
unfolding present_at
absent_octet s i l e = rw (first_octet s i) (rw (lt-ltb i 4 l) at e)

-- no controller
pub absent_slot : (s : Octets) (i : ℕ) → i < 4 → present_at s i ≡ false → get_or (decode s).plain.controllers i none ≡ none
absent_slot s i l e = block_controller s i l ∙ controller_none (part s (base i) Lengths.block) (absent_octet s i l e)

-- nothing under way
pub absent_open : (s : Octets) (i : ℕ) → i < 4 → present_at s i ≡ false → open_at s i ≡ none
absent_open s i l e = block_open s i l ∙ open_none (part s (base i) Lengths.block) (absent_octet s i l e)

-- so does the hub, whatever the index
pub absent_controller : (s : Octets) (i : ℕ) → present_at s i ≡ false → controller_at (decode s).plain i ≡ none
unfolding controller_at
absent_controller s i e = go (ltb i 4) refl
  where
    go : (b : Bool) → ltb i 4 ≡ b → ◌≡◌ {A = Option Controller} (elim b [ true ↦ get_or (decode s).plain.controllers i none | false ↦ none ]) none
    go false t = refl
    go true t = absent_slot s i (ltb-true i 4 t) e

-- 3. The parts of a controller ----------------------------------------------------------------------------------------------------------------

-- what stands in the block of a controller stands in the state: an octet
pub octet_at : (s : Octets) (b k : ℕ) → k < 4366 → get_or (drop 6 (part s b Lengths.block)) k 0 ≡ get_or s (b + (6 + k)) 0
octet_at s b k h = get_or-drop 6 (part s b Lengths.block) k 0 ∙ get_d_part s b Lengths.block (6 + k) (omega arith)

-- a part
part_at : (s : Octets) (b k n : ℕ) → 6 + k + n ≤ Lengths.block → take n (drop k (drop 6 (part s b Lengths.block))) ≡ part s (b + (6 + k)) n
unfolding part
part_at s b k n h = rw (drop-drop k 6 (part s b Lengths.block)) (part_part s b Lengths.block (6 + k) n h)

-- a number of two octets
pub u16_at : (s : Octets) (b k : ℕ) → k < 4365 → u16 (drop 6 (part s b Lengths.block)) k ≡ u16 s (b + (6 + k))
unfolding u16
u16_at s b k h =
    let e : b + (6 + (k + 1)) ≡ b + (6 + k) + 1 = omega arith in
    rw (octet_at s b k (omega arith), octet_at s b (k + 1) (omega arith), e)

-- a number of four octets
u32_at : (s : Octets) (b k : ℕ) → k < 4019 → u32 (drop 6 (part s b Lengths.block)) k ≡ u32 s (b + (6 + k))
unfolding u32
u32_at s b k h =
    let e : b + (6 + (k + 2)) ≡ b + (6 + k) + 2 = omega arith in
    rw (u16_at s b k (omega arith), u16_at s b (k + 2) (omega arith), e)

-- the hardware of the block that begins at b
unfoldable pub hardware_from : Octets → ℕ → Hardware
hardware_from s b = record { public_address = part s (b + 13) 6; version = get_or s (b + 6) 0; manufacturer = u16 s (b + 7); supported = u32 s (b + 9) }

-- it is the controller's hardware
pub hardware_at : (s : Octets) (i : ℕ) → hardware_from s (base i) ≡ (controller_of s i).radio.hardware
unfolding hardware_from controller_of controller_back
hardware_at s i =
    let b = base i in
    rw (part_at s b 7 6 (lit≤ tt), octet_at s b 0 (lit< tt), u16_at s b 1 (lit< tt), u32_at s b 3 (lit< tt))

-- the settings of the block that begins at b, with the hardware f
unfoldable pub settings_from : Octets → ℕ → Hardware → Settings
settings_from s b f = record {
  radio = record {
    hardware = f;
    powered = eqb (get_or s (b + 19) 0) 1;
    connectable = eqb (get_or s (b + 20) 0) 1;
    bredr = eqb (get_or s (b + 23) 0) 1;
    low_energy = eqb (get_or s (b + 24) 0) 1;
    static_address = part s (b + 27) 6;
  };
  host = record { timer = record { discoverable = eqb (get_or s (b + 21) 0) 1; seconds = u16 s (b + 25) }; bondable = eqb (get_or s (b + 22) 0) 1 };
}

-- they are the controller's settings
pub settings_at : (s : Octets) (i : ℕ) → settings_from s (base i) (controller_of s i).radio.hardware ≡ settings_of (controller_of s i)
unfolding settings_from settings_of controller_of controller_back
settings_at s i =
    let b = base i in
    rw (
      octet_at s b 13 (lit< tt),
      octet_at s b 14 (lit< tt),
      octet_at s b 17 (lit< tt),
      octet_at s b 18 (lit< tt),
      part_at s b 21 6 (lit≤ tt),
      octet_at s b 15 (lit< tt),
      u16_at s b 19 (lit< tt),
      octet_at s b 16 (lit< tt),
    )

-- the name, where it lies
pub name_at : (s : Octets) (i : ℕ) → part s (place_of i 4) 260 ≡ (controller_of s i).host.name
unfolding place_of place_at sizes controller_of controller_back
name_at s i = sym (part_at s (base i) 27 260 (lit≤ tt))

-- the clock, at the start
pub clock_at : (s : Octets) → u32 s 0 ≡ (decode s).plain.clock
unfolding decode
clock_at s = refl
