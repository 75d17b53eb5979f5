-- After a write the state is well formed again, and stands for the changed hub: so a command may write twice.
use mathlib.Core.Path.{◌≡◌, refl, ap, sym, ◌∙◌}
use Prim.Native.Nat.{ℕ, zero, suc, ◌<◌}
use native.Mathlib.Omega.{arith}
use mathlib.Core.Bool.{Bool, true, false}
use mathlib.Core.List.{List, [], ◌∷◌}
use mathlib.Core.Option.{Option, none, some}
use lib.ListN.{length, get_or, set, length-set}
use lib.Seq.{get_or-set_other, get_or-set_same}
use lib.Dec.{ltb}
use Rattle.model.specs.Octets.{Octets}
use Rattle.model.specs.State.{Controller, Host, Hub, OpenCommand, PlainHub, controller_at, with_controller, with_host}
use Rattle.model.specs.Hub.{under_way, with_open}
use Rattle.model.specs.WellFormed.{controller_ok, open_ok, opens_ok, plain_ok, slot_is_ok, well_formed}
use Rattle.model.specs.Layout.{decode, encode}
use Rattle.model.proofs.Model.Decode.{decode_encode}
use Rattle.model.proofs.Model.Demand3.{encode_ok, state_well}
use Rattle.model.proofs.Model.Keeps.{opens_at, slot_four, well_fit}
use Rattle.model.proofs.Model.Stays.{fit_plain, plain_fit, slots_set}
use Rattle.model.proofs.Model.Tests.{and_true, both, no_way}
use Rattle.layout.specs.Places.{Ready, controller_of, open_at, present_at, put_controller}
use Rattle.layout.proofs.Reading.{absent_controller, present_controller, present_slot, ready}
use Rattle.layout.proofs.Lens.{shaped, with_slot}
use Rattle.layout.proofs.Change.{controller_fine, put_controller_lem, put_open}

-- 1. Well-formed hubs, changed ------------------------------------------------------------------------------------------------------------------

-- one slot and its open command changed
opens_set : (ss : List (Option Controller)) (os : List (Option OpenCommand)) (i : ℕ) (x : Option Controller) (o : Option OpenCommand)
    → opens_ok ss os ≡ true → open_ok x o ≡ true
    → opens_ok (set ss i x) (set os i o) ≡ true
unfolding opens_ok
opens_set [] [] i x o e n = refl
opens_set [] (p ∷ os) i x o e n = no_way (sym e)
opens_set (s ∷ ss) [] i x o e n = no_way (sym e)
opens_set (s ∷ ss) (p ∷ os) zero x o e n = both n (and_true (open_ok s p) _ e).1
opens_set (s ∷ ss) (p ∷ os) (suc i) x o e n = let a = and_true (open_ok s p) _ e in both a.0 (opens_set ss os i x o a.1 n)

-- leave a well-formed hub so, if the two fit
pub slot_well : (h : Hub) (i : ℕ) (x : Option Controller) (o : Option OpenCommand) → well_formed h ≡ true → slot_is_ok x ≡ true → open_ok x o ≡ true
    → well_formed (with_slot h i x o) ≡ true
unfolding well_formed with_slot with_controller
slot_well h i x o e k n =
    let a = well_fit h e in
    let f = plain_fit h.plain a.plain in
    let p : plain_ok (with_controller h.plain i x) ≡ true =
    fit_plain (with_controller h.plain i x) (record
    { four = rw (length-set h.plain.controllers i x) f.four; clock = f.clock; slots = slots_set h.plain.controllers i x f.slots k }) in
    both p (both (opens_set h.plain.controllers h.open_commands i x o a.open_commands n) a.waiting)

-- a controller changed
pub put_well : (h : Hub) (i : ℕ) (c : Controller) → well_formed h ≡ true → controller_ok c ≡ true → open_ok (some c) (under_way h i) ≡ true
    → well_formed (put_controller h i c) ≡ true
unfolding slot_is_ok under_way
put_well h i c e k n = rw (← put_controller_lem h i c) (slot_well h i (some c) (get_or h.open_commands i none) e k n)

-- an open command changed
pub open_well : (h : Hub) (i : ℕ) (c : Controller) (o : Option OpenCommand) → well_formed h ≡ true → get_or h.plain.controllers i none ≡ some c
    → controller_ok c ≡ true → open_ok (some c) o ≡ true
    → well_formed (with_open h i o) ≡ true
unfolding slot_is_ok
open_well h i c o e g k n = rw (← put_open h i c o g) (slot_well h i (some c) o e k n)

-- 2. The state of a well-formed hub ---------------------------------------------------------------------------------------------------------------

module _ (h : Hub) (e : well_formed h ≡ true) (i : ℕ) where
  -- present where it holds a controller
  pub encode_ready : (c : Controller) → controller_at h.plain i ≡ some c → Ready (encode h) i
  encode_ready c f = ready (encode h) i (encode_ok h e) (go (present_at (encode h) i) refl)
    where
      go : (b : Bool) → present_at (encode h) i ≡ b → present_at (encode h) i ≡ true
      go true t = t
      go false t =
          let a : controller_at h.plain i ≡ none = rw (decode_encode h e) at (absent_controller (encode h) i t) in
          let z : ◌≡◌ {A = ℕ} 0 1 = cc in
          absurd (omega arith)

  -- absent where it holds none
  pub encode_absent : controller_at h.plain i ≡ none → present_at (encode h) i ≡ false
  encode_absent f = go (present_at (encode h) i) refl
    where
      go : (b : Bool) → present_at (encode h) i ≡ b → present_at (encode h) i ≡ false
      go false t = t
      go true t =
          let r = ready (encode h) i (encode_ok h e) t in
          let a : controller_at h.plain i ≡ some (controller_of (encode h) i) = rw (decode_encode h e) at (present_controller (encode h) i r) in
          let z : ◌≡◌ {A = ℕ} 0 1 = cc in
          absurd (omega arith)

  -- the controller that stands there
  pub encode_controller : (c : Controller) → controller_at h.plain i ≡ some c → controller_of (encode h) i ≡ c
  encode_controller c f =
      let a : controller_at h.plain i ≡ some (controller_of (encode h) i) = rw (decode_encode h e) at (present_controller (encode h) i (encode_ready c f)) in
      cc

  -- the command under way there
  pub encode_open : open_at (encode h) i ≡ under_way h i
  unfolding open_at under_way
  encode_open = rw (decode_encode h e)

-- 3. Changed, at the index and elsewhere --------------------------------------------------------------------------------------------------------------

-- at the index
pub same_slot : (p : PlainHub) (i : ℕ) (x : Option Controller) → i < 4 → i < length p.controllers → controller_at (with_controller p i x) i ≡ x
unfolding with_controller
same_slot p i x l m = slot_four (with_controller p i x) i l ∙ get_or-set_same p.controllers i x none m

-- elsewhere
pub other_slot : (p : PlainHub) (i j : ℕ) (x : Option Controller) → (j ≡ i → ⊥) → controller_at (with_controller p i x) j ≡ controller_at p j
unfolding controller_at with_controller
other_slot p i j x n = ap (λ (y : Option Controller). elim (ltb j 4) [ true ↦ y | false ↦ none ]) (get_or-set_other p.controllers i j x none n)

-- whether an open command may stand beside a controller depends on its radio only
pub same_radio : (c d : Controller) (o : Option OpenCommand) → c.radio ≡ d.radio → open_ok (some c) o ≡ open_ok (some d) o
unfolding open_ok
same_radio c d none e = refl
same_radio c d (some o) e = rw e

module _ (s : Octets) (i : ℕ) (r : Ready s i) where
  -- the hub is well formed
  well : well_formed (decode s) ≡ true
  well = state_well s r.ok

  -- the index has a slot
  slots : i < length (decode s).plain.controllers
  slots = (shaped (decode s) i well r.below).below

  -- the open command at a present index is one that would now be started
  pub open_fine : open_ok (some (controller_of s i)) (open_at s i) ≡ true
  unfolding well_formed open_at
  open_fine =
      let a = opens_at (decode s).plain.controllers (decode s).open_commands i (well_fit (decode s) well).open_commands in
      rw (present_slot s i r.here) at a

  -- it is fine beside a controller with the same radio
  pub host_fine : (h : Host) → open_ok (some (with_host (controller_of s i) h)) (open_at s i) ≡ true
  unfolding with_host
  host_fine h = same_radio (with_host (controller_of s i) h) (controller_of s i) (open_at s i) refl ∙ open_fine

  -- After a write to the controller:
  module _ (c : Controller) (k : controller_ok c ≡ true) (n : open_ok (some c) (open_at s i) ≡ true) where
    -- the hub is well formed
    pub controller_well : well_formed (put_controller (decode s) i c) ≡ true
    unfolding open_at under_way
    controller_well = put_well (decode s) i c well k n

    -- it holds the new controller
    controller_there : controller_at (put_controller (decode s) i c).plain i ≡ some c
    unfolding put_controller
    controller_there = same_slot (decode s).plain i (some c) r.below slots

    -- the index is present in a well-formed state
    pub controller_ready : Ready (encode (put_controller (decode s) i c)) i
    controller_ready = encode_ready (put_controller (decode s) i c) controller_well i c controller_there

    -- with the new controller
    pub controller_back_lem : controller_of (encode (put_controller (decode s) i c)) i ≡ c
    controller_back_lem = encode_controller (put_controller (decode s) i c) controller_well i c controller_there

    -- the state means the changed hub
    pub controller_decoded : decode (encode (put_controller (decode s) i c)) ≡ put_controller (decode s) i c
    controller_decoded = decode_encode (put_controller (decode s) i c) controller_well

    -- the command under way is as it was
    pub controller_open : open_at (encode (put_controller (decode s) i c)) i ≡ open_at s i
    unfolding open_at put_controller
    controller_open = rw controller_decoded

    -- what another index holds is as it was
    pub other_decoded : (j : ℕ) → (j ≡ i → ⊥) → controller_at (decode (encode (put_controller (decode s) i c))).plain j ≡ controller_at (decode s).plain j
    unfolding put_controller
    other_decoded j d = rw controller_decoded (other_slot (decode s).plain i j (some c) d)

    -- another index stays present
    pub other_ready : (j : ℕ) → (j ≡ i → ⊥) → Ready s j → Ready (encode (put_controller (decode s) i c)) j
    unfolding put_controller
    other_ready j d q =
        encode_ready (put_controller (decode s) i c) controller_well j (controller_of s j)
        (other_slot (decode s).plain i j (some c) d ∙ present_controller s j q)

    -- with the same controller
    pub other_controller : (j : ℕ) → (j ≡ i → ⊥) → Ready s j → controller_of (encode (put_controller (decode s) i c)) j ≡ controller_of s j
    unfolding put_controller
    other_controller j d q =
        encode_controller (put_controller (decode s) i c) controller_well j (controller_of s j)
        (other_slot (decode s).plain i j (some c) d ∙ present_controller s j q)

    -- another absent index stays absent
    pub other_absent : (j : ℕ) → (j ≡ i → ⊥) → present_at s j ≡ false → present_at (encode (put_controller (decode s) i c)) j ≡ false
    unfolding put_controller
    other_absent j d q = encode_absent (put_controller (decode s) i c) controller_well j (other_slot (decode s).plain i j (some c) d ∙ absent_controller s j q)

  -- After a write to the open command:
  module _ (o : Option OpenCommand) (n : open_ok (some (controller_of s i)) o ≡ true) where
    -- the hub is well formed
    pub opened_well : well_formed (with_open (decode s) i o) ≡ true
    opened_well = open_well (decode s) i (controller_of s i) o well (present_slot s i r.here) (controller_fine s i r) n

    -- it holds the same controller
    opened_there : controller_at (with_open (decode s) i o).plain i ≡ some (controller_of s i)
    unfolding with_open
    opened_there = present_controller s i r

    -- the index is present in a well-formed state
    pub opened_ready : Ready (encode (with_open (decode s) i o)) i
    opened_ready = encode_ready (with_open (decode s) i o) opened_well i (controller_of s i) opened_there

    -- with the same controller
    pub opened_controller : controller_of (encode (with_open (decode s) i o)) i ≡ controller_of s i
    opened_controller = encode_controller (with_open (decode s) i o) opened_well i (controller_of s i) opened_there

    -- the state means the changed hub
    pub opened_decoded : decode (encode (with_open (decode s) i o)) ≡ with_open (decode s) i o
    opened_decoded = decode_encode (with_open (decode s) i o) opened_well

    -- with the new command under way, or none
    pub opened_back : open_at (encode (with_open (decode s) i o)) i ≡ o
    unfolding open_at with_open
    opened_back = rw opened_decoded (get_or-set_same (decode s).open_commands i o none (shaped (decode s) i well r.below).beside)
