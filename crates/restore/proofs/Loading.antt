-- The whole image: its controllers, put one after the other into a state that was made zero.
use mathlib.Core.Path.{◌≡◌, refl, ap, sym, ◌∙◌}
use Prim.Native.Nat.{ℕ, zero, suc, ◌-◌, ◌≤◌, ◌<◌}
use native.Mathlib.Omega.{arith}
use native.Mathlib.Nat.{add-zero}
use mathlib.Core.Bool.{true, false}
use mathlib.Core.List.{[]}
use mathlib.Core.Option.{none, some}
use lib.ListN.{length, get_or, drop, replicate, set, length-drop, length-set}
use lib.Seq.{drop-cons, get_or-drop, get_or-set_other}
use borrow.Author.Tests.{lt-ltb}
use Rattle.model.specs.declared.Version.{Version}
use Rattle.model.specs.Octets.{Octets, bytes, octet}
use Rattle.model.specs.State.{Controller, PlainHub, controller_at, fresh, idle, with_controller}
use Rattle.model.specs.Reading.{Slots, goes_on, hub_of, items, nothing_dropped, walk, walk_controllers}
use Rattle.model.specs.WellFormed.{controller_ok, plain_ok, slot_is_ok, slots_ok, well_formed}
use Rattle.model.specs.Layout.{decode, encode}
use Rattle.model.specs.Meanings.{state_ok}
use Rattle.model.proofs.Model.Decode.{decode_encode}
use Rattle.model.proofs.Model.Demand3.{encode_ok, idle_ok}
use Rattle.model.proofs.Model.Stays.{fit_plain, plain_fit, slots_set}
use Rattle.model.proofs.Model.Tables.{bytes_drop}
use Rattle.layout.specs.Places.{present_at, put_controller}
use Rattle.layout.proofs.Kept.{encode_absent}
use Rattle.reading.specs.Contents.{Parsed, Placed, controller_in}
use Rattle.restore.specs.Filling.{found}
use Rattle.restore.proofs.Filling.{some_found}
use Rattle.reading.proofs.Steps.{OneController, OneMore, one_controller, one_more}

-- a hub of these controllers, with clock zero
abbrev hub_with : Slots → PlainHub
hub_with l = record { clock = 0; controllers = l }

-- 1. A hub with one controller more -----------------------------------------------------------------------------------------------------------------

-- another valid controller among them
set_fine : (l : Slots) (i : ℕ) (c : Controller) → plain_ok (hub_with l) ≡ true → controller_ok c ≡ true → plain_ok (hub_with (set l i (some c))) ≡ true
unfolding slot_is_ok
set_fine l i c e k =
    let f = plain_fit (hub_with l) e in
    fit_plain (hub_with (set l i (some c))) (record
    { four = rw (length-set l i (some c)) f.four; clock = f.clock; slots = slots_set l i (some c) f.slots k })

-- an empty slot is an absent controller
no_controller_lem : (l : Slots) (i : ℕ) → i < 4 → get_or l i none ≡ none → controller_at (hub_with l) i ≡ none
unfolding controller_at
no_controller_lem l i k e = rw (lt-ltb i 4 k, controller_at) e

-- a controller put into a hub with nothing under way
put_idle : (l : Slots) (i : ℕ) (c : Controller) → put_controller (idle (hub_with l)) i c ≡ idle (hub_with (set l i (some c)))
unfolding put_controller idle with_controller
put_idle l i c = refl

-- 2. The state while controllers are left -------------------------------------------------------------------------------------------------------------

-- n controllers are left at place p of the image, of which nothing is dropped: with them the walk comes to what the whole comes to
pub record Loading (v : Version) (image s : Octets) (n p : ℕ) : Type 0 where
  pub controllers : Slots
  pub low : ℕ
  pub fine : plain_ok (record { clock = 0; controllers = controllers }) ≡ true
  pub state : s ≡ encode (idle (record { clock = 0; controllers = controllers }))
  pub free : (j : ℕ) → low ≤ j → get_or controllers j none ≡ none
  pub left : walk_controllers v n low controllers (goes_on (drop p image)) ≡ walk v (drop 5 image)

-- no slot of the fresh hub is in use
fresh_free : (j : ℕ) → get_or fresh.controllers j none ≡ none
unfolding fresh
fresh_free zero = refl
fresh_free (suc zero) = refl
fresh_free (suc (suc zero)) = refl
fresh_free (suc (suc (suc zero))) = refl
fresh_free (suc (suc (suc (suc j)))) = refl

-- in the fresh state, all controllers are left
pub loading_first : (v : Version) (image s : Octets) → 5 < length image → s ≡ encode (idle fresh) → Loading v image s (get_or image 5 0) 6
unfolding fresh plain_ok slots_ok slot_is_ok walk
loading_first v image s l e =
    record { controllers = replicate 4 none; low = 0; fine = refl; state = e; free = λ j m. fresh_free j; left = rw (drop-cons image 5 0 l) }

module _ (v : Version) (image s : Octets) (n p : ℕ) (w : bytes image ≡ true) (whole : items (walk v (drop 5 image)) ≡ []) (l : 0 < n)
    (x : Loading v image s n p) where
  -- one of them
  less : n ≡ suc (n - 1)
  less = omega arith

  -- the walk through those that are left
  here : walk_controllers v (suc (n - 1)) x.low x.controllers (goes_on (drop p image)) ≡ walk v (drop 5 image)
  here = rw less at x.left

  -- the next controller
  next : OneMore v (n - 1) x.low x.controllers (drop p image)
  next = one_more v (n - 1) x.low x.controllers (drop p image) (rw here whole)

  -- what is known of it
  known : OneController v (drop p image) next.one
  known = one_controller v (drop p image) next.one (bytes_drop p image w) next.found

  -- its index stands at that place
  index_here : get_or image p 0 ≡ next.one.value.index
  unfolding octet
  index_here = sym (rw (add-zero p) at (get_or-drop p image 0 0)) ∙ sym known.index

  -- the hub is well formed
  now_well : well_formed (idle (hub_with x.controllers)) ≡ true
  now_well = idle_ok (hub_with x.controllers) x.fine

  -- it may be filled in
  pub loading_ready : (p < length image) × (state_ok s ≡ true) × (get_or image p 0 < 4) × (present_at s (get_or image p 0) ≡ false)
      × (found (controller_in v (drop p image)) ≡ true)
  unfolding idle
  loading_ready =
      let y = next in
      let b : y.one.value.index < 4 = omega (arith, y.below) in
      let g : present_at s y.one.value.index ≡ false = ap (λ (q : Octets). present_at q y.one.value.index) x.state
      ∙ encode_absent (idle (hub_with x.controllers)) now_well y.one.value.index
      (no_controller_lem x.controllers y.one.value.index b (x.free y.one.value.index y.above)) in (
        omega (arith, known.within, known.long, length-drop p image),
        rw x.state (encode_ok (idle (hub_with x.controllers)) now_well),
        rw index_here b,
        rw index_here g,
        some_found (controller_in v (drop p image)) y.one y.found,
      )

  -- filled in, one fewer is left
  pub loading_turn : (t : Octets) (r : ℕ)
      → ((g : Parsed Placed) → controller_in v (drop p image) ≡ some g → (t ≡ encode (put_controller (decode s) (get_or image p 0) g.value.controller))
      × (drop r image ≡ g.behind))
      → Loading v image t (n - 1) r
  loading_turn t r f =
      let y = next in
      let i : ℕ = y.one.value.index in
      let c : Controller = y.one.value.controller in
      let z = f y.one y.found in
      let b : decode s ≡ idle (hub_with x.controllers) = rw x.state (decode_encode (idle (hub_with x.controllers)) now_well) in
      record {
        controllers = set x.controllers i (some c);
        low = suc i;
        fine = set_fine x.controllers i c x.fine known.fine;
        state = (rw (b, index_here, put_idle x.controllers i c) at z.0);
        free = λ j m. get_or-set_other x.controllers i j (some c) none (λ q. omega (arith, m, q)) ∙ x.free j (omega (arith, m, y.above));
        left = rw z.1 (sym y.rest ∙ here);
      }

-- none is left: the state is that of the hub that the image gives
pub loading_last : (v : Version) (image s : Octets) (n p : ℕ) → n ≤ 0 → Loading v image s n p → s ≡ encode (idle (hub_of (walk v (drop 5 image))))
unfolding hub_of walk_controllers nothing_dropped
loading_last v image s n p l x =
    let z : n ≡ 0 = omega arith in
    let e : walk_controllers v 0 x.low x.controllers (goes_on (drop p image)) ≡ walk v (drop 5 image) = rw z at x.left in
    x.state ∙ rw (← e)
