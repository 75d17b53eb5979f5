-- The controllers of an acceptable image, one behind the other: what the walk kept, as a list; and what is known of each where it lies.
use Prim.Native.Nat.{ℕ, zero, suc, ◌+◌, ◌-◌, ◌≤◌, ◌<◌}
use native.Mathlib.Omega.{arith}
use native.Mathlib.Nat.{zero-add}
use mathlib.Core.Path.{◌≡◌, refl, sym, ap, subst, ◌∙◌}
use mathlib.Core.Bool.{Bool, true, false, ◌&&◌}
use mathlib.Core.List.{List, [], ◌∷◌, ◌++◌, map, append_assoc, append-nil}
use mathlib.Core.Option.{Option, none, some}
use lib.ListN.{length, drop, get_or, replicate, set, length-append, length-drop, length-map, length-set}
use lib.Seq.{drop-cons, drop-drop}
use Rattle.model.specs.declared.Hardware.{Hardware}
use Rattle.model.specs.declared.Version.{Version}
use Rattle.model.specs.Octets.{Octets, bytes, joined}
use Rattle.model.specs.State.{Controller, Table}
use Rattle.model.specs.Tables.{table_rules}
use Rattle.model.specs.Image.{can_say, controller_image, controller_images, has_image, slot_in_image}
use Rattle.model.specs.Reading.{Slots, controller_by, goes_on, hub_of, items, nothing_dropped, walk, walk_controllers}
use Rattle.model.proofs.Model.SavedAgain.{free_set, get_d_nones, images_set}
use Rattle.model.proofs.Model.Tables.{bytes_drop}
use Rattle.octets.specs.Parts.{write_at}
use Rattle.octets.proofs.Parts.{write_split}
use Rattle.fields.specs.Places.{fixed_end, hardware_in, settings_in}
use Rattle.reading.specs.Contents.{Parsed, Placed, controller_in, tables_in}
use Rattle.reading.proofs.Steps.{one_controller, one_more}
use Rattle.moves.specs.Moving.{TablesLie, all_lie, all_said, controllers_in, written}

-- 1. One controller more ----------------------------------------------------------------------------------------------------------------------

-- the next of the controllers that lie in octets
pub record Next (v : Version) (n : ℕ) (o : Octets) : Type 0 where
  pub one : Parsed Placed
  pub found : controller_in v o ≡ some one
  pub lie : all_lie v n one.behind ≡ true
  pub list : controllers_in v (suc n) o ≡ one.value ∷ controllers_in v n one.behind

-- a controller that is found is the first of those in the octets
first_in : (v : Version) (n : ℕ) (o : Octets) (g : Parsed Placed) → controller_in v o ≡ some g
    → (controllers_in v (suc n) o ≡ g.value ∷ controllers_in v n g.behind) × (all_lie v (suc n) o ≡ all_lie v n g.behind)
unfolding all_lie controllers_in
first_in v n o g q = (rw (q, controllers_in), rw (q, all_lie))

-- there is a next one
pub next : (v : Version) (n : ℕ) (o : Octets) → all_lie v (suc n) o ≡ true → Next v n o
unfolding all_lie
next v n o e = by (controller_in v o) refl e
  where
    by : (x : Option (Parsed Placed)) → controller_in v o ≡ x → elim x [ none ↦ false | some g ↦ all_lie v n g.behind ] ≡ true → Next v n o
    by none q e = let z : ◌≡◌ {A = ℕ} 0 1 = cc in absurd (omega arith)
    by (some g) q e = record { one = g; found = q; lie = e; list = (first_in v n o g q).0 }

-- 2. What the walk kept -----------------------------------------------------------------------------------------------------------------------

-- a test and one that always holds
and_yes : (b : Bool) → b && true ≡ b
and_yes true = refl
and_yes false = refl

-- three tests, taken together one way or the other
and_assoc : (a b c : Bool) → (a && b) && c ≡ a && (b && c)
and_assoc true b c = refl
and_assoc false b c = refl

-- a controller more, where none was: the version can say it as well
said_set : (w : Version) (l : Slots) (i : ℕ) (c : Controller) → i < length l → get_or {A = Option Controller} l i none ≡ none
    → has_image w (set l i (some c)) ≡ has_image w l && can_say w c.radio
unfolding has_image slot_in_image
said_set w [] i c h e = absurd (omega arith)
said_set w (none ∷ l) zero c h e = and_order (can_say w c.radio) (has_image w l)
  where
    and_order : (a b : Bool) → a && b ≡ b && a
    and_order true b = sym (and_yes b)
    and_order false true = refl
    and_order false false = refl
said_set w (some d ∷ l) zero c h e = let z : ◌≡◌ {A = ℕ} 0 1 = cc in absurd (omega arith)
said_set w (s ∷ l) (suc i) c h e = rw (said_set w l i c (omega arith) e) (sym (and_assoc (slot_in_image w s) (has_image w l) (can_say w c.radio)))

-- what n controllers that lie in octets came to, put beside those found so far
record Lists (v w : Version) (n : ℕ) (slots : Slots) (o : Octets) (kept : Slots) : Type 0 where
  lie : all_lie v n o ≡ true
  said : has_image w kept ≡ has_image w slots && all_said w (controllers_in v n o)
  images : controller_images w 0 kept ≡ controller_images w 0 slots ++ map (written w) (controllers_in v n o)
  count : length (controllers_in v n o) ≡ n

-- the controllers of a walk that drops nothing
lists : (v w : Version) (n low : ℕ) (slots : Slots) (o : Octets) → items (walk_controllers v n low slots (goes_on o)) ≡ [] → length slots ≡ 4
    → ((j : ℕ) → low ≤ j → get_or {A = Option Controller} slots j none ≡ none) → Lists v w n slots o (walk_controllers v n low slots (goes_on o)).kept
unfolding walk_controllers nothing_dropped all_lie all_said controllers_in written
lists v w zero low slots o e four free = record {
  lie = refl;
  said = sym (and_yes (has_image w slots));
  images = sym (append-nil (controller_images w 0 slots));
  count = refl;
}
lists v w (suc n) low slots o e four free =
    let h = one_more v n low slots o e in
    let i : ℕ = h.one.value.index in
    let c : Controller = h.one.value.controller in
    let more : Slots = set slots i (some c) in
    let z : items (walk_controllers v n (suc i) more (goes_on h.one.behind)) ≡ [] = rw (← h.rest) e in
    let r = lists v w n (suc i) more h.one.behind z (length-set slots i (some c) ∙ four) (free_set slots i low (some c) h.above free) in
    let s = said_set w slots i c (omega (arith, h.below)) (free i h.above) in
    let m = rw (zero-add i) at (images_set w 0 i slots c (omega (arith, h.below)) (λ j g. free j (omega (arith, h.above)))) in
    let k = first_in v n o h.one h.found in
    rw h.rest (record {
      lie = k.1 ∙ r.lie;
      said = r.said ∙ rw (s, k.0) (and_assoc (has_image w slots) (can_say w c.radio) (all_said w (controllers_in v n h.one.behind)));
      images = r.images
          ∙ rw (m, k.0) (append_assoc (controller_images w 0 slots) (controller_image w i c ∷ []) (map (written w) (controllers_in v n h.one.behind)));
      count = rw k.0 (ap suc r.count);
    })

-- what an image came to of which nothing is dropped
pub record Whole (v w : Version) (image : Octets) : Type 0 where
  pub lie : all_lie v (get_or image 5 0) (drop 6 image) ≡ true
  pub said : has_image w (hub_of (walk v (drop 5 image))).controllers ≡ all_said w (controllers_in v (get_or image 5 0) (drop 6 image))
  pub images : controller_images w 0 (hub_of (walk v (drop 5 image))).controllers ≡ map (written w) (controllers_in v (get_or image 5 0) (drop 6 image))
  pub count : length (map (written w) (controllers_in v (get_or image 5 0) (drop 6 image))) ≡ get_or image 5 0

-- by the controllers of its walk
pub whole : (v w : Version) (image : Octets) → 6 ≤ length image → items (walk v (drop 5 image)) ≡ [] → Whole v w image
unfolding walk hub_of has_image slot_in_image controller_images
whole v w image h e =
    let d : drop 5 image ≡ get_or image 5 0 ∷ drop 6 image = drop-cons image 5 0 (omega arith) in
    let q = rw d at e in
    let r = lists v w (get_or image 5 0) 0 (replicate 4 none) (drop 6 image) q refl (λ j _. get_d_nones 4 j) in
    record { lie = r.lie; said = rw d r.said; images = rw d r.images; count = length-map (controllers_in v (get_or image 5 0) (drop 6 image)) (written w) ∙ r.count }

-- 3. A controller where it lies ---------------------------------------------------------------------------------------------------------------

-- what is known of a controller that lies at a place of an image
pub record AtPlace (v : Version) (image : Octets) (at : ℕ) (g : Parsed Placed) : Type 0 where
  pub long : at + 24 ≤ length image
  pub end : at + fixed_end v (drop at image) ≤ length image
  pub tables : TablesLie image (at + fixed_end v (drop at image))
  pub radio : g.value.controller.radio ≡ (settings_in v (drop at image)).radio
  pub behind : (r : ℕ) → ((f : Hardware) (m : Parsed (List Table)) → tables_in f table_rules (drop (at + fixed_end v (drop at image)) image) ≡ some m
      → (at + fixed_end v (drop at image) ≤ r) × (r ≤ length image) × (drop r image ≡ m.behind)) → (r ≤ length image) × (drop r image ≡ g.behind)

-- by its fixed part and its tables
pub at_place : (v : Version) (image : Octets) (at : ℕ) (g : Parsed Placed) → bytes image ≡ true → at ≤ length image
    → controller_in v (drop at image) ≡ some g → AtPlace v image at g
unfolding settings_in controller_by
at_place v image at g w le e =
    let h = one_controller v (drop at image) g (bytes_drop at image w) e in
    let p : tables_in (hardware_in (drop at image)) table_rules (drop (at + fixed_end v (drop at image)) image) ≡ some h.tables =
    rw (drop-drop (fixed_end v (drop at image)) at image) at h.parsed in
    record {
      long = omega (arith, h.within, h.long, length-drop at image);
      end = omega (arith, h.within, length-drop at image);
      tables = (hardware_in (drop at image), h.tables, p);
      radio = ap (λ (c : Controller). c.radio) h.value;
      behind = λ r t. let b = t (hardware_in (drop at image)) h.tables p in (b.1, b.2 ∙ sym h.behind);
    }

-- the next controller of those that are left, where it lies
pub record Here (v : Version) (image : Octets) (count at : ℕ) : Type 0 where
  pub one : Parsed Placed
  pub found : controller_in v (drop at image) ≡ some one
  pub lie : all_lie v (count - 1) one.behind ≡ true
  pub list : controllers_in v count (drop at image) ≡ one.value ∷ controllers_in v (count - 1) one.behind
  pub place : AtPlace v image at one

-- where some are left, there is a next one
pub here : (v : Version) (image : Octets) (count at : ℕ) → bytes image ≡ true → 0 < count → at ≤ length image → all_lie v count (drop at image) ≡ true
    → Here v image count at
here v image count at w h le lie =
    let q : count ≡ suc (count - 1) = omega arith in
    let n = next v (count - 1) (drop at image) (rw q at lie) in
    record {
      one = n.one;
      found = n.found;
      lie = n.lie;
      list = ap (λ (k : ℕ). controllers_in v k (drop at image)) q ∙ n.list;
      place = at_place v image at n.one w le n.found;
    }

-- what is known of the one that was found is known of any that was
pub of_any : (P : Parsed Placed → Type 0) (v : Version) (o : Octets) (one : Parsed Placed) → controller_in v o ≡ some one → P one
    → (g : Parsed Placed) → controller_in v o ≡ some g → P g
of_any P v o one q h g e = let z : one ≡ g = cc in subst P z h

-- 4. Whether a version can say them all -------------------------------------------------------------------------------------------------------

-- what is left of the controllers says what all of them say
pub record SaidLeft (to v : Version) (image : Octets) (count at : ℕ) : Type 0 where
  pub within : at ≤ length image
  pub lie : all_lie v count (drop at image) ≡ true
  pub rest : all_said to (controllers_in v count (drop at image)) ≡ all_said to (controllers_in v (get_or image 5 0) (drop 6 image))

-- at first all are left
pub said_first : (to v : Version) (image : Octets) → 6 ≤ length image → all_lie v (get_or image 5 0) (drop 6 image) ≡ true → SaidLeft to v image (get_or image 5 0) 6
said_first to v image h lie = record { within = h; lie = lie; rest = refl }

-- one that the version can say
pub said_next : (to v : Version) (image : Octets) (count at r : ℕ) → (h : Here v image count at) → SaidLeft to v image count at
    → can_say to (settings_in v (drop at image)).radio ≡ true → (r ≤ length image) × (drop r image ≡ h.one.behind) → SaidLeft to v image (count - 1) r
unfolding all_said
said_next to v image count at r h s k (le, b) =
    let t : can_say to h.one.value.controller.radio ≡ true = rw h.place.radio k in
    let a : all_said to (controllers_in v count (drop at image)) ≡ all_said to (controllers_in v (count - 1) h.one.behind) = rw (h.list, all_said, t) in
    record { within = le; lie = rw b h.lie; rest = rw b (sym a ∙ s.rest) }

-- one that it cannot
pub said_stop : (to v : Version) (image : Octets) (count at : ℕ) → Here v image count at → SaidLeft to v image count at
    → can_say to (settings_in v (drop at image)).radio ≡ false → false ≡ all_said to (controllers_in v (get_or image 5 0) (drop 6 image))
unfolding all_said
said_stop to v image count at h s k =
    let t : can_say to h.one.value.controller.radio ≡ false = rw h.place.radio k in
    let a : all_said to (controllers_in v count (drop at image)) ≡ false = rw (h.list, all_said, t) in
    sym a ∙ s.rest

-- none is left
pub said_none : (to v : Version) (image : Octets) (count at : ℕ) → count ≡ 0 → SaidLeft to v image count at
    → true ≡ all_said to (controllers_in v (get_or image 5 0) (drop 6 image))
unfolding all_said controllers_in
said_none to v image count at z s = rw z at s.rest

-- 5. Written one behind the other ---------------------------------------------------------------------------------------------------------------

-- all that is to be written of the controllers
abbrev pub body : (to v : Version) (n : ℕ) (o : Octets) → Octets
body to v n o = joined (map (written to) (controllers_in v n o))

-- to write what is left from a place on makes the output what all of it makes
pub record WriteLeft (to v : Version) (image first out : Octets) (count at place : ℕ) : Type 0 where
  pub within : at ≤ length image
  pub lie : all_lie v count (drop at image) ≡ true
  pub long : length out ≡ length first
  pub ends : place + length (body to v count (drop at image)) ≡ 6 + length (body to v (get_or image 5 0) (drop 6 image))
  pub rest : write_at out place (body to v count (drop at image)) ≡ write_at first 6 (body to v (get_or image 5 0) (drop 6 image))

-- at first all are left
pub write_first : (to v : Version) (image out : Octets) → 6 ≤ length image → all_lie v (get_or image 5 0) (drop 6 image) ≡ true
    → WriteLeft to v image out out (get_or image 5 0) 6 6
write_first to v image out h lie = record { within = h; lie = lie; long = refl; ends = refl; rest = refl }

-- what is left is one controller and the rest
body_first : (to v : Version) (image : Octets) (count at : ℕ) → (h : Here v image count at)
    → body to v count (drop at image) ≡ written to h.one.value ++ body to v (count - 1) h.one.behind
unfolding joined
body_first to v image count at h = rw h.list

-- there is room for it
pub room_for : (to v : Version) (image first out : Octets) (count at place : ℕ) → (h : Here v image count at) → WriteLeft to v image first out count at place
    → 6 + length (body to v (get_or image 5 0) (drop 6 image)) ≤ length first → place + length (written to h.one.value) ≤ length out
room_for to v image first out count at place h s r =
    let l : length (body to v count (drop at image)) ≡ length (written to h.one.value) + length (body to v (count - 1) h.one.behind) =
    ap {B = ℕ} length (body_first to v image count at h) ∙ length-append (written to h.one.value) (body to v (count - 1) h.one.behind) in
    omega (arith, s.long, s.ends)

-- one is written
pub write_next : (to v : Version) (image first out : Octets) (count at place r q : ℕ) (after : Octets) → (h : Here v image count at)
    → WriteLeft to v image first out count at place → (r ≤ length image) × (drop r image ≡ h.one.behind)
    → q ≡ place + length (written to h.one.value) → after ≡ write_at out place (written to h.one.value) → length after ≡ length out
    → WriteLeft to v image first after (count - 1) r q
write_next to v image first out count at place r q after h s (le, b) e w n =
    let f = body_first to v image count at h in
    let l : length (body to v count (drop at image)) ≡ length (written to h.one.value) + length (body to v (count - 1) h.one.behind) =
    ap {B = ℕ} length f ∙ length-append (written to h.one.value) (body to v (count - 1) h.one.behind) in
    record {
      within = le;
      lie = rw b h.lie;
      long = n ∙ s.long;
      ends = rw b (omega (arith, s.ends));
      rest = rw (b, w, e) (sym (write_split out place (written to h.one.value) (body to v (count - 1) h.one.behind)) ∙ rw f at s.rest);
    }

-- nothing is written
write_nothing : (d : Octets) (at : ℕ) → write_at d at [] ≡ d
unfolding write_at
write_nothing d at = refl

-- none is left
pub write_none : (to v : Version) (image first out : Octets) (count at place : ℕ) → count ≡ 0 → WriteLeft to v image first out count at place
    → (place ≡ 6 + length (body to v (get_or image 5 0) (drop 6 image))) × (out ≡ write_at first 6 (body to v (get_or image 5 0) (drop 6 image)))
unfolding controllers_in joined
write_none to v image first out count at place z s =
    let p = rw z at s.ends in
    let r = rw z at s.rest in
    (omega arith, sym (write_nothing out place) ∙ r)
