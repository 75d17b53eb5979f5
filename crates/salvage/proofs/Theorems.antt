-- The theorems about salvage (02, E9), over any octets, each by name.
use Prim.Native.Nat.{ℕ, ◌+◌, ◌*◌, ◌^◌, ◌≤◌, ◌<◌}
use native.Mathlib.Omega.{arith}
use mathlib.Core.Path.{◌≡◌, refl, sym, ap, ◌∙◌}
use mathlib.Core.Bool.{true, false, ◌||◌}
use mathlib.Core.List.{[]}
use mathlib.Core.Logic.{◌↔◌}
use mathlib.Core.Option.{Option, none, some}
use lib.ListN.{length, drop}
use lib.Dec.{eqb, leb, ltb}
use borrow.Author.Tests.{leb-false}
use Rattle.model.specs.declared.Version.{Version}
use Rattle.model.specs.Lengths as Lengths
use Rattle.model.specs.Octets.{Octets, bytes, octet}
use Rattle.model.specs.State.{idle}
use Rattle.model.specs.Image.{reloaded_hub}
use Rattle.model.specs.Reading.{either_version, hub_of, load, walk}
use Rattle.model.specs.Layout.{encode}
use Rattle.model.specs.Meanings.{Loaded, hub_load}
use Rattle.model.proofs.FaultTheorems.{taken_image_loads}
use Rattle.model.proofs.Model.Demand3.{taken}
use Rattle.model.proofs.Model.Fields.{le_of}
use Rattle.model.proofs.Model.Load.{Accepted, either_sound, kept_ok, loaded_by, loads_by}
use Rattle.model.proofs.Model.RoundTrip.{image_bytes, image_most}
use Rattle.model.proofs.Model.Tables.{bytes_drop}
use Rattle.model.proofs.Model.Tests.{either}
use Rattle.salvage.specs.Salvage.{Salvaged, extra_of, hub_salvage, list_more, offsets, only_answer, salvaged_as}
use Rattle.salvage.proofs.Listed.{item_is, item_in, list_facts, list_fits_lem, list_length, rising_bounds, rising_less}
use Rattle.salvage.proofs.Kept.{accepted_same, empty_accepted, kept_accepted, was_salvaged}

-- there is room for the image and for the list
abbrev Room : (octets : Octets) (room list_room : ℕ) → Type 0
Room o room list_room = ltb room Lengths.largest_image || ltb list_room (length o + list_more) ≡ false

-- THE IMAGE THAT IS WRITTEN LOADS, into a buffer of the right length, and it has the version of the octets that it was made of.
pub salvaged_image_loads : (buffer o : Octets) (room list_room : ℕ) → bytes o ≡ true → eqb (length buffer) Lengths.state ≡ true → (hub_salvage o room list_room).answer ≡ 0
    → ((hub_load buffer (hub_salvage o room list_room).image).answer ≡ 0) × (octet (hub_salvage o room list_room).image 4 ≡ octet o 4)
salvaged_image_loads buffer o room list_room b n e =
    let m = was_salvaged o room list_room e in
    let a = kept_accepted o m.version b in
    let l = taken_image_loads buffer _ _ n (loads_by m.version _ _ a) in
    rw m.image (ap (λ (r : Loaded). r.answer) l, a.version ∙ sym (either_sound (octet o 4) m.version m.takes))

-- What it loads to is what the reading keeps of the octets: power and discoverable off, no timer, clock 0, nothing open and nothing waiting.
pub salvaged_state : (buffer o : Octets) (v : Version) (room list_room : ℕ) → bytes o ≡ true → eqb (length buffer) Lengths.state ≡ true
    → (hub_salvage o room list_room).answer ≡ 0 → either_version (octet o 4) ≡ some v
    → hub_load buffer (hub_salvage o room list_room).image ≡ record { answer = 0; offset = 0; state = encode (idle (reloaded_hub v (hub_of (walk v (drop 5 o))))) }
salvaged_state buffer o v room list_room b n e t =
    let m = was_salvaged o room list_room e in
    let q : m.version ≡ v = cc m.takes in
    let l = taken_image_loads buffer _ _ n (loads_by m.version _ _ (kept_accepted o m.version b)) in
    rw (m.image, ← q) l

-- AN IMAGE THAT LOADS COMES OUT AS IT IS, with an empty list.
pub good_image_unchanged : (buffer o : Octets) (room list_room : ℕ) → bytes o ≡ true → (hub_load buffer o).answer ≡ 0 → Room o room list_room
    → hub_salvage o room list_room ≡ record { answer = 0; offset = 0; image = o; list = [] }
good_image_unchanged buffer o room list_room b e r =
    let t = taken buffer o e in
    let a = loaded_by o t.hub t.loads in
    accepted_same a.0 o t.hub room list_room b a.1 r

-- ONLY SUCH AN IMAGE HAS AN EMPTY LIST.
pub empty_list_only_then : (buffer o : Octets) (room list_room : ℕ) → bytes o ≡ true → eqb (length buffer) Lengths.state ≡ true → (hub_salvage o room list_room).answer ≡ 0
    → (hub_salvage o room list_room).list ≡ [] → (hub_load buffer o).answer ≡ 0
empty_list_only_then buffer o room list_room b n e l =
    let m = was_salvaged o room list_room e in
    let a = empty_accepted m.version o b m.long (either_sound (octet o 4) m.version m.takes) (sym m.list ∙ l) in
    ap (λ (r : Loaded). r.answer) (taken_image_loads buffer o _ n (loads_by m.version o _ a))

-- THE ITEMS OF THE LIST ASCEND: each is above those before it.
pub items_ascend : (o : Octets) (room list_room j k : ℕ) → bytes o ≡ true → (hub_salvage o room list_room).answer ≡ 0 → j < k
    → 4 * k < length (hub_salvage o room list_room).list → item_in (hub_salvage o room list_room).list j < item_in (hub_salvage o room list_room).list k
items_ascend o room list_room j k b e l =
    let m = was_salvaged o room list_room e in
    let f = list_facts m.version o b m.long in
    let n = list_length (offsets m.version o) in
    rw m.list λ h.
    rw (item_is f.last (offsets m.version o) 0 j (omega (arith, f.near)) f.rise (omega arith), item_is f.last (offsets m.version o) 0 k (omega (arith, f.near)) f.rise (omega arith))
    (rising_less 0 f.last (offsets m.version o) j k f.rise l (omega arith))

-- Each lies in the input, or at its end.
pub items_within : (o : Octets) (room list_room k : ℕ) → bytes o ≡ true → (hub_salvage o room list_room).answer ≡ 0
    → 4 * k < length (hub_salvage o room list_room).list → item_in (hub_salvage o room list_room).list k ≤ length o
items_within o room list_room k b e =
    let m = was_salvaged o room list_room e in
    let f = list_facts m.version o b m.long in
    let n = list_length (offsets m.version o) in
    rw m.list λ h.
    rw (item_is f.last (offsets m.version o) 0 k (omega (arith, f.near)) f.rise (omega arith))
    (omega (arith, (rising_bounds 0 f.last (offsets m.version o) k f.rise (omega arith)).1, f.within))

-- what salvage writes and tells fits: the image, the list, and the second number
abbrev Fits : Octets → Salvaged → Type 0
Fits o s = (length s.image ≤ Lengths.largest_image) × (length s.list ≤ length o + list_more) × (extra_of s < 2 ^ 32)

-- IMAGE AND LIST FIT the rooms that are asked for; and the length of the list, or the offset, fits the 32 bits in which it is told, whatever is lent.
pub salvage_fits : (o : Octets) (room list_room : ℕ) → bytes o ≡ true → Fits o (hub_salvage o room list_room)
unfolding hub_salvage salvaged_as only_answer extra_of
salvage_fits o room list_room b =
    either {A = Salvaged} (Fits o) (ltb room Lengths.largest_image || ltb list_room (length o + list_more)) (λ _. (omega arith, omega arith, omega arith))
    (λ _. either {A = Salvaged} (Fits o) (leb 5 (length o)) (λ l. by (either_version (octet o 4)) (le_of 5 (length o) l))
    (λ l. (omega arith, omega arith, omega (arith, leb-false 5 (length o) l))))
  where
    by : (x : Option Version) → 5 ≤ length o → Fits o (salvaged_as o x)
    by none l = (omega arith, omega arith, omega arith)
    by (some v) l =
        (image_most v _ (kept_ok v (drop 5 o) (bytes_drop 5 o b)), list_fits_lem v o l, omega (arith, (list_facts v o b l).short))

-- SALVAGE OF WHAT SALVAGE WROTE CHANGES NOTHING.
pub salvaged_once : (o : Octets) (room list_room room_again list_again : ℕ) → bytes o ≡ true → (hub_salvage o room list_room).answer ≡ 0
    → Room (hub_salvage o room list_room).image room_again list_again
    → hub_salvage (hub_salvage o room list_room).image room_again list_again ≡ record { answer = 0; offset = 0; image = (hub_salvage o room list_room).image; list = [] }
salvaged_once o room list_room room_again list_again b e r =
    let m = was_salvaged o room list_room e in
    let a = kept_accepted o m.version b in
    let k = kept_ok m.version (drop 5 o) (bytes_drop 5 o b) in
    rw m.image (accepted_same m.version _ _ room_again list_again (image_bytes m.version _ k) a (rw m.image at r))
