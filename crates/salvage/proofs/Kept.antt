-- What salvage keeps is an image that loads; an image that loads is kept whole, and no other has an empty list.
use Prim.Native.Nat.{ℕ, ◌+◌, ◌≤◌}
use native.Mathlib.Omega.{arith}
use mathlib.Core.Path.{◌≡◌, refl}
use mathlib.Core.Bool.{true, false, ◌||◌}
use mathlib.Core.List.{List, [], ◌∷◌, ◌++◌, map}
use mathlib.Core.Option.{Option, none, some}
use lib.ListN.{length, get_or, take, drop}
use lib.Seq.{get_or-drop}
use lib.Dec.{eqb, leb, ltb}
use Rattle.model.specs.declared.Version.{Version}
use Rattle.model.specs.Lengths as Lengths
use Rattle.model.specs.Octets.{Octets, be32, bytes, joined, number, octet}
use Rattle.model.specs.State.{PlainHub}
use Rattle.model.specs.Image.{image_of, reloaded_hub, version_octet}
use Rattle.model.specs.Reading.{Item, either_version, hub_of, items, walk}
use Rattle.model.proofs.Model.Fields.{le_of, leb_of}
use Rattle.model.proofs.Model.Load.{Accepted, either_takes, kept_ok, walk_kept}
use Rattle.model.proofs.Model.RoundTrip.{saved_accepted}
use Rattle.model.proofs.Model.SavedAgain.{through, walk_again, written_again}
use Rattle.model.proofs.Model.Tables.{bytes_drop}
use Rattle.model.proofs.Model.Tests.{either}
use Rattle.salvage.specs.Salvage.{Salvaged, begins_at, hub_salvage, length_item, list_more, list_of, offsets, only_answer, salvaged_as}

-- what is known where salvage was answered 0
pub record WasSalvaged (o : Octets) (s : Salvaged) : Type 0 where
  pub version : Version
  pub long : 5 ≤ length o
  pub takes : either_version (octet o 4) ≡ some version
  pub offset : s.offset ≡ 0
  pub image : s.image ≡ image_of version (hub_of (walk version (drop 5 o)))
  pub list : s.list ≡ list_of (offsets version o)

-- by its answer
pub was_salvaged : (o : Octets) (room list_room : ℕ) → (hub_salvage o room list_room).answer ≡ 0 → WasSalvaged o (hub_salvage o room list_room)
unfolding hub_salvage salvaged_as only_answer
was_salvaged o room list_room =
    either {A = Salvaged} (λ s. s.answer ≡ 0 → WasSalvaged o s) (ltb room Lengths.largest_image || ltb list_room (length o + list_more)) (λ _ e. absurd (omega arith))
    (λ _. either {A = Salvaged} (λ s. s.answer ≡ 0 → WasSalvaged o s) (leb 5 (length o)) (λ l. by (either_version (octet o 4)) refl l) (λ _ e. absurd (omega arith)))
  where
    by : (x : Option Version) → either_version (octet o 4) ≡ x → leb 5 (length o) ≡ true → (salvaged_as o x).answer ≡ 0 → WasSalvaged o (salvaged_as o x)
    by none t l e = absurd (omega arith)
    by (some v) t l e = record { version = v; long = le_of 5 (length o) l; takes = t; offset = refl; image = refl; list = refl }

-- what is kept is an image of that version, and it loads
pub kept_accepted : (o : Octets) (v : Version) → bytes o ≡ true
    → Accepted v (image_of v (hub_of (walk v (drop 5 o)))) (reloaded_hub v (hub_of (walk v (drop 5 o))))
unfolding hub_of
kept_accepted o v w =
    saved_accepted v (hub_of (walk v (drop 5 o))) (kept_ok v (drop 5 o) (bytes_drop 5 o w)) (walk_kept v (drop 5 o) (bytes_drop 5 o w)).said

-- an accepted image comes out as it is, with an empty list
pub accepted_same : (v : Version) (o : Octets) (p : PlainHub) (room list_room : ℕ) → bytes o ≡ true → Accepted v o p
    → ltb room Lengths.largest_image || ltb list_room (length o + list_more) ≡ false → hub_salvage o room list_room ≡ record { answer = 0; offset = 0; image = o; list = [] }
unfolding hub_salvage salvaged_as offsets length_item list_of joined
accepted_same v o p room list_room w h r =
    rw (r, hub_salvage, h.long, h.version, either_takes v, h.hub, written_again v o p w h, h.size, length_item, h.whole)

-- an empty list: the length field is right, and nothing is dropped
no_offsets : (v : Version) (o : Octets) → list_of (offsets v o) ≡ [] → (eqb (number 0 (take 4 o)) (length o) ≡ true) × (items (walk v (drop 5 o)) ≡ [])
unfolding offsets length_item list_of joined be32
no_offsets v o =
    either {A = List ℕ} (λ ns. list_of (ns ++ map (begins_at (length o)) is) ≡ [] → (eqb (number 0 (take 4 o)) (length o) ≡ true) × (is ≡ []))
    (eqb (number 0 (take 4 o)) (length o)) (λ t e. (t, none_of is e)) (λ t e. let z : ◌≡◌ {A = ℕ} 0 1 = cc in absurd (omega arith))
  where
    is : List Item
    is = items (walk v (drop 5 o))

    none_of : (is : List Item) → list_of (map (begins_at (length o)) is) ≡ [] → is ≡ []
    none_of [] e = refl
    none_of (i ∷ is) e = let z : ◌≡◌ {A = ℕ} 0 1 = cc in absurd (omega arith)

-- only an accepted image has one
pub empty_accepted : (v : Version) (o : Octets) → bytes o ≡ true → 5 ≤ length o → octet o 4 ≡ version_octet v → list_of (offsets v o) ≡ []
    → Accepted v o (hub_of (walk v (drop 5 o)))
unfolding octet
empty_accepted v o w l e n =
    let a = no_offsets v o n in
    let b = walk_again v (drop 5 o) (bytes_drop 5 o w) (through (walk v (drop 5 o)) a.1) in
    record {
      long = leb_of 5 (length o) l;
      version = e;
      size = a.0;
      count = leb_of (get_or o 5 0) 4 (rw (get_or-drop 5 o 0 0) at b.1);
      whole = a.1;
      hub = refl;
    }
