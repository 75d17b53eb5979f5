-- E7: what the moves between the versions do to an accepted image.
use Rattle.std.specs.Prelude.{ℕ, ◌-◌, ◌≤◌, ◌≡◌, refl, ◌↔◌, Bool, true, false, ◌&&◌, List, [], ◌∷◌, map, length, drop, take, ltb}
use Rattle.std.proofs.Common.{arith, sym, ap, ◌∙◌, take-append-drop, lit≤, ne_eqb}
use Rattle.std.proofs.Math.Option.{none, some}
use Rattle.model.specs.Lengths as Lengths
use Rattle.model.specs.Octets.{Octets, bytes, octet}
use Rattle.model.specs.State.{Controller, PlainHub, Table, with_host, with_name}
use Rattle.model.specs.Tables.{entries, loaded}
use Rattle.model.specs.Image.{One, Two, Version, bredr_as_supported, can_say, closed_up, has_image, image_of, name_back, names_back, names_clean, reloaded, reloaded_hub}
use Rattle.model.specs.Image.{reloaded_slot, slot_in_image, tailless, tailless_hub, tailless_slot, tail_zero, version_octet}
use Rattle.model.specs.Answers.{NotInImage, fault_number}
use Rattle.model.specs.Reading.{Diagnosis, Judged, Slots, acceptable, diagnose, fault_in, faulty, hub_of, judge, load, only}
use Rattle.model.specs.Moves.{Moved, hub_downgrade, hub_upgrade, only_answer, rewritten, with_room, writes}
use Rattle.model.specs.Written.{MoveAnswer}
use Rattle.model.specs.Written as MoveCase
use Rattle.model.specs.WellFormed.{controller_ok, plain_ok, slot_is_ok, slots_ok}
use Rattle.model.proofs.Model.Load.{Accepted, accepted_ok, accepts, fault_number_lem, loads_by, only_by, only_takes, walk_kept}
use Rattle.model.proofs.Model.Diagnosis.{Inside, not_taken}
use Rattle.model.proofs.Model.Parts.{lengths}
use Rattle.model.proofs.Model.Stays.{plain_fit}
use Rattle.model.proofs.Model.Tails.{names_same, same_names}
use Rattle.model.proofs.Model.RoundTrip.{image_bytes, image_most, saved_accepted}
use Rattle.model.proofs.Model.SavedAgain.{written_again}
use Rattle.model.proofs.Model.Tables.{bytes_drop, entries_loaded}
use Rattle.model.proofs.Model.Tests.{and_true, both, either}

-- 1. What a version can tell --------------------------------------------------------------------------------------------------------------------

-- version 2 can tell everything
pub said_two : (s : Slots) → has_image Two s ≡ true
unfolding has_image slot_in_image can_say
said_two [] = refl
said_two (none ∷ s) = said_two s
said_two (some c ∷ s) = said_two s

-- what an accepted image gives, its version can tell
pub accepted_said : (v : Version) (o : Octets) (p : PlainHub) → bytes o ≡ true → Accepted v o p → has_image v p.controllers ≡ true
unfolding hub_of
accepted_said v o p w h = rw (← h.hub) (walk_kept v (drop 5 o) (bytes_drop 5 o w)).said

-- what a version can say of a controller it can say of it reloaded
say_reloaded : (v w : Version) (c : Controller) → can_say v (reloaded w c).radio ≡ can_say v c.radio
unfolding can_say bredr_as_supported reloaded
say_reloaded One w c = refl
say_reloaded Two w c = refl

-- loading leaves that as it is
said_reloaded : (v w : Version) (s : Slots) → has_image v s ≡ true → has_image v (map (reloaded_slot w) s) ≡ true
unfolding has_image slot_in_image reloaded_slot
said_reloaded v w [] e = refl
said_reloaded v w (none ∷ s) e = said_reloaded v w s e
said_reloaded v w (some c ∷ s) e = let a = and_true (can_say v c.radio) _ e in both (say_reloaded v w c ∙ a.0) (said_reloaded v w s a.1)

-- an image is accepted in the version that its octet says
pub in_version : (v w : Version) (o : Octets) (p : PlainHub) → octet o 4 ≡ version_octet w → Accepted v o p → Accepted w o p
unfolding version_octet
in_version One One o p e h = h
in_version One Two o p e h = absurd (omega (arith, h.version))
in_version Two One o p e h = absurd (omega (arith, h.version))
in_version Two Two o p e h = h

-- 2. Loading again ------------------------------------------------------------------------------------------------------------------------------

-- one octets, one hub
accepted_one : (v : Version) (o : Octets) (p q : PlainHub) → Accepted v o p → Accepted v o q → p ≡ q
accepted_one v o p q h k = sym h.hub ∙ k.hub

-- a hub that was loaded is as it is loaded
pub settled : (v : Version) (o : Octets) (p : PlainHub) → bytes o ≡ true → Accepted v o p → p ≡ reloaded_hub v p
settled v o p w h =
    let a : Accepted v (image_of v p) (reloaded_hub v p) = saved_accepted v p (accepted_ok v o p w h) (accepted_said v o p w h) in
    accepted_one v o p (reloaded_hub v p) h (rw (written_again v o p w h) at a)

-- through version 1 names come back as they are
names_one : (n : Octets) → names_back One n ≡ n
unfolding names_back name_back
names_one n = take-append-drop 249 n

-- slots that are closed up stay so
closed_once : (t : Table) → closed_up (closed_up t) ≡ closed_up t
unfolding closed_up loaded
closed_once t = ap loaded (entries_loaded (entries t) (32 - length (entries t)))

-- in all tables
closed_twice : (ts : List Table) → map closed_up (map closed_up ts) ≡ map closed_up ts
closed_twice [] = refl
closed_twice (t ∷ ts) = rw (closed_once t, closed_twice ts)

-- loading through version 1 what was loaded
once_more : (v : Version) (s : Slots) → map (reloaded_slot One) (map (reloaded_slot v) s) ≡ map (reloaded_slot v) s
unfolding reloaded_slot reloaded
once_more v [] = refl
once_more v (none ∷ s) = ap {B = Slots} (λ l. none ∷ l) (once_more v s)
once_more v (some c ∷ s) = rw (names_one (names_back v c.host.name), closed_twice c.host.tables, once_more v s)

-- loading through version 2 is loading through version 1, and clearing name tails
two_by_one : (s : Slots) → map (reloaded_slot Two) s ≡ map tailless_slot (map (reloaded_slot One) s)
unfolding reloaded_slot reloaded tailless_slot tailless with_host with_name
two_by_one [] = refl
two_by_one (none ∷ s) = ap {B = Slots} (λ l. none ∷ l) (two_by_one s)
two_by_one (some c ∷ s) = rw (names_one c.host.name, two_by_one s)

-- 3. Names --------------------------------------------------------------------------------------------------------------------------------------

-- clean names stay as they are
clean_same : (s : Slots) → slots_ok s ≡ true → names_clean s ≡ true → map tailless_slot s ≡ s
unfolding slots_ok slot_is_ok names_clean tailless_slot tailless with_host with_name
clean_same [] k e = refl
clean_same (none ∷ s) k e = ap {B = Slots} (λ l. none ∷ l) (clean_same s k e)
clean_same (some c ∷ s) k e =
    let h = and_true (controller_ok c) _ k in
    let a = and_true (tail_zero (take 249 c.host.name) && tail_zero (drop 249 c.host.name)) _ e in
    rw (names_same c.host.name (lengths c h.0).name a.0, clean_same s h.1 a.1)

-- names that stay as they are, are clean
same_clean : (s : Slots) → slots_ok s ≡ true → s ≡ map (reloaded_slot One) (map tailless_slot s) → names_clean s ≡ true
unfolding slots_ok slot_is_ok names_clean tailless_slot tailless with_host with_name reloaded_slot reloaded
same_clean [] k e = refl
same_clean (none ∷ s) k e = same_clean s k cc
same_clean (some c ∷ s) k e =
    let h = and_true (controller_ok c) _ k in
    let q : c ≡ reloaded One (tailless c) = cc in
    let n : c.host.name ≡ names_back One (names_back Two c.host.name) = ap (λ (x : Controller). x.host.name) q in
    let m : names_back Two c.host.name ≡ c.host.name = sym (n ∙ names_one (names_back Two c.host.name)) in
    both (same_names c.host.name (lengths c h.0).name m) (same_clean s h.1 cc)

-- 4. The moves ----------------------------------------------------------------------------------------------------------------------------------

-- what a move comes to for an accepted image that the other version can tell
moved : (v w : Version) (o : Octets) (p : PlainHub) (room : ℕ) → Accepted v o p → has_image w p.controllers ≡ true → ltb room Lengths.largest_image ≡ false
    → with_room room (rewritten w (judge (only v) o)) ≡ record { answer = 0; offset = 0; octets = image_of w p }
unfolding with_room rewritten writes
moved v w o p room h t r = rw (r, with_room, accepts (only v) v o p (only_takes v) h, t, rewritten)

-- the move to version 2 of an accepted version 1 image
pub upgraded : (o : Octets) (p : PlainHub) (room : ℕ) → Accepted One o p → ltb room Lengths.largest_image ≡ false
    → hub_upgrade o room ≡ record { answer = 0; offset = 0; octets = image_of Two p }
unfolding hub_upgrade
upgraded o p room h r = moved One Two o p room h (said_two p.controllers) r

-- what is known where a move was answered 0
pub record WasMoved (v w : Version) (o : Octets) (room : ℕ) (r : Moved) : Type 0 where
  pub hub : PlainHub
  pub from : Accepted v o hub
  pub tells : has_image w hub.controllers ≡ true
  pub enough : ltb room Lengths.largest_image ≡ false
  pub octets : r.octets ≡ image_of w hub

-- a move that was answered 0
pub was_moved : (v w : Version) (o : Octets) (room : ℕ) → (with_room room (rewritten w (judge (only v) o))).answer ≡ 0 → WasMoved v w o room (with_room room (rewritten w (judge (only v) o)))
unfolding with_room rewritten only_answer writes
was_moved v w o room =
    either {A = Moved} (λ r. r.answer ≡ 0 → WasMoved v w o room r) (ltb room Lengths.largest_image) (λ t e. absurd (omega arith))
    (λ t. by (judge (only v) o) refl t)
  where
    by : (j : Judged) → judge (only v) o ≡ j → ltb room Lengths.largest_image ≡ false → (rewritten w j).answer ≡ 0 → WasMoved v w o room (rewritten w j)
    by (faulty k at) q t = λ e. absurd (omega (arith, fault_number_lem k))
    by (acceptable p) q t =
        either {A = Moved} (λ r. r.answer ≡ 0 → WasMoved v w o room r) (has_image w p.controllers)
        (λ d e. record { hub = p; from = only_by v o p q; tells = d; enough = t; octets = refl })
        (λ d e. absurd (omega arith))

-- loaded through version 2, a hub that was loaded through version 1 has its name tails cleared
to_tailless : (o : Octets) (p : PlainHub) → bytes o ≡ true → Accepted One o p → reloaded_hub Two p ≡ tailless_hub p
unfolding reloaded_hub tailless_hub
to_tailless o p w h = rw (two_by_one p.controllers) (ap tailless_hub (sym (settled One o p w h)))

-- BACK: the image of an accepted version 1 image, moved to version 2 and back
pub there_back : (o : Octets) (p : PlainHub) (room : ℕ) → bytes o ≡ true → Accepted One o p → ltb room Lengths.largest_image ≡ false
    → hub_downgrade (image_of Two p) room ≡ record { answer = 0; offset = 0; octets = image_of One (tailless_hub p) }
unfolding hub_downgrade reloaded_hub
there_back o p room w h r =
    let a = saved_accepted Two p (accepted_ok One o p w h) (said_two p.controllers) in
    moved Two One (image_of Two p) (reloaded_hub Two p) room a (said_reloaded One Two p.controllers (accepted_said One o p w h)) r
    ∙ rw (to_tailless o p w h)

-- what comes back is well formed, and version 1 can tell it
tailless_ok : (o : Octets) (p : PlainHub) → bytes o ≡ true → Accepted One o p → (plain_ok (tailless_hub p) ≡ true) × (has_image One (tailless_hub p).controllers ≡ true)
unfolding reloaded_hub
tailless_ok o p w h =
    let k : plain_ok p ≡ true = accepted_ok One o p w h in
    let a = saved_accepted Two p k (said_two p.controllers) in
    rw (← to_tailless o p w h) (accepted_ok Two (image_of Two p) (reloaded_hub Two p) (image_bytes Two p k) a, said_reloaded One Two p.controllers (accepted_said One o p w h))

-- that is the same image exactly if every name is clean
pub clean_exactly : (o : Octets) (p : PlainHub) → bytes o ≡ true → Accepted One o p → (image_of One (tailless_hub p) ≡ o) ↔ (names_clean p.controllers ≡ true)
unfolding tailless_hub reloaded_hub
clean_exactly o p w h = let ok = (plain_fit p (accepted_ok One o p w h)).slots in (
  λ e.
      let k = tailless_ok o p w h in
      let a = saved_accepted One (tailless_hub p) k.0 k.1 in
      let q : p ≡ reloaded_hub One (tailless_hub p) = accepted_one One o p (reloaded_hub One (tailless_hub p)) h (rw e at a) in
      same_clean p.controllers ok (ap (λ (x : PlainHub). x.controllers) q),
  λ c. rw (clean_same p.controllers ok c) (written_again One o p w h),
)

-- AND BACK: an accepted version 2 image that version 1 can tell, moved to version 1 and back, is the same
pub back_there : (o : Octets) (p : PlainHub) (room : ℕ) → bytes o ≡ true → Accepted Two o p → has_image One p.controllers ≡ true → ltb room Lengths.largest_image ≡ false
    → hub_upgrade (image_of One p) room ≡ record { answer = 0; offset = 0; octets = o }
unfolding hub_upgrade reloaded_hub
back_there o p room w h t r =
    let s : p ≡ reloaded_hub Two p = settled Two o p w h in
    let k : reloaded_hub One p ≡ p = ap (reloaded_hub One) s ∙ rw (once_more Two p.controllers) (sym s) in
    moved One Two (image_of One p) (reloaded_hub One p) room (saved_accepted One p (accepted_ok Two o p w h) t) (said_two _) r ∙ rw (k, written_again Two o p w h)

-- no move writes more than the largest image
pub move_most : (v w : Version) (o : Octets) (room : ℕ) → bytes o ≡ true → length (with_room room (rewritten w (judge (only v) o))).octets ≤ Lengths.largest_image
unfolding with_room rewritten only_answer writes
move_most v w o room b = either {A = Moved} (λ r. length r.octets ≤ Lengths.largest_image) (ltb room Lengths.largest_image) (λ _. lit≤ tt) (λ _. by (judge (only v) o) refl)
  where
    by : (j : Judged) → judge (only v) o ≡ j → length (rewritten w j).octets ≤ Lengths.largest_image
    by (faulty k at) q = lit≤ tt
    by (acceptable p) q =
        either {A = Moved} (λ r. length r.octets ≤ Lengths.largest_image) (has_image w p.controllers) (λ _. image_most w p (accepted_ok v o p b (only_by v o p q))) (λ _. lit≤ tt)

-- what an image that is moved back loads to: the hub that it loaded to
pub back_loads : (o : Octets) (p : PlainHub) → bytes o ≡ true → Accepted Two o p → has_image One p.controllers ≡ true → load (image_of One p) ≡ some p
unfolding reloaded_hub
back_loads o p w h t =
    let s : p ≡ reloaded_hub Two p = settled Two o p w h in
    let k : reloaded_hub One p ≡ p = ap (reloaded_hub One) s ∙ rw (once_more Two p.controllers) (sym s) in
    rw k at (loads_by One (image_of One p) (reloaded_hub One p) (saved_accepted One p (accepted_ok Two o p w h) t))

-- one that is moved to version 2: the same, with zeros behind the used part of each name
pub forth_loads : (o : Octets) (p : PlainHub) → bytes o ≡ true → Accepted One o p → load (image_of Two p) ≡ some (tailless_hub p)
forth_loads o p w h =
    rw (to_tailless o p w h) at (loads_by Two (image_of Two p) (reloaded_hub Two p) (saved_accepted Two p (accepted_ok One o p w h) (said_two p.controllers)))

-- a move of an accepted image
pub accepted_answer : (v w : Version) (o : Octets) (p : PlainHub) (room : ℕ) → Accepted v o p → ltb room Lengths.largest_image ≡ false
    → (with_room room (rewritten w (judge (only v) o))).answer ≡ elim (has_image w p.controllers) [ true ↦ 0 | false ↦ 8 ]
unfolding with_room rewritten writes only_answer
accepted_answer v w o p room h r =
    rw (r, with_room, accepts (only v) v o p (only_takes v) h) (go (has_image w p.controllers))
  where
    number : Moved → ℕ
    number m = m.answer

    go : (b : Bool) → number (elim b [ true ↦ writes (image_of w p) | false ↦ only_answer NotInImage ]) ≡ elim b [ true ↦ 0 | false ↦ 8 ]
    go true = refl
    go false = refl

-- a move of one with a fault
pub fault_answer : (v w : Version) (o : Octets) (room : ℕ) (d : Diagnosis) → ltb room Lengths.largest_image ≡ false → diagnose (only v) o ≡ some d
    → with_room room (rewritten w (judge (only v) o)) ≡ record { answer = d.number; offset = d.offset; octets = [] }
unfolding with_room rewritten only_answer diagnose fault_in
fault_answer v w o room d r e = rw (r, with_room) (by (judge (only v) o) e)
  where
    by : (j : Judged) → fault_in j ≡ some d → rewritten w j ≡ record { answer = d.number; offset = d.offset; octets = [] }
    by (faulty k at) q = let h : record { number = fault_number k; offset = at } ≡ d = cc in rw (← h) refl
    by (acceptable p) q = let z : ◌≡◌ {A = ℕ} 0 1 = cc in absurd (omega arith)

-- one that is not acceptable has a fault
pub refused_answer : (v w : Version) (o : Octets) (room : ℕ) → ltb room Lengths.largest_image ≡ false → ((p : PlainHub) → Accepted v o p → ⊥)
    → (71 ≤ (with_room room (rewritten w (judge (only v) o))).answer) × ((with_room room (rewritten w (judge (only v) o))).answer ≤ 77)
unfolding with_room rewritten only_answer
refused_answer v w o room r n = rw (r, with_room) (by (judge (only v) o) refl)
  where
    by : (j : Judged) → judge (only v) o ≡ j → (71 ≤ (rewritten w j).answer) × ((rewritten w j).answer ≤ 77)
    by (faulty k at) q = fault_number_lem k
    by (acceptable p) q = absurd (n p (only_by v o p q))

-- one of another version than that moved from
pub other_answer : (v w : Version) (o : Octets) (room : ℕ) → 5 ≤ length o → ltb room Lengths.largest_image ≡ false → (octet o 4 ≡ version_octet v → ⊥)
    → with_room room (rewritten w (judge (only v) o)) ≡ record { answer = 72; offset = 4; octets = [] }
unfolding with_room rewritten only_answer only
other_answer v w o room l r n = rw (r, with_room, not_taken (only v) o l (rw (ne_eqb (octet o 4) (version_octet v) n, only)))

-- what a move is answered, by all that is told
abbrev Answered : ℕ → Bool → Moved → Type 0
Answered n back m = MoveAnswer n back m.answer m.offset m.octets

-- what an image comes to that is written anew in version 1
back_answered : (n : ℕ) (j : Judged) → Inside n j → Answered n true (rewritten One j)
unfolding rewritten only_answer writes Inside
back_answered n (faulty k at) h = MoveCase.bad_image k at h
back_answered n (acceptable p) h =
    either {A = Moved} (Answered n true) (has_image One p.controllers) (λ _. MoveCase.moved) (λ _. MoveCase.not_in_image)

-- in version 2, which can say everything
forth_answered : (n : ℕ) (j : Judged) → Inside n j → Answered n false (rewritten Two j)
unfolding rewritten only_answer writes Inside
forth_answered n (faulty k at) h = MoveCase.bad_image k at h
forth_answered n (acceptable p) h = rw (said_two p.controllers, rewritten) MoveCase.moved

-- with the room looked at first
room_answered : (n : ℕ) (back : Bool) (room : ℕ) (m : Moved) → Answered n back m → Answered n back (with_room room m)
unfolding with_room only_answer
room_answered n back room m h = either {A = Moved} (Answered n back) (ltb room Lengths.largest_image) (λ _. MoveCase.no_room) (λ _. h)

-- EVERY MOVE IS ANSWERED 0, 4 or 71 to 77, and back to version 1 also 8
pub moves_told : (n : ℕ) (o : Octets) (room : ℕ) → ((v : Version) → Inside n (judge (only v) o))
    → Answered n false (hub_upgrade o room) × Answered n true (hub_downgrade o room)
unfolding hub_upgrade hub_downgrade
moves_told n o room h = (
  room_answered n false room (rewritten Two (judge (only One) o)) (forth_answered n (judge (only One) o) (h One)),
  room_answered n true room (rewritten One (judge (only Two) o)) (back_answered n (judge (only Two) o) (h Two)),
)

-- no offset is above that of a fault
pub move_offset : (n : ℕ) (back : Bool) (a at : ℕ) (o : Octets) → MoveAnswer n back a at o → at ≤ n
move_offset n back a at o MoveCase.moved = omega arith
move_offset n back a at o MoveCase.no_room = omega arith
move_offset n back a at o (MoveCase.bad_image k x h) = h
move_offset n back a at o MoveCase.not_in_image = omega arith
