-- Laws of the pieces that a move writes, over plain lists and numbers, in the form in which the code leaves them.
use Prim.Native.Nat.{ℕ, suc, ◌+◌, ◌-◌, ◌≤◌, ◌<◌}
use native.Mathlib.Omega.{arith}
use native.Mathlib.Nat.{add-zero}
use mathlib.Core.Path.{◌≡◌, refl, sym, ap, ◌∙◌}
use mathlib.Core.Bool.{true}
use mathlib.Core.List.{List, [], ◌∷◌, ◌++◌, map, append_assoc}
use mathlib.Core.Option.{some}
use lib.ListN.{length, take, drop, replicate, length-append, length-drop, length-replicate, length-take}
use lib.Seq.{drop-drop, get_or-take, take-length, take_at}
use lib.Dec.{ltb, lit<, ltb→lt}
use Rattle.model.specs.declared.Hardware.{Hardware}
use Rattle.model.specs.declared.Settings.{Settings}
use Rattle.model.specs.declared.Version.{Version}
use Rattle.model.specs.declared.Version.TheVariants.{One, Two}
use Rattle.model.specs.Octets.{Octets, be16, be32, bytes, joined, number, octet, used_part}
use Rattle.model.specs.State.{Table}
use Rattle.model.specs.Tables.{TableRule, table_rules}
use Rattle.model.specs.Image.{controller_image, flags_of, name_image, name_read, name_right, name_size, names_image}
use Rattle.model.specs.Image.{padded, table_image}
use Rattle.model.specs.Reading.{controller_by, fixed_by, goes_on, hardware_by, walk_tables}
use Rattle.model.proofs.Model.Fixed.{names_out, one_octet}
use Rattle.model.proofs.Model.Numbers.{be16_again, be32_again}
use Rattle.model.proofs.Model.SavedAgain.{tables_again}
use Rattle.model.proofs.Model.Tables.{bytes_drop, bytes_take}
use Rattle.model.proofs.Model.Tests.{and_true}
use Rattle.octets.specs.Parts.{part, write_at}
use Rattle.octets.proofs.Parts.{length_part, write_split}
use Rattle.octets.proofs.Laws.{part_add, take_used}
use Rattle.fields.specs.Places.{fixed_end, fixed_in, hardware_in, names_in, settings_in, short_place, static_in}
use Rattle.fields.proofs.Says.{FieldsRight}
use Rattle.reading.specs.Contents.{Parsed, Placed, controller_in, tables_in}
use Rattle.reading.proofs.Steps.{clean_through, one_controller}
use Rattle.moves.specs.Moving.{Lies, fixed_moved, flags_for, other, written}

-- 2. A name -------------------------------------------------------------------------------------------------------------------------------------

-- a write behind a write
pub then : (d : Octets) (p : ℕ) (x y : Octets) (q : ℕ) → p + length x ≡ q → write_at (write_at d p x) q y ≡ write_at d p (x ++ y)
then d p x y q e = rw (← e) (sym (write_split d p x y))

-- the name that a field says, moved
abbrev pub moved : Version → (room : ℕ) → Octets → Octets
moved to room x = name_image to (name_read (other to) room x)

-- the same of a field as it stands in an image
abbrev pub name_moved : Version → (room : ℕ) → Octets → (at size : ℕ) → Octets
name_moved to room image at size = moved to room (part image at size)

-- all octets but the first
behind_first : (x : Octets) → take (length x - 1) (drop 1 x) ≡ drop 1 x
behind_first x = rw (← length-drop 1 x) (take-length (drop 1 x))

-- to version 1: the octets behind the length octet, then zeros
name_one : (to : Version) (room : ℕ) (x : Octets) → to ≡ One
    → moved to room x ≡ take (length x - 1) (drop 1 x) ++ replicate (room - length (take (length x - 1) (drop 1 x))) 0
unfolding name_image name_read padded other
name_one to room x e = rw (e, behind_first x)

-- all of its room
pub one_long : (to : Version) (room : ℕ) (x : Octets) → to ≡ One → 0 < length x → length x ≤ room → length (moved to room x) ≡ room
one_long to room x e h r =
    let y : Octets = take (length x - 1) (drop 1 x) in
    let n : length y ≡ length x - 1 = rw (behind_first x) (length-drop 1 x) in
    rw (name_one to room x e) (length-append y (replicate (room - length y) 0) ∙ omega (arith, length-replicate {A = ℕ} (room - length y) 0))

-- written so
pub one_written : (to : Version) (room : ℕ) (x d d1 d2 : Octets) (p : ℕ) → to ≡ One → 0 < length x → length x ≤ room
    → d1 ≡ write_at d p (take (length x - 1) (drop 1 x))
    → d2 ≡ write_at d1 (p + length (take (length x - 1) (drop 1 x))) (replicate (room - length (take (length x - 1) (drop 1 x))) 0)
    → (p + room ≡ p + length (moved to room x)) × (d2 ≡ write_at d p (moved to room x))
one_written to room x d d1 d2 p e h r a b =
    let y : Octets = take (length x - 1) (drop 1 x) in (
      rw (one_long to room x e h r),
      b ∙ rw (a, name_one to room x e) (then d p y (replicate (room - length y) 0) (p + length y) refl),
    )

-- the used part is no longer than the name
used_short : (o : Octets) → length (used_part o) ≤ length o
used_short o =
    let e : length (take (length (used_part o)) o) ≡ length (used_part o) = rw (take_used o) in
    omega (arith, length-take (length (used_part o)) o)

-- to version 2: the length of the used part, then that part
name_two : (to : Version) (room : ℕ) (x used : Octets) → to ≡ Two → used ≡ used_part x → moved to room x ≡ length used ∷ used
unfolding name_image name_read other
name_two to room x used e u = rw (e, u)

-- no longer than the field
pub two_long : (to : Version) (room : ℕ) (x used : Octets) → to ≡ Two → used ≡ used_part x
    → (length (moved to room x) ≡ 1 + length used) × (length used ≤ length x)
two_long to room x used e u = (rw (name_two to room x used e u) (omega arith), rw u (used_short x))

-- written so
pub two_written : (to : Version) (room : ℕ) (x used d d1 d2 : Octets) (p : ℕ) → to ≡ Two
    → used ≡ used_part x → d1 ≡ write_at d p (length used ∷ []) → d2 ≡ write_at d1 (p + 1) used
    → (p + 1 + length used ≡ p + length (moved to room x)) × (d2 ≡ write_at d p (moved to room x))
two_written to room x used d d1 d2 p e u a b =
    rw (name_two to room x used e u) (omega arith, b ∙ rw a (then d p (length used ∷ []) used (p + 1) (omega arith)))

-- 3. The fixed part -----------------------------------------------------------------------------------------------------------------------------

-- the 24 octets before the names, written
pub fixed_written : (to v : Version) (image : Octets) (at : ℕ) (m : Settings) (flags : ℕ) (d d1 d2 d3 : Octets) (p : ℕ) → at + 24 ≤ length image → v ≡ other to
    → m ≡ settings_in v (drop at image) → flags ≡ flags_for to m → d1 ≡ write_at d p (part image at 14) → d2 ≡ write_at d1 (p + 14) (be32 flags)
    → d3 ≡ write_at d2 (p + 18) (part image (at + 18) 6) → d3 ≡ write_at d p (fixed_moved to image at)
unfolding fixed_moved be32
fixed_written to v image at m flags d d1 d2 d3 p l ev em ef a b e =
    let x : Octets = part image at 14 in
    let z : Octets = part image (at + 18) 6 in
    let n : length x ≡ 14 = length_part image at 14 (omega arith) in
    let w : d3 ≡ write_at d1 (p + 14) (be32 flags ++ z) = e ∙ rw b (then d1 (p + 14) (be32 flags) z (p + 18) (omega arith)) in
    let f : flags ≡ flags_for to (settings_in (other to) (drop at image)) = rw (← ev, ← em) ef in
    rw (← f) (w ∙ rw a (then d p x (be32 flags ++ z) (p + 14) (rw n)))

-- the octets of a part are octets
part_bytes : (o : Octets) (at n : ℕ) → bytes o ≡ true → bytes (part o at n) ≡ true
unfolding part
part_bytes o at n w = bytes_take n (drop at o) (bytes_drop at o w)

-- the first octet, as a part of one
first_part : (o : Octets) → octet o 0 ≡ octet (part o 0 1) 0
unfolding octet part
first_part o = sym (get_or-take 1 o 0 0 (lit< tt))

-- the octets before the flags, as they are written: those that were read
head_again : (o x : Octets) → bytes o ≡ true → 24 ≤ length o
    → octet o 0 ∷ (part o 1 6 ++ (octet (part o 7 1) 0 ∷ (be16 (number 0 (part o 8 2)) ++ (be32 (number 0 (part o 10 4)) ++ x)))) ≡ part o 0 14 ++ x
head_again o x w l =
    let i : Octets = part o 0 1 in
    let a : Octets = part o 1 6 in
    let e : Octets = part o 7 1 in
    let m : Octets = part o 8 2 in
    let s : Octets = part o 10 4 in
    let em : be16 (number 0 m) ≡ m = be16_again m (part_bytes o 8 2 w) (length_part o 8 2 (omega arith)) in
    let es : be32 (number 0 s) ≡ s = be32_again s (part_bytes o 10 4 w) (length_part o 10 4 (omega arith)) in
    let p : part o 0 14 ≡ i ++ (a ++ (e ++ (m ++ s))) = part_add o 0 1 13 ∙ rw (part_add o 1 6 7, part_add o 7 1 6, part_add o 8 2 4) in
    let q : (i ++ (a ++ (e ++ (m ++ s)))) ++ x ≡ i ++ (a ++ (e ++ (m ++ (s ++ x)))) = simp append_assoc in
    rw (em, es, first_part o, p, q, one_octet e (m ++ (s ++ x)) (length_part o 7 1 (omega arith)))
    (one_octet i (a ++ (e ++ (m ++ (s ++ x)))) (length_part o 0 1 (omega arith)))

-- 4. The names ----------------------------------------------------------------------------------------------------------------------------------

-- the field of a name that is right has an octet, and no more than its room
size_fits : (v : Version) (room : ℕ) (o : Octets) (p : ℕ) → 0 < room → name_right v room (part o p (name_size v room (drop p o))) ≡ true
    → (0 < name_size v room (drop p o)) × (name_size v room (drop p o) ≤ room)
unfolding name_size name_right octet part
size_fits One room o p h e = (h, omega arith)
size_fits Two room o p h e =
    let k : ℕ = octet (drop p o) 0 in
    let t : ltb (octet (take (suc k) (drop p o)) 0) room ≡ true = (and_true (ltb (octet (take (suc k) (drop p o)) 0) room) _ e).0 in
    let g : octet (take (suc k) (drop p o)) 0 ≡ k = get_or-take (suc k) (drop p o) 0 0 (omega arith) in
    let l : octet (take (suc k) (drop p o)) 0 < room = ltb→lt _ _ (rw t tt) in
    (omega arith, omega arith)

-- so the name that it gives has all of its room
read_long : (v : Version) (room : ℕ) (o : Octets) (p : ℕ) → 0 < room → name_right v room (part o p (name_size v room (drop p o))) ≡ true
    → p + name_size v room (drop p o) ≤ length o → length (name_read v room (part o p (name_size v room (drop p o)))) ≡ room
unfolding name_size name_read padded
read_long One room o p h e l = length_part o p room l
read_long Two room o p h e l =
    let x : Octets = part o p (suc (octet (drop p o) 0)) in
    let n : length x ≡ suc (octet (drop p o) 0) = length_part o p (suc (octet (drop p o) 0)) l in
    let f : suc (octet (drop p o) 0) ≤ room = (size_fits Two room o p h e).1 in
    let d : length (drop 1 x) ≡ length x - 1 = length-drop 1 x in
    length-append (drop 1 x) (replicate (room - length (drop 1 x)) 0) ∙ omega (arith, length-replicate {A = ℕ} (room - length (drop 1 x)) 0)

-- both names, one behind the other
names_moved : (to v : Version) (o : Octets) → FieldsRight v o → fixed_end v o ≤ length o
    → names_image to (names_in v o) ≡ name_image to (name_read v 249 (part o 24 (name_size v 249 (drop 24 o))))
    ++ name_image to (name_read v 11 (part o (short_place v o) (name_size v 11 (drop (short_place v o) o))))
unfolding names_in fixed_end short_place
names_moved to v o r l = names_out to _ _ (read_long v 249 o 24 (lit< tt) r.name (omega arith))

-- 5. A controller -------------------------------------------------------------------------------------------------------------------------------

-- tables that were found are written as they stood
tables_part : (f : Hardware) (us : List TableRule) (o : Octets) (m : Parsed (List Table)) → tables_in f us o ≡ some m
    → joined (map table_image m.value) ++ m.behind ≡ o
unfolding tables_in
tables_part f us o m e = let h = clean_through (walk_tables f us (goes_on o)) m e in rw h.1 at (tables_again f us o m.behind h.0)

-- octets between two places
between : (image : Octets) (p q : ℕ) (x : Octets) → p ≤ length image → q ≤ length image → x ++ drop q image ≡ drop p image → (p ≤ q) × (x ≡ part image p (q - p))
unfolding part
between image p q x h l e =
    let k : length (x ++ drop q image) ≡ length (drop p image) = rw e in
    let n : p + length x ≡ q = omega (arith, length-append x (drop q image), length-drop p image, length-drop q image) in
    (omega arith, sym (rw (← e) (take_at x (drop q image) (q - p) (omega arith))))

-- a part of the octets from a place on
part_from : (image : Octets) (at k n : ℕ) → part (drop at image) k n ≡ part image (at + k) n
unfolding part
part_from image at k n = rw (drop-drop k at image)

-- the octets of a controller by its fields, in either version
controller_pieces : (to v : Version) (o : Octets) (ts : List Table) → bytes o ≡ true → 24 ≤ length o
    → controller_image to (octet o 0) (controller_by (fixed_in v o) ts)
    ≡ part o 0 14 ++ (be32 (flags_for to (settings_in v o)) ++ (part o 18 6 ++ (names_image to (names_in v o) ++ joined (map table_image ts))))
unfolding controller_image flags_of controller_by fixed_in fixed_by hardware_in hardware_by static_in settings_in
controller_pieces to v o ts w l = head_again o _ w l

-- the fixed part has 24 octets
length_fixed : (to : Version) (image : Octets) (at : ℕ) → at + 24 ≤ length image → length (fixed_moved to image at) ≡ 24
unfolding fixed_moved be32
length_fixed to image at l =
    let a : length (part image at 14) ≡ 14 = length_part image at 14 (omega arith) in
    let b : length (part image (at + 18) 6) ≡ 6 = length_part image (at + 18) 6 (omega arith) in
    simp length-append (omega arith)

-- a controller that was found at a place, with its tables and its end: where its fields lie, and what is written of it
pub record Laid (to : Version) (image : Octets) (at tables end n : ℕ) (g : Parsed Placed) : Type 0 where
  pub some : 0 < n
  pub few : n ≤ 249
  pub short : at + 24 + n < tables
  pub shorter : tables ≤ at + 24 + n + 11
  pub ends : tables ≤ end
  pub within : end ≤ length image
  pub pieces : written to g.value ≡ fixed_moved to image at ++ (name_moved to 249 image (at + 24) n
      ++ (name_moved to 11 image (at + 24 + n) (tables - (at + 24 + n)) ++ part image tables (end - tables)))
  pub total : length (written to g.value) ≡ 24 + (length (name_moved to 249 image (at + 24) n)
      + (length (name_moved to 11 image (at + 24 + n) (tables - (at + 24 + n))) + (end - tables)))

-- what is written of it, piece by piece
pieces_by : (to : Version) (image : Octets) (at : ℕ) (ts : List Table) (a b x y z : Octets) → bytes (drop at image) ≡ true → 24 ≤ length (drop at image)
    → names_image to (names_in (other to) (drop at image)) ≡ name_image to (name_read (other to) 249 a) ++ name_image to (name_read (other to) 11 b) → a ≡ x → b ≡ y
    → joined (map table_image ts) ≡ z
    → controller_image to (octet (drop at image) 0) (controller_by (fixed_in (other to) (drop at image)) ts)
    ≡ fixed_moved to image at ++ (name_image to (name_read (other to) 249 x) ++ (name_image to (name_read (other to) 11 y) ++ z))
unfolding fixed_moved
pieces_by to image at ts a b x y z w l en ea eb ez =
    let h : part (drop at image) 0 14 ≡ part image at 14 = part_from image at 0 14 ∙ rw add-zero in
    controller_pieces to (other to) (drop at image) ts w l ∙ rw (en, ea, eb, ez, h, part_from image at 18 6) (simp append_assoc)

-- how long the pieces are together
pieces_long : (f x y z : Octets) (n : ℕ) → length f ≡ 24 → length z ≡ n → length (f ++ (x ++ (y ++ z))) ≡ 24 + (length x + (length y + n))
pieces_long f x y z n e h = simp length-append (omega arith)

-- by the laws of the fields
pub laid : (to v : Version) (image : Octets) (at tables end n : ℕ) (g : Parsed Placed) → bytes image ≡ true → controller_in (other to) (drop at image) ≡ some g
    → tables ≡ at + fixed_end (other to) (drop at image) → end ≤ length image → drop end image ≡ g.behind → v ≡ other to → n ≡ name_size v 249 (drop (at + 24) image)
    → Laid to image at tables end n g
unfolding fixed_end short_place written
laid to v₀ image at tables end n g w e et le eb ev en =
    let v : Version = other to in
    let o : Octets = drop at image in
    let wo : bytes o ≡ true = bytes_drop at image w in
    let c = one_controller v o g wo e in
    let s : ℕ = name_size v 249 (drop 24 o) in
    let m : ℕ = name_size v 11 (drop (24 + s) o) in
    let fs = size_fits v 249 o 24 (lit< tt) c.rules.name in
    let fm = size_fits v 11 o (24 + s) (lit< tt) c.rules.short in
    let es : n ≡ s = en ∙ rw (ev, drop-drop 24 at image) in
    let ll : 24 + s + m ≤ length o = c.within in
    let lo : length o ≡ length image - at = length-drop at image in
    let q : tables ≡ at + (24 + s + m) = et in
    let em : tables - (at + 24 + n) ≡ m = omega arith in
    let j : Octets = joined (map table_image c.tables.value) in
    let ej : j ++ drop end image ≡ drop tables image = ap (λ (z : Octets). j ++ z) (eb ∙ c.behind)
    ∙ tables_part (hardware_in o) table_rules (drop (24 + s + m) o) c.tables c.parsed ∙ drop-drop (24 + s + m) at image ∙ ap (λ (k : ℕ). drop k image) (sym q) in
    let b = between image tables end j (omega arith) le ej in
    let x : part o 24 s ≡ part image (at + 24) n = rw es (part_from image at 24 s) in
    let ep : at + (24 + s) ≡ at + 24 + n = omega arith in
    let y : part o (24 + s) m ≡ part image (at + 24 + n) (tables - (at + 24 + n)) = rw em (rw ep at (part_from image at (24 + s) m)) in
    let ps : written to g.value ≡ fixed_moved to image at ++ (name_moved to 249 image (at + 24) n
    ++ (name_moved to 11 image (at + 24 + n) (tables - (at + 24 + n)) ++ part image tables (end - tables))) = rw (c.index, c.value)
    (pieces_by to image at c.tables.value _ _ _ _ _ wo (omega arith) (names_moved to v o c.rules c.within) x y b.1) in
    record {
      some = omega arith;
      few = omega arith;
      short = omega arith;
      shorter = omega arith;
      ends = b.0;
      within = le;
      pieces = ps;
      total = ap {B = ℕ} length ps ∙ pieces_long (fixed_moved to image at) (name_moved to 249 image (at + 24) n)
          (name_moved to 11 image (at + 24 + n) (tables - (at + 24 + n))) (part image tables (end - tables)) (end - tables)
          (length_fixed to image at (omega arith)) (length_part image tables (end - tables) (omega (arith, b.0)));
    }

-- such a controller, whatever it is, finds room in the output
pub record Room (to : Version) (image : Octets) (at tables end n place room : ℕ) : Type 0 where
  pub some : 0 < n
  pub few : n ≤ 249
  pub short : at + 24 + n < tables
  pub shorter : tables ≤ at + 24 + n + 11
  pub ends : tables ≤ end
  pub within : end ≤ length image
  pub out : place + (24 + (length (name_moved to 249 image (at + 24) n)
      + (length (name_moved to 11 image (at + 24 + n) (tables - (at + 24 + n))) + (end - tables)))) ≤ room

-- by its length
pub finds_room : (to : Version) (image : Octets) (at tables end n place room : ℕ) (g : Parsed Placed) → Laid to image at tables end n g
    → place + length (written to g.value) ≤ room → Room to image at tables end n place room
finds_room to image at tables end n place room g l h = record {
  some = l.some;
  few = l.few;
  short = l.short;
  shorter = l.shorter;
  ends = l.ends;
  within = l.within;
  out = rw (← l.total) h;
}

-- so does one that is to be moved
pub finds : (to v : Version) (image : Octets) (at tables end n place room : ℕ) → bytes image ≡ true → Lies (other to) image at
    → tables ≡ at + fixed_end (other to) (drop at image) → end ≤ length image
    → ((g : Parsed Placed) → controller_in (other to) (drop at image) ≡ some g → (drop end image ≡ g.behind) × (place + length (written to g.value) ≤ room))
    → v ≡ other to → n ≡ name_size v 249 (drop (at + 24) image) → Room to image at tables end n place room
finds to v image at tables end n place room w (g, e) t l f ev en =
    finds_room to image at tables end n place room g (laid to v image at tables end n g w e t l (f g e).0 ev en) (f g e).1

-- the fixed part, the names and the tables, written one behind the other
pub controller_written : (to : Version) (image : Octets) (at tables end n : ℕ) (g : Parsed Placed) (d d1 d2 d3 d4 : Octets) (p q r : ℕ)
    → Laid to image at tables end n g → d1 ≡ write_at d p (fixed_moved to image at)
    → q ≡ p + 24 + length (name_moved to 249 image (at + 24) n) → d2 ≡ write_at d1 (p + 24) (name_moved to 249 image (at + 24) n)
    → r ≡ q + length (name_moved to 11 image (at + 24 + n) (tables - (at + 24 + n)))
    → d3 ≡ write_at d2 q (name_moved to 11 image (at + 24 + n) (tables - (at + 24 + n))) → d4 ≡ write_at d3 r (part image tables (end - tables))
    → (r + (end - tables) ≡ p + length (written to g.value)) × (d4 ≡ write_at d p (written to g.value))
controller_written to image at tables end n g d d1 d2 d3 d4 p q r l a eq b er e f =
    let h : Octets = fixed_moved to image at in
    let x : Octets = name_moved to 249 image (at + 24) n in
    let y : Octets = name_moved to 11 image (at + 24 + n) (tables - (at + 24 + n)) in
    let z : Octets = part image tables (end - tables) in
    let k : length h ≡ 24 = length_fixed to image at (omega (arith, l.short, l.ends, l.within)) in
    let w : d4 ≡ write_at d2 q (y ++ z) = f ∙ rw e (then d2 q y z r (sym er)) in
    let v : d4 ≡ write_at d1 (p + 24) (x ++ (y ++ z)) = w ∙ rw b (then d1 (p + 24) x (y ++ z) q (sym eq)) in
    (omega (arith, l.total), rw l.pieces (v ∙ rw a (then d p h (x ++ (y ++ z)) (p + 24) (rw k))))
