-- Laws of saving, over plain lists and numbers, in the form in which the code leaves them: what is left to write, written, gives the whole image.
use mathlib.Core.Path.{◌≡◌, refl, sym, ◌∙◌}
use Prim.Native.Nat.{ℕ, zero, suc, ◌+◌, ◌*◌, ◌-◌, ◌≤◌, ◌<◌}
use native.Mathlib.Omega.{arith}
use native.Mathlib.Nat.{mul-suc, mul-le-mul_left}
use mathlib.Core.List.{List, [], ◌∷◌, ◌++◌, map, append_assoc}
use lib.ListN.{length, get_or, take, drop, length-append, length-drop, drop_of_length-le, take-append-drop}
use lib.Seq.{drop-cons, length-take-le, take_all}
use lib.Dec.{eqb, lit≤}
use mathlib.Core.Bool.{Bool, true, false}
use mathlib.Core.Option.{none}
use Rattle.model.specs.Lengths as Lengths
use Rattle.model.specs.declared.Settings.{Settings}
use Rattle.model.specs.declared.Version.TheVariants.{Two}
use Rattle.model.specs.Octets.{Octets, be16, be32, joined, octet, used_part}
use Rattle.model.specs.State.{Controller, Table, flag, name_part, settings_of, table_of}
use Rattle.model.specs.Hub.{save_out}
use Rattle.model.specs.Layout.{controllers_in, decode}
use Rattle.model.specs.Meanings.{state_ok}
use Rattle.model.specs.Tables.{blocked_rule, device_rule, entries, identity_key_rule, link_key_rule, long_term_key_rule, table_rules, uuid_rule}
use Rattle.model.specs.Image.{bredr_flag, controller_image, controller_images, flag_word, flags_of, image, image_of, name_image, names_image, table_image, version_octet}
use Rattle.model.specs.WellFormed.{plain_ok, well_formed}
use Rattle.model.proofs.Model.Fields.{used_most}
use Rattle.model.proofs.Model.Fixed.{name_parts}
use Rattle.model.proofs.Model.Parts.{controller_fit, lengths, tables_many}
use Rattle.model.specs.Tables.{rule_at}
use Rattle.model.proofs.Model.RoundTrip.{image_most}
use Rattle.model.proofs.Model.Demand3.{state_back, state_well}
use Rattle.model.proofs.Model.Tests.{and_true, equal}
use Rattle.octets.specs.Parts.{part, place_at, write_at}
use Rattle.octets.proofs.Parts.{length_part, length_write_at, write_left, write_right, write_split}
use Rattle.table.specs.Slots.{InUse, NextUsed, table_at}
use Rattle.table.proofs.Regions.{length_table, slot_room}
use Rattle.table.proofs.Walk.{in_use_entries, next_entries}
use Rattle.layout.specs.Places.{Ready, controller_of, present_at, table_place}
use Rattle.layout.proofs.Reading.{absent_slot, present_slot}
use Rattle.layout.proofs.Change.{controller_fine}
use Rattle.layout.proofs.Tables.{table_at_lem}
use Rattle.outcomes.specs.Outcomes.{ended}
use Rattle.outcomes.proofs.Endings.{ends_done}
use Rattle.replies.specs.Answers.{Gives}
use Rattle.model.specs.declared.Answer.{Answer}
use Rattle.model.specs.declared.Answer.TheVariants.{Done}
use Rattle.image.specs.Images.{fixed_image, numbers_image, flags_in}
use Rattle.replies.proofs.Laws.{then}

-- 1. The records of a table ---------------------------------------------------------------------------------------------------------------------

-- a run of lists written one by one: the first, then the rest
pub write_first : (d : Octets) (p : ℕ) (x : Octets) (xs : List Octets) (n : ℕ) → length x ≡ n
    → write_at d p (joined (x ∷ xs)) ≡ write_at (write_at d p x) (p + n) (joined xs)
unfolding joined
write_first d p x xs n e = rw (← e) (write_split d p x (joined xs))

-- the place behind the run, counted from behind the first
pub length_first : (p : ℕ) (x : Octets) (xs : List Octets) (n : ℕ) → length x ≡ n → p + length (joined (x ∷ xs)) ≡ p + n + length (joined xs)
unfolding joined
length_first p x xs n e = omega (arith, length-append x (joined xs))

-- nothing is left to write
pub write_none : (d : Octets) (p : ℕ) → write_at d p (joined []) ≡ d
unfolding joined write_at
write_none d p = refl

-- so the place reached is the place behind the run
pub goes_none : (p n : ℕ) → p + length (joined []) ≡ n → p ≡ n
unfolding joined
goes_none p n e = omega arith

-- where the slots from k on find room
slots_room : (size k : ℕ) → k < 32 → size * (32 - k) ≡ size + size * (32 - (k + 1))
slots_room size k l = let e : 32 - k ≡ suc (32 - (k + 1)) = omega arith in rw e (mul-suc size (32 - (k + 1)) ∙ omega arith)

-- the records from slot k on are still to be written, from the place p on; at first all of them, from the place p₀ on
pub record Saving (s : Octets) (at size : ℕ) (d₀ : Octets) (p₀ : ℕ) (d : Octets) (p k : ℕ) : Type 0 where
  pub long : length d ≡ length d₀
  pub room : p + size * (32 - k) ≤ p₀ + size * 32
  pub left : write_at d p (joined (entries (drop k (table_at s at size)))) ≡ write_at d₀ p₀ (joined (entries (table_at s at size)))
  pub goes : p + length (joined (entries (drop k (table_at s at size)))) ≡ p₀ + length (joined (entries (table_at s at size)))

module _ (s : Octets) (at size : ℕ) (d₀ : Octets) (p₀ : ℕ) where
  -- at first nothing is written, and all records are left
  pub saving_first : Saving s at size d₀ p₀ d₀ p₀ 0
  saving_first = record { long = refl; room = omega arith; left = refl; goes = refl }

  -- the walk that has come to slot k finds the record in slot r: there is room for it
  pub saving_room : (d : Octets) (p k r : ℕ) → k ≤ r → r < 32 → Saving s at size d₀ p₀ d p k → p + size + size * (32 - (r + 1)) ≤ p₀ + size * 32
  saving_room d p k r h l i =
      let m : size * (32 - r) ≤ size * (32 - k) = mul-le-mul_left size (omega arith) in
      omega (arith, slots_room size r l, i.room)

  -- it is written, and the walk goes on behind it
  pub saving_turn : (d : Octets) (p k r : ℕ) (d' : Octets) → at + (4 + size * 32) ≤ length s → k ≤ r → r < 32 → NextUsed s at size k r
      → d' ≡ write_at d p (part s (at + (4 + size * r)) size) → Saving s at size d₀ p₀ d p k → Saving s at size d₀ p₀ d' (p + size) (r + 1)
  saving_turn d p k r d' h lo hi v w i =
      let x : Octets = part s (at + (4 + size * r)) size in
      let n : length x ≡ size = length_part s (at + (4 + size * r)) size (omega (arith, slot_room size r hi)) in
      let f : entries (drop k (table_at s at size)) ≡ x ∷ entries (drop (r + 1) (table_at s at size)) = next_entries s at size k r v
      ∙ in_use_entries s at size r (v.used hi) in
      record {
        long = rw w (length_write_at d p x) ∙ i.long;
        room = saving_room d p k r lo hi i;
        left = rw w (sym (write_first d p x (entries (drop (r + 1) (table_at s at size))) size n)) ∙ (rw f at i.left);
        goes = sym (length_first p x (entries (drop (r + 1) (table_at s at size))) size n) ∙ (rw f at i.goes);
      }

  -- all are written: behind the count, that is the table's image
  pub saving_last : (d : Octets) (p k n place : ℕ) (e : Octets) → NextUsed s at size k 32 → n ≡ length (entries (table_at s at size)) → d₀ ≡ write_at e place (n ∷ [])
      → p₀ ≡ place + 1 → Saving s at size d₀ p₀ d p k
      → (p ≡ place + length (table_image (table_at s at size))) × (p ≤ place + (1 + size * 32)) × (d ≡ write_at e place (table_image (table_at s at size)))
  unfolding entries table_image
  saving_last d p k n place e u m w q i =
      let t : Table = table_at s at size in
      let z : drop 32 t ≡ [] = drop_of_length-le t {i = 32} (rw (length_table s at size) (omega arith)) in
      let f : entries (drop k t) ≡ [] = next_entries s at size k 32 u ∙ rw z in
      let g : write_at e place (n ∷ joined (entries t)) ≡ write_at (write_at e place (n ∷ [])) (place + 1) (joined (entries t)) = write_split e place
      (n ∷ []) (joined (entries t)) in
      let a : p ≡ p₀ + length (joined (entries t)) = goes_none p _ (rw f at i.goes) in
      let b : d ≡ write_at d₀ p₀ (joined (entries t)) = sym (write_none d p) ∙ (rw f at i.left) in
      (omega arith, omega (arith, i.room), rw (← m) (b ∙ rw (w, q) (sym g)))

-- 2. The tables of a controller -----------------------------------------------------------------------------------------------------------------

-- the most that the images of the tables before k take
unfoldable pub most_before : ℕ → ℕ
most_before k = place_at (545 ∷ 801 ∷ 1153 ∷ 737 ∷ 225 ∷ 257 ∷ []) k

-- table k takes a count octet and at most 32 records more
pub most_step : (k : ℕ) → k < 6 → most_before (k + 1) ≡ most_before k + (1 + (rule_at k).size * 32)
unfolding most_before place_at rule_at table_rules uuid_rule link_key_rule long_term_key_rule identity_key_rule blocked_rule device_rule
most_step zero l = refl
most_step (suc zero) l = refl
most_step (suc (suc zero)) l = refl
most_step (suc (suc (suc zero))) l = refl
most_step (suc (suc (suc (suc zero)))) l = refl
most_step (suc (suc (suc (suc (suc zero))))) l = refl
most_step (suc (suc (suc (suc (suc (suc k)))))) l = absurd (omega arith)

-- six full tables take 3,718 octets, and fewer take no more
pub most_below : (k : ℕ) → k ≤ 6 → most_before k ≤ 3718
unfolding most_before place_at
most_below zero l = lit≤ tt
most_below (suc zero) l = lit≤ tt
most_below (suc (suc zero)) l = lit≤ tt
most_below (suc (suc (suc zero))) l = lit≤ tt
most_below (suc (suc (suc (suc zero)))) l = lit≤ tt
most_below (suc (suc (suc (suc (suc zero))))) l = lit≤ tt
most_below (suc (suc (suc (suc (suc (suc zero)))))) l = lit≤ tt
most_below (suc (suc (suc (suc (suc (suc (suc k))))))) l = absurd (omega arith)

-- so has the controller at a present index
pub six_tables : (s : Octets) (i : ℕ) → Ready s i → length (controller_of s i).host.tables ≡ 6
unfolding table_rules
six_tables s i r =
    tables_many (controller_of s i).radio.hardware table_rules (controller_of s i).host.tables
    (controller_fit (controller_of s i) (controller_fine s i r)).tables

-- the images of the tables from k on are still to be written, from the place p on
pub record SavingTables (s : Octets) (i : ℕ) (d₀ : Octets) (p₀ : ℕ) (d : Octets) (p k : ℕ) : Type 0 where
  pub long : length d ≡ length d₀
  pub room : p ≤ p₀ + most_before k
  pub left : write_at d p (joined (map table_image (drop k (controller_of s i).host.tables))) ≡ write_at d₀ p₀
      (joined (map table_image (controller_of s i).host.tables))
  pub goes : p + length (joined (map table_image (drop k (controller_of s i).host.tables))) ≡ p₀ + length
      (joined (map table_image (controller_of s i).host.tables))

module _ (s : Octets) (i : ℕ) (ready : Ready s i) (d₀ : Octets) (p₀ : ℕ) where
  -- at first all six are left
  pub tables_first : SavingTables s i d₀ p₀ d₀ p₀ 0
  unfolding most_before place_at
  tables_first = record { long = refl; room = omega arith; left = refl; goes = refl }

  -- table k finds room in the 3,718 octets, even if it is full
  pub tables_room : (d : Octets) (p k : ℕ) → k < 6 → SavingTables s i d₀ p₀ d p k → p + (1 + (rule_at k).size * 32) ≤ p₀ + 3718
  tables_room d p k l i = omega (arith, i.room, most_step k l, most_below (k + 1) (omega arith))

  -- the image of table k is written, and the tables after it are left
  pub tables_turn : (d : Octets) (p k : ℕ) (d' : Octets) (at size r : ℕ) → k < 6 → at ≡ table_place i k → size ≡ (rule_at k).size
      → r ≡ p + length (table_image (table_at s at size)) → r ≤ p + (1 + size * 32) → d' ≡ write_at d p (table_image (table_at s at size))
      → SavingTables s i d₀ p₀ d p k → SavingTables s i d₀ p₀ d' r (k + 1)
  unfolding table_of
  tables_turn d p k d' at size r l ea es g h w v =
      let ts : List Table = (controller_of s i).host.tables in
      let t : Table = table_at s at size in
      let e : t ≡ get_or ts k [] = rw (ea, es) (table_at_lem s i ready k l) in
      let n : suc k ≡ k + 1 = omega arith in
      let f : drop k ts ≡ t ∷ drop (k + 1) ts = drop-cons ts k [] (rw (six_tables s i ready) l) ∙ rw (← e, n) in
      let xs : List Octets = map table_image (drop (k + 1) ts) in
      let m = most_step k l in
      let b = v.room in
      record {
        long = rw w (length_write_at d p (table_image t)) ∙ v.long;
        room = omega arith;
        left = rw (w, g) (sym (write_first d p (table_image t) xs (length (table_image t)) refl)) ∙ (rw f at v.left);
        goes = rw g (sym (length_first p (table_image t) xs (length (table_image t)) refl)) ∙ (rw f at v.goes);
      }

  -- none is left: the images of all six are written, in 3,718 octets at most
  pub tables_last : (d : Octets) (p k : ℕ) → k ≤ 6 → 6 ≤ k → SavingTables s i d₀ p₀ d p k
      → (p ≡ p₀ + length (joined (map table_image (controller_of s i).host.tables))) × (p ≤ p₀ + 3718)
      × (d ≡ write_at d₀ p₀ (joined (map table_image (controller_of s i).host.tables)))
  tables_last d p k u l v =
      let f : drop k (controller_of s i).host.tables ≡ [] = drop_of_length-le (controller_of s i).host.tables {i = k} (rw (six_tables s i ready) l) in
      (goes_none p _ (rw f at v.goes), omega (arith, v.room, most_below k u), sym (write_none d p) ∙ (rw f at v.left))

-- 3. The fixed part, and a controller ---------------------------------------------------------------------------------------------------------------

-- a flag is no more than its bit
flag_most : (b : Bool) (n : ℕ) → flag b n ≤ n
unfolding flag
flag_most true n = omega arith
flag_most false n = omega arith

-- so the flags are a number of four octets
pub flags_small : (m : Settings) → flags_in m < 4294967296
unfolding flags_in flag_word
flags_small m =
    omega (arith, flag_most m.radio.connectable 2, flag_most m.host.bondable 16, flag_most m.radio.bredr 128, flag_most m.radio.low_energy 512)

-- the numbers of a controller's image have 1 + 2 + 4 + 4 = 11 octets
pub length_numbers : (m : Settings) → length (numbers_image m) ≡ 11
unfolding numbers_image be16 be32
length_numbers m = refl

-- two writes, the first of them behind the other: their order does not matter
pub write_swap : (d : Octets) (p : ℕ) (a : Octets) (q : ℕ) (b : Octets) → p + length a ≤ q → q ≤ length d
    → write_at (write_at d q b) p a ≡ write_at (write_at d p a) q b
write_swap d p a q b h l =
    let x : Octets = take q d in
    let y : Octets = drop q d in
    let n : length x ≡ q = length-take-le q d l in
    let m : length (write_at x p a) ≡ q = length_write_at x p a ∙ n in
    let z : q + 0 ≡ q = omega arith in
    let e : write_at (x ++ y) q b ≡ x ++ write_at y 0 b = rw (n, z) at (write_right x y 0 b) in
    let f : write_at (x ++ write_at y 0 b) p a ≡ write_at x p a ++ write_at y 0 b = write_left x (write_at y 0 b) p a (omega arith) in
    let g : write_at (x ++ y) p a ≡ write_at x p a ++ y = write_left x y p a (omega arith) in
    let k : write_at (write_at x p a ++ y) q b ≡ write_at x p a ++ write_at y 0 b = rw (m, z) at (write_right (write_at x p a) y 0 b) in
    rw (← take-append-drop q d) (rw (e, f, g, k))

-- the four writes of the fixed part, in the order of the code
pub fixed_written : (m : Settings) (i : ℕ) (d d1 d2 d3 d4 : Octets) (p : ℕ) → p + 24 ≤ length d → length m.radio.hardware.public_address ≡ 6
    → d1 ≡ write_at d (p + 18) m.radio.static_address
    → d2 ≡ write_at d1 (p + 1) m.radio.hardware.public_address → d3 ≡ write_at d2 (p + 7) (numbers_image m) → d4 ≡ write_at d3 p (i ∷ [])
    → d4 ≡ write_at d p (fixed_image i m)
unfolding fixed_image
fixed_written m i d d1 d2 d3 d4 p room n a b e f =
    let x : Octets = m.radio.hardware.public_address in
    let y : Octets = numbers_image m in
    let z : Octets = m.radio.static_address in
    let l : length y ≡ 11 = length_numbers m in
    let k : length (x ++ y) ≡ 17 = length-append x y ∙ omega arith in
    let g : length d1 ≡ length d = rw a (length_write_at d (p + 18) z) in
    let h : d3 ≡ write_at d1 (p + 1) (x ++ y) = e ∙ rw b (then d1 (p + 1) x y (p + 7) (omega arith)) in
    let q : d4 ≡ write_at d1 p (i ∷ (x ++ y)) = f
    ∙ rw h (write_swap d1 p (i ∷ []) (p + 1) (x ++ y) (omega arith) (omega arith) ∙ then d1 p (i ∷ []) (x ++ y) (p + 1) (omega arith)) in
    let r : write_at d1 p (i ∷ (x ++ y)) ≡ write_at d p (i ∷ ((x ++ y) ++ z)) = rw a
    (write_swap d p (i ∷ (x ++ y)) (p + 18) z (omega arith) (omega arith) ∙ then d p (i ∷ (x ++ y)) z (p + 18) (omega arith)) in
    q ∙ r ∙ rw (append_assoc x y z)

-- the fixed part has 24 octets
pub length_fixed : (i : ℕ) (m : Settings) → length m.radio.hardware.public_address ≡ 6 → length m.radio.static_address ≡ 6 → length (fixed_image i m) ≡ 24
unfolding fixed_image
length_fixed i m a b = simp length-append (omega (arith, length_numbers m))

-- the length of a name's used part and that part, written one behind the other, are the name's image
pub name_written : (n used d d1 d2 : Octets) (p : ℕ) → used ≡ used_part n → length used ≤ 249 → d1 ≡ write_at d p (length used ∷ []) → d2 ≡ write_at d1 (p + 1) used
    → (p + 1 + length used ≡ p + length (name_image Two n)) × (p + 1 + length used ≤ p + 250) × (d2 ≡ write_at d p (name_image Two n))
unfolding name_image
name_written n used d d1 d2 p u l a b =
    let f : length used ≡ length (used_part n) = rw u in
    (omega arith, omega arith, b ∙ rw (a, then d p (length used ∷ []) used (p + 1) refl, u))

-- an octet is written by its value, whatever that is reckoned from
pub octet_put : (d d1 : Octets) (p x y : ℕ) → d1 ≡ write_at d p (x ∷ []) → x ≡ y → d1 ≡ write_at d p (y ∷ [])
octet_put d d1 p x y e n = rw n at e

-- the name by its number
part_name : (n : Octets) → name_part 0 n ≡ take 249 n
unfolding name_part
part_name n = refl

-- the short name by its number: all that is behind the name
part_short : (n : Octets) → length n ≡ 260 → name_part 1 n ≡ drop 249 n
unfolding name_part
part_short n l = take_all 11 (drop 249 n) (omega (arith, length-drop 249 n))

-- the image of both names, by their numbers: no longer than the names are
pub names_by : (s : Octets) (i : ℕ) → Ready s i
    → (names_image Two (controller_of s i).host.name ≡ name_image Two (name_part 0 (controller_of s i).host.name) ++ name_image Two (name_part 1 (controller_of s i).host.name))
    × (length (name_image Two (name_part 0 (controller_of s i).host.name)) + length (name_image Two (name_part 1 (controller_of s i).host.name)) ≤ 260)
unfolding names_image name_image octet
names_by s i ready =
    let n : Octets = (controller_of s i).host.name in
    let ok = controller_fine s i ready in
    let l : length n ≡ 260 = (lengths (controller_of s i) ok).name in
    let h = name_parts n l (and_true (eqb (length n) 260) _ (controller_fit (controller_of s i) ok).name).1 in
    let a = used_most (take 249 n) 248 (equal _ _ h.1) in
    let b = used_most (drop 249 n) 10 (equal _ _ h.3) in
    rw (part_name n, part_short n l) (refl, omega arith)

-- a controller's image: the fixed part, the names, the tables
pub image_parts : (i : ℕ) (c : Controller)
    → controller_image Two i c ≡ fixed_image i (settings_of c) ++ (names_image Two c.host.name ++ joined (map table_image c.host.tables))
unfolding controller_image flags_of bredr_flag fixed_image numbers_image flags_in settings_of
image_parts i c = simp append_assoc

-- the fixed part, the names and the tables, written one behind the other, are the controller's image
pub controller_written : (s : Octets) (i : ℕ) (m : Settings) (d d1 d2 d3 d4 : Octets) (p q t r : ℕ) → Ready s i → m ≡ settings_of (controller_of s i)
    → d1 ≡ write_at d p (fixed_image i m)
    → q ≡ p + 24 + length (name_image Two (name_part 0 (controller_of s i).host.name))
    → d2 ≡ write_at d1 (p + 24) (name_image Two (name_part 0 (controller_of s i).host.name))
    → t ≡ q + length (name_image Two (name_part 1 (controller_of s i).host.name))
    → d3 ≡ write_at d2 q (name_image Two (name_part 1 (controller_of s i).host.name))
    → r ≡ t + length (joined (map table_image (controller_of s i).host.tables))
    → d4 ≡ write_at d3 t (joined (map table_image (controller_of s i).host.tables))
    → (r ≡ p + length (controller_image Two i (controller_of s i))) × (d4 ≡ write_at d p (controller_image Two i (controller_of s i)))
unfolding settings_of
controller_written s i m d d1 d2 d3 d4 p q t r ready em a eq b et e g f =
    let c : Controller = controller_of s i in
    let h = lengths c (controller_fine s i ready) in
    let x : Octets = fixed_image i (settings_of c) in
    let l : length x ≡ 24 = length_fixed i (settings_of c) h.public_address h.static_address in
    let n : Octets = name_image Two (name_part 0 c.host.name) in
    let k : Octets = name_image Two (name_part 1 c.host.name) in
    let z : Octets = joined (map table_image c.host.tables) in
    let w : d3 ≡ write_at d1 (p + 24) (n ++ k) = e ∙ rw b (then d1 (p + 24) n k q (sym eq)) in
    let v : d4 ≡ write_at d1 (p + 24) ((n ++ k) ++ z) = f ∙ rw w (then d1 (p + 24) (n ++ k) z t (omega (arith, length-append n k))) in
    let u : d4 ≡ write_at d p (x ++ ((n ++ k) ++ z)) = v ∙ rw (a, em) (then d p x ((n ++ k) ++ z) (p + 24) (omega arith)) in
    rw (image_parts i c, (names_by s i ready).0) (g ∙ simp length-append (omega arith), u)

-- 4. The controllers, and the head before them --------------------------------------------------------------------------------------------------------

-- the images of the controllers from index i on
unfoldable pub images_from : Octets → ℕ → List Octets
images_from s i = controller_images Two i (drop i (decode s).plain.controllers)

-- the images of the controllers from index i on are still to be written, from the place p on; n are written
pub record SavingAll (s d₀ d : Octets) (p n i : ℕ) : Type 0 where
  pub long : length d ≡ length d₀
  pub room : p ≤ 6 + 4002 * i
  pub few : n ≤ i
  pub left : write_at d p (joined (images_from s i)) ≡ write_at d₀ 6 (joined (images_from s 0))
  pub goes : p + length (joined (images_from s i)) ≡ 6 + length (joined (images_from s 0))
  pub counts : n + length (images_from s i) ≡ length (images_from s 0)

-- four slots
four_slots : (s : Octets) → length (decode s).plain.controllers ≡ 4
unfolding decode controllers_in
four_slots s = refl

module _ (s : Octets) (i : ℕ) (l : i < 4) where
  -- the slots from index i on: that of i, then the others
  slot_here : drop i (decode s).plain.controllers ≡ get_or (decode s).plain.controllers i none ∷ drop (i + 1) (decode s).plain.controllers
  slot_here = let n : suc i ≡ i + 1 = omega arith in rw (← n) (drop-cons (decode s).plain.controllers i none (rw (four_slots s) l))

  -- the next index, as the model counts on and as the code does
  next_index : suc i ≡ i + 1
  next_index = omega arith

  -- an index with a controller, and one without
  images_present : present_at s i ≡ true → images_from s i ≡ controller_image Two i (controller_of s i) ∷ images_from s (i + 1)
  unfolding images_from controller_images
  images_present e = rw (slot_here, present_slot s i e, next_index)

  -- one without has no image
  images_absent : present_at s i ≡ false → images_from s i ≡ images_from s (i + 1)
  unfolding images_from controller_images
  images_absent e = rw (slot_here, absent_slot s i l e, ← next_index)

-- at first no controller is written, and all are left, from behind the six octets of the head
pub all_first : (s d₀ : Octets) → SavingAll s d₀ d₀ 6 0 0
all_first s d₀ = record { long = refl; room = omega arith; few = omega arith; left = refl; goes = refl; counts = omega arith }

module _ (s d₀ d : Octets) (p n i : ℕ) (l : i < 4) (v : SavingAll s d₀ d p n i) where
  -- a controller stands there: its image is written, and it is counted
  pub all_present : (d' : Octets) (r : ℕ) → present_at s i ≡ true → r ≡ p + length (controller_image Two i (controller_of s i)) → r ≤ p + 4002
      → d' ≡ write_at d p (controller_image Two i (controller_of s i))
      → SavingAll s d₀ d' r (n + 1) (i + 1)
  all_present d' r e g h w =
      let x : Octets = controller_image Two i (controller_of s i) in
      let f : images_from s i ≡ x ∷ images_from s (i + 1) = images_present s i l e in
      let b = v.room in
      let k = v.few in
      let c : n + suc (length (images_from s (i + 1))) ≡ length (images_from s 0) = rw f at v.counts in
      record {
        long = rw w (length_write_at d p x) ∙ v.long;
        room = omega arith;
        few = omega arith;
        left = rw (w, g) (sym (write_first d p x (images_from s (i + 1)) (length x) refl)) ∙ (rw f at v.left);
        goes = rw g (sym (length_first p x (images_from s (i + 1)) (length x) refl)) ∙ (rw f at v.goes);
        counts = omega arith;
      }

  -- none stands there: nothing is written or counted
  pub all_absent : present_at s i ≡ false → SavingAll s d₀ d p n (i + 1)
  all_absent e =
      let f : images_from s i ≡ images_from s (i + 1) = images_absent s i l e in
      let b = v.room in
      let k = v.few in
      record { long = v.long; room = omega arith; few = omega arith; left = rw f at v.left; goes = rw f at v.goes; counts = rw f at v.counts }

-- nothing is left after the last index
images_end : (s : Octets) (i : ℕ) → 4 ≤ i → images_from s i ≡ []
unfolding images_from controller_images
images_end s i l = let f : drop i (decode s).plain.controllers ≡ [] = drop_of_length-le (decode s).plain.controllers {i = i} (rw (four_slots s) l) in rw f

-- the three writes of the head, over controllers that are written behind it; v is the version octet
pub head_written : (d d1 d2 d3 body : Octets) (p v n : ℕ) → 6 ≤ length d → d1 ≡ write_at (write_at d 6 body) 0 (be32 p) → d2 ≡ write_at d1 4 (v ∷ [])
    → d3 ≡ write_at d2 5 (n ∷ []) → d3 ≡ write_at d 0 (be32 p ++ (v ∷ n ∷ body))
unfolding be32
head_written d d1 d2 d3 body p v n l a b c =
    let e : Octets = write_at d 6 body in
    let g : d3 ≡ write_at d1 4 (v ∷ n ∷ []) = c ∙ rw b (then d1 4 (v ∷ []) (n ∷ []) 5 refl) in
    let h : d3 ≡ write_at e 0 (be32 p ++ (v ∷ n ∷ [])) = g ∙ rw a (then e 0 (be32 p) (v ∷ n ∷ []) 4 refl) in
    h ∙ write_swap d 0 (be32 p ++ (v ∷ n ∷ [])) 6 body (omega arith) l ∙ then d 0 (be32 p ++ (v ∷ n ∷ [])) body 6 refl

-- the hub that a well-formed state stands for is valid
pub plain_fine : (s : Octets) → state_ok s ≡ true → plain_ok (decode s).plain ≡ true
unfolding well_formed
plain_fine s ok = (and_true (plain_ok (decode s).plain) _ (state_well s ok)).0

-- the image is as long as the place reached: the head of six octets, and the controllers behind it
length_image : (s : Octets) (p : ℕ) → p ≡ 6 + length (joined (images_from s 0)) → length (image (decode s).plain) ≡ p
unfolding image image_of images_from be32
length_image s p g = omega arith

-- the whole image is written
pub all_written : (s d₀ d d1 d2 d3 : Octets) (p n i : ℕ) (r : Answer) → state_ok s ≡ true → Lengths.largest_image ≤ length d₀ → 4 ≤ i
    → SavingAll s d₀ d p n i → d1 ≡ write_at d 0 (be32 p) → d2 ≡ write_at d1 4 (2 ∷ []) → d3 ≡ write_at d2 5 (n ∷ []) → r ≡ Done p
    → Gives (ended s (save_out (decode s).plain)) r d₀ d3 s
unfolding save_out image image_of version_octet images_from
all_written s d₀ d d1 d2 d3 p n i r ok big l v a b c e =
    let q : images_from s i ≡ [] = images_end s i l in
    let body : Octets = joined (images_from s 0) in
    let g : p ≡ 6 + length body = goes_none p _ (rw q at v.goes) in
    let f : n + 0 ≡ length (images_from s 0) = rw q at v.counts in
    let k : n ≡ length (images_from s 0) = omega arith in
    let w : d ≡ write_at d₀ 6 body = sym (write_none d p) ∙ (rw q at v.left) in
    let h : d3 ≡ write_at d₀ 0 (be32 p ++ (2 ∷ n ∷ body)) = head_written d₀ d1 d2 d3 body p 2 n (omega arith) (a ∙ rw w) b c in
    let m : d3 ≡ write_at d₀ 0 (image (decode s).plain) = rw (g, k) at h in
    let plain : plain_ok (decode s).plain ≡ true = plain_fine s ok in
    let long : length (image (decode s).plain) ≡ p = length_image s p g in
    ends_done s (image (decode s).plain) (decode s).plain p d₀ d3 s r e long (omega (arith, image_most Two (decode s).plain plain)) m (state_back s ok)
