-- The lent state as pieces at places: a write inside a piece of a block is a change of that piece, and a changed block is a changed hub.
use mathlib.Core.Path.{◌≡◌, refl, ap, sym, ◌∙◌}
use Prim.Native.Nat.{ℕ, zero, suc, ◌+◌, ◌*◌, ◌≤◌, ◌<◌}
use native.Mathlib.Omega.{arith}
use native.Mathlib.Nat.{add-zero}
use mathlib.Core.Bool.{Bool, true}
use mathlib.Core.List.{List, [], ◌∷◌, ◌++◌, map, append_assoc, append-nil}
use mathlib.Core.Option.{Option, none, some}
use lib.ListN.{length, get_or, drop, set, replicate, length-append, length-set}
use lib.Seq.{get_or-set_same, set-set, set-get_or}
use lib.Dec.{eqb}
use Rattle.model.specs.Lengths as Lengths
use Rattle.model.specs.declared.Hardware.{Hardware}
use Rattle.model.specs.Octets.{Octets, joined, le16, le32}
use Rattle.model.specs.Advertising.{Advertising}
use Rattle.model.specs.State.{Controller, Hub, OpenCommand, Table, hardware_ok, settings_of, with_controller}
use Rattle.model.specs.Tables.{TableRule, blocked_rule, device_rule, identity_key_rule, link_key_rule, long_term_key_rule, table_rules, uuid_rule}
use Rattle.model.specs.Image.{radio_ok}
use Rattle.model.specs.WellFormed.{advertising_ok, controller_ok, slot_is_ok, slots_ok, table_ok, tables_ok, well_formed}
use Rattle.model.specs.Layout.{advertising_part, data_part, schedule_part}
use Rattle.model.specs.Layout.{block, blocks, controller_part, encode, hardware_part, open_part, region, regions, settings_part, waiting_part}
use Rattle.model.proofs.Model.Decode.{length_region}
use Rattle.model.proofs.Model.Advertising.{five_each}
use Rattle.model.proofs.Model.Layout.{length_block, length_data, length_open, length_schedule}
use Rattle.model.proofs.Model.Parts.{controller_fit}
use Rattle.model.proofs.Model.Stays.{plain_fit}
use Rattle.model.proofs.Model.Tests.{and_true, equal, no_way}
use Rattle.octets.specs.Parts.{part, place_at, write_at}
use Rattle.octets.proofs.Parts.{join, join_read, join_write, length_write_at, lengths, part_left, part_right, write_left, write_right, write_whole}
use Rattle.layout.specs.Places.{base, place_of, sizes}
use Rattle.model.proofs.Model.Keeps.{opens_length, well_fit}

-- 1. The pieces of a block, and the blocks of the state -----------------------------------------------------------------------------------------

-- a region for each table, and what follows them
unfoldable pub region_pieces : List TableRule → List Table → List Octets → List Octets
region_pieces [] ts rest = rest
region_pieces (u ∷ us) [] rest = rest
region_pieces (u ∷ us) (t ∷ ts) rest = region u.size t ∷ region_pieces us ts rest

-- the schedule, and a piece for the data of each instance, each way
unfoldable pub advertising_pieces : Advertising → List Octets
advertising_pieces a = schedule_part a.schedule ∷ (map data_part a.adv_data ++ map data_part a.scan_rsp)

-- the pieces of a present controller's block
unfoldable pub pieces : Controller → Option OpenCommand → List Octets
pieces c o =
    (1 ∷ [])
    ∷ open_part o
    ∷ hardware_part c.radio.hardware
    ∷ settings_part (settings_of c)
    ∷ c.host.name
    ∷ region_pieces table_rules c.host.tables (advertising_pieces c.host.advertising)

-- the blocks, as pieces of the state
unfoldable pub block_pieces : List (Option Controller) → List (Option OpenCommand) → List Octets
block_pieces [] os = []
block_pieces (s ∷ ss) os = block s (get_or os 0 none) ∷ block_pieces ss (drop 1 os)

-- joined, the regions are the model's
join_regions : (us : List TableRule) (ts : List Table) (rest : List Octets) → join (region_pieces us ts rest) ≡ regions us ts ++ join rest
unfolding join region_pieces regions
join_regions [] ts rest = refl
join_regions (u ∷ us) [] rest = refl
join_regions (u ∷ us) (t ∷ ts) rest = rw (join_regions us ts rest, append_assoc)

-- runs of data joined, one kind behind the other
join_data : (os ps : List Octets) → join (map data_part os ++ map data_part ps) ≡ joined (map data_part os) ++ joined (map data_part ps)
unfolding join joined
join_data [] [] = refl
join_data [] (p ∷ ps) = ap (λ (x : Octets). data_part p ++ x) (join_data [] ps)
join_data (o ∷ os) ps = rw (join_data os ps, append_assoc)

-- joined, schedule and data are the model's
join_advertising : (a : Advertising) → join (advertising_pieces a) ≡ advertising_part a
unfolding join advertising_pieces advertising_part
join_advertising a = rw (join_data a.adv_data a.scan_rsp)

-- joined, the pieces are the block
pub join_block : (c : Controller) (o : Option OpenCommand) → block (some c) o ≡ join (pieces c o)
unfolding join pieces block controller_part
join_block c o =
    rw (join_regions table_rules c.host.tables (advertising_pieces c.host.advertising), join_advertising c.host.advertising)

-- joined, the blocks are the state behind the clock
join_blocks : (ss : List (Option Controller)) (os : List (Option OpenCommand)) → blocks ss os ≡ join (block_pieces ss os)
unfolding join block_pieces blocks
join_blocks [] os = refl
join_blocks (s ∷ ss) os = rw (join_blocks ss (drop 1 os))

-- as many blocks as slots
length_pieces : (ss : List (Option Controller)) (os : List (Option OpenCommand)) → length (block_pieces ss os) ≡ length ss
unfolding block_pieces
length_pieces [] os = refl
length_pieces (s ∷ ss) os = ap suc (length_pieces ss (drop 1 os))

-- 2. One block changed, and all of one length ---------------------------------------------------------------------------------------------------

-- a changed slot and a changed open command are a changed block
set_blocks : (ss : List (Option Controller)) (os : List (Option OpenCommand)) (i : ℕ) (x : Option Controller) (o : Option OpenCommand) → i < length os
    → set (block_pieces ss os) i (block x o) ≡ block_pieces (set ss i x) (set os i o)
unfolding block_pieces
set_blocks [] os i x o l = refl
set_blocks (s ∷ ss) [] i x o l = absurd (omega arith)
set_blocks (s ∷ ss) (p ∷ os) zero x o l = refl
set_blocks (s ∷ ss) (p ∷ os) (suc i) x o l = ap {B = List Octets} (λ l. block s p ∷ l) (set_blocks ss os i x o (omega arith))

-- the block at i
get_block : (ss : List (Option Controller)) (os : List (Option OpenCommand)) (i : ℕ) → i < length ss
    → get_or (block_pieces ss os) i [] ≡ block (get_or ss i none) (get_or os i none)
unfolding block_pieces
get_block [] os i l = absurd (omega arith)
get_block (s ∷ ss) os zero l = refl
get_block (s ∷ ss) [] (suc i) l = get_block ss [] i (omega arith)
get_block (s ∷ ss) (o ∷ os) (suc i) l = get_block ss os i (omega arith)

-- every piece is as long as a block
unfoldable pub Even : List Octets → Type 0
Even [] = Unit {0}
Even (p ∷ ps) = (length p ≡ Lengths.block) × Even ps

-- so block i begins behind i blocks
even_place : (ps : List Octets) (i : ℕ) → i < length ps → Even ps → place_at (lengths ps) i ≡ Lengths.block * i
unfolding place_at lengths Even
even_place [] i l e = absurd (omega arith)
even_place (p ∷ ps) zero l e = refl
even_place (p ∷ ps) (suc i) l e = rw (e.0, even_place ps i (omega arith) e.1) (omega arith)

-- and all of them together are as long as so many blocks
even_length : (ps : List Octets) → Even ps → length (join ps) ≡ Lengths.block * length ps
unfolding join Even
even_length [] e = refl
even_length (p ∷ ps) e = length-append p (join ps) ∙ omega (arith, e.0, even_length ps e.1)

-- so it stays with a piece of that length in the place of another
even_set : (ps : List Octets) (i : ℕ) (p : Octets) → length p ≡ Lengths.block → Even ps → Even (set ps i p)
unfolding Even
even_set [] i p n e = e
even_set (q ∷ ps) zero p n e = (n, e.1)
even_set (q ∷ ps) (suc i) p n e = (e.0, even_set ps i p n e.1)

-- and so are the blocks of valid slots
even_blocks : (ss : List (Option Controller)) (os : List (Option OpenCommand)) → slots_ok ss ≡ true → Even (block_pieces ss os)
unfolding Even block_pieces slots_ok
even_blocks [] os e = tt
even_blocks (s ∷ ss) os e = let a = and_true (slot_is_ok s) _ e in (length_block s (get_or os 0 none) a.0, even_blocks ss (drop 1 os) a.1)

-- 3. The shape of a hub -------------------------------------------------------------------------------------------------------------------------

-- slot i is one of the hub's slots, all of one length, with an open command or none beside each
pub record Shaped (h : Hub) (i : ℕ) : Type 0 where
  pub below : i < length h.plain.controllers
  pub beside : i < length h.open_commands
  pub even : Even (block_pieces h.plain.controllers h.open_commands)

-- a well-formed hub has four such slots
pub shaped : (h : Hub) (i : ℕ) → well_formed h ≡ true → i < 4 → Shaped h i
unfolding well_formed
shaped h i e l =
    let a = well_fit h e in
    let f = plain_fit h.plain a.plain in
    let n : length h.plain.controllers ≡ 4 = equal _ _ f.four in
    let m : length h.open_commands ≡ length h.plain.controllers = opens_length h.plain.controllers h.open_commands a.open_commands in
    record { below = omega arith; beside = omega arith; even = even_blocks h.plain.controllers h.open_commands f.slots }

-- 4. Lengths of pieces --------------------------------------------------------------------------------------------------------------------------

-- the length of piece k
got : (ps : List Octets) (k : ℕ) → get_or (lengths ps) k 0 ≡ length (get_or ps k [])
unfolding lengths
got [] k = refl
got (p ∷ ps) zero = refl
got (p ∷ ps) (suc k) = got ps k

-- as many lengths as pieces
length_lengths : (ps : List Octets) → length (lengths ps) ≡ length ps
unfolding lengths
length_lengths [] = refl
length_lengths (p ∷ ps) = ap suc (length_lengths ps)

-- the sum of the lengths
total : List ℕ → ℕ
total [] = 0
total (n ∷ ns) = n + total ns

-- a piece lies inside the whole
place_fits : (ns : List ℕ) (k : ℕ) → place_at ns k + get_or ns k 0 ≤ total ns
unfolding place_at total
place_fits [] zero = omega arith
place_fits [] (suc k) = omega arith
place_fits (n ∷ ns) zero = omega arith
place_fits (n ∷ ns) (suc k) = omega (arith, place_fits ns k)

-- a piece lies inside its block
pub inside : (k : ℕ) → place_at sizes k + get_or sizes k 0 ≤ Lengths.block
unfolding total sizes
inside k = place_fits sizes k

-- the pieces joined are as long as their sum
length_join : (ps : List Octets) → length (join ps) ≡ total (lengths ps)
unfolding join lengths total
length_join [] = refl
length_join (p ∷ ps) = length-append p (join ps) ∙ rw (length_join ps)

-- a piece as long as the one before it leaves the lengths
pub lengths_set : (ps : List Octets) (k : ℕ) (p : Octets) → length p ≡ length (get_or ps k []) → lengths (set ps k p) ≡ lengths ps
unfolding lengths
lengths_set [] k p e = refl
lengths_set (q ∷ ps) zero p e = rw e
lengths_set (q ∷ ps) (suc k) p e = rw (lengths_set ps k p e)

-- a write inside a piece
unfoldable pub write_in : List Octets → ℕ → ℕ → Octets → List Octets
write_in ps k a w = set ps k (write_at (get_or ps k []) a w)

-- it leaves the sizes
pub write_in_sized : (ps : List Octets) (k a : ℕ) (w : Octets) → lengths ps ≡ sizes → lengths (write_in ps k a w) ≡ sizes
unfolding write_in
write_in_sized ps k a w z = lengths_set ps k (write_at (get_or ps k []) a w) (length_write_at (get_or ps k []) a w) ∙ z

-- the sizes of the tables, by their rules
sizes_of : List TableRule → List ℕ
sizes_of [] = []
sizes_of (u ∷ us) = (4 + u.size * 32) ∷ sizes_of us

-- valid tables have them
region_sizes : (f : Hardware) (us : List TableRule) (ts : List Table) (rest : List Octets) → tables_ok f us ts ≡ true
    → lengths (region_pieces us ts rest) ≡ sizes_of us ++ lengths rest
unfolding lengths region_pieces sizes_of tables_ok
region_sizes f [] [] rest e = refl
region_sizes f [] (t ∷ ts) rest e = no_way (sym e)
region_sizes f (u ∷ us) [] rest e = no_way (sym e)
region_sizes f (u ∷ us) (t ∷ ts) rest e = let a = and_true (table_ok u f t) _ e in rw (length_region u f t a.0, region_sizes f us ts rest a.1)

-- the data of instances have 32 octets each
data_sizes : (os rest : List Octets) → lengths (map data_part os ++ rest) ≡ replicate (length os) 32 ++ lengths rest
unfolding lengths
data_sizes [] rest = refl
data_sizes (o ∷ os) rest = rw (length_data o, data_sizes os rest)

-- valid advertising has a schedule of 23 octets, and five data each way
advertising_sizes : (l w : Bool) (a : Advertising) → advertising_ok l w a ≡ true → lengths (advertising_pieces a) ≡ 23
    ∷ (replicate 5 32 ++ (replicate 5 32 ++ []))
unfolding lengths advertising_pieces
advertising_sizes l w a e =
    let f = five_each l w a e in
    let p : lengths (map data_part a.scan_rsp) ≡ replicate 5 32 ++ [] = rw (append-nil, f.scan_rsp) at (data_sizes a.scan_rsp []) in
    rw (length_schedule a.schedule f.durations f.timeouts, data_sizes a.adv_data (map data_part a.scan_rsp), f.adv_data, p)

-- the pieces of a valid controller have the sizes
pub pieces_sized : (c : Controller) (o : Option OpenCommand) → controller_ok c ≡ true → lengths (pieces c o) ≡ sizes
unfolding pieces lengths sizes sizes_of hardware_part settings_part settings_of le16 le32 radio_ok hardware_ok table_rules uuid_rule link_key_rule
    long_term_key_rule identity_key_rule blocked_rule device_rule
pieces_sized c o e =
    let h = controller_fit c e in
    let p6 : length c.radio.hardware.public_address ≡ 6 = equal _ _
    (and_true (eqb (length c.radio.hardware.public_address) 6) _ (and_true (hardware_ok c.radio.hardware) _ h.radio).0).0 in
    let s6 : length c.radio.static_address ≡ 6 = equal _ _ h.static_address in
    let n : length c.host.name ≡ 260 = equal _ _ (and_true (eqb (length c.host.name) 260) _ h.name).0 in
    let rest = advertising_pieces c.host.advertising in
    let a : lengths rest ≡ 23 ∷ (replicate 5 32 ++ (replicate 5 32 ++ [])) = advertising_sizes _ _ c.host.advertising h.advertising in
    rw (p6, s6, n, length_open o, region_sizes c.radio.hardware table_rules c.host.tables rest h.tables, a)

-- 5. THE LENS OF A BLOCK ------------------------------------------------------------------------------------------------------------------------

-- the state of h with any octets b in block i: what stands between two writes
unfoldable pub with_block : Hub → ℕ → Octets → Octets
with_block h i b = le32 h.plain.clock ++ (join (set (block_pieces h.plain.controllers h.open_commands) i b) ++ waiting_part h.waiting)

-- a place behind the clock
behind : (x u v : ℕ) → 4 + u + v ≡ length (le32 x) + (u + v)
unfolding le32
behind x u v = omega arith

module _ (h : Hub) (i : ℕ) (s : Shaped h i) (b : Octets) (z : length b ≡ Lengths.block) where
  -- the blocks, with b in place i
  blocks_now : List Octets
  blocks_now = set (block_pieces h.plain.controllers h.open_commands) i b

  -- i is one of them
  now_below : i < length blocks_now
  unfolding blocks_now
  now_below = rw (length-set, length_pieces h.plain.controllers h.open_commands) s.below

  -- block i begins behind i blocks
  now_place : place_at (lengths blocks_now) i ≡ Lengths.block * i
  unfolding blocks_now
  now_place = even_place blocks_now i now_below (even_set (block_pieces h.plain.controllers h.open_commands) i b z s.even)

  -- together they are as long as so many blocks
  now_long : length (join blocks_now) ≡ Lengths.block * length blocks_now
  unfolding blocks_now
  now_long = even_length blocks_now (even_set (block_pieces h.plain.controllers h.open_commands) i b z s.even)

  -- block i is b
  now_get : get_or blocks_now i [] ≡ b
  unfolding blocks_now
  now_get =
      get_or-set_same (block_pieces h.plain.controllers h.open_commands) i b [] (rw (length_pieces h.plain.controllers h.open_commands) s.below)

  -- reading in block i
  pub block_read : (a n : ℕ) → a + n ≤ Lengths.block → part (with_block h i b) (base i + a) n ≡ part b a n
  unfolding with_block blocks_now
  block_read a n f =
      let j = join_read blocks_now i a n (rw (now_get, z) f) in
      let l : Lengths.block * i + a + n ≤ length (join blocks_now) = rw now_long (omega (arith, now_below)) in
      rw (behind h.plain.clock (Lengths.block * i) a)
      (part_right (le32 h.plain.clock) (join blocks_now ++ waiting_part h.waiting) (Lengths.block * i + a) n
      ∙ part_left (join blocks_now) (waiting_part h.waiting) (Lengths.block * i + a) n l
      ∙ (rw (now_place, now_get) at j))

  -- writing in block i
  pub block_write : (a : ℕ) (w : Octets) → a + length w ≤ Lengths.block → write_at (with_block h i b) (base i + a) w ≡ with_block h i (write_at b a w)
  unfolding with_block blocks_now
  block_write a w f =
      let j = join_write blocks_now i a w now_below (rw (now_get, z) f) in
      let l : Lengths.block * i + a + length w ≤ length (join blocks_now) = rw now_long (omega (arith, now_below)) in
      let r = write_right (le32 h.plain.clock) (join blocks_now ++ waiting_part h.waiting) (Lengths.block * i + a) w in
      let g = write_left (join blocks_now) (waiting_part h.waiting) (Lengths.block * i + a) w l in
      let k : write_at (join blocks_now) (Lengths.block * i + a) w ≡ join
      (set (block_pieces h.plain.controllers h.open_commands) i (write_at b a w)) = (rw (now_place, now_get, set-set) at j) in
      rw (behind h.plain.clock (Lengths.block * i) a) (r ∙ ap (λ (x : Octets). le32 h.plain.clock ++ x) (g ∙ ap (λ (x : Octets). x ++ waiting_part h.waiting) k))

  -- the whole block written anew
  pub block_put : (w : Octets) → length w ≡ Lengths.block → write_at (with_block h i b) (base i) w ≡ with_block h i w
  block_put w n = (rw add-zero at (block_write 0 w (omega arith))) ∙ ap (λ (x : Octets). with_block h i x) (write_whole b w (n ∙ sym z))

module _ (h : Hub) (i : ℕ) (s : Shaped h i) (ps : List Octets) (z : lengths ps ≡ sizes) where
  -- each piece has its size
  pub piece_length : (k : ℕ) → length (get_or ps k []) ≡ get_or sizes k 0
  piece_length k = sym (got ps k) ∙ rw z

  -- as many pieces as sizes
  all_there : length ps ≡ 22
  unfolding sizes
  all_there = sym (length_lengths ps) ∙ rw z

  -- joined, they are as long as a block
  pub all_long : length (join ps) ≡ Lengths.block
  unfolding sizes total
  all_long = length_join ps ∙ rw z

  -- reading in piece k of block i
  pub piece_read : (k a n : ℕ) → a + n ≤ get_or sizes k 0 → part (with_block h i (join ps)) (place_of i k + a) n ≡ part (get_or ps k []) a n
  unfolding place_of
  piece_read k a n f =
      let e : base i + place_at sizes k + a ≡ base i + (place_at sizes k + a) = omega arith in
      let q = join_read ps k a n (rw (piece_length k) f) in
      rw e (block_read h i s (join ps) all_long (place_at sizes k + a) n (omega (arith, inside k)) ∙ (rw z at q))

  -- writing in piece k of block i
  pub piece_write : (k a : ℕ) (w : Octets) → k < 22 → a + length w ≤ get_or sizes k 0
      → write_at (with_block h i (join ps)) (place_of i k + a) w ≡ with_block h i (join (write_in ps k a w))
  unfolding place_of write_in
  piece_write k a w l f =
      let n = all_there in
      let e : base i + place_at sizes k + a ≡ base i + (place_at sizes k + a) = omega arith in
      let q = join_write ps k a w (omega arith) (rw (piece_length k) f) in
      rw e (block_write h i s (join ps) all_long (place_at sizes k + a) w (omega (arith, inside k)) ∙ ap (λ (x : Octets). with_block h i x) (rw z at q))

-- 6. Blocks and hubs ----------------------------------------------------------------------------------------------------------------------------

-- the state of a hub, with its own block in block i
pub state_is : (h : Hub) (i : ℕ) → i < length h.plain.controllers
    → encode h ≡ with_block h i (block (get_or h.plain.controllers i none) (get_or h.open_commands i none))
unfolding encode with_block
state_is h i l = rw (join_blocks h.plain.controllers h.open_commands, ← get_block h.plain.controllers h.open_commands i l, set-get_or)

-- the hub with another controller, or none, and another open command, or none, at index i
unfoldable pub with_slot : Hub → ℕ → Option Controller → Option OpenCommand → Hub
with_slot h i x o = record { plain = with_controller h.plain i x; open_commands = set h.open_commands i o; waiting = h.waiting }

-- the state with their block is the state of that hub
pub state_put : (h : Hub) (i : ℕ) (x : Option Controller) (o : Option OpenCommand) → i < length h.open_commands
    → with_block h i (block x o) ≡ encode (with_slot h i x o)
unfolding encode with_block with_slot with_controller
state_put h i x o l =
    rw (set_blocks h.plain.controllers h.open_commands i x o l, join_blocks (set h.plain.controllers i x) (set h.open_commands i o))
