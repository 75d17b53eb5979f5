-- The advertising of a controller among the pieces of its block: the schedule read, a piece written anew, data cleared.
use mathlib.Core.Path.{◌≡◌, refl, ap, sym, ◌∙◌}
use Prim.Native.Nat.{ℕ, zero, suc, ◌+◌, ◌-◌, ◌*◌, ◌≤◌, ◌<◌}
use native.Mathlib.Omega.{arith}
use native.Mathlib.Nat.{add-zero}
use mathlib.Core.Bool.{Bool, true, false, ◌&&◌, ◌||◌, not}
use mathlib.Core.List.{List, [], ◌∷◌, ◌++◌, map}
use mathlib.Core.Option.{Option}
use lib.ListN.{length, get_or, drop, set, replicate, length-replicate}
use lib.Seq.{get_or-drop, set-get_or}
use lib.Dec.{eqb, lit<}
use borrow.Author.Tests.{eqb-true}
use Rattle.model.specs.Lengths as Lengths
use Rattle.model.specs.declared.Hardware.{Hardware}
use Rattle.model.specs.declared.Schedule.{Schedule}
use Rattle.model.specs.declared.Settings.{Settings}
use Rattle.model.specs.Octets.{Octets, le16, u16}
use Rattle.model.specs.Advertising.{data_kept, data_of, rescheduled, with_value}
use Rattle.model.specs.State.{Controller, Hub, OpenCommand, Table, settings_of, with_advertising, with_host, with_schedule}
use Rattle.model.specs.Tables.{TableRule, table_rules}
use Rattle.model.specs.WellFormed.{controller_ok, data_fit, data_ok, table_ok, tables_ok}
use Rattle.model.specs.Layout.{advertising_back, controller_back, data_part, hardware_part, open_part, region, schedule_back, schedule_part}
use Rattle.model.specs.Layout.{settings_part}
use Rattle.model.proofs.Model.Parts.{controller_fit}
use Rattle.model.proofs.Model.Tests.{Five, five}
use Rattle.model.proofs.Model.Tests.{and_true, no_way}
use Rattle.octets.specs.Parts.{part, place_at, write_at}
use Rattle.octets.proofs.Parts.{join, lengths}
use Rattle.rules.specs.Effects.{with_settings, with_turns}
use Rattle.layout.specs.Places.{base, controller_of, place_of, sizes}
use Rattle.layout.specs.Advertising.{cleared_slot, cleared_slots, five_from, with_instance_data}
use Rattle.layout.proofs.Reading.{octet_at, u16_at}
use Rattle.layout.proofs.Lens.{Shaped, advertising_pieces, piece_length, piece_write, pieces, region_pieces}
use Rattle.layout.proofs.Lens.{lengths_set, with_block}
use Rattle.layout.proofs.Tables.{rules_six}
use Rattle.layout.proofs.Change.{write_piece}

-- 1. The schedule, read -----------------------------------------------------------------------------------------------------------------------

-- a number of two octets behind some others
pub u16_drop : (o : Octets) (a k : ℕ) → u16 (drop a o) k ≡ u16 o (a + k)
unfolding u16
u16_drop o a k =
    let e : a + (k + 1) ≡ a + k + 1 = omega arith in
    rw (get_or-drop a o k 0, get_or-drop a o (k + 1) 0, e)

-- the schedule of the block that begins at b
unfoldable pub schedule_from : Octets → ℕ → Schedule
schedule_from s b = record { durations = five_from s (b + 4029); timeouts = five_from s (b + 4039); on_air = get_or s (b + 4049) 0; left = u16 s (b + 4050) }

-- it is the controller's
pub schedule_at_lem : (s : Octets) (i : ℕ) → schedule_from s (base i) ≡ (controller_of s i).host.advertising.schedule
unfolding schedule_from five_from controller_of controller_back advertising_back schedule_back
schedule_at_lem s i =
    let b = base i in
    let o = drop 6 (part s b Lengths.block) in
    let at : (k n : ℕ) → k + 1 < 343 → b + (6 + (4023 + k)) ≡ n → u16 (drop 4023 o) k ≡ u16 s n = λ k n l e.
    u16_drop o 4023 k ∙ u16_at s b (4023 + k) (omega arith) ∙ ap (λ (x : ℕ). u16 s x) e in
    let on : get_or (drop 4023 o) 20 0 ≡ get_or s (b + 4049) 0 = get_or-drop 4023 o 20 0 ∙ octet_at s b 4043 (lit< tt) in
    rw (
      at 0 (b + 4029) (lit< tt) refl,
      at 2 (b + 4029 + 2) (lit< tt) (omega arith),
      at 4 (b + 4029 + 4) (lit< tt) (omega arith),
      at 6 (b + 4029 + 6) (lit< tt) (omega arith),
      at 8 (b + 4029 + 8) (lit< tt) (omega arith),
      at 10 (b + 4039) (lit< tt) (omega arith),
      at 12 (b + 4039 + 2) (lit< tt) (omega arith),
      at 14 (b + 4039 + 4) (lit< tt) (omega arith),
      at 16 (b + 4039 + 6) (lit< tt) (omega arith),
      at 18 (b + 4039 + 8) (lit< tt) (omega arith),
      at 21 (b + 4050) (lit< tt) (omega arith),
      on,
    )

-- 2. The pieces behind the tables -------------------------------------------------------------------------------------------------------------

-- behind the regions of the tables
pub rest_get : (f : Hardware) (us : List TableRule) (ts : List Table) (rest : List Octets) (j : ℕ) → tables_ok f us ts ≡ true
    → get_or (region_pieces us ts rest) (length us + j) [] ≡ get_or rest j []
unfolding tables_ok region_pieces
rest_get f [] [] rest j e = let z : 0 + j ≡ j = omega arith in rw z
rest_get f [] (t ∷ ts) rest j e = no_way (sym e)
rest_get f (u ∷ us) [] rest j e = no_way (sym e)
rest_get f (u ∷ us) (t ∷ ts) rest j e =
    let z : suc (length us) + j ≡ suc (length us + j) = omega arith in
    rw z (rest_get f us ts rest j (and_true (table_ok u f t) _ e).1)

-- a piece there changed
pub rest_set : (f : Hardware) (us : List TableRule) (ts : List Table) (rest : List Octets) (j : ℕ) (w : Octets) → tables_ok f us ts ≡ true
    → set (region_pieces us ts rest) (length us + j) w ≡ region_pieces us ts (set rest j w)
unfolding tables_ok region_pieces
rest_set f [] [] rest j w e = let z : 0 + j ≡ j = omega arith in rw z
rest_set f [] (t ∷ ts) rest j w e = no_way (sym e)
rest_set f (u ∷ us) [] rest j w e = no_way (sym e)
rest_set f (u ∷ us) (t ∷ ts) rest j w e =
    let z : suc (length us) + j ≡ suc (length us + j) = omega arith in
    rw z (ap {B = List Octets} (λ l. region u.size t ∷ l) (rest_set f us ts rest j w (and_true (table_ok u f t) _ e).1))

-- a piece behind the tables among all pieces
pub behind_get : (c : Controller) (o : Option OpenCommand) (j : ℕ) → controller_ok c ≡ true
    → get_or (pieces c o) (11 + j) [] ≡ get_or (advertising_pieces c.host.advertising) j []
unfolding pieces
behind_get c o j e =
    let z : 11 + j ≡ suc (suc (suc (suc (suc (6 + j))))) = omega arith in
    rw (z, ← rules_six) (rest_get c.radio.hardware table_rules c.host.tables (advertising_pieces c.host.advertising) j (controller_fit c e).tables)

-- another list of pieces behind the tables
unfoldable pub pieces_with : Controller → Option OpenCommand → List Octets → List Octets
pieces_with c o rest =
    (1 ∷ [])
    ∷ open_part o
    ∷ hardware_part c.radio.hardware
    ∷ settings_part (settings_of c)
    ∷ c.host.name
    ∷ region_pieces table_rules c.host.tables rest

-- a piece behind the tables changed
pub behind_set : (c : Controller) (o : Option OpenCommand) (rest : List Octets) (j : ℕ) (w : Octets)
    → tables_ok c.radio.hardware table_rules c.host.tables ≡ true
    → set (pieces_with c o rest) (11 + j) w ≡ pieces_with c o (set rest j w)
unfolding pieces_with
behind_set c o rest j w e =
    let z : 11 + j ≡ suc (suc (suc (suc (suc (6 + j))))) = omega arith in
    rw (z, ← rules_six) (ap {B = List Octets} (λ l. (1 ∷ []) ∷ open_part o ∷ hardware_part c.radio.hardware ∷ settings_part (settings_of c) ∷ c.host.name ∷ l)
    (rest_set c.radio.hardware table_rules c.host.tables rest j w e))

-- the block of index i, in the lent state
module _ (h : Hub) (i : ℕ) (sh : Shaped h i) where
  -- a whole piece written anew
  pub whole_write : (ps : List Octets) (k : ℕ) (w : Octets) → lengths ps ≡ sizes → k < 22 → length w ≡ get_or sizes k 0
      → write_at (with_block h i (join ps)) (place_of i k) w ≡ with_block h i (join (set ps k w))
  whole_write ps k w z l n =
      let q = piece_write h i sh ps z k 0 w l (omega arith) in
      let m : length w ≡ length (get_or ps k []) = n ∙ sym (piece_length h i sh ps z k) in
      (rw (add-zero, write_piece ps k w m) at q)

  -- which leaves the sizes
  pub whole_sized : (ps : List Octets) (k : ℕ) (w : Octets) → lengths ps ≡ sizes → length w ≡ get_or sizes k 0 → lengths (set ps k w) ≡ sizes
  whole_sized ps k w z n = lengths_set ps k w (n ∙ sym (piece_length h i sh ps z k)) ∙ z

-- 3. Data cleared -----------------------------------------------------------------------------------------------------------------------------

-- the data of an instance, cleared if it was there and no longer is
unfoldable pub slot_after : ℕ → ℕ → Octets → Octets
slot_after b d x = elim (not (eqb b 0) && eqb d 0) [ true ↦ replicate 32 0 | false ↦ x ]

-- the same of each of these instances, from piece j on
unfoldable pub clear_from : ℕ → List Octets → List ℕ → List ℕ → List Octets
clear_from j rest [] ds = rest
clear_from j rest (b ∷ bs) [] = rest
clear_from j rest (b ∷ bs) (d ∷ ds) = clear_from (suc j) (set rest j (slot_after b d (get_or rest j []))) bs ds

-- the pieces behind the schedule have 32 octets each, and begin so far behind one another
pub data_size : (j : ℕ) → 1 ≤ j → j ≤ 10 → get_or sizes (11 + j) 0 ≡ 32
unfolding sizes
data_size zero m l = absurd (omega arith)
data_size (suc zero) m l = refl
data_size (suc (suc zero)) m l = refl
data_size (suc (suc (suc zero))) m l = refl
data_size (suc (suc (suc (suc zero)))) m l = refl
data_size (suc (suc (suc (suc (suc zero))))) m l = refl
data_size (suc (suc (suc (suc (suc (suc zero)))))) m l = refl
data_size (suc (suc (suc (suc (suc (suc (suc zero))))))) m l = refl
data_size (suc (suc (suc (suc (suc (suc (suc (suc zero)))))))) m l = refl
data_size (suc (suc (suc (suc (suc (suc (suc (suc (suc zero))))))))) m l = refl
data_size (suc (suc (suc (suc (suc (suc (suc (suc (suc (suc zero)))))))))) m l = refl
data_size (suc (suc (suc (suc (suc (suc (suc (suc (suc (suc (suc j))))))))))) m l = absurd (omega arith)

-- a piece begins where the one before it ends
pub place_next : (ns : List ℕ) (k : ℕ) → k < length ns → place_at ns (suc k) ≡ place_at ns k + get_or ns k 0
unfolding place_at
place_next [] k l = absurd (omega arith)
place_next (n ∷ []) zero l = omega arith
place_next (n ∷ m ∷ ns) zero l = omega arith
place_next (n ∷ ns) (suc k) l = let p = place_next ns k (omega arith) in omega arith

-- there are 22 sizes
pub sizes_many : length sizes ≡ 22
unfolding sizes
sizes_many = refl

-- so the data of the next instance begin 32 octets on
pub data_next : (i j : ℕ) → 1 ≤ j → j ≤ 10 → place_of i (11 + j) + 32 ≡ place_of i (11 + suc j)
unfolding place_of
data_next i j m l =
    let n : 11 + suc j ≡ suc (11 + j) = omega arith in
    let p : place_at sizes (suc (11 + j)) ≡ place_at sizes (11 + j) + get_or sizes (11 + j) 0 = place_next sizes (11 + j) (rw sizes_many (omega arith)) in
    let z = data_size j m l in
    rw n (omega arith)

module _ (h : Hub) (i : ℕ) (sh : Shaped h i) (c : Controller) (o : Option OpenCommand)
    (ok : tables_ok c.radio.hardware table_rules c.host.tables ≡ true) where
  -- the data of one instance cleared, or not
  pub slot_after_lem : (rest : List Octets) (j b d : ℕ) → lengths (pieces_with c o rest) ≡ sizes → 1 ≤ j → j ≤ 10
      → cleared_slot (with_block h i (join (pieces_with c o rest))) (place_of i (11 + j)) b d
      ≡ with_block h i (join (pieces_with c o (set rest j (slot_after b d (get_or rest j [])))))
  unfolding cleared_slot slot_after
  slot_after_lem rest j b d z m l = go (not (eqb b 0) && eqb d 0)
    where
      n : length (replicate {A = ℕ} 32 0) ≡ get_or sizes (11 + j) 0
      n = length-replicate {A = ℕ} 32 0 ∙ sym (data_size j m l)

      go : (x : Bool)
          → ◌≡◌ {A = Octets}
          (elim x [
            | true ↦ write_at (with_block h i (join (pieces_with c o rest))) (place_of i (11 + j)) (replicate 32 0)
            | false ↦ with_block h i (join (pieces_with c o rest))
          ])
          (with_block h i (join (pieces_with c o (set rest j (elim x [ true ↦ replicate 32 0 | false ↦ get_or rest j [] ])))))
      go true =
          whole_write h i sh (pieces_with c o rest) (11 + j) (replicate 32 0) z (omega arith) n
          ∙ ap (λ (ps : List Octets). with_block h i (join ps)) (behind_set c o rest j (replicate 32 0) ok)
      go false = rw set-get_or

  -- the sizes stay
  pub after_sized : (rest : List Octets) (j b d : ℕ) → lengths (pieces_with c o rest) ≡ sizes → 1 ≤ j → j ≤ 10
      → lengths (pieces_with c o (set rest j (slot_after b d (get_or rest j [])))) ≡ sizes
  unfolding slot_after
  after_sized rest j b d z m l = go (not (eqb b 0) && eqb d 0)
    where
      go : (x : Bool) → lengths (pieces_with c o (set rest j (elim x [ true ↦ replicate 32 0 | false ↦ get_or rest j [] ]))) ≡ sizes
      go true =
          ap lengths (sym (behind_set c o rest j (replicate 32 0) ok))
          ∙ whole_sized h i sh (pieces_with c o rest) (11 + j) (replicate 32 0) z (length-replicate {A = ℕ} 32 0 ∙ sym (data_size j m l))
      go false = rw set-get_or z

  -- the data of several instances, from piece j on
  pub slots_after : (rest : List Octets) (j : ℕ) (bs ds : List ℕ) → lengths (pieces_with c o rest) ≡ sizes → 1 ≤ j → j + length bs ≤ 11
      → cleared_slots (with_block h i (join (pieces_with c o rest))) (place_of i (11 + j)) bs ds
      ≡ with_block h i (join (pieces_with c o (clear_from j rest bs ds)))
  unfolding cleared_slots clear_from
  slots_after rest j [] ds z m l = refl
  slots_after rest j (b ∷ bs) [] z m l = refl
  slots_after rest j (b ∷ bs) (d ∷ ds) z m l =
      let a = slot_after_lem rest j b d z m (omega arith) in
      let q = slots_after (set rest j (slot_after b d (get_or rest j []))) (suc j) bs ds (after_sized rest j b d z m (omega arith)) (omega arith) (omega arith) in
      rw (a, data_next i j m (omega arith)) q

  -- and their sizes
  pub slots_sized : (rest : List Octets) (j : ℕ) (bs ds : List ℕ) → lengths (pieces_with c o rest) ≡ sizes → 1 ≤ j → j + length bs ≤ 11
      → lengths (pieces_with c o (clear_from j rest bs ds)) ≡ sizes
  unfolding clear_from
  slots_sized rest j [] ds z m l = z
  slots_sized rest j (b ∷ bs) [] z m l = z
  slots_sized rest j (b ∷ bs) (d ∷ ds) z m l =
      slots_sized (set rest j (slot_after b d (get_or rest j []))) (suc j) bs ds (after_sized rest j b d z m (omega arith)) (omega arith) (omega arith)

-- five runs of octets, one by one
pub data FiveData : List Octets → Type 0 where
  -- each of them by a name of its own
  five_data : (a b c d e : Octets) → FiveData (a ∷ b ∷ c ∷ d ∷ e ∷ [])

-- a list of five
pub five_data_of : (l : List Octets) → length l ≡ 5 → FiveData l
five_data_of [] n = absurd (omega arith)
five_data_of (a ∷ []) n = absurd (omega arith)
five_data_of (a ∷ b ∷ []) n = absurd (omega arith)
five_data_of (a ∷ b ∷ c ∷ []) n = absurd (omega arith)
five_data_of (a ∷ b ∷ c ∷ d ∷ []) n = absurd (omega arith)
five_data_of (a ∷ b ∷ c ∷ d ∷ e ∷ []) n = five_data a b c d e
five_data_of (a ∷ b ∷ c ∷ d ∷ e ∷ f ∷ l) n = absurd (omega arith)

-- no data, laid out
pub no_data : ◌≡◌ {A = Octets} (replicate 32 0) (data_part [])
unfolding data_part
no_data = refl

-- what is left of the data of an instance, laid out, where those of an absent one are empty
pub slot_kept : (b d : ℕ) (o : Octets) → data_fit b o ≡ true → slot_after b d (data_part o) ≡ data_part (elim (eqb d 0) [ true ↦ [] | false ↦ o ])
unfolding slot_after data_fit
slot_kept b d o e = go (eqb b 0) (eqb d 0) o (and_true (not (eqb b 0) || eqb (length o) 0) _ e).0
  where
    go : (x y : Bool) (o : Octets) → not x || eqb (length o) 0 ≡ true
        → ◌≡◌ {A = Octets} (elim (not x && y) [ true ↦ replicate 32 0 | false ↦ data_part o ]) (data_part (elim y [ true ↦ [] | false ↦ o ]))
    go false true o f = no_data
    go false false o f = refl
    go true true [] f = refl
    go true true (x ∷ o) f = absurd (omega (arith, eqb-true (suc (length o)) 0 f))
    go true false o f = refl

-- data of five instances that fit their durations, one by one
pub fit_each : (a b c d e : ℕ) (p q r s t : Octets) → data_ok (a ∷ b ∷ c ∷ d ∷ e ∷ []) (p ∷ q ∷ r ∷ s ∷ t ∷ []) ≡ true
    → (data_fit a p ≡ true) × (data_fit b q ≡ true) × (data_fit c r ≡ true) × (data_fit d s ≡ true) × (data_fit e t ≡ true)
unfolding data_ok
fit_each a b c d e p q r s t f =
    let v = and_true (data_fit a p) _ f in
    let w = and_true (data_fit b q) _ v.1 in
    let x = and_true (data_fit c r) _ w.1 in
    let y = and_true (data_fit d s) _ x.1 in
    (v.0, w.0, x.0, y.0, (and_true (data_fit e t) _ y.1).0)

-- the pieces of the data that are kept
pub kept_pieces : (x : Octets) (adv scan : List Octets) (bs ds : List ℕ) → FiveData adv → FiveData scan → Five bs → Five ds
    → data_ok bs adv ≡ true → data_ok bs scan ≡ true
    → clear_from 6 (clear_from 1 (x ∷ (map data_part adv ++ map data_part scan)) bs ds) bs ds
    ≡ x ∷ (map data_part (data_kept ds adv) ++ map data_part (data_kept ds scan))
unfolding clear_from data_kept
kept_pieces x adv scan bs ds (five_data a1 a2 a3 a4 a5) (five_data s1 s2 s3 s4 s5) (five b1 b2 b3 b4 b5) (five d1 d2 d3 d4 d5) fa fs =
    let f = fit_each b1 b2 b3 b4 b5 a1 a2 a3 a4 a5 fa in
    let g = fit_each b1 b2 b3 b4 b5 s1 s2 s3 s4 s5 fs in
    rw (
      slot_kept b1 d1 a1 f.0,
      slot_kept b2 d2 a2 f.1,
      slot_kept b3 d3 a3 f.2,
      slot_kept b4 d4 a4 f.3,
      slot_kept b5 d5 a5 f.4,
      slot_kept b1 d1 s1 g.0,
      slot_kept b2 d2 s2 g.1,
      slot_kept b3 d3 s3 g.2,
      slot_kept b4 d4 s4 g.3,
      slot_kept b5 d5 s5 g.4,
    )

-- settings take 14 octets
pub length_settings : (m : Settings) → length m.radio.static_address ≡ 6 → length (settings_part m) ≡ get_or sizes 3 0
unfolding settings_part le16 sizes
length_settings m n = omega arith

-- other settings, among the pieces
pub settings_pieces : (c : Controller) (o : Option OpenCommand) (m : Settings)
    → set (pieces c o) 3 (settings_part m) ≡ pieces_with (with_settings c m) o (advertising_pieces c.host.advertising)
unfolding pieces pieces_with with_settings settings_of settings_part
settings_pieces c o m = refl

-- they leave the tables
pub settings_tables : (c : Controller) (m : Settings) → tables_ok c.radio.hardware table_rules c.host.tables ≡ true
    → tables_ok (with_settings c m).radio.hardware table_rules (with_settings c m).host.tables ≡ true
unfolding with_settings
settings_tables c m e = e

-- other turns, among the pieces
pub turns_pieces : (c : Controller) (o : Option OpenCommand) (m : Settings) (t : Schedule)
    → pieces_with (with_settings c m) o (schedule_part t ∷
    (map data_part (data_kept t.durations c.host.advertising.adv_data) ++ map data_part (data_kept t.durations c.host.advertising.scan_rsp)))
    ≡ pieces (with_turns (with_settings c m) t) o
unfolding pieces pieces_with advertising_pieces with_settings with_turns with_host with_schedule with_advertising rescheduled settings_of
turns_pieces c o m t = refl

-- another schedule and other data of instance k, among the pieces
pub instance_pieces : (x y : Octets) (k : ℕ) (p q : Octets) (adv scan : List Octets) → FiveData adv → FiveData scan → 1 ≤ k → k ≤ 5
    → set (set (set (x ∷ (map data_part adv ++ map data_part scan)) 0 y) k (data_part p)) (5 + k) (data_part q)
    ≡ y ∷ (map data_part (with_value adv k p) ++ map data_part (with_value scan k q))
unfolding with_value
instance_pieces x y zero p q adv scan f g l m = absurd (omega arith)
instance_pieces x y (suc zero) p q adv scan (five_data a b c d e) (five_data u v w z t) l m = refl
instance_pieces x y (suc (suc zero)) p q adv scan (five_data a b c d e) (five_data u v w z t) l m = refl
instance_pieces x y (suc (suc (suc zero))) p q adv scan (five_data a b c d e) (five_data u v w z t) l m = refl
instance_pieces x y (suc (suc (suc (suc zero)))) p q adv scan (five_data a b c d e) (five_data u v w z t) l m = refl
instance_pieces x y (suc (suc (suc (suc (suc zero))))) p q adv scan (five_data a b c d e) (five_data u v w z t) l m = refl
instance_pieces x y (suc (suc (suc (suc (suc (suc k)))))) p q adv scan f g l m = absurd (omega arith)

-- the pieces of the data of instance k
pub data_pieces : (x : Octets) (k : ℕ) (adv scan : List Octets) → FiveData adv → FiveData scan → 1 ≤ k → k ≤ 5
    → (get_or (x ∷ (map data_part adv ++ map data_part scan)) k [] ≡ data_part (data_of adv k))
    × (get_or (x ∷ (map data_part adv ++ map data_part scan)) (5 + k) [] ≡ data_part (data_of scan k))
unfolding data_of
data_pieces x zero adv scan f g l m = absurd (omega arith)
data_pieces x (suc zero) adv scan (five_data a b c d e) (five_data u v w z t) l m = (refl, refl)
data_pieces x (suc (suc zero)) adv scan (five_data a b c d e) (five_data u v w z t) l m = (refl, refl)
data_pieces x (suc (suc (suc zero))) adv scan (five_data a b c d e) (five_data u v w z t) l m = (refl, refl)
data_pieces x (suc (suc (suc (suc zero)))) adv scan (five_data a b c d e) (five_data u v w z t) l m = (refl, refl)
data_pieces x (suc (suc (suc (suc (suc zero))))) adv scan (five_data a b c d e) (five_data u v w z t) l m = (refl, refl)
data_pieces x (suc (suc (suc (suc (suc (suc k)))))) adv scan f g l m = absurd (omega arith)

-- where the data of instance k lie, each way
pub data_places : (i k : ℕ) → 1 ≤ k → k ≤ 5
    → (base i + 4052 + 32 * (k - 1) ≡ place_of i (11 + k)) × (base i + 4212 + 32 * (k - 1) ≡ place_of i (11 + (5 + k)))
unfolding place_of place_at sizes
data_places i zero l m = absurd (omega arith)
data_places i (suc zero) l m = (omega arith, omega arith)
data_places i (suc (suc zero)) l m = (omega arith, omega arith)
data_places i (suc (suc (suc zero))) l m = (omega arith, omega arith)
data_places i (suc (suc (suc (suc zero)))) l m = (omega arith, omega arith)
data_places i (suc (suc (suc (suc (suc zero))))) l m = (omega arith, omega arith)
data_places i (suc (suc (suc (suc (suc (suc k)))))) l m = absurd (omega arith)

-- the controller with another schedule and other data of instance k, in pieces
pub instance_put : (c : Controller) (o : Option OpenCommand) (t : Schedule) (k : ℕ) (p q : Octets)
    → pieces_with c o (schedule_part t ∷ (map data_part (with_value c.host.advertising.adv_data k p)
    ++ map data_part (with_value c.host.advertising.scan_rsp k q)))
    ≡ pieces (with_instance_data c t k p q) o
unfolding pieces pieces_with advertising_pieces with_instance_data with_host with_advertising settings_of
instance_put c o t k p q = refl
