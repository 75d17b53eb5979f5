-- The state while it is filled from an image: what was found of its tables, and what is left to be read and stored.
use mathlib.Core.Path.{◌≡◌, refl, ap, sym, ◌∙◌}
use Prim.Native.Nat.{ℕ, zero, suc, ◌+◌, ◌*◌, ◌≤◌, ◌<◌}
use native.Mathlib.Omega.{arith}
use mathlib.Core.Bool.{true}
use mathlib.Core.List.{List, [], ◌∷◌}
use mathlib.Core.Option.{Option, none, some}
use lib.ListN.{length, get_or, drop, drop_of_length-le}
use lib.Seq.{drop-cons, drop-drop, set-get_or, set-set}
use Rattle.model.specs.Octets.{Octets, bytes}
use Rattle.model.specs.State.{Controller, Hub, Table, with_controller, with_host, with_table}
use Rattle.model.specs.Tables.{chop, loaded, rule_at, table_rules, uuid_rule}
use Rattle.model.specs.Reading.{nothing_dropped, walk_tables}
use Rattle.model.specs.Hub.{under_way}
use Rattle.model.specs.WellFormed.{controller_ok, open_ok, table_ok, well_formed}
use Rattle.model.specs.Layout.{decode, encode, region}
use Rattle.model.proofs.Model.Decode.{decode_encode}
use Rattle.model.proofs.Model.Demand3.{state_back, state_well}
use Rattle.model.proofs.Model.Parts.{table_changed}
use Rattle.model.proofs.Model.Tables.{bytes_drop}
use Rattle.model.proofs.Model.Tests.{no_way}
use Rattle.octets.specs.Parts.{write_at}
use Rattle.layout.specs.Places.{Ready, controller_of, open_at, put_controller, table_place}
use Rattle.layout.proofs.Reading.{present_slot}
use Rattle.layout.proofs.Change.{controller_fine}
use Rattle.layout.proofs.Lens.{shaped}
use Rattle.layout.proofs.Kept.{encode_controller, encode_open, encode_ready, put_well, same_slot}
use Rattle.layout.proofs.Tables.{table_written}
use Rattle.reading.specs.Contents.{Parsed, clean, clean_by, tables_in}
use Rattle.restore.specs.Filling.{found, with_tables}
use Rattle.reading.proofs.Steps.{OneTable, one_table}

-- 1. What a reader found ------------------------------------------------------------------------------------------------------------------------

-- where a reader found something, there is what it found
pub found_some : {A : Type 0} (x : Option A) → found x ≡ true → (a : A) × (x ≡ some a)
unfolding found
found_some none e = no_way (sym e)
found_some (some a) e = (a, refl)

-- what is known to be something was found
pub some_found : {A : Type 0} (x : Option A) (a : A) → x ≡ some a → found x ≡ true
unfolding found
some_found x a e = rw e

-- the octet at a place, where octets are left from there on
pub left_octet : (o : Octets) (p n : ℕ) (x : Octets) → drop p o ≡ n ∷ x → (p < length o) × (get_or o p 0 ≡ n) × (drop (p + 1) o ≡ x)
    × (length o ≡ p + 1 + length x)
left_octet [] zero n x e = let z : ◌≡◌ {A = ℕ} (length {A = ℕ} []) (suc (length x)) = ap length e in absurd (omega arith)
left_octet [] (suc p) n x e = let z : ◌≡◌ {A = ℕ} (length {A = ℕ} []) (suc (length x)) = ap length e in absurd (omega arith)
left_octet (y ∷ o) zero n x e = let a : y ≡ n = cc in let b : o ≡ x = cc in (omega arith, a, b, rw (← b) (omega arith))
left_octet (y ∷ o) (suc p) n x e =
    let h = left_octet o p n x e in
    let q : suc p + 1 ≡ suc (p + 1) = omega arith in
    (omega arith, h.1, rw q h.2, omega arith)

-- 2. A controller that stands at an index which was free -----------------------------------------------------------------------------------------------

-- the state holds the hub h, with the controller c at index i, where nothing is under way
pub record Holds (h : Hub) (i : ℕ) (s : Octets) (c : Controller) : Type 0 where
  pub well : well_formed h ≡ true
  pub below : i < 4
  pub idle : under_way h i ≡ none
  pub fine : controller_ok c ≡ true
  pub state : s ≡ encode (put_controller h i c)

module _ (h : Hub) (i : ℕ) (s : Octets) (c : Controller) (x : Holds h i s c) where
  -- the hub is well formed
  pub held_well : well_formed (put_controller h i c) ≡ true
  unfolding open_ok
  held_well = put_well h i c x.well x.fine (rw x.idle)

  -- it holds the controller
  held_there : controller_of (encode (put_controller h i c)) i ≡ c
  unfolding put_controller
  held_there = encode_controller (put_controller h i c) held_well i c (same_slot h.plain i (some c) x.below (shaped h i x.well x.below).below)

  -- the index is present in a well-formed state
  pub held_ready : Ready s i
  unfolding put_controller
  held_ready =
      rw x.state (encode_ready (put_controller h i c) held_well i c (same_slot h.plain i (some c) x.below (shaped h i x.well x.below).below))

  -- the controller there
  pub held_controller : controller_of s i ≡ c
  held_controller = rw x.state held_there

  -- nothing is under way there
  pub held_open : open_at s i ≡ none
  unfolding put_controller under_way
  held_open = rw x.state (encode_open (put_controller h i c) held_well i ∙ x.idle)

  -- another controller in its place
  pub held_put : (t : Octets) (d : Controller) → controller_ok d ≡ true → t ≡ encode (put_controller (decode s) i d) → Holds h i t d
  unfolding put_controller with_controller
  held_put t d k e =
      let b : decode s ≡ put_controller h i c = rw x.state (decode_encode (put_controller h i c) held_well) in
      record { well = x.well; below = x.below; idle = x.idle; fine = k; state = e ∙ rw (b, set-set) }

  -- a valid table in its place
  pub held_table : (k : ℕ) (t : Octets) (v : Table) → k < 6 → table_ok (rule_at k) c.radio.hardware v ≡ true
      → t ≡ write_at s (table_place i k) (region (rule_at k).size v)
      → Holds h i t (with_host c (with_table c.host k v))
  held_table k t v l n e =
      let w = table_written s i held_ready k l v (rw held_controller n) in
      held_put t (with_host c (with_table c.host k v)) (table_changed c k v x.fine n) (e ∙ (rw held_controller at w))

-- 3. The tables, one after the other -----------------------------------------------------------------------------------------------------------------------

-- tables k and on of a controller are still to be read from place p of the image; what comes of it is the controller d, and e is left behind it
pub record FillingTables (h : Hub) (i : ℕ) (image : Octets) (d : Controller) (e : Octets) (s : Octets) (k p : ℕ) : Type 0 where
  pub controller : Controller
  pub left : Parsed (List Table)
  pub held : Holds h i s controller
  pub parsed : tables_in controller.radio.hardware (drop k table_rules) (drop p image) ≡ some left
  pub whole : with_tables controller k left.value ≡ d
  pub behind : left.behind ≡ e

-- the rules from k on begin with rule k
pub rule_next : (k : ℕ) → k < 6 → drop k table_rules ≡ rule_at k ∷ drop (suc k) table_rules
unfolding rule_at table_rules
rule_next k l = drop-cons table_rules k uuid_rule l

module _ (h : Hub) (i : ℕ) (image : Octets) (d : Controller) (e : Octets) (w : bytes image ≡ true) (s : Octets) (k p : ℕ) (l : k < 6)
    (x : FillingTables h i image d e s k p) where
  -- table k begins at that place
  next_table : OneTable x.controller.radio.hardware (rule_at k) (drop (suc k) table_rules) (drop p image) x.left
  next_table =
      one_table x.controller.radio.hardware (rule_at k) (drop (suc k) table_rules) (drop p image) x.left (bytes_drop p image w)
      (rw (rule_next k l) at x.parsed)

  -- its count lies in the image, and so do its records
  pub table_room : (p < length image) × (get_or image p 0 ≤ 32) × (p + 1 + (rule_at k).size * get_or image p 0 ≤ length image)
  table_room =
      let t = next_table in
      let o = left_octet image p t.count t.body t.octets in
      (o.0, rw o.1 t.few, rw o.1 (omega (arith, t.fits, o.3)))

  -- the table loaded, the next is to be read behind it
  pub table_turn : (t : Octets) → t ≡ write_at s (table_place i k)
      (region (rule_at k).size (loaded (chop (rule_at k).size (get_or image p 0) (drop (p + 1) image))))
      → FillingTables h i image d e t (suc k) (p + 1 + (rule_at k).size * get_or image p 0)
  unfolding with_tables with_host
  table_turn t q =
      let y = next_table in
      let o = left_octet image p y.count y.body y.octets in
      let v : Table = loaded (chop (rule_at k).size y.count y.body) in
      let g : t ≡ write_at s (table_place i k) (region (rule_at k).size v) = rw (o.1, o.2) at q in
      let j : drop (p + 1 + (rule_at k).size * get_or image p 0) image ≡ drop ((rule_at k).size * y.count) y.body = sym
      (drop-drop ((rule_at k).size * get_or image p 0) (p + 1) image) ∙ rw (o.1, o.2) in
      let z : with_tables x.controller k (v ∷ y.rest.value) ≡ d = ap (λ (ts : List Table). with_tables x.controller k ts) y.tables ∙ x.whole in
      record {
        controller = with_host x.controller (with_table x.controller.host k v);
        left = y.rest;
        held = held_table h i s x.controller x.held k t v l y.good g;
        parsed = rw j y.others;
        whole = z;
        behind = y.behind ∙ x.behind;
      }

-- all six tables are read
pub tables_done : (h : Hub) (i : ℕ) (image : Octets) (d : Controller) (e s : Octets) (k p : ℕ) → 6 ≤ k → FillingTables h i image d e s k p
    → (s ≡ encode (put_controller h i d)) × (drop p image ≡ e)
unfolding table_rules tables_in clean clean_by walk_tables nothing_dropped with_tables
tables_done h i image d e s k p l x =
    let n : drop k table_rules ≡ [] = drop_of_length-le table_rules {i = k} l in
    let a : tables_in x.controller.radio.hardware [] (drop p image) ≡ some x.left = rw n at x.parsed in
    let m : record { value = []; behind = drop p image } ≡ x.left = cc in
    let v : [] ≡ x.left.value = ap (λ (q : Parsed (List Table)). q.value) m in
    let b : drop p image ≡ x.left.behind = ap (λ (q : Parsed (List Table)). q.behind) m in
    let c : x.controller ≡ d = rw (← v) at x.whole in
    (x.held.state ∙ rw c, b ∙ x.behind)

-- 4. All six tables of the controller at an index -----------------------------------------------------------------------------------------------------------

-- from the state s₀ and place `at` of the image, tables k and on are left at place p, in the state s
pub record TablesLeft (s₀ : Octets) (i : ℕ) (image : Octets) (at : ℕ) (s : Octets) (k p : ℕ) : Type 0 where
  pub known : (m : Parsed (List Table)) → tables_in (controller_of s₀ i).radio.hardware table_rules (drop at image) ≡ some m
      → FillingTables (decode s₀) i image (with_tables (controller_of s₀ i) 0 m.value) m.behind s k p

-- the controller that stands at a present index where nothing is under way
pub held_now : (s : Octets) (i : ℕ) → Ready s i → open_at s i ≡ none → Holds (decode s) i s (controller_of s i)
unfolding open_at under_way put_controller with_controller
held_now s i r o = record {
  well = state_well s r.ok;
  below = r.below;
  idle = o;
  fine = controller_fine s i r;
  state = state_back s r.ok ∙ rw (← present_slot s i r.here, set-get_or);
}

-- at first, all are left
pub tables_first : (s : Octets) (i : ℕ) (image : Octets) (at : ℕ) → Ready s i → open_at s i ≡ none → TablesLeft s i image at s 0 at
tables_first s i image at r o =
    record { known = λ m e. record { controller = controller_of s i; left = m; held = held_now s i r o; parsed = e; whole = refl; behind = refl } }

module _ (s₀ : Octets) (i : ℕ) (image : Octets) (at : ℕ) (w : bytes image ≡ true)
    (a : found (tables_in (controller_of s₀ i).radio.hardware table_rules (drop at image)) ≡ true) where
  -- the next table lies in the image
  pub tables_room : (s : Octets) (k p : ℕ) → k < 6 → TablesLeft s₀ i image at s k p → (p < length image) × (get_or image p 0 ≤ 32)
      × (p + 1 + (rule_at k).size * get_or image p 0 ≤ length image)
  tables_room s k p l x =
      let m = found_some (tables_in (controller_of s₀ i).radio.hardware table_rules (drop at image)) a in
      table_room (decode s₀) i image (with_tables (controller_of s₀ i) 0 m.0.value) m.0.behind w s k p l (x.known m.0 m.1)

  -- a turn
  pub tables_turn : (s t : Octets) (k p n z place : ℕ) → k < 6 → n ≡ get_or image p 0 → z ≡ (rule_at k).size → place ≡ table_place i k
      → t ≡ write_at s place (region z (loaded (chop z n (drop (p + 1) image)))) → TablesLeft s₀ i image at s k p
      → TablesLeft s₀ i image at t (k + 1) (p + 1 + z * n)
  tables_turn s t k p n z place l en ez ep q x =
      let f : k + 1 ≡ suc k = omega arith in
      record {
        known = λ m e.
            rw (f, en, ez)
            (table_turn (decode s₀) i image (with_tables (controller_of s₀ i) 0 m.value) m.behind w s k p l (x.known m e) t (rw (en, ez, ep) at q));
      }

-- at the end the state has them all
pub tables_last : (s₀ : Octets) (i : ℕ) (image : Octets) (at : ℕ) (s : Octets) (k p : ℕ) → 6 ≤ k → TablesLeft s₀ i image at s k p
    → (m : Parsed (List Table)) → tables_in (controller_of s₀ i).radio.hardware table_rules (drop at image) ≡ some m
    → (s ≡ encode (put_controller (decode s₀) i (with_tables (controller_of s₀ i) 0 m.value))) × (drop p image ≡ m.behind)
tables_last s₀ i image at s k p l x m e = tables_done (decode s₀) i image (with_tables (controller_of s₀ i) 0 m.value) m.behind s k p l (x.known m e)
