-- The block of a present controller: the test over its octets is the model's.
use Prim.Native.Nat.{ℕ, suc, ◌+◌, ◌<◌, ◌≤◌}
use native.Mathlib.Omega.{arith}
use native.Mathlib.Nat.{add-zero}
use mathlib.Core.Path.{◌≡◌, refl, sym, ap, ◌∙◌}
use mathlib.Core.Bool.{Bool, true, false, ◌&&◌}
use mathlib.Core.List.{◌∷◌, ◌++◌}
use mathlib.Core.Option.{Option, none, some}
use lib.ListN.{length, get_or, take, drop}
use lib.Seq.{drop-drop, take-take}
use lib.Dec.{eqb}
use borrow.Author.Tests.{eq-eqb, lt-ltb, ne_eqb}
use Rattle.model.specs.Lengths as Lengths
use Rattle.model.specs.declared.Settings.{Settings}
use Rattle.model.specs.Octets.{Octets, all_zero, bytes, same, u16}
use Rattle.model.specs.State.{Controller, OpenCommand, settings_of}
use Rattle.model.specs.Tables.{table_rules}
use Rattle.model.specs.Image.{name_ok, radio_ok}
use Rattle.model.specs.WellFormed.{advertising_ok, controller_ok, open_ok, slot_is_ok, tables_ok, widths_ok}
use Rattle.model.specs.Layout.{block, controller_back, controller_in, controller_part, hardware_part, open_back, open_in, open_part, open_with, regions}
use Rattle.model.specs.Layout.{advertising_part, settings_part, tables_back}
use Rattle.model.specs.Meanings.{state_ok}
use Rattle.model.proofs.Model.Parts.{fit_widths}
use Rattle.model.proofs.Model.Layout.{length_open}
use Rattle.model.proofs.Model.Tables.{byte_at, same_refl}
use Rattle.model.proofs.Model.Tests.{and_true, both}
use Rattle.octets.specs.Parts.{part, place_at}
use Rattle.octets.proofs.Parts.{get_d_part, length_part, u16_part}
use Rattle.layout.specs.Places.{base, controller_of, place_of, sizes}
use Rattle.layout.proofs.Reading.{hardware_at, hardware_from, name_at, open_some, settings_at, settings_from, controller_some}
use Rattle.rules.specs.Decisions.{settings_ok}
use Rattle.rules.proofs.Ties.{timer_ok_is}
use Rattle.checks.proofs.Tests.{and_on, one_test, part_bytes, same_append, same_zeros, u16_lt}
use Rattle.checks.specs.Blocks.{block_ok}
use Rattle.checks.specs.Waiting.{waiting_octets_ok}
use Rattle.checks.proofs.Blocks.{blocks_ok, state_blocks}
use Rattle.checks.specs.Tables.{tables_octets_ok}
use Rattle.checks.proofs.Tables.{drop_part, length_regions, tables_are, tables_cut, total_six}
use Rattle.checks.specs.Open.{open_octets_ok}
use Rattle.checks.proofs.Open.{open_is}
use Rattle.checks.specs.Settings.{flags_octets_ok}
use Rattle.checks.proofs.Settings.{hardware_same, one_octet, part_cut, settings_long, settings_same}
use Rattle.checks.specs.Advertising.{advertising_octets_ok}
use Rattle.checks.proofs.AdvertisingParts.{advertising_at, advertising_is}
use Rattle.checks.specs.Present.{block_at, controller_octets_ok}

-- 1. The first octet ----------------------------------------------------------------------------------------------------------------------------

-- the first octet of a block is the one at its place in the state
first_octet : (s : Octets) (i : ℕ) → get_or (block_at s i) 0 0 ≡ get_or s (base i) 0
first_octet s i = get_d_part s (base i) Lengths.block 0 (omega arith) ∙ rw add-zero

-- where it is not 1, the block has no controller and nothing under way
absent_in : (b : Octets) → eqb (get_or b 0 0) 1 ≡ false → (controller_in b ≡ none) × (open_in b ≡ none)
unfolding controller_in open_in
absent_in b e = (rw (e, controller_in), rw (e, open_in))

-- an absent block is zero
pub absent_block : (s : Octets) (i : ℕ) → base i + Lengths.block ≤ length s → (get_or s (base i) 0 ≡ 1 → ⊥) → all_zero (block_at s i) ≡ block_ok (block_at s i)
unfolding block_ok slot_is_ok open_ok block
absent_block s i h n =
    let b : Octets = block_at s i in
    let e : eqb (get_or b 0 0) 1 ≡ false = rw (first_octet s i) (ne_eqb (get_or s (base i) 0) 1 n) in
    let a = absent_in b e in
    sym (rw (a.0, a.1) (same_zeros b Lengths.block (length_part s (base i) Lengths.block h)))

-- 2. A present controller's parts -----------------------------------------------------------------------------------------------------------------

-- a present block in its parts
cut_block : (s : Octets) (b : ℕ) → b < length s → get_or s b 0 ≡ 1
    → part s b Lengths.block ≡ 1 ∷ (part s (b + 1) 5 ++ (part s (b + 6) 13 ++ (part s (b + 19) 14 ++ (part s (b + 33) 260
    ++ (part s (b + 293) 3736 ++ part s (b + 4029) 343)))))
cut_block s b h e = rw (
  part_cut s b 1 4371 (b + 1) Lengths.block refl refl,
  part_cut s (b + 1) 5 4366 (b + 6) 4371 (omega arith) refl,
  part_cut s (b + 6) 13 4353 (b + 19) 4366 (omega arith) refl,
  part_cut s (b + 19) 14 4339 (b + 33) 4353 (omega arith) refl,
  part_cut s (b + 33) 260 4079 (b + 293) 4339 (omega arith) refl,
  part_cut s (b + 293) 3736 343 (b + 4029) 4079 (omega arith) refl,
  one_octet s b h,
  e,
)

-- compared part by part
pieces_same : (a b c d e f p q r s t u : Octets) → length a ≡ length p → length b ≡ length q → length c ≡ length r → length d ≡ length s → length e ≡ length t
    → same (1 ∷ (a ++ (b ++ (c ++ (d ++ (e ++ f)))))) (1 ∷ (p ++ (q ++ (r ++ (s ++ (t ++ u))))))
    ≡ same a p && (same b q && (same c r && (same d s && (same e t && same f u))))
unfolding same
pieces_same a b c d e f p q r s t u g h i j k =
    same_append a (b ++ (c ++ (d ++ (e ++ f)))) p (q ++ (r ++ (s ++ (t ++ u)))) g
    ∙ rw (
      same_append b (c ++ (d ++ (e ++ f))) q (r ++ (s ++ (t ++ u))) h,
      same_append c (d ++ (e ++ f)) r (s ++ (t ++ u)) i,
      same_append d (e ++ f) s (t ++ u) j,
      same_append e f t u k,
    )

-- the three octets for parameters, cut from all that follow in the block
take_three : (s : Octets) (at : ℕ) → take 3 (part s at 4369) ≡ part s at 3
unfolding part
take_three s at = take-take 3 4369 (drop at s) (omega arith)

-- the tests of a block in the order in which they are made
gather : (r n t z v o c f g h : Bool)
    → (r && (n && (t && (z && v)))) && (o && (c && (f && (g && h)))) ≡ r && (z && (n && (f && ((o && c) && ((t && g) && (v && h))))))
gather r n t z v o c f g h = one_test _ _ down up
  where
    down : (r && (n && (t && (z && v)))) && (o && (c && (f && (g && h)))) ≡ true → r && (z && (n && (f && ((o && c) && ((t && g) && (v && h)))))) ≡ true
    down e =
        let a = and_true (r && (n && (t && (z && v)))) _ e in
        let a1 = and_true r _ a.0 in
        let a2 = and_true n _ a1.1 in
        let a3 = and_true t _ a2.1 in
        let a4 = and_true z _ a3.1 in
        let b1 = and_true o _ a.1 in
        let b2 = and_true c _ b1.1 in
        let b3 = and_true f _ b2.1 in
        let b4 = and_true g _ b3.1 in
        both a1.0 (both a4.0 (both a2.0 (both b3.0 (both (both b1.0 b2.0) (both (both a3.0 b4.0) (both a4.1 b4.1))))))

    up : r && (z && (n && (f && ((o && c) && ((t && g) && (v && h)))))) ≡ true → (r && (n && (t && (z && v)))) && (o && (c && (f && (g && h)))) ≡ true
    up e =
        let a = and_true r _ e in
        let b = and_true z _ a.1 in
        let d = and_true n _ b.1 in
        let i = and_true f _ d.1 in
        let j = and_true (o && c) _ i.1 in
        let k = and_true o _ j.0 in
        let l = and_true (t && g) _ j.1 in
        let m = and_true t _ l.0 in
        let p = and_true v _ l.1 in
        both (both a.0 (both d.0 (both m.0 (both b.0 p.0)))) (both k.0 (both k.1 (both i.0 (both m.1 p.1))))

-- the name lies 33 octets into a block
pub place_name : (i : ℕ) → place_of i 4 ≡ base i + 33
unfolding place_of place_at sizes
place_name i = refl

module _ (s : Octets) (i : ℕ) (w : bytes s ≡ true) (h : base i + Lengths.block ≤ length s) where
  -- the tables, one after the other
  tables_here : (controller_of s i).host.tables ≡ tables_back table_rules (part s (base i + 293) 3736)
  unfolding controller_of controller_back
  tables_here =
      let d : drop 6 (block_at s i) ≡ part s (base i + 6) 4366 = drop_part s (base i) 6 4366 in
      let e : drop 287 (part s (base i + 6) 4366) ≡ part s (base i + 6 + 287) 4079 = drop_part s (base i + 6) 287 4079 in
      let f : base i + 6 + 287 ≡ base i + 293 = omega arith in
      rw (d, e, f) (rw total_six at (tables_cut table_rules s (base i + 293) 343))

  -- they are well formed, and their octets the one encoding of them
  tables_fine : tables_ok (controller_of s i).radio.hardware table_rules (controller_of s i).host.tables
      && same (part s (base i + 293) 3736) (regions table_rules (controller_of s i).host.tables)
      ≡ tables_octets_ok (controller_of s i).radio.hardware table_rules s (base i + 293)
  tables_fine = rw tables_here (rw total_six at (tables_are (controller_of s i).radio.hardware table_rules s (base i + 293) w (rw total_six (omega arith))))

  -- as they are laid out, they take 3,736 octets
  tables_long : length (regions table_rules (controller_of s i).host.tables) ≡ 3736
  tables_long = rw tables_here (rw total_six at (length_regions table_rules s (base i + 293) (rw total_six (omega arith))))

  -- advertising is well formed, and its octets the one encoding of it
  advertising_fine : advertising_ok (controller_of s i).radio.low_energy (controller_of s i).radio.powered (controller_of s i).host.advertising
      && same (part s (base i + 4029) 343) (advertising_part (controller_of s i).host.advertising)
      ≡ advertising_octets_ok (controller_of s i).radio.low_energy (controller_of s i).radio.powered s (base i + 4029)
  advertising_fine = rw (advertising_at s i)
      (advertising_is (controller_of s i).radio.low_energy (controller_of s i).radio.powered s (base i + 4029) w (omega arith))

  -- what lies there is the controller's name
  name_here : part s (base i + 33) 260 ≡ (controller_of s i).host.name
  name_here = rw (← place_name i) (name_at s i)

  -- numbers and octets are as wide as their types
  widths : widths_ok (controller_of s i) ≡ true
  unfolding hardware_from settings_from settings_of
  widths =
      let e = hardware_at s i in
      let m = settings_at s i in
      fit_widths (controller_of s i) (record {
        version = rw (← e) (lt-ltb _ _ (byte_at s (base i + 6) w));
        manufacturer = rw (← e) (lt-ltb _ _ (u16_lt s (base i + 7) w));
        public_address = rw (← e) (part_bytes s (base i + 13) 6 w);
        static_address = rw (ap (λ (x : Settings). x.radio.static_address) (sym m)) (part_bytes s (base i + 27) 6 w);
        name = rw (← name_here) (part_bytes s (base i + 33) 260 w);
        seconds = rw (ap (λ (x : Settings). x.host.timer.seconds) (sym m)) (lt-ltb _ _ (u16_lt s (base i + 25) w));
      })

  -- the static address has six octets, as it is cut from the block
  static_long : eqb (length (controller_of s i).radio.static_address) 6 ≡ true
  unfolding settings_from settings_of
  static_long = rw (ap (λ (x : Settings). x.radio.static_address) (sym (settings_at s i))) (eq-eqb _ _ (length_part s (base i + 27) 6 (omega arith)))

  -- and the name 260
  name_long : eqb (length (controller_of s i).host.name) 260 ≡ true
  name_long = rw (← name_here) (eq-eqb _ _ (length_part s (base i + 33) 260 (omega arith)))

  -- so what is left of the test of a controller
  controller_is : controller_ok (controller_of s i)
      ≡ radio_ok (controller_of s i).radio && (name_ok (controller_of s i).host.name
      && (tables_ok (controller_of s i).radio.hardware table_rules (controller_of s i).host.tables && (settings_ok (settings_of (controller_of s i))
      && advertising_ok (controller_of s i).radio.low_energy (controller_of s i).radio.powered (controller_of s i).host.advertising)))
  unfolding controller_ok
  controller_is = rw (static_long, name_long, widths, timer_ok_is (controller_of s i))

  -- 3. The whole block ------------------------------------------------------------------------------------------------------------------------------

  -- the octets of a present block are those of a controller and an open command, part by part
  block_same : (o : Option OpenCommand) → get_or s (base i) 0 ≡ 1
      → same (block_at s i) (block (some (controller_of s i)) o)
      ≡ same (part s (base i + 1) 5) (open_part o) && (flags_octets_ok s (base i)
      && (same (part s (base i + 293) 3736) (regions table_rules (controller_of s i).host.tables)
      && same (part s (base i + 4029) 343) (advertising_part (controller_of s i).host.advertising)))
  unfolding block controller_part
  block_same o e =
      let b : ℕ = base i in
      let c : Controller = controller_of s i in
      let n : Octets = c.host.name in
      let f : Octets = hardware_part c.radio.hardware in
      let hw : part s (b + 6) 13 ≡ f = hardware_same s b w (omega arith) ∙ ap hardware_part (hardware_at s i) in
      let st : same (part s (b + 19) 14) (settings_part (settings_of c)) ≡ flags_octets_ok s b = ap
      (λ (m : Settings). same (part s (b + 19) 14) (settings_part m)) (sym (settings_at s i)) ∙ settings_same s b c.radio.hardware w (omega arith) in
      let sl : length (settings_part (settings_of c)) ≡ 14 = ap (λ (m : Settings). length (settings_part m)) (sym (settings_at s i))
      ∙ settings_long s b c.radio.hardware (omega arith) in
      rw (cut_block s b (omega arith) e)
      (pieces_same (part s (b + 1) 5) (part s (b + 6) 13) (part s (b + 19) 14) (part s (b + 33) 260) (part s (b + 293) 3736) (part s (b + 4029) 343)
      (open_part o) f (settings_part (settings_of c)) n (regions table_rules c.host.tables) (advertising_part c.host.advertising)
      (length_part s (b + 1) 5 (omega arith) ∙ sym (length_open o)) (ap length hw) (length_part s (b + 19) 14 (omega arith) ∙ sym sl) (ap length name_here)
      (length_part s (b + 293) 3736 (omega arith) ∙ sym tables_long)
      ∙ rw (hw, same_refl f, st, name_here, same_refl n))

  -- what is under way there
  open_here : get_or s (base i) 0 ≡ 1 → open_in (block_at s i) ≡ open_with (u16 s (base i + 1)) (part s (base i + 1 + 2) 4369)
  unfolding open_back
  open_here e =
      let b : ℕ = base i in
      let p : eqb (get_or (block_at s i) 0 0) 1 ≡ true = rw (first_octet s i) (eq-eqb (get_or s b 0) 1 e) in
      let d : drop 1 (block_at s i) ≡ part s (b + 1) 4371 = drop_part s b 1 4371 in
      let f : drop 2 (part s (b + 1) 4371) ≡ part s (b + 1 + 2) 4369 = drop_part s (b + 1) 2 4369 in
      let g : u16 (part s (b + 1) 4371) 0 ≡ u16 s (b + 1) = u16_part s (b + 1) 4371 0 (omega arith) ∙ rw add-zero in
      open_some (block_at s i) p ∙ rw (d, f, g)

  -- the controller of a present block is the one at its index
  controller_here : get_or s (base i) 0 ≡ 1 → controller_in (block_at s i) ≡ some (controller_of s i)
  unfolding controller_of
  controller_here e = controller_some (block_at s i) (rw (first_octet s i) (eq-eqb (get_or s (base i) 0) 1 e))

  -- and it would be started, or all is zero
  open_fine : (c : Controller) → open_ok (some c) (open_with (u16 s (base i + 1)) (part s (base i + 1 + 2) 4369))
      && same (part s (base i + 1) 5) (open_part (open_with (u16 s (base i + 1)) (part s (base i + 1 + 2) 4369)))
      ≡ open_octets_ok c.radio (u16 s (base i + 1)) (part s (base i + 1 + 2) 3)
  open_fine c = open_is c s (base i + 1) (part s (base i + 1 + 2) 4369) w (part_bytes s (base i + 1 + 2) 4369 w) (omega arith) (take_three s (base i + 1 + 2))

  -- the test of a present block
  pub present_block : get_or s (base i) 0 ≡ 1 → controller_octets_ok s i ≡ block_ok (block_at s i)
  unfolding block_ok slot_is_ok controller_octets_ok
  present_block e =
      let c : Controller = controller_of s i in
      let o : Option OpenCommand = open_with (u16 s (base i + 1)) (part s (base i + 1 + 2) 4369) in
      sym (rw (controller_here e, open_here e, controller_is, block_same o e)
      (gather (radio_ok c.radio) (name_ok c.host.name) (tables_ok c.radio.hardware table_rules c.host.tables) (settings_ok (settings_of c))
      (advertising_ok c.radio.low_energy c.radio.powered c.host.advertising) (open_ok (some c) o) (same (part s (base i + 1) 5) (open_part o))
      (flags_octets_ok s (base i)) (same (part s (base i + 293) 3736) (regions table_rules c.host.tables))
      (same (part s (base i + 4029) 343) (advertising_part c.host.advertising))
      ∙ rw (open_fine c, tables_fine, advertising_fine)))

-- 3. The whole state -----------------------------------------------------------------------------------------------------------------------------

-- a block, and those behind it
next_block : (n : ℕ) (o p : Octets) → drop Lengths.block o ≡ p → blocks_ok (suc n) o ≡ block_ok (take Lengths.block o) && blocks_ok n p
unfolding blocks_ok
next_block n o p e = ap (λ (x : Octets). block_ok (take Lengths.block o) && blocks_ok n x) e

-- the last one
last_block : (o : Octets) → blocks_ok 1 o ≡ block_ok (take Lengths.block o)
unfolding blocks_ok
last_block o = and_on (block_ok (take Lengths.block o))

-- four blocks
four_blocks : (o p q r : Octets) → drop Lengths.block o ≡ p → drop Lengths.block p ≡ q → drop Lengths.block q ≡ r
    → blocks_ok 4 o
    ≡ block_ok (take Lengths.block o) && (block_ok (take Lengths.block p) && (block_ok (take Lengths.block q) && block_ok (take Lengths.block r)))
four_blocks o p q r e f g = rw (next_block 3 o p e, next_block 2 p q f, next_block 1 q r g, last_block r)

-- a state is well formed if it has the right length, and each of its four blocks and its waiting octets are well formed
pub state_is : (s : Octets) → bytes s ≡ true
    → state_ok s
    ≡ eqb (length s) Lengths.state
    && ((block_ok (block_at s 0) && (block_ok (block_at s 1) && (block_ok (block_at s 2) && block_ok (block_at s 3))))
    && waiting_octets_ok (drop Lengths.blocks_end s))
unfolding part
state_is s w =
    let a : drop Lengths.block (drop 4 s) ≡ drop 4376 s = drop-drop Lengths.block 4 s in
    let b : drop Lengths.block (drop 4376 s) ≡ drop 8748 s = drop-drop Lengths.block 4376 s in
    let c : drop Lengths.block (drop 8748 s) ≡ drop 13120 s = drop-drop Lengths.block 8748 s in
    state_blocks s w ∙ rw (four_blocks (drop 4 s) (drop 4376 s) (drop 8748 s) (drop 13120 s) a b c)
