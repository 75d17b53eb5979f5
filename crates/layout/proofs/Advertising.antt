-- The advertising of a present controller, where it lies: schedule and data written, as the change of the hub that it makes; data read.
use mathlib.Core.Path.{◌≡◌, refl, ap, sym, ◌∙◌}
use Prim.Native.Nat.{ℕ, ◌+◌, ◌-◌, ◌*◌, ◌≤◌}
use native.Mathlib.Omega.{arith}
use mathlib.Core.Bool.{true}
use mathlib.Core.List.{List, ◌∷◌, ◌++◌, map}
use mathlib.Core.Option.{none, some}
use lib.ListN.{length, get_or, set}
use lib.Dec.{lit<, lit≤}
use Rattle.model.specs.Lengths as Lengths
use Rattle.model.specs.declared.Schedule.{Schedule}
use Rattle.model.specs.declared.Settings.{Settings}
use Rattle.model.specs.Octets.{Octets}
use Rattle.model.specs.Advertising.{data_kept, data_of}
use Rattle.model.specs.State.{Controller}
use Rattle.model.specs.Tables.{table_rules}
use Rattle.model.specs.WellFormed.{advertising_ok, controller_ok, tables_ok}
use Rattle.model.specs.Layout.{data_back, data_part, decode, encode, schedule_part}
use Rattle.model.specs.Layout.{settings_part}
use Rattle.model.proofs.Model.Advertising.{advertising_fit, five_each}
use Rattle.model.proofs.Model.Decode.{data_back_lem}
use Rattle.model.proofs.Model.Layout.{length_data, length_schedule}
use Rattle.model.proofs.Model.OnAir.{data_short}
use Rattle.model.proofs.Model.Parts.{controller_fit}
use Rattle.model.proofs.Model.Tests.{five_of}
use Rattle.octets.specs.Parts.{part, place_at, write_at}
use Rattle.octets.proofs.Parts.{get_d_part, join, lengths}
use Rattle.rules.specs.Effects.{with_settings, with_turns}
use Rattle.layout.specs.Places.{Ready, base, controller_of, open_at, place_of, put_controller, sizes}
use Rattle.layout.specs.Advertising.{cleared_slots, with_instance_data}
use Rattle.layout.proofs.Lens.{advertising_pieces, join_block, pieces}
use Rattle.layout.proofs.Lens.{state_put, with_block}
use Rattle.layout.proofs.Change.{controller_fine, now_is, now_sized, piece_at, put_controller_lem, shape}
use Rattle.layout.proofs.AdvertisingPieces.{behind_get, behind_set, clear_from, data_pieces, data_places, data_size, five_data_of}
use Rattle.layout.proofs.AdvertisingPieces.{instance_pieces, instance_put, kept_pieces, length_settings, pieces_with, settings_pieces}
use Rattle.layout.proofs.AdvertisingPieces.{settings_tables, slots_after, slots_sized, turns_pieces, whole_sized, whole_write}

-- 1. Settings and turns written ---------------------------------------------------------------------------------------------------------------

module _ (s : Octets) (i : ℕ) (r : Ready s i) where
  -- the controller there keeps its rules
  fine : controller_ok (controller_of s i) ≡ true
  fine = controller_fine s i r

  -- its tables too
  tables_fine : tables_ok (controller_of s i).radio.hardware table_rules (controller_of s i).host.tables ≡ true
  tables_fine = (controller_fit (controller_of s i) fine).tables

  -- its advertising too
  pub advertising_fine : advertising_ok (controller_of s i).radio.low_energy (controller_of s i).radio.powered (controller_of s i).host.advertising ≡ true
  advertising_fine = (controller_fit (controller_of s i) fine).advertising

  -- the pieces, with the advertising last
  pieces_are : pieces (controller_of s i) (open_at s i) ≡ pieces_with (controller_of s i) (open_at s i) (advertising_pieces (controller_of s i).host.advertising)
  unfolding pieces pieces_with
  pieces_are = refl

  -- pieces that are those of a controller are the hub with it
  state_with : (d : Controller) → with_block (decode s) i (join (pieces d (open_at s i))) ≡ encode (put_controller (decode s) i d)
  unfolding open_at
  state_with d =
      rw (← join_block d (get_or (decode s).open_commands i none)) (state_put (decode s) i (some d) (get_or (decode s).open_commands i none) (shape s i r).beside)
      ∙ ap encode (put_controller_lem (decode s) i d)

  -- SETTINGS AND TURNS WRITTEN, the data of the instances that went cleared
  pub turns_changed : (m : Settings) (t : Schedule) → length m.radio.static_address ≡ 6 → length t.durations ≡ 5 → length t.timeouts ≡ 5
      → cleared_slots (cleared_slots (write_at (write_at s (place_of i 3) (settings_part m)) (place_of i 11) (schedule_part t)) (place_of i 12)
      (controller_of s i).host.advertising.schedule.durations t.durations) (place_of i 17)
      (controller_of s i).host.advertising.schedule.durations t.durations
      ≡ encode (put_controller (decode s) i (with_turns (with_settings (controller_of s i) m) t))
  unfolding advertising_pieces sizes
  turns_changed m t na nd nt =
      let h = decode s in
      let c = controller_of s i in
      let c1 = with_settings c m in
      let o = open_at s i in
      let a = c.host.advertising in
      let bs = a.schedule.durations in
      let rest = map data_part a.adv_data ++ map data_part a.scan_rsp in
      let f = five_each _ _ a advertising_fine in
      let g = advertising_fit _ _ a advertising_fine in
      let ps0 = pieces c o in
      let z0 : lengths ps0 ≡ sizes = now_sized s i r in
      let sh = shape s i r in
      let c1-is : set ps0 3 (settings_part m) ≡ pieces_with c1 o (schedule_part a.schedule ∷ rest) = settings_pieces c o m in
      let z1 : lengths (pieces_with c1 o (schedule_part a.schedule ∷ rest)) ≡ sizes =
      rw c1-is at (whole_sized h i sh ps0 3 (settings_part m) z0 (length_settings m na)) in
      let one : write_at s (place_of i 3) (settings_part m) ≡ with_block h i (join (pieces_with c1 o (schedule_part a.schedule ∷ rest))) =
      ap (λ (x : Octets). write_at x (place_of i 3) (settings_part m)) (now_is s i r)
      ∙ whole_write h i sh ps0 3 (settings_part m) z0 (lit< tt) (length_settings m na) ∙ ap (λ (x : List Octets). with_block h i (join x)) c1-is in
      let ns : length (schedule_part t) ≡ get_or sizes 11 0 = length_schedule t nd nt in
      let c2-is : set (pieces_with c1 o (schedule_part a.schedule ∷ rest)) 11 (schedule_part t) ≡ pieces_with c1 o (schedule_part t ∷ rest) =
      behind_set c1 o (schedule_part a.schedule ∷ rest) 0 (schedule_part t) (settings_tables c m tables_fine) in
      let z2 : lengths (pieces_with c1 o (schedule_part t ∷ rest)) ≡ sizes =
      rw c2-is at (whole_sized h i sh (pieces_with c1 o (schedule_part a.schedule ∷ rest)) 11 (schedule_part t) z1 ns) in
      let two : write_at (write_at s (place_of i 3) (settings_part m)) (place_of i 11) (schedule_part t)
      ≡ with_block h i (join (pieces_with c1 o (schedule_part t ∷ rest))) =
      ap (λ (x : Octets). write_at x (place_of i 11) (schedule_part t)) one
      ∙ whole_write h i sh (pieces_with c1 o (schedule_part a.schedule ∷ rest)) 11 (schedule_part t) z1 (lit< tt) ns
      ∙ ap (λ (x : List Octets). with_block h i (join x)) c2-is in
      let nb : length bs ≡ 5 = f.durations in
      let three = slots_after h i sh c1 o (settings_tables c m tables_fine) (schedule_part t ∷ rest) 1 bs t.durations z2 (lit≤ tt) (omega arith) in
      let z3 = slots_sized h i sh c1 o (settings_tables c m tables_fine) (schedule_part t ∷ rest) 1 bs t.durations z2 (lit≤ tt) (omega arith) in
      let four = slots_after h i sh c1 o (settings_tables c m tables_fine) (clear_from 1 (schedule_part t ∷ rest) bs t.durations) 6 bs t.durations z3
      (lit≤ tt)
      (omega arith) in
      let kept : clear_from 6 (clear_from 1 (schedule_part t ∷ rest) bs t.durations) bs t.durations ≡ schedule_part t ∷
      (map data_part (data_kept t.durations a.adv_data) ++ map data_part (data_kept t.durations a.scan_rsp)) =
      kept_pieces (schedule_part t) a.adv_data a.scan_rsp bs t.durations (five_data_of _ f.adv_data) (five_data_of _ f.scan_rsp) (five_of _ nb)
      (five_of _ nd) g.adv_data g.scan_rsp in
      ap (λ (x : Octets). cleared_slots (cleared_slots x (place_of i 12) bs t.durations) (place_of i 17) bs t.durations) two
      ∙ ap (λ (x : Octets). cleared_slots x (place_of i 17) bs t.durations) three ∙ four
      ∙ ap (λ (x : List Octets). with_block h i (join (pieces_with c1 o x))) kept ∙ ap (λ (x : List Octets). with_block h i (join x)) (turns_pieces c o m t)
      ∙ state_with (with_turns c1 t)

  -- the same at the places as the code counts them
  pub turns_laid : (m : Settings) (old t : Schedule) → old ≡ (controller_of s i).host.advertising.schedule → length m.radio.static_address ≡ 6
      → length t.durations ≡ 5 → length t.timeouts ≡ 5
      → cleared_slots (cleared_slots (write_at (write_at s (base i + 19) (settings_part m)) (base i + 4029) (schedule_part t)) (base i + 4052) old.durations
      t.durations) (base i + 4212) old.durations t.durations
      ≡ encode (put_controller (decode s) i (with_turns (with_settings (controller_of s i) m) t))
  unfolding place_of place_at sizes
  turns_laid m old t e na nd nt = rw e (turns_changed m t na nd nt)

  -- AN INSTANCE WRITTEN: the turns, and its data each way
  pub instance_changed : (t : Schedule) (k : ℕ) (p q : Octets) → 1 ≤ k → k ≤ 5 → length t.durations ≡ 5 → length t.timeouts ≡ 5
      → write_at (write_at (write_at s (place_of i 11) (schedule_part t)) (place_of i (11 + k)) (data_part p)) (place_of i (11 + (5 + k))) (data_part q)
      ≡ encode (put_controller (decode s) i (with_instance_data (controller_of s i) t k p q))
  unfolding advertising_pieces sizes
  instance_changed t k p q l m nd nt =
      let h = decode s in
      let c = controller_of s i in
      let o = open_at s i in
      let a = c.host.advertising in
      let sh = shape s i r in
      let f = five_each _ _ a advertising_fine in
      let r0 : List Octets = schedule_part a.schedule ∷ (map data_part a.adv_data ++ map data_part a.scan_rsp) in
      let r1 = set r0 0 (schedule_part t) in
      let r2 = set r1 k (data_part p) in
      let ns : length (schedule_part t) ≡ get_or sizes 11 0 = length_schedule t nd nt in
      let np : length (data_part p) ≡ get_or sizes (11 + k) 0 = length_data p ∙ sym (data_size k l (omega arith)) in
      let nq : length (data_part q) ≡ get_or sizes (11 + (5 + k)) 0 = length_data q ∙ sym (data_size (5 + k) (omega arith) (omega arith)) in
      let z0 : lengths (pieces_with c o r0) ≡ sizes = rw pieces_are at (now_sized s i r) in
      let e1 = behind_set c o r0 0 (schedule_part t) tables_fine in
      let z1 : lengths (pieces_with c o r1) ≡ sizes = rw e1 at (whole_sized h i sh (pieces_with c o r0) 11 (schedule_part t) z0 ns) in
      let e2 = behind_set c o r1 k (data_part p) tables_fine in
      let z2 : lengths (pieces_with c o r2) ≡ sizes = rw e2 at (whole_sized h i sh (pieces_with c o r1) (11 + k) (data_part p) z1 np) in
      let e3 = behind_set c o r2 (5 + k) (data_part q) tables_fine in
      let one : write_at s (place_of i 11) (schedule_part t) ≡ with_block h i (join (pieces_with c o r1)) =
      ap (λ (x : Octets). write_at x (place_of i 11) (schedule_part t)) (rw pieces_are at (now_is s i r))
      ∙ whole_write h i sh (pieces_with c o r0) 11 (schedule_part t) z0 (lit< tt) ns ∙ ap (λ (x : List Octets). with_block h i (join x)) e1 in
      let two = whole_write h i sh (pieces_with c o r1) (11 + k) (data_part p) z1 (omega arith) np ∙ ap (λ (x : List Octets). with_block h i (join x)) e2 in
      let three = whole_write h i sh (pieces_with c o r2) (11 + (5 + k)) (data_part q) z2 (omega arith) nq
      ∙ ap (λ (x : List Octets). with_block h i (join x)) e3 in
      ap (λ (x : Octets). write_at (write_at x (place_of i (11 + k)) (data_part p)) (place_of i (11 + (5 + k))) (data_part q)) one
      ∙ ap (λ (x : Octets). write_at x (place_of i (11 + (5 + k))) (data_part q)) two ∙ three
      ∙ ap (λ (x : List Octets). with_block h i (join (pieces_with c o x)))
      (instance_pieces (schedule_part a.schedule) (schedule_part t) k p q a.adv_data a.scan_rsp (five_data_of _ f.adv_data)
      (five_data_of _ f.scan_rsp) l m)
      ∙ ap (λ (x : List Octets). with_block h i (join x)) (instance_put c o t k p q) ∙ state_with (with_instance_data c t k p q)

  -- the same at the places as the code counts them
  pub instance_laid : (t : Schedule) (k : ℕ) (p q : Octets) → 1 ≤ k → k ≤ 5 → length t.durations ≡ 5 → length t.timeouts ≡ 5
      → write_at (write_at (write_at s (base i + 4029) (schedule_part t)) (base i + 4052 + 32 * (k - 1)) (data_part p)) (base i + 4212 + 32 * (k - 1)) (data_part q)
      ≡ encode (put_controller (decode s) i (with_instance_data (controller_of s i) t k p q))
  unfolding place_of place_at sizes
  instance_laid t k p q l m nd nt =
      let d = data_places i k l m in
      rw (d.0, d.1) (instance_changed t k p q l m nd nt)

  -- 2. Data read -----------------------------------------------------------------------------------------------------------------------------

  -- Adv_Data of instance k, laid out
  pub adv_at : (k : ℕ) → 1 ≤ k → k ≤ 5 → part s (place_of i (11 + k)) 32 ≡ data_part (data_of (controller_of s i).host.advertising.adv_data k)
  unfolding advertising_pieces
  adv_at k l m =
      let a = (controller_of s i).host.advertising in
      let f = five_each _ _ a advertising_fine in
      piece_at s i r (11 + k) 32 (sym (data_size k l (omega arith))) ∙ behind_get (controller_of s i) (open_at s i) k fine
      ∙ (data_pieces (schedule_part a.schedule) k a.adv_data a.scan_rsp (five_data_of _ f.adv_data) (five_data_of _ f.scan_rsp) l m).0

  -- Scan_Rsp of instance k, laid out
  pub scan_at : (k : ℕ) → 1 ≤ k → k ≤ 5 → part s (place_of i (11 + (5 + k))) 32 ≡ data_part (data_of (controller_of s i).host.advertising.scan_rsp k)
  unfolding advertising_pieces
  scan_at k l m =
      let a = (controller_of s i).host.advertising in
      let f = five_each _ _ a advertising_fine in
      piece_at s i r (11 + (5 + k)) 32 (sym (data_size (5 + k) (omega arith) (omega arith))) ∙ behind_get (controller_of s i) (open_at s i) (5 + k) fine
      ∙ (data_pieces (schedule_part a.schedule) k a.adv_data a.scan_rsp (five_data_of _ f.adv_data) (five_data_of _ f.scan_rsp) l m).1

  -- what is known of data that lie at a place: their length, what they mean, that they lie inside the state
  pub record DataThere (at : ℕ) (o : Octets) : Type 0 where
    pub short : get_or s at 0 ≤ 31
    pub means : data_back (part s at 32) ≡ o
    pub most : length o ≤ 31
    pub inside : at + 32 ≤ length s

  -- data laid out at a place
  data_there : (at : ℕ) (o : Octets) → part s at 32 ≡ data_part o → length o ≤ 31 → at + 32 ≤ Lengths.state → DataThere at o
  unfolding data_part
  data_there at o e l f =
      let n : get_or (part s at 32) 0 0 ≡ length o = ap (λ (x : Octets). get_or x 0 0) e in
      let p : get_or (part s at 32) 0 0 ≡ get_or s (at + 0) 0 = get_d_part s at 32 0 (lit< tt) in
      let q : at + 0 ≡ at = omega arith in
      let m : get_or s at 0 ≡ length o = (rw q at (sym p ∙ n)) in
      record { short = omega arith; means = rw e (data_back_lem o l); most = l; inside = let z = r.long in omega arith }

  -- Adv_Data of instance k
  pub adv_there : (k at : ℕ) → 1 ≤ k → k ≤ 5 → at ≡ base i + 4052 + 32 * (k - 1)
      → DataThere at (data_of (controller_of s i).host.advertising.adv_data k)
  adv_there k at l m e =
      let b = r.below in
      data_there at (data_of (controller_of s i).host.advertising.adv_data k) (rw (e ∙ (data_places i k l m).0) (adv_at k l m))
      (data_short _ _ k (advertising_fit _ _ _ advertising_fine).adv_data) (omega arith)

  -- Scan_Rsp of instance k
  pub scan_there : (k at : ℕ) → 1 ≤ k → k ≤ 5 → at ≡ base i + 4212 + 32 * (k - 1)
      → DataThere at (data_of (controller_of s i).host.advertising.scan_rsp k)
  scan_there k at l m e =
      let b = r.below in
      data_there at (data_of (controller_of s i).host.advertising.scan_rsp k) (rw (e ∙ (data_places i k l m).1) (scan_at k l m))
      (data_short _ _ k (advertising_fit _ _ _ advertising_fine).scan_rsp) (omega arith)
