-- The advertising of a controller: the test over its octets is the model's.
use Prim.Native.Nat.{ℕ, suc, ◌+◌, ◌-◌, ◌*◌, ◌<◌, ◌≤◌}
use native.Mathlib.Omega.{arith}
use native.Mathlib.Nat.{add-zero}
use mathlib.Core.Path.{◌≡◌, refl, sym, ap, ◌∙◌}
use mathlib.Core.Bool.{Bool, true, false, ◌&&◌, ◌||◌, not}
use mathlib.Core.List.{List, [], ◌∷◌, ◌++◌, map, append-nil}
use lib.ListN.{length, get_or, take, drop, replicate, length-replicate, length-take, replicate-append-replicate}
use lib.Seq.{drop-drop, get_or-drop, get_or-take, take-append-add, take_at, take-take}
use lib.Dec.{eqb, leb}
use borrow.Author.Tests.{eq-eqb, le-leb, leb-false, leb-true, ne_eqb}
use Rattle.model.specs.Lengths as Lengths
use Rattle.model.specs.declared.Schedule.{Schedule}
use Rattle.model.specs.Advertising.{Advertising}
use Rattle.model.specs.Octets.{Octets, all_zero, bytes, joined, same, u16}
use Rattle.model.specs.Commands.{words}
use Rattle.model.specs.Tables.{chop}
use Rattle.model.specs.WellFormed.{advertising_ok, data_fit, data_ok, schedule_ok}
use Rattle.model.specs.Layout.{advertising_back, advertising_part, controller_back, data_back, data_list_back, data_part, schedule_back, schedule_part}
use Rattle.model.proofs.Model.Layout.{length_data, length_data_list}
use Rattle.model.proofs.Model.Tables.{same_refl}
use Rattle.model.proofs.Model.Tests.{and_off}
use Rattle.octets.specs.Parts.{part}
use Rattle.octets.proofs.Parts.{get_d_part, length_part}
use Rattle.octets.proofs.Laws.{part_suc}
use Rattle.layout.specs.Places.{base, controller_of}
use Rattle.checks.specs.Advertising.{advertising_octets_ok, data_octets_ok, slot_octets_ok}
use Rattle.checks.proofs.Tests.{and_on, le16_part, part_bytes, same_append, same_zeros}
use Rattle.checks.proofs.Tables.{chop_take, drop_part, no_octets, swap}
use Rattle.checks.proofs.Settings.{one_octet, part_cut}

-- 1. The schedule -----------------------------------------------------------------------------------------------------------------------------

-- a number of two octets, read behind others
u16_drop : (s : Octets) (a k b : ℕ) → b ≡ a + k → u16 (drop a s) k ≡ u16 s b
unfolding u16
u16_drop s a k b e =
    let f : a + (k + 1) ≡ a + k + 1 = omega arith in
    rw (e, get_or-drop a s k 0, get_or-drop a s (k + 1) 0, f)

-- the schedule that lies at a place, by its numbers
unfoldable pub schedule_at : Octets → ℕ → Schedule
schedule_at s at = record {
  durations = u16 s at ∷ u16 s (at + 2) ∷ u16 s (at + 4) ∷ u16 s (at + 6) ∷ u16 s (at + 8) ∷ [];
  timeouts = u16 s (at + 10) ∷ u16 s (at + 12) ∷ u16 s (at + 14) ∷ u16 s (at + 16) ∷ u16 s (at + 18) ∷ [];
  on_air = get_or s (at + 20) 0;
  left = u16 s (at + 21);
}

-- it is that one
pub schedule_lies : (s : Octets) (at : ℕ) → schedule_back (drop at s) ≡ schedule_at s at
unfolding schedule_back schedule_at
schedule_lies s at =
    rw (
      u16_drop s at 0 at (omega arith),
      u16_drop s at 2 (at + 2) refl,
      u16_drop s at 4 (at + 4) refl,
      u16_drop s at 6 (at + 6) refl,
      u16_drop s at 8 (at + 8) refl,
      u16_drop s at 10 (at + 10) refl,
      u16_drop s at 12 (at + 12) refl,
      u16_drop s at 14 (at + 14) refl,
      u16_drop s at 16 (at + 16) refl,
      u16_drop s at 18 (at + 18) refl,
      u16_drop s at 21 (at + 21) refl,
      get_or-drop at s 20 0,
    )

-- five such numbers are laid out as they lie
five_words : (s : Octets) (a b c d e : ℕ) → bytes s ≡ true → b ≡ a + 2 → c ≡ b + 2 → d ≡ c + 2 → e ≡ d + 2 → e + 2 ≤ length s
    → words (u16 s a ∷ u16 s b ∷ u16 s c ∷ u16 s d ∷ u16 s e ∷ []) ≡ part s a 10
unfolding words
five_words s a b c d e w f g h i l =
    rw (
      part_cut s a 2 8 b 10 f refl,
      part_cut s b 2 6 c 8 g refl,
      part_cut s c 2 4 d 6 h refl,
      part_cut s d 2 2 e 4 i refl,
      le16_part s a w (omega arith),
      le16_part s b w (omega arith),
      le16_part s c w (omega arith),
      le16_part s d w (omega arith),
      le16_part s e w (omega arith),
      append-nil,
    )

-- the octets of a schedule are the one encoding of what they mean, whatever they are
schedule_same : (s : Octets) (at : ℕ) → bytes s ≡ true → at + 23 ≤ length s → part s at 23 ≡ schedule_part (schedule_back (drop at s))
unfolding schedule_part schedule_at
schedule_same s at w h =
    rw (
      schedule_lies s at,
      five_words s at (at + 2) (at + 4) (at + 6) (at + 8) w refl (omega arith) (omega arith) (omega arith) (omega arith),
      five_words s (at + 10) (at + 12) (at + 14) (at + 16) (at + 18) w (omega arith) (omega arith) (omega arith) (omega arith) (omega arith),
      le16_part s (at + 21) w (omega arith),
      part_cut s at 10 13 (at + 10) 23 refl refl,
      part_cut s (at + 10) 10 3 (at + 20) 13 (omega arith) refl,
      part_cut s (at + 20) 1 2 (at + 21) 3 (omega arith) refl,
      one_octet s (at + 20) (omega arith),
    )

-- a number of two octets, read from octets that are cut behind it
u16_take : (o : Octets) (m k : ℕ) → k + 1 < m → u16 (take m o) k ≡ u16 o k
unfolding u16
u16_take o m k h = rw (get_or-take m o k 0 (omega arith), get_or-take m o (k + 1) 0 h)

-- the schedule that lies at a place, from as many octets as it has or more
pub schedule_cut : (s : Octets) (at m : ℕ) → 23 ≤ m → schedule_back (part s at m) ≡ schedule_back (drop at s)
unfolding schedule_back part
schedule_cut s at m h =
    let o : Octets = drop at s in
    rw (
      u16_take o m 0 (omega arith),
      u16_take o m 2 (omega arith),
      u16_take o m 4 (omega arith),
      u16_take o m 6 (omega arith),
      u16_take o m 8 (omega arith),
      u16_take o m 10 (omega arith),
      u16_take o m 12 (omega arith),
      u16_take o m 14 (omega arith),
      u16_take o m 16 (omega arith),
      u16_take o m 18 (omega arith),
      u16_take o m 21 (omega arith),
      get_or-take m o 20 0 (omega arith),
    )

-- 2. The data of one instance -----------------------------------------------------------------------------------------------------------------

-- the beginning of a part
take_part : (s : Octets) (at m n : ℕ) → n ≤ m → take n (part s at m) ≡ part s at n
unfolding part
take_part s at m n h = take-take n m (drop at s) h

-- data with zeros behind them
padded : (o : Octets) (k : ℕ) → length o + k ≡ 31 → take 31 (o ++ replicate 31 0) ≡ o ++ replicate k 0
padded o k e =
    let z : ℕ → Octets = λ n. replicate n 0 in
    let q : k + length o ≡ 31 = omega arith in
    let f : z 31 ≡ z k ++ z (length o) = sym (replicate-append-replicate {A = ℕ} k (length o) 0 ∙ ap z q) in
    let g : take k (z k ++ z (length o)) ≡ z k = take_at (z k) (z (length o)) k (length-replicate {A = ℕ} k 0) in
    ap (λ (n : ℕ). take n (o ++ z 31)) (sym e) ∙ take-append-add o (z 31) k ∙ ap (λ (y : Octets). o ++ take k y) f ∙ ap (λ (y : Octets). o ++ y) g

-- the data that lie at a place: as many octets as the first one says
data_at : (s : Octets) (at : ℕ) → data_back (part s at 32) ≡ take (get_or s at 0) (part s (at + 1) 31)
unfolding data_back
data_at s at = rw (get_d_part s at 32 0 (omega arith), add-zero, drop_part s at 1 31)

module _ (s : Octets) (at d : ℕ) (w : bytes s ≡ true) (h : at + 32 ≤ length s) where
  -- 32 octets are the first one, and 31 behind it
  slot_cut : part s at 32 ≡ get_or s at 0 ∷ part s (at + 1) 31
  slot_cut = part_suc s at 31 (omega arith)

  -- so many data fit: the octets are theirs if there are zeros behind them
  slot_short : (n : ℕ) → get_or s at 0 ≡ n → n ≤ 31
      → data_fit d (part s (at + 1) n) && same (n ∷ part s (at + 1) 31) (data_part (part s (at + 1) n))
      ≡ (not (eqb d 0) || eqb n 0) && all_zero (part s (at + (1 + n)) (31 - n))
  unfolding data_fit data_part same
  slot_short n e l =
      let o : Octets = part s (at + 1) n in
      let m : length o ≡ n = length_part s (at + 1) n (omega arith) in
      let p : take 31 (o ++ replicate 31 0) ≡ o ++ replicate (31 - n) 0 = padded o (31 - n) (omega arith) in
      let c : part s (at + 1) 31 ≡ o ++ part s (at + (1 + n)) (31 - n) = part_cut s (at + 1) n (31 - n) (at + (1 + n)) 31 (omega arith) (omega arith) in
      let z : same (part s (at + (1 + n)) (31 - n)) (replicate (31 - n) 0) ≡ all_zero (part s (at + (1 + n)) (31 - n)) =
      same_zeros (part s (at + (1 + n)) (31 - n)) (31 - n) (length_part s (at + (1 + n)) (31 - n) (omega arith)) in
      rw (
        p,
        c,
        same_append o (part s (at + (1 + n)) (31 - n)) o (replicate (31 - n) 0) refl,
        same_refl o,
        z,
        m,
        part_bytes s (at + 1) n w,
        le-leb n 31 l,
        eq-eqb n n refl,
        and_on (not (eqb d 0) || eqb n 0),
      )

  -- more than 31 octets do not fit
  slot_long : (n : ℕ) (o : Octets) → 31 < n → length o ≤ 31 → data_fit d o && same (n ∷ part s (at + 1) 31) (data_part o) ≡ false
  unfolding data_part same
  slot_long n o l m = rw (ne_eqb n (length o) (λ q. omega arith)) (and_off (data_fit d o))

  -- the data of an instance fit, and their octets are the one encoding of them
  slot_same : data_fit d (data_back (part s at 32)) && same (part s at 32) (data_part (data_back (part s at 32))) ≡ slot_octets_ok d s at
  unfolding slot_octets_ok
  slot_same = rw (data_at s at, slot_cut) (go (get_or s at 0) refl (leb (get_or s at 0) 31) refl)
    where
      go : (n : ℕ) → get_or s at 0 ≡ n → (b : Bool) → leb n 31 ≡ b
          → data_fit d (take n (part s (at + 1) 31)) && same (n ∷ part s (at + 1) 31) (data_part (take n (part s (at + 1) 31)))
          ≡ (not (eqb d 0) || eqb n 0) && (b && all_zero (part s (at + (1 + n)) (31 - n)))
      go n e true f = rw (take_part s (at + 1) 31 n (leb-true n 31 f)) (slot_short n e (leb-true n 31 f))
      go n e false f =
          let m : length (part s (at + 1) 31) ≡ 31 = length_part s (at + 1) 31 (omega arith) in
          let l : length (take n (part s (at + 1) 31)) ≤ 31 = rw length-take (omega arith) in
          slot_long n (take n (part s (at + 1) 31)) (leb-false n 31 f) l ∙ sym (and_off (not (eqb d 0) || eqb n 0))

-- 3. The data of all instances ----------------------------------------------------------------------------------------------------------------

-- no records of octets
chop_none : (o : Octets) → chop 32 0 o ≡ []
unfolding chop
chop_none o = refl

-- the records of octets, one and those behind it
chop_first : (s : Octets) (at n : ℕ) → chop 32 (suc n) (drop at s) ≡ part s at 32 ∷ chop 32 n (drop (at + 32) s)
unfolding chop part
chop_first s at n = rw (drop-drop 32 at s)

-- all data fit, and their octets are the one encoding of them
data_same : (ds : List ℕ) (s : Octets) (at : ℕ) → bytes s ≡ true → at + 32 * length ds ≤ length s
    → data_ok ds (map data_back (chop 32 (length ds) (drop at s)))
    && same (part s at (32 * length ds)) (joined (map data_part (map data_back (chop 32 (length ds) (drop at s))))) ≡ data_octets_ok ds s at
unfolding data_ok data_octets_ok joined
data_same [] s at w h = rw (chop_none (drop at s)) (no_octets s at)
data_same (d ∷ ds) s at w h =
    let n : ℕ = length ds in
    let r : List Octets = map data_back (chop 32 n (drop (at + 32) s)) in
    let o : Octets = data_back (part s at 32) in
    let c : part s at (32 * suc n) ≡ part s at 32 ++ part s (at + 32) (32 * n) = part_cut s at 32 (32 * n) (at + 32) (32 * suc n) refl (omega arith) in
    let l : length (part s at 32) ≡ length (data_part o) = length_part s at 32 (omega arith) ∙ sym (length_data o) in
    rw (chop_first s at n, c, same_append (part s at 32) (part s (at + 32) (32 * n)) (data_part o) (joined (map data_part r)) l)
    (swap (data_fit d o) (data_ok ds r) (same (part s at 32) (data_part o)) (same (part s (at + 32) (32 * n)) (joined (map data_part r)))
    ∙ rw (slot_same s at d w (omega arith), data_same ds s (at + 32) w (omega arith)))

-- those of five instances, from as many octets as they have or more
data_cut : (s : Octets) (at m : ℕ) → data_list_back (part s at (160 + m)) ≡ map data_back (chop 32 5 (drop at s))
unfolding data_list_back part
data_cut s at m = ap (map data_back) (chop_take 32 5 m (drop at s))

-- 4. The whole --------------------------------------------------------------------------------------------------------------------------------

-- the tests of meanings and of octets, sorted: the schedule's, then those of Adv_Data and of Scan_Rsp
gather : (r p q u v : Bool) → (r && (p && q)) && (u && v) ≡ r && ((p && u) && (q && v))
gather true p q u v = swap p q u v
gather false p q u v = refl

-- there are five durations
pub five_durations_lem : (o : Octets) → length (schedule_back o).durations ≡ 5
unfolding schedule_back
five_durations_lem o = refl

-- five records are cut
five_chopped : (o : Octets) → length (map data_back (chop 32 5 o)) ≡ 5
unfolding chop
five_chopped o = refl

-- data of five instances take 160 octets
five_long : (x : List Octets) → length x ≡ 5 → length (joined (map data_part x)) ≡ 160
five_long x n = length_data_list x ∙ rw n

-- all data of five instances
five_same : (ds : List ℕ) (s : Octets) (at : ℕ) → length ds ≡ 5 → bytes s ≡ true → at + 160 ≤ length s
    → data_ok ds (map data_back (chop 32 5 (drop at s))) && same (part s at 160) (joined (map data_part (map data_back (chop 32 5 (drop at s)))))
    ≡ data_octets_ok ds s at
five_same ds s at n w h = rw n at (data_same ds s at w (rw n (omega arith)))

-- advertising in its parts
cut_advertising : (s : Octets) (at : ℕ) → part s at 343 ≡ part s at 23 ++ (part s (at + 23) 160 ++ part s (at + 183) 160)
cut_advertising s at = rw (part_cut s at 23 320 (at + 23) 343 refl refl, part_cut s (at + 23) 160 160 (at + 183) 320 (omega arith) refl)

module _ (l w : Bool) (s : Octets) (at : ℕ) (b : bytes s ≡ true) (h : at + 343 ≤ length s) where
  -- the schedule that lies there
  schedule_here : (advertising_back (part s at 343)).schedule ≡ schedule_back (drop at s)
  unfolding advertising_back
  schedule_here = schedule_cut s at 343 (omega arith)

  -- Adv_Data
  adv_here : (advertising_back (part s at 343)).adv_data ≡ map data_back (chop 32 5 (drop (at + 23) s))
  unfolding advertising_back
  adv_here = ap data_list_back (drop_part s at 23 320) ∙ data_cut s (at + 23) 160

  -- Scan_Rsp
  scan_here : (advertising_back (part s at 343)).scan_rsp ≡ map data_back (chop 32 5 (drop (at + 183) s))
  unfolding advertising_back
  scan_here = ap data_list_back (drop_part s at 183 160) ∙ data_cut s (at + 183) 0

  -- the octets, part by part: those of the schedule are always right
  advertising_same : (x y : List Octets) → length (joined (map data_part x)) ≡ 160
      → same (part s at 343) (schedule_part (schedule_back (drop at s)) ++ (joined (map data_part x) ++ joined (map data_part y)))
      ≡ same (part s (at + 23) 160) (joined (map data_part x)) && same (part s (at + 183) 160) (joined (map data_part y))
  advertising_same x y n =
      let a : Octets = part s at 23 in
      let c : Octets = part s (at + 23) 160 in
      let d : Octets = part s (at + 183) 160 in
      let m : length c ≡ length (joined (map data_part x)) = length_part s (at + 23) 160 (omega arith) ∙ sym n in
      rw (cut_advertising s at, ← schedule_same s at b (omega arith))
      (same_append a (c ++ d) a (joined (map data_part x) ++ joined (map data_part y)) refl
      ∙ rw (same_refl a) (same_append c d (joined (map data_part x)) (joined (map data_part y)) m))

  -- advertising is well formed, and its octets are the one encoding of it
  pub advertising_is : advertising_ok l w (advertising_back (part s at 343))
      && same (part s at 343) (advertising_part (advertising_back (part s at 343))) ≡ advertising_octets_ok l w s at
  unfolding advertising_ok advertising_part advertising_octets_ok
  advertising_is =
      let t : Schedule = schedule_back (drop at s) in
      let x : List Octets = map data_back (chop 32 5 (drop (at + 23) s)) in
      let y : List Octets = map data_back (chop 32 5 (drop (at + 183) s)) in
      rw (schedule_here, adv_here, scan_here, advertising_same x y (five_long x (five_chopped (drop (at + 23) s))))
      (gather (schedule_ok l w t) (data_ok t.durations x) (data_ok t.durations y) (same (part s (at + 23) 160) (joined (map data_part x)))
      (same (part s (at + 183) 160) (joined (map data_part y)))
      ∙ rw (
        five_same t.durations s (at + 23) (five_durations_lem (drop at s)) b (omega arith),
        five_same t.durations s (at + 183) (five_durations_lem (drop at s)) b (omega arith),
      ))

-- 5. In a block -------------------------------------------------------------------------------------------------------------------------------

-- the advertising of an index, behind its tables
pub advertising_at : (s : Octets) (i : ℕ) → (controller_of s i).host.advertising ≡ advertising_back (part s (base i + 4029) 343)
unfolding controller_of controller_back
advertising_at s i =
    let d : drop 6 (part s (base i) Lengths.block) ≡ part s (base i + 6) 4366 = drop_part s (base i) 6 4366 in
    let e : drop 4023 (part s (base i + 6) 4366) ≡ part s (base i + 6 + 4023) 343 = drop_part s (base i + 6) 4023 343 in
    let f : base i + 6 + 4023 ≡ base i + 4029 = omega arith in
    rw (d, e, f)

-- its schedule lies first
pub schedule_first : (s : Octets) (i b : ℕ) (t : Schedule) → b ≡ base i → t ≡ (controller_of s i).host.advertising.schedule
    → t ≡ schedule_back (drop (b + 4029) s)
unfolding advertising_back
schedule_first s i b t e f =
    f ∙ ap (λ (a : Advertising). a.schedule) (advertising_at s i) ∙ schedule_cut s (base i + 4029) 343 (omega arith)
    ∙ ap (λ (k : ℕ). schedule_back (drop (k + 4029) s)) (sym e)
