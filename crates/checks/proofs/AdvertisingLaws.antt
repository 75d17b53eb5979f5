-- Laws that the proofs of the test of advertising cite, over plain lists and numbers.
use Prim.Native.Nat.{ℕ, zero, suc, ◌+◌, ◌-◌, ◌*◌, ◌<◌, ◌≤◌}
use native.Mathlib.Omega.{arith}
use native.Mathlib.Numerals.{add-one}
use mathlib.Core.Path.{◌≡◌, refl, sym, ◌∙◌}
use mathlib.Core.Bool.{Bool, true, false, ◌&&◌, ◌||◌, not}
use mathlib.Core.List.{List, [], ◌∷◌, ◌++◌}
use lib.ListN.{length, get_or, drop, drop_of_length-le, get_or-eq_default}
use lib.Seq.{drop-cons}
use lib.Bits.{bit_or}
use lib.Dec.{eqb, leb, ltb}
use borrow.Author.Tests.{eq-eqb, eqb-true, lt-leb, lt-ltb, ne_eqb}
use Rattle.model.specs.declared.Schedule.{Schedule}
use Rattle.model.specs.Advertising.{duration_of, value_of}
use Rattle.model.specs.Octets.{Octets, all_zero, u16}
use Rattle.model.specs.WellFormed.{schedule_ok, times_fit, times_ok, turn_ok}
use Rattle.model.specs.Layout.{schedule_back}
use Rattle.model.proofs.Model.Tests.{Five, five, five_of}
use Rattle.model.proofs.Model.Tests.{and_off, and_true, or_true}
use Rattle.octets.specs.Parts.{part}
use Rattle.octets.proofs.Numbers.{zeros_append}
use Rattle.octets.proofs.Laws.{part_suc}
use Rattle.checks.specs.Advertising.{advertising_octets_ok, data_octets_ok, slot_octets_ok}
use Rattle.checks.proofs.Tests.{and_on}
use Rattle.checks.proofs.Laws.{or_zero}
use Rattle.checks.proofs.Tables.{assoc}
use Rattle.checks.proofs.Settings.{one_octet, part_cut}
use Rattle.checks.proofs.AdvertisingParts.{schedule_lies, schedule_at}

-- 1. Five numbers -----------------------------------------------------------------------------------------------------------------------------

-- five numbers joined by or are zero if all are
pub zeros_are : (l : List ℕ) → length l ≡ 5
    → eqb (bit_or (bit_or (bit_or (bit_or (get_or l 0 0) (get_or l 1 0)) (get_or l 2 0)) (get_or l 3 0)) (get_or l 4 0)) 0 ≡ all_zero l
unfolding all_zero
zeros_are l n = go l (five_of l n)
  where
    go : (l : List ℕ) → Five l
        → eqb (bit_or (bit_or (bit_or (bit_or (get_or l 0 0) (get_or l 1 0)) (get_or l 2 0)) (get_or l 3 0)) (get_or l 4 0)) 0 ≡ all_zero l
    go l (five a b c d e) =
        let x : Bool = eqb a 0 in
        let y : Bool = eqb b 0 in
        let z : Bool = eqb c 0 in
        let v : Bool = eqb d 0 in
        let u : Bool = eqb e 0 in
        or_zero (bit_or (bit_or (bit_or a b) c) d) e
        ∙ rw (
          or_zero (bit_or (bit_or a b) c) d,
          or_zero (bit_or a b) c,
          or_zero a b,
          assoc x y z,
          assoc x (y && z) v,
          assoc y z v,
          assoc x (y && (z && v)) u,
          assoc y (z && v) u,
          assoc z v u,
          and_on u,
        )

-- 0 is no instance
pub value_none : (l : List ℕ) (k : ℕ) → k ≡ 0 → 0 ≡ value_of l k
unfolding value_of
value_none l k e = rw e

-- instance k stands at place k - 1
pub value_some : (l : List ℕ) (k : ℕ) → (k ≡ 0 → ⊥) → get_or l (k - 1) 0 ≡ value_of l k
unfolding value_of
value_some l zero n = absurd (n refl)
value_some l (suc j) n = let e : suc j - 1 ≡ j = omega arith in rw e

-- above the last there is none
pub value_past : (l : List ℕ) (k : ℕ) → length l < k → 0 ≡ value_of l k
unfolding value_of
value_past l zero n = refl
value_past l (suc j) n = sym (get_or-eq_default l 0 {n = j} (omega arith))

-- 2. The schedule -----------------------------------------------------------------------------------------------------------------------------

-- duration and timeout of an instance, as wide as they are, fit if an absent one has no timeout
times_fit_lem : (d t : ℕ) → d < 65536 → t < 65536 → times_fit d t ≡ not (eqb d 0) || eqb t 0
unfolding times_fit
times_fit_lem d t h i = rw (lt-ltb d 65536 h, lt-ltb t 65536 i) (and_on (not (eqb d 0) || eqb t 0))

module _ (ds ts : List ℕ) (n : length ds ≡ 5) (m : length ts ≡ 5) where
  -- before the first instance, all are left
  pub times_first : times_ok (drop 0 ds) (drop 0 ts) ≡ eqb (length ds) 5 && times_ok ds ts
  times_first = rw n

  -- instance k and those behind it
  times_next : (k : ℕ) → k < 5 → times_ok (drop k ds) (drop k ts) ≡ times_fit (get_or ds k 0) (get_or ts k 0) && times_ok (drop (k + 1) ds) (drop (k + 1) ts)
  unfolding times_ok
  times_next k l = rw (add-one, drop-cons ds k 0 (omega arith), drop-cons ts k 0 (omega arith))

  -- where instance k is fine, those behind it tell
  pub times_turn : (k : ℕ) → k < 5 → get_or ds k 0 < 65536 → get_or ts k 0 < 65536 → not (eqb (get_or ds k 0) 0) || eqb (get_or ts k 0) 0 ≡ true
      → times_ok (drop (k + 1) ds) (drop (k + 1) ts) ≡ times_ok (drop k ds) (drop k ts)
  times_turn k l h i e = sym (times_next k l ∙ rw (times_fit_lem (get_or ds k 0) (get_or ts k 0) h i, e))

  -- where it is not, none behind it can mend that
  pub times_fails : (k : ℕ) → k < 5 → get_or ds k 0 < 65536 → get_or ts k 0 < 65536 → not (eqb (get_or ds k 0) 0) || eqb (get_or ts k 0) 0 ≡ false
      → false ≡ times_ok (drop k ds) (drop k ts)
  times_fails k l h i e = sym (times_next k l ∙ rw (times_fit_lem (get_or ds k 0) (get_or ts k 0) h i, e))

  -- past the fifth nothing is left to test
  pub times_end : (k : ℕ) → 5 ≤ k → true ≡ times_ok (drop k ds) (drop k ts)
  unfolding times_ok
  times_end k h =
      let e : drop k ds ≡ [] = drop_of_length-le ds {i = k} (omega arith) in
      let f : drop k ts ≡ [] = drop_of_length-le ts {i = k} (omega arith) in
      rw (e, f)

-- power is off, or no instance is there
off_or_none : (w z : Bool) → w && not z ≡ not (not w || z)
off_or_none true z = refl
off_or_none false z = refl

-- then none is on air
pub turn_rests : (w : Bool) (s : Schedule) → not w || all_zero s.durations ≡ true → turn_ok w s ≡ eqb s.on_air 0 && eqb s.left 0
unfolding turn_ok
turn_rests w s e = rw (off_or_none w (all_zero s.durations), e, turn_ok)

-- else one is, and it is one that is there, with 1 second to its duration left
pub turn_runs : (w : Bool) (s : Schedule) → not w || all_zero s.durations ≡ false
    → turn_ok w s ≡ leb 1 s.left && leb s.left (value_of s.durations s.on_air)
unfolding turn_ok duration_of
turn_runs w s e = rw (off_or_none w (all_zero s.durations), e, turn_ok)

-- 3. Data -------------------------------------------------------------------------------------------------------------------------------------

-- the test of one instance's data in the order of the code
pub slot_by : (s : Octets) (at d n : ℕ) → n ≡ get_or s at 0
    → slot_octets_ok d s at ≡ (not (eqb d 0) || eqb n 0) && (leb n 31 && all_zero (part s (at + (1 + n)) (31 - n)))
unfolding slot_octets_ok
slot_by s at d n e = rw e

-- a length above 31 does not fit
pub slot_over : (s : Octets) (at d n : ℕ) → n ≡ get_or s at 0 → 31 < n → false ≡ slot_octets_ok d s at
slot_over s at d n e l = sym (slot_by s at d n e ∙ rw (lt-leb n 31 l) (and_off (not (eqb d 0) || eqb n 0)))

module _ (ds : List ℕ) (n : length ds ≡ 5) (s : Octets) (at k : ℕ) (l : k < 5) where
  -- the data of instance k and those behind it
  data_next : data_octets_ok (drop k ds) s at ≡ slot_octets_ok (get_or ds k 0) s at && data_octets_ok (drop (k + 1) ds) s (at + 32)
  unfolding data_octets_ok
  data_next = rw (add-one, drop-cons ds k 0 (omega arith))

  -- where instance k is fine, those behind it tell
  pub data_turn : slot_octets_ok (get_or ds k 0) s at ≡ true → data_octets_ok (drop (k + 1) ds) s (at + 32) ≡ data_octets_ok (drop k ds) s at
  data_turn e = sym (data_next ∙ rw e)

  -- where it is not, none behind it can mend that
  pub data_fails : slot_octets_ok (get_or ds k 0) s at ≡ false → false ≡ data_octets_ok (drop k ds) s at
  data_fails e = sym (data_next ∙ rw e)

-- past the last instance nothing is left to test
pub data_end : (ds : List ℕ) → length ds ≡ 5 → (s : Octets) (at k : ℕ) → 5 ≤ k → true ≡ data_octets_ok (drop k ds) s at
unfolding data_octets_ok
data_end ds n s at k h = let e : drop k ds ≡ [] = drop_of_length-le ds {i = k} (omega arith) in sym (rw e)

-- 4. No instance ------------------------------------------------------------------------------------------------------------------------------

-- timeouts of absent instances fit if they are zero
zero_times : (ds ts : List ℕ) → length ts ≡ length ds → all_zero ds ≡ true → times_ok ds ts ≡ all_zero ts
unfolding times_ok times_fit all_zero
zero_times [] [] n e = refl
zero_times [] (t ∷ ts) n e = absurd (omega arith)
zero_times (d ∷ ds) [] n e = absurd (omega arith)
zero_times (d ∷ ds) (t ∷ ts) n e =
    let a = and_true (eqb d 0) _ e in
    let z : d ≡ 0 = eqb-true d 0 a.0 in
    rw (z, zero_times ds ts (omega arith) a.1) (go (eqb t 0) refl)
  where
    go : (b : Bool) → eqb t 0 ≡ b → (b && ltb t 65536) && all_zero ts ≡ b && all_zero ts
    go true f = let z : t ≡ 0 = eqb-true t 0 f in rw z
    go false f = refl

-- so does the schedule, if all behind the durations is zero
zero_schedule : (l w : Bool) (s : Schedule) → length s.durations ≡ 5 → length s.timeouts ≡ 5 → all_zero s.durations ≡ true
    → schedule_ok l w s ≡ all_zero s.timeouts && (eqb s.on_air 0 && eqb s.left 0)
unfolding schedule_ok
zero_schedule l w s n m e =
    rw (
      eq-eqb (length s.durations) 5 n,
      zero_times s.durations s.timeouts (omega arith) e,
      e,
      or_true l,
      turn_rests w s (rw (e, or_true (not w))),
    )
    (go (all_zero s.timeouts))
  where
    go : (z : Bool) → z && ((w || z) && (eqb s.on_air 0 && eqb s.left 0)) ≡ z && (eqb s.on_air 0 && eqb s.left 0)
    go true = rw (or_true w)
    go false = refl

-- the data of an absent instance fit if they are zero
zero_slot : (s : Octets) (at d : ℕ) → d ≡ 0 → at + 32 ≤ length s → slot_octets_ok d s at ≡ all_zero (part s at 32)
unfolding slot_octets_ok all_zero
zero_slot s at d z h = rw (part_suc s at 31 (omega arith), z) (go (get_or s at 0) (eqb (get_or s at 0) 0) refl)
  where
    go : (n : ℕ) (b : Bool) → eqb n 0 ≡ b → b && (leb n 31 && all_zero (part s (at + (1 + n)) (31 - n))) ≡ b && all_zero (part s (at + 1) 31)
    go n true e = let q : n ≡ 0 = eqb-true n 0 e in rw q
    go n false e = refl

-- no octets are zero
no_zeros : (s : Octets) (at : ℕ) → true ≡ all_zero (part s at 0)
unfolding all_zero part
no_zeros s at = refl

-- so do those of all absent instances
zero_data : (ds : List ℕ) (s : Octets) (at : ℕ) → all_zero ds ≡ true → at + 32 * length ds ≤ length s
    → data_octets_ok ds s at ≡ all_zero (part s at (32 * length ds))
unfolding data_octets_ok all_zero
zero_data [] s at e h = no_zeros s at
zero_data (d ∷ ds) s at e h =
    let a = and_true (eqb d 0) _ e in
    let n : ℕ = length ds in
    let c : part s at (32 * suc n) ≡ part s at 32 ++ part s (at + 32) (32 * n) = part_cut s at 32 (32 * n) (at + 32) (32 * suc n) refl (omega arith) in
    rw (
      c,
      zeros_append (part s at 32) (part s (at + 32) (32 * n)),
      zero_slot s at d (eqb-true d 0 a.0) (omega arith),
      zero_data ds s (at + 32) a.1 (omega arith),
    )

-- a number of two octets is zero if both are
zero_word : (s : Octets) (at : ℕ) → at + 2 ≤ length s → eqb (u16 s at) 0 ≡ all_zero (part s at 2)
unfolding u16 all_zero
zero_word s at h =
    rw (part_suc s at 1 (omega arith), part_suc s (at + 1) 0 (omega arith))
    (go (get_or s at 0) (get_or s (at + 1) 0) ∙ rw (sym (no_zeros s (at + 1 + 1)), and_on (eqb (get_or s (at + 1) 0) 0)))
  where
    go : (a b : ℕ) → eqb (a + 256 * b) 0 ≡ eqb a 0 && eqb b 0
    go zero zero = refl
    go zero (suc b) = rw (ne_eqb (0 + 256 * suc b) 0 (λ q. omega arith), ne_eqb (suc b) 0 (λ q. omega arith))
    go (suc a) b = rw (ne_eqb (suc a + 256 * b) 0 (λ q. omega arith), ne_eqb (suc a) 0 (λ q. omega arith))

-- five numbers are zero if their ten octets are
zero_words : (s : Octets) (a b c d e : ℕ) → b ≡ a + 2 → c ≡ b + 2 → d ≡ c + 2 → e ≡ d + 2 → e + 2 ≤ length s
    → all_zero (u16 s a ∷ u16 s b ∷ u16 s c ∷ u16 s d ∷ u16 s e ∷ []) ≡ all_zero (part s a 10)
unfolding all_zero
zero_words s a b c d e f g h i l =
    rw (
      part_cut s a 2 8 b 10 f refl,
      part_cut s b 2 6 c 8 g refl,
      part_cut s c 2 4 d 6 h refl,
      part_cut s d 2 2 e 4 i refl,
      zeros_append (part s a 2) (part s b 2 ++ (part s c 2 ++ (part s d 2 ++ part s e 2))),
      zeros_append (part s b 2) (part s c 2 ++ (part s d 2 ++ part s e 2)),
      zeros_append (part s c 2) (part s d 2 ++ part s e 2),
      zeros_append (part s d 2) (part s e 2),
      zero_word s a (omega arith),
      zero_word s b (omega arith),
      zero_word s c (omega arith),
      zero_word s d (omega arith),
      zero_word s e (omega arith),
      and_on (all_zero (part s e 2)),
    )

-- the octets behind the durations, part by part
zero_parts : (s : Octets) (at : ℕ) → at + 343 ≤ length s
    → all_zero (part s at 343)
    ≡ all_zero (part s at 10) && (all_zero (part s (at + 10) 10) && (eqb (get_or s (at + 20) 0) 0
    && (all_zero (part s (at + 21) 2) && (all_zero (part s (at + 23) 160) && all_zero (part s (at + 183) 160)))))
unfolding all_zero
zero_parts s at h =
    let c : Octets = part s (at + 21) 2 in
    let d : Octets = part s (at + 23) 160 in
    let e : Octets = part s (at + 183) 160 in
    rw (
      part_cut s at 10 333 (at + 10) 343 refl refl,
      part_cut s (at + 10) 10 323 (at + 20) 333 (omega arith) refl,
      part_cut s (at + 20) 1 322 (at + 21) 323 (omega arith) refl,
      part_cut s (at + 21) 2 320 (at + 23) 322 (omega arith) refl,
      part_cut s (at + 23) 160 160 (at + 183) 320 (omega arith) refl,
      one_octet s (at + 20) (omega arith),
      zeros_append (part s at 10) (part s (at + 10) 10 ++ (get_or s (at + 20) 0 ∷ (c ++ (d ++ e)))),
      zeros_append (part s (at + 10) 10) (get_or s (at + 20) 0 ∷ (c ++ (d ++ e))),
      zeros_append c (d ++ e),
      zeros_append d e,
    )

-- where no instance is there, advertising is well formed exactly if all its octets are zero
pub none_there : (l w : Bool) (s : Octets) (at : ℕ) (t : Schedule) → at + 343 ≤ length s → t ≡ schedule_back (drop at s) → all_zero t.durations ≡ true
    → all_zero (part s at 343) ≡ advertising_octets_ok l w s at
unfolding advertising_octets_ok schedule_at
none_there l w s at t h q e =
    let x : Schedule = schedule_at s at in
    let f : t ≡ x = q ∙ schedule_lies s at in
    let z : all_zero x.durations ≡ true = rw f at e in
    let y : all_zero x.durations ≡ all_zero (part s at 10) =
    zero_words s at (at + 2) (at + 4) (at + 6) (at + 8) refl (omega arith) (omega arith) (omega arith) (omega arith) in
    let a : all_zero (part s at 10) ≡ true = sym y ∙ z in
    let b : all_zero x.timeouts ≡ all_zero (part s (at + 10) 10) =
    zero_words s (at + 10) (at + 12) (at + 14) (at + 16) (at + 18) (omega arith) (omega arith) (omega arith) (omega arith) (omega arith) in
    let v : Bool = all_zero (part s (at + 23) 160) && all_zero (part s (at + 183) 160) in
    zero_parts s at h
    ∙ rw (
      a,
      ← b,
      ← zero_word s (at + 21) (omega arith),
      schedule_lies s at,
      zero_schedule l w x refl refl z,
      zero_data x.durations s (at + 23) z (omega arith),
      zero_data x.durations s (at + 183) z (omega arith),
      assoc (all_zero x.timeouts) (eqb x.on_air 0 && eqb x.left 0) v,
      assoc (eqb x.on_air 0) (eqb x.left 0) v,
    )

-- the test of advertising in the order of the code, from its schedule
pub advertising_by : (l w : Bool) (s : Octets) (at : ℕ) (t : Schedule) → t ≡ schedule_back (drop at s)
    → advertising_octets_ok l w s at ≡ schedule_ok l w t && (data_octets_ok t.durations s (at + 23) && data_octets_ok t.durations s (at + 183))
unfolding advertising_octets_ok
advertising_by l w s at t e = rw e
