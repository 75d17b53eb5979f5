-- The schedule of the advertising stays well formed: through a second, a power change, and an instance added or removed.
use Rattle.std.specs.Prelude.{ℕ, zero, suc, ◌-◌, ◌≤◌, ◌≡◌, refl, Bool, true, false, ◌&&◌, ◌||◌, not, List, [], ◌∷◌, ◌++◌, length, get_or, replicate, set, take, drop, eqb, leb, ltb}
use Rattle.std.proofs.Common.{arith, sym, ap, ◌∙◌, length-set, take-append-drop, get_or-set_other, leb-true, le-leb, ltb-true, lt-ltb, eqb-true, eq-eqb, ne_eqb}
use Rattle.std.proofs.lemmas.List.{set-get_or}
use Rattle.std.proofs.lemmas.Bool.{eqb-false}
use Rattle.model.specs.Octets.{all_zero}
use Rattle.model.specs.Advertising.{Schedule, added_instance, counted, duration_of, first_present, following, lasting, no_schedule}
use Rattle.model.specs.Advertising.{instances, on_air_second, passed_on, powered_off, present, removed_instance, repowered, second, seconds, timeout_of}
use Rattle.model.specs.Advertising.{turn_to, value_of}
use Rattle.model.specs.Advertising.{with_instance, with_value, without}
use Rattle.model.specs.WellFormed.{schedule_ok, times_fit, times_ok, turn_ok}
use Rattle.model.proofs.Model.Tests.{Five, and_off, and_true, both, either, equal, five, five_of, no_way, not-false, or_false, or_true}

-- 1. The parts ------------------------------------------------------------------------------------------------------------------------------

-- a schedule that keeps its rules, taken apart
pub record ScheduleFit (l w : Bool) (s : Schedule) : Type 0 where
  pub five : eqb (length s.durations) 5 ≡ true
  pub times : times_ok s.durations s.timeouts ≡ true
  pub le : l || all_zero s.durations ≡ true
  pub power : w || all_zero s.timeouts ≡ true
  pub turn : turn_ok w s ≡ true

-- the parts of such a schedule
pub schedule_fit : (l w : Bool) (s : Schedule) → schedule_ok l w s ≡ true → ScheduleFit l w s
unfolding schedule_ok
schedule_fit l w s e =
    let a = and_true (eqb (length s.durations) 5 && times_ok s.durations s.timeouts) _ e in
    let b = and_true (eqb (length s.durations) 5) _ a.0 in
    let c = and_true (l || all_zero s.durations) _ a.1 in
    let d = and_true (w || all_zero s.timeouts) _ c.1 in
    record { five = b.0; times = b.1; le = c.0; power = d.0; turn = d.1 }

-- a schedule with these parts keeps its rules
pub fit_schedule : (l w : Bool) (s : Schedule) → ScheduleFit l w s → schedule_ok l w s ≡ true
unfolding schedule_ok
fit_schedule l w s h = both (both h.five h.times) (both h.le (both h.power h.turn))

-- as many timeouts as instances
pub times_many : (ds ts : List ℕ) → times_ok ds ts ≡ true → length ts ≡ length ds
unfolding times_ok
times_many [] [] e = refl
times_many [] (t ∷ ts) e = no_way (sym e)
times_many (d ∷ ds) [] e = no_way (sym e)
times_many (d ∷ ds) (t ∷ ts) e = ap suc (times_many ds ts (and_true (times_fit d t) _ e).1)

-- 2. The turn -------------------------------------------------------------------------------------------------------------------------------

-- none of these instances is there
absent : Schedule → List ℕ → Bool
absent s [] = true
absent s (k ∷ ks) = eqb (duration_of s k) 0 && absent s ks

-- of instances of which none is there, none is the first
first_none : (s : Schedule) (ks : List ℕ) → absent s ks ≡ true → first_present s ks ≡ 0
unfolding absent first_present present
first_none s [] e = refl
first_none s (k ∷ ks) e = let a = and_true (eqb (duration_of s k) 0) _ e in rw (a.0, first_present) (first_none s ks a.1)

-- of instances of which some is there, the first is
first_some : (s : Schedule) (ks : List ℕ) → absent s ks ≡ false → eqb (duration_of s (first_present s ks)) 0 ≡ false
unfolding absent first_present present
first_some s [] e = no_way e
first_some s (k ∷ ks) e = go (eqb (duration_of s k) 0) refl e (first_some s ks)
  where
    go : (b : Bool) → eqb (duration_of s k) 0 ≡ b → b && absent s ks ≡ false → (absent s ks ≡ false → eqb (duration_of s (first_present s ks)) 0 ≡ false)
        → eqb (duration_of s (elim (not b) [ true ↦ k | false ↦ first_present s ks ])) 0 ≡ false
    go true t f more = more f
    go false t f more = t

-- of two runs of instances
absent_append : (s : Schedule) (ks js : List ℕ) → absent s (ks ++ js) ≡ absent s ks && absent s js
unfolding absent
absent_append s [] js = refl
absent_append s (k ∷ ks) js = go (eqb (duration_of s k) 0) (absent_append s ks js)
  where
    go : (b : Bool) → absent s (ks ++ js) ≡ absent s ks && absent s js → b && absent s (ks ++ js) ≡ (b && absent s ks) && absent s js
    go true e = e
    go false e = refl

-- tests in the other order
and_swap : (a b : Bool) → a && b ≡ b && a
and_swap true true = refl
and_swap true false = refl
and_swap false true = refl
and_swap false false = refl

-- no instance is there exactly if all durations are zero
absent_all : (s : Schedule) → Five s.durations → absent s instances ≡ all_zero s.durations
unfolding absent duration_of value_of all_zero
absent_all s f = go s.durations f
  where
    go : (ds : List ℕ) → Five ds → absent (record { durations = ds; timeouts = s.timeouts; on_air = s.on_air; left = s.left }) instances ≡ all_zero ds
    go ds (five a b c d e) = refl

-- the instances that follow k are all instances
absent_following : (s : Schedule) (k : ℕ) → length s.durations ≡ 5 → absent s (following k) ≡ all_zero s.durations
unfolding following
absent_following s k n =
    absent_append s (drop k instances) (take k instances)
    ∙ and_swap (absent s (drop k instances)) (absent s (take k instances))
    ∙ sym (absent_append s (take k instances) (drop k instances))
    ∙ ap (absent s) (take-append-drop k instances)
    ∙ absent_all s (five_of _ n)

-- a value that is not zero is at least one
at_least_one : (d : ℕ) → eqb d 0 ≡ false → leb 1 d ≡ true
at_least_one zero e = no_way e
at_least_one (suc d) e = le-leb 1 (suc d) (omega arith)

-- the turn fits after it was passed on, with power on
passed_turn : (k : ℕ) (s : Schedule) → length s.durations ≡ 5 → turn_ok true (passed_on k s) ≡ true
unfolding turn_ok passed_on turn_to duration_of value_of
passed_turn k s n = go (all_zero s.durations) (absent_following s k n)
  where
    j : ℕ
    j = first_present s (following k)

    go : (z : Bool) → absent s (following k) ≡ z
        → elim (not z) [ true ↦ leb 1 (duration_of s j) && leb (duration_of s j) (duration_of s j) | false ↦ eqb j 0 && eqb (duration_of s j) 0 ] ≡ true
    go true e = let z : j ≡ 0 = first_none s (following k) e in rw z
    go false e = both (at_least_one (duration_of s j) (first_some s (following k) e)) (le-leb (duration_of s j) (duration_of s j) (omega arith))

-- passing the turn on with power on, whatever the turn was
passed_ok : (l : Bool) (k : ℕ) (s : Schedule) → eqb (length s.durations) 5 ≡ true → times_ok s.durations s.timeouts ≡ true
    → l || all_zero s.durations ≡ true
    → schedule_ok l true (passed_on k s) ≡ true
unfolding passed_on turn_to
passed_ok l k s n t e = fit_schedule l true (passed_on k s) (record { five = n; times = t; le = e; power = refl; turn = passed_turn k s (equal _ _ n) })

-- 3. Numbers changed ------------------------------------------------------------------------------------------------------------------------

-- duration and timeout of an instance fit together
pub times_at : (k : ℕ) (ds ts : List ℕ) → times_ok ds ts ≡ true → times_fit (value_of ds k) (value_of ts k) ≡ true
unfolding times_ok times_fit value_of
times_at zero ds ts e = refl
times_at (suc j) ds ts e = go j ds ts e
  where
    go : (j : ℕ) (ds ts : List ℕ) → times_ok ds ts ≡ true → times_fit (get_or ds j 0) (get_or ts j 0) ≡ true
    go j [] [] e = refl
    go j [] (t ∷ ts) e = no_way (sym e)
    go j (d ∷ ds) [] e = no_way (sym e)
    go zero (d ∷ ds) (t ∷ ts) e = (and_true (times_fit d t) _ e).0
    go (suc j) (d ∷ ds) (t ∷ ts) e = go j ds ts (and_true (times_fit d t) _ e).1

-- another duration and timeout for an instance
times_set : (k d t : ℕ) (ds ts : List ℕ) → times_ok ds ts ≡ true → times_fit d t ≡ true → times_ok (with_value ds k d) (with_value ts k t) ≡ true
unfolding times_ok times_fit with_value
times_set zero d t ds ts e f = e
times_set (suc j) d t ds ts e f = go j ds ts e
  where
    go : (j : ℕ) (ds ts : List ℕ) → times_ok ds ts ≡ true → times_ok (set ds j d) (set ts j t) ≡ true
    go j [] [] e = refl
    go j [] (y ∷ ts) e = no_way (sym e)
    go j (x ∷ ds) [] e = no_way (sym e)
    go zero (x ∷ ds) (y ∷ ts) e = both f (and_true (times_fit x y) _ e).1
    go (suc j) (x ∷ ds) (y ∷ ts) e = let a = and_true (times_fit x y) _ e in both a.0 (go j ds ts a.1)

-- as many as before
length_value : {A : Type 0} (k : ℕ) (x : A) (l : List A) → length (with_value l k x) ≡ length l
unfolding with_value
length_value zero x l = refl
length_value (suc j) x l = length-set l j x

-- the value that an instance has anyway
value_same : (k : ℕ) (l : List ℕ) → with_value l k (value_of l k) ≡ l
unfolding with_value value_of
value_same zero l = refl
value_same (suc j) l = set-get_or l j 0

-- zeros with one more zero
zero_set : (k : ℕ) (l : List ℕ) → all_zero l ≡ true → all_zero (with_value l k 0) ≡ true
unfolding with_value all_zero
zero_set zero l e = e
zero_set (suc j) l e = go j l e
  where
    go : (j : ℕ) (l : List ℕ) → all_zero l ≡ true → all_zero (set l j 0) ≡ true
    go j [] e = refl
    go zero (x ∷ l) e = (and_true (eqb x 0) _ e).1
    go (suc j) (x ∷ l) e = let a = and_true (eqb x 0) _ e in both a.0 (go j l a.1)

-- one of two tests, where the second still holds
or_keep : (a b c : Bool) → a || b ≡ true → (b ≡ true → c ≡ true) → a || c ≡ true
or_keep true b c e f = refl
or_keep false b c e f = f e

-- the instances that are left when one goes fit together
without_times : (k : ℕ) (s : Schedule) → times_ok s.durations s.timeouts ≡ true → times_ok (without k s).durations (without k s).timeouts ≡ true
unfolding without with_instance times_fit
without_times k s e = times_set k 0 0 s.durations s.timeouts e refl

-- an instance that has a value is not among zeros only
pub some_value : (k : ℕ) (l : List ℕ) → 1 ≤ value_of l k → all_zero l ≡ false
unfolding value_of all_zero
some_value zero l n = absurd (omega arith)
some_value (suc j) l n = go j l n
  where
    go : (j : ℕ) (l : List ℕ) → 1 ≤ get_or l j 0 → all_zero l ≡ false
    go j [] n = absurd (omega arith)
    go zero (x ∷ l) n = rw (ne_eqb x 0 (λ e. omega arith))
    go (suc j) (x ∷ l) n = rw (go j l n) (and_off (eqb x 0))

-- an instance that has a value is one of the list
pub value_in : (l : List ℕ) (k : ℕ) → 1 ≤ value_of l k → (1 ≤ k) × (k ≤ length l)
unfolding value_of
value_in l zero e = absurd (omega arith)
value_in [] (suc j) e = absurd (omega arith)
value_in (x ∷ l) (suc zero) e = (omega arith, omega arith)
value_in (x ∷ l) (suc (suc j)) e = let h = value_in l (suc j) e in (omega arith, omega (arith, h.1))

-- the value of another instance stays
pub value_other : (k j x : ℕ) (l : List ℕ) → (j ≡ k → ⊥) → value_of (with_value l k x) j ≡ value_of l j
unfolding value_of with_value
value_other zero j x l n = refl
value_other (suc k) zero x l n = refl
value_other (suc k) (suc j) x l n = get_or-set_other l k j x 0 (λ e. n (ap suc e))

-- 4. A second -------------------------------------------------------------------------------------------------------------------------------

-- what the turn says: power is on, and the one on air has 1 to its duration left; or none is on air
pub data Turn (w : Bool) (s : Schedule) : Type 0 where
  -- some instance is on air
  runs : w ≡ true → 1 ≤ s.left → s.left ≤ duration_of s s.on_air → Turn w s
  -- none is
  rests : w && not (all_zero s.durations) ≡ false → s.on_air ≡ 0 → s.left ≡ 0 → Turn w s

-- the turn by what it says
pub turn_of : (w : Bool) (s : Schedule) → turn_ok w s ≡ true → Turn w s
unfolding turn_ok
turn_of w s e = go (w && not (all_zero s.durations)) refl e
  where
    go : (b : Bool) → w && not (all_zero s.durations) ≡ b
        → elim b [ true ↦ leb 1 s.left && leb s.left (duration_of s s.on_air) | false ↦ eqb s.on_air 0 && eqb s.left 0 ] ≡ true → Turn w s
    go true f t = let a = and_true (leb 1 s.left) _ t in runs (and_true w _ f).0 (leb-true _ _ a.0) (leb-true _ _ a.1)
    go false f t = let a = and_true (eqb s.on_air 0) _ t in rests f (eqb-true _ _ a.0) (eqb-true _ _ a.1)

-- the seconds left of a turn have two octets
pub left_wide : (l w : Bool) (s : Schedule) → schedule_ok l w s ≡ true → ltb s.left 65536 ≡ true
unfolding times_fit duration_of
left_wide l w s e = go (turn_of w s (schedule_fit l w s e).turn)
  where
    go : Turn w s → ltb s.left 65536 ≡ true
    go (runs ew a b) =
        let t = and_true (not (eqb (duration_of s s.on_air) 0) || eqb (value_of s.timeouts s.on_air) 0) _
        (times_at s.on_air s.durations s.timeouts (schedule_fit l w s e).times) in
        lt-ltb s.left 65536 (omega (arith, ltb-true (duration_of s s.on_air) 65536 (and_true (ltb (duration_of s s.on_air) 65536) _ t.1).0))
    go (rests z a b) = rw b

-- the one on air is 1 to 5, or none is
pub on_air_five : (l w : Bool) (s : Schedule) → schedule_ok l w s ≡ true → s.on_air ≤ 5
unfolding duration_of
on_air_five l w s e = go (turn_of w s (schedule_fit l w s e).turn)
  where
    go : Turn w s → s.on_air ≤ 5
    go (runs ew a b) = omega (arith, (value_in s.durations s.on_air (omega arith)).1, equal (length s.durations) 5 (schedule_fit l w s e).five)
    go (rests z a b) = omega arith

-- a turn with seconds left fits
turn_runs : (s : Schedule) → 1 ≤ s.left → s.left ≤ duration_of s s.on_air → turn_ok true s ≡ true
unfolding turn_ok duration_of
turn_runs s a b =
    let z : all_zero s.durations ≡ false = some_value s.on_air s.durations (omega arith) in
    rw (z, turn_ok) (both (le-leb _ _ a) (le-leb _ _ b))

-- none on air fits
turn_rests : (w : Bool) (s : Schedule) → w && not (all_zero s.durations) ≡ false → s.on_air ≡ 0 → s.left ≡ 0 → turn_ok w s ≡ true
unfolding turn_ok
turn_rests w s e a b = rw (e, turn_ok, a, b)

-- where none is on air, a second changes nothing
pub second_rests : (s : Schedule) → s.on_air ≡ 0 → second s ≡ s
unfolding second
second_rests s e = rw (eq-eqb s.on_air 0 e, second)

-- the timeout of the one on air, one second shorter, still fits its duration
shorter : (d t : ℕ) → times_fit d t ≡ true → times_fit d (t - 1) ≡ true
unfolding times_fit
shorter d t e =
    let a = and_true (not (eqb d 0) || eqb t 0) _ e in
    let b = and_true (ltb d 65536) _ a.1 in
    both (or_keep (not (eqb d 0)) (eqb t 0) (eqb (t - 1) 0) a.0 (λ z. eq-eqb (t - 1) 0 (omega (arith, eqb-true t 0 z))))
    (both b.0 (lt-ltb (t - 1) 65536 (omega (arith, ltb-true t 65536 b.1))))

-- so with the timeouts counted down
counted_times : (s : Schedule) → times_ok s.durations s.timeouts ≡ true → times_ok (counted s).durations (counted s).timeouts ≡ true
unfolding counted timeout_of
counted_times s e =
    let k : ℕ = s.on_air in
    let t : times_ok (with_value s.durations k (value_of s.durations k)) (with_value s.timeouts k (value_of s.timeouts k - 1)) ≡ true =
    times_set k _ _ s.durations s.timeouts e (shorter _ _ (times_at k s.durations s.timeouts e)) in
    rw (value_same k s.durations) at t

-- a second keeps the schedule's rules
pub second_ok : (l w : Bool) (s : Schedule) → schedule_ok l w s ≡ true → schedule_ok l w (second s) ≡ true
unfolding second on_air_second without with_instance counted duration_of
second_ok l w s e = go (turn_of w s h.turn)
  where
    h : ScheduleFit l w s
    h = schedule_fit l w s e

    Keeps : Schedule → Type 0
    Keeps t = schedule_ok l true t ≡ true

    goes : Keeps (passed_on s.on_air (without s.on_air s))
    goes = passed_ok l s.on_air (without s.on_air s) (rw (length_value s.on_air 0 s.durations) h.five) (without_times s.on_air s h.times)
        (or_keep l _ _ h.le (zero_set s.on_air s.durations))

    go : Turn w s → schedule_ok l w (second s) ≡ true
    go (rests z a b) = rw (second_rests s a) e
    go (runs ew a b) = rw ew (either Keeps (eqb s.on_air 0) (λ _. rw ew at e)
        (λ _. either Keeps (eqb (timeout_of s s.on_air) 1) (λ _. goes) (λ _. either Keeps (eqb s.left 1)
        (λ _. passed_ok l s.on_air (counted s) h.five (counted_times s h.times) h.le)
        (λ n. fit_schedule l true (counted s) (record {
          five = h.five;
          times = counted_times s h.times;
          le = h.le;
          power = refl;
          turn = turn_runs (counted s) (omega (arith, eqb-false s.left 1 n)) (omega arith);
        })))))

-- so does any number of them
pub seconds_ok : (l w : Bool) (n : ℕ) (s : Schedule) → schedule_ok l w s ≡ true → schedule_ok l w (seconds n s) ≡ true
unfolding seconds
seconds_ok l w zero s e = e
seconds_ok l w (suc n) s e = seconds_ok l w n (second s) (second_ok l w s e)

-- 5. Power and Low Energy ---------------------------------------------------------------------------------------------------------------------

-- the instances that have no timeout fit, with no timeouts
lasting_times : (ds ts : List ℕ) → times_ok ds ts ≡ true → times_ok (lasting ds ts) (replicate (length ds) 0) ≡ true
unfolding times_ok times_fit lasting
lasting_times [] [] e = refl
lasting_times [] (t ∷ ts) e = no_way (sym e)
lasting_times (d ∷ ds) [] e = no_way (sym e)
lasting_times (d ∷ ds) (t ∷ ts) e =
    let a = and_true (times_fit d t) _ e in
    let b = and_true (ltb d 65536) _ (and_true (not (eqb d 0) || eqb t 0) _ a.0).1 in
    both (both (or_true (not (eqb (elim (eqb t 0) [ true ↦ d | false ↦ 0 ]) 0)))
    (both (either (λ x. ltb x 65536 ≡ true) (eqb t 0) (λ _. b.0) (λ _. refl)) refl))
    (lasting_times ds ts a.1)

-- they are as many
length_lasting : (ds ts : List ℕ) → times_ok ds ts ≡ true → length (lasting ds ts) ≡ length ds
unfolding times_ok lasting
length_lasting [] [] e = refl
length_lasting [] (t ∷ ts) e = no_way (sym e)
length_lasting (d ∷ ds) [] e = no_way (sym e)
length_lasting (d ∷ ds) (t ∷ ts) e = ap suc (length_lasting ds ts (and_true (times_fit d t) _ e).1)

-- of zeros, zeros
lasting_zero : (ds ts : List ℕ) → all_zero ds ≡ true → all_zero (lasting ds ts) ≡ true
unfolding all_zero lasting
lasting_zero [] ts e = refl
lasting_zero (d ∷ ds) [] e = refl
lasting_zero (d ∷ ds) (t ∷ ts) e =
    let a = and_true (eqb d 0) _ e in
    both (either (λ x. eqb x 0 ≡ true) (eqb t 0) (λ _. a.0) (λ _. refl)) (lasting_zero ds ts a.1)

-- a change of power keeps the rules
pub repowered_ok : (l now before : Bool) (s : Schedule) → schedule_ok l before s ≡ true → schedule_ok l now (repowered now before s) ≡ true
unfolding repowered powered_off all_zero turn_ok
repowered_ok l false w s e =
    let h = schedule_fit l w s e in
    let n : length s.durations ≡ 5 = equal _ _ h.five in
    fit_schedule l false (powered_off s) (record {
      five = rw (length_lasting s.durations s.timeouts h.times) h.five;
      times = rw n at (lasting_times s.durations s.timeouts h.times);
      le = or_keep l _ _ h.le (lasting_zero s.durations s.timeouts);
      power = refl;
      turn = refl;
    })
repowered_ok l true true s e = e
repowered_ok l true false s e = let h = schedule_fit l false s e in passed_ok l 0 s h.five h.times h.le

-- no instances at all keep every rule
pub none_ok : (l w : Bool) → schedule_ok l w no_schedule ≡ true
unfolding no_schedule all_zero times_ok times_fit turn_ok
none_ok l w = fit_schedule l w no_schedule (record { five = refl; times = refl; le = or_true l; power = or_true w; turn = rw (and_off w, turn_ok) })

-- 6. An instance added or removed ----------------------------------------------------------------------------------------------------------------

-- another instance than the one on air changed: the turn is left alone
turn_alone : (w : Bool) (k d t : ℕ) (s : Schedule) → Turn w s → (s.on_air ≡ k → ⊥)
    → (s.on_air ≡ 0 → w && not (all_zero s.durations) ≡ false → w && not (all_zero (with_value s.durations k d)) ≡ false)
    → turn_ok w (with_instance k d t s) ≡ true
unfolding with_instance duration_of
turn_alone w k d t s (runs ew a b) n f = rw ew (turn_runs (with_instance k d t s) a (rw (value_other k s.on_air d s.durations n) b))
turn_alone w k d t s (rests z a b) n f = turn_rests w (with_instance k d t s) (f a z) a b

-- with power off none is on air, whatever instances there are
turn_off : (k d t : ℕ) (s : Schedule) → turn_ok false s ≡ true → turn_ok false (with_instance k d t s) ≡ true
unfolding turn_ok with_instance
turn_off k d t s e = e

-- where one is on air, power is on
on_air_powered : (w : Bool) (s : Schedule) → Turn w s → (s.on_air ≡ 0 → ⊥) → w ≡ true
on_air_powered w s (runs e a b) n = e
on_air_powered w s (rests z a b) n = absurd (n a)

-- where there was none to be on air, there is none with fewer instances
fewer : (w z y : Bool) → (z ≡ true → y ≡ true) → w && not z ≡ false → w && not y ≡ false
fewer false z y f e = refl
fewer true z y f e = rw (f (not-false z e))

-- timeouts only while powered, with another one
timeouts_kept : (w : Bool) (k t : ℕ) (ts : List ℕ) → w || all_zero ts ≡ true → w || eqb t 0 ≡ true → w || all_zero (with_value ts k t) ≡ true
timeouts_kept true k t ts e f = refl
timeouts_kept false k t ts e f = rw (eqb-true t 0 f) (zero_set k ts e)

-- an instance added or changed with Low Energy on, and with a timeout only while powered
pub instance_added_ok : (w : Bool) (k d t : ℕ) (s : Schedule) → schedule_ok true w s ≡ true → times_fit d t ≡ true → w || eqb t 0 ≡ true
    → schedule_ok true w (added_instance w k d t s) ≡ true
unfolding added_instance with_instance
instance_added_ok w k d t s e f p =
    let h = schedule_fit true w s e in
    let n : eqb (length (with_value s.durations k d)) 5 ≡ true = rw (length_value k d s.durations) h.five in
    let o = times_set k d t s.durations s.timeouts h.times f in
    either (λ x. schedule_ok true w x ≡ true) (w && (eqb s.on_air 0 || eqb s.on_air k))
    (λ b. rw (and_true w _ b).0 (passed_ok true s.on_air (with_instance k d t s) n o refl))
    (λ b. fit_schedule true w (with_instance k d t s) (record {
      five = n;
      times = o;
      le = refl;
      power = timeouts_kept w k t s.timeouts h.power p;
      turn = alone w h.turn b;
    }))
  where
    alone : (v : Bool) → turn_ok v s ≡ true → v && (eqb s.on_air 0 || eqb s.on_air k) ≡ false → turn_ok v (with_instance k d t s) ≡ true
    alone false u b = turn_off k d t s u
    alone true u b = let c = or_false (eqb s.on_air 0) _ b in turn_alone true k d t s (turn_of true s u) (eqb-false _ _ c.1)
        (λ z. absurd (eqb-false _ _ c.0 z))

-- the durations afterwards, wherever the turn is
pub added_durations : (w : Bool) (k d t : ℕ) (s : Schedule) → (added_instance w k d t s).durations ≡ with_value s.durations k d
unfolding added_instance with_instance passed_on turn_to
added_durations w k d t s =
    either (λ (x : Schedule). x.durations ≡ with_value s.durations k d) (w && (eqb s.on_air 0 || eqb s.on_air k)) (λ _. refl) (λ _. refl)

-- an instance removed, or all
pub instance_removed_ok : (l w : Bool) (k : ℕ) (s : Schedule) → schedule_ok l w s ≡ true → schedule_ok l w (removed_instance k s) ≡ true
unfolding removed_instance without with_instance
instance_removed_ok l w k s e =
    let h = schedule_fit l w s e in
    let n : eqb (length (with_value s.durations k 0)) 5 ≡ true = rw (length_value k 0 s.durations) h.five in
    let o = without_times k s h.times in
    let le = or_keep l _ _ h.le (zero_set k s.durations) in
    either (λ x. schedule_ok l w x ≡ true) (eqb k 0) (λ _. none_ok l w)
    (λ z. either (λ x. schedule_ok l w x ≡ true) (eqb s.on_air k)
    (λ b. rw (on_air_powered w s (turn_of w s h.turn) (λ y. eqb-false k 0 z (sym (eqb-true s.on_air k b) ∙ y))) (passed_ok l k (without k s) n o le))
    (λ b. fit_schedule l w (without k s) (record {
      five = n;
      times = o;
      le = le;
      power = or_keep w _ _ h.power (zero_set k s.timeouts);
      turn = turn_alone w k 0 0 s (turn_of w s h.turn) (eqb-false _ _ b) (λ y g. fewer w _ _ (zero_set k s.durations) g);
    })))

-- 7. Power off while off ---------------------------------------------------------------------------------------------------------------------

-- zeros, as many as there are
zeros : (l : List ℕ) → all_zero l ≡ true → l ≡ replicate (length l) 0
unfolding all_zero
zeros [] e = refl
zeros (x ∷ l) e = let a = and_true (eqb x 0) _ e in rw (eqb-true x 0 a.0, ← zeros l a.1)

-- with no timeouts all instances last
lasting_same : (ds ts : List ℕ) → times_ok ds ts ≡ true → all_zero ts ≡ true → lasting ds ts ≡ ds
unfolding times_ok lasting all_zero
lasting_same [] [] e z = refl
lasting_same [] (t ∷ ts) e z = no_way (sym e)
lasting_same (d ∷ ds) [] e z = no_way (sym e)
lasting_same (d ∷ ds) (t ∷ ts) e z =
    let a = and_true (eqb t 0) _ z in
    rw (a.0, lasting, lasting_same ds ts (and_true (times_fit d t) _ e).1 a.1)

-- schedules of the same parts
by_parts : {ds es ts us : List ℕ} {k j n m : ℕ} → ds ≡ es → ts ≡ us → k ≡ j → n ≡ m
    → ◌≡◌ {A = Schedule} (record { durations = ds; timeouts = ts; on_air = k; left = n }) (record { durations = es; timeouts = us; on_air = j; left = m })
by_parts a b c d = cc

-- power off while off
pub off_while_off : (l : Bool) (s : Schedule) → schedule_ok l false s ≡ true → repowered false false s ≡ s
unfolding repowered powered_off turn_ok
off_while_off l s e =
    let h = schedule_fit l false s e in
    let n : length s.timeouts ≡ 5 = times_many _ _ h.times ∙ equal _ _ h.five in
    let z : s.timeouts ≡ replicate 5 0 = rw n at (zeros s.timeouts h.power) in
    let d = lasting_same s.durations s.timeouts h.times h.power in
    let t = and_true (eqb s.on_air 0) _ h.turn in
    let a : 0 ≡ s.on_air = sym (eqb-true _ _ t.0) in
    let b : 0 ≡ s.left = sym (eqb-true _ _ t.1) in
    by_parts d (sym z) a b
