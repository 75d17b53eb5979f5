-- How long an instance waits for its turn: the seconds left of the one on air, and the whole turns of those between. A second takes one off, and to pass
-- the turn
-- on puts none to it.
use Rattle.std.specs.Prelude.{ℕ, zero, suc, ◌+◌, ◌≤◌, ◌≡◌, refl, Bool, true, false, ◌&&◌, ◌||◌, not, List, [], ◌∷◌, ◌++◌, length, eqb}
use Rattle.std.proofs.Common.{arith, sym, ◌∙◌, eqb-true, eq-eqb, ne_eqb}
use Rattle.std.proofs.lemmas.Bool.{eqb-false}
use Rattle.model.specs.Octets.{same}
use Rattle.model.specs.Advertising.{Schedule, counted, duration_of, first_present, following, instances, on_air_second, passed_on, present, second}
use Rattle.model.specs.Advertising.{seconds, timeout_of, turn_to}
use Rattle.model.specs.Advertising.{with_instance, without}
use Rattle.model.specs.WellFormed.{schedule_ok}
use Rattle.model.specs.Fairness.{each, off_air, others, sum_of}
use Rattle.model.proofs.Model.Schedule.{Turn, rests, runs, schedule_fit, second_ok, some_value, turn_of, value_in, value_other}
use Rattle.model.proofs.Model.Tables.{same_eq}
use Rattle.model.proofs.Model.Tests.{and_true, either, equal, no_way, not-false, not-true, or_true}

-- 1. The ring of five -----------------------------------------------------------------------------------------------------------------------

-- the instances of a list before k
unfoldable pub before : ℕ → List ℕ → List ℕ
before k [] = []
before k (j ∷ js) = elim (eqb j k) [ true ↦ [] | false ↦ j ∷ before k js ]

-- an instance is in a list
is_in : ℕ → List ℕ → Bool
is_in k [] = false
is_in k (j ∷ js) = eqb j k || is_in k js

-- a test holds of every one of these instances
for_all : (ℕ → Bool) → List ℕ → Bool
for_all f [] = true
for_all f (j ∷ js) = f j && for_all f js

-- a test that holds of all five holds of each
of_five : (f : ℕ → Bool) → for_all f instances ≡ true → (k : ℕ) → 1 ≤ k → k ≤ 5 → f k ≡ true
unfolding for_all
of_five f e zero a b = absurd (omega arith)
of_five f e (suc zero) a b = (and_true (f 1) _ e).0
of_five f e (suc (suc zero)) a b = (and_true (f 2) _ (and_true (f 1) _ e).1).0
of_five f e (suc (suc (suc zero))) a b = (and_true (f 3) _ (and_true (f 2) _ (and_true (f 1) _ e).1).1).0
of_five f e (suc (suc (suc (suc zero)))) a b = (and_true (f 4) _ (and_true (f 3) _ (and_true (f 2) _ (and_true (f 1) _ e).1).1).1).0
of_five f e (suc (suc (suc (suc (suc zero))))) a b = (and_true (f 5) _
    (and_true (f 4) _ (and_true (f 3) _ (and_true (f 2) _ (and_true (f 1) _ e).1).1).1).1).0
of_five f e (suc (suc (suc (suc (suc (suc k)))))) a b = absurd (omega arith)

-- if b stands between a and k, the instances from a to k are those from a to b, b, and those from b to k
ring_at : ℕ → ℕ → ℕ → Bool
ring_at a k b = not (is_in b (before k (following a))) || same (before k (following a)) (before b (following a) ++ (b ∷ before k (following b)))

-- so it is, for all 125 of them
ring_test : for_all (λ a. for_all (λ k. for_all (ring_at a k) instances) instances) instances ≡ true
unfolding for_all ring_at is_in before following same
ring_test = refl

-- each instance follows each, and stands in the whole round of another
round_at : ℕ → ℕ → Bool
round_at k a = is_in k (following a) && (eqb a k || is_in a (before k (following k)))

-- so it is, for all 25 of them
round_test : for_all (λ k. for_all (round_at k) instances) instances ≡ true
unfolding for_all round_at is_in before following
round_test = refl

-- the first of two tests does not hold, so the second does
second_of : (a b : Bool) → not a || b ≡ true → a ≡ true → b ≡ true
second_of true b e f = e
second_of false b e f = no_way (sym f)

-- the ring, as an equation
ring : (a k b : ℕ) → 1 ≤ a → a ≤ 5 → 1 ≤ k → k ≤ 5 → 1 ≤ b → b ≤ 5 → is_in b (before k (following a)) ≡ true
    → before k (following a) ≡ before b (following a) ++ (b ∷ before k (following b))
unfolding ring_at
ring a k b a1 a5 k1 k5 b1 b5 e =
    let t = of_five (ring_at a k) (of_five (λ x. for_all (ring_at a x) instances)
    (of_five (λ y. for_all (λ x. for_all (ring_at y x) instances) instances) ring_test a a1 a5) k k1 k5) b b1 b5 in
    same_eq _ _ (second_of (is_in b (before k (following a))) _ t e)

-- 2. Sums -----------------------------------------------------------------------------------------------------------------------------------

-- the sum over two runs of instances
sum_append : (m : ℕ → ℕ) (xs ys : List ℕ) → sum_of m (xs ++ ys) ≡ sum_of m xs + sum_of m ys
unfolding sum_of
sum_append m [] ys = omega arith
sum_append m (x ∷ xs) ys = omega (arith, sum_append m xs ys)

-- the sum over the instances in the whole round of k is that over the others
sum_round : (m : ℕ → ℕ) (k : ℕ) → 1 ≤ k → k ≤ 5 → sum_of m (before k (following k)) ≡ sum_of m (others k instances)
unfolding sum_of before following others
sum_round m zero a b = absurd (omega arith)
sum_round m (suc zero) a b = omega arith
sum_round m (suc (suc zero)) a b = omega arith
sum_round m (suc (suc (suc zero))) a b = omega arith
sum_round m (suc (suc (suc (suc zero)))) a b = omega arith
sum_round m (suc (suc (suc (suc (suc zero))))) a b = omega arith
sum_round m (suc (suc (suc (suc (suc (suc k)))))) a b = absurd (omega arith)

-- an instance between, and those after it, are part of those between
sum_part : (m : ℕ → ℕ) (a k b : ℕ) → 1 ≤ a → a ≤ 5 → 1 ≤ k → k ≤ 5 → 1 ≤ b → b ≤ 5 → is_in b (before k (following a)) ≡ true
    → m b + sum_of m (before k (following b)) ≤ sum_of m (before k (following a))
unfolding sum_of
sum_part m a k b a1 a5 k1 k5 b1 b5 e =
    rw (ring a k b a1 a5 k1 k5 b1 b5 e) (omega (arith, sum_append m (before b (following a)) (b ∷ before k (following b))))

-- 3. The turn passes on -----------------------------------------------------------------------------------------------------------------------

-- how long k waits, where turns last at most so long: the seconds left of this turn, and the turns of the instances between
unfoldable pub waiting : (ℕ → ℕ) → ℕ → Schedule → ℕ
waiting m k s = s.left + sum_of m (before k (following s.on_air))

-- no duration is longer
unfoldable pub Under : (ℕ → ℕ) → Schedule → Type 0
Under m s = (j : ℕ) → duration_of s j ≤ m j

-- instance k is there, in a schedule that keeps its rules with LE and power on, and another is on air
pub record Waits (k : ℕ) (s : Schedule) : Type 0 where
  pub ok : schedule_ok true true s ≡ true
  pub here : present s k ≡ true
  pub off : s.on_air ≡ k → ⊥

-- an instance that is there has a duration
has_duration : (s : Schedule) (k : ℕ) → present s k ≡ true → 1 ≤ duration_of s k
unfolding present
has_duration s k e = omega (arith, eqb-false (duration_of s k) 0 (not-true _ e))

-- an instance with a duration is 1 to 5
in_five : (s : Schedule) (k : ℕ) → schedule_ok true true s ≡ true → 1 ≤ duration_of s k → (1 ≤ k) × (k ≤ 5)
unfolding duration_of
in_five s k e d = let h = value_in s.durations k d in (h.0, omega (arith, h.1, equal (length s.durations) 5 (schedule_fit true true s e).five))

-- while k waits, some instance is on air: with seconds left, and no more than its duration
on_air_lem : (k : ℕ) (s : Schedule) → Waits k s → (1 ≤ s.left) × (s.left ≤ duration_of s s.on_air)
unfolding duration_of
on_air_lem k s h = go (turn_of true s (schedule_fit true true s h.ok).turn)
  where
    go : Turn true s → (1 ≤ s.left) × (s.left ≤ duration_of s s.on_air)
    go (runs w a b) = (a, b)
    go (rests z a b) = no_way (sym (not-false _ z) ∙ some_value k s.durations (has_duration s k h.here))

-- the first instance that is there stands before k, if it is not k
first_before : (s : Schedule) (k : ℕ) (l : List ℕ) → present s k ≡ true → is_in k l ≡ true → (first_present s l ≡ k → ⊥)
    → is_in (first_present s l) (before k l) ≡ true
unfolding is_in before first_present
first_before s k [] h e n = no_way (sym e)
first_before s k (j ∷ js) h e n = go (present s j) refl (eqb j k) refl e n (first_before s k js h)
  where
    go : (b : Bool) → present s j ≡ b → (c : Bool) → eqb j k ≡ c → c || is_in k js ≡ true → (elim b [ true ↦ j | false ↦ first_present s js ] ≡ k → ⊥)
        → (is_in k js ≡ true → (first_present s js ≡ k → ⊥) → is_in (first_present s js) (before k js) ≡ true)
        → is_in (elim b [ true ↦ j | false ↦ first_present s js ]) (elim c [ true ↦ [] | false ↦ j ∷ before k js ]) ≡ true
    go true eb true ec i m more = absurd (m (eqb-true j k ec))
    go true eb false ec i m more = rw (eq-eqb j j refl)
    go false eb true ec i m more = no_way (sym h ∙ (rw (eqb-true j k ec) at eb))
    go false eb false ec i m more = rw (more i m) (or_true (eqb j (first_present s js)))

-- after the turn passed on from a, k waits no longer than the turns of the instances between a and k
pass_wait : (m : ℕ → ℕ) (k a : ℕ) (u : Schedule) → 1 ≤ a → a ≤ 5 → Waits k (passed_on a u) → Under m (passed_on a u)
    → waiting m k (passed_on a u) ≤ sum_of m (before k (following a))
unfolding waiting passed_on turn_to Under present duration_of round_at
pass_wait m k a u a1 a5 h d =
    let t : Schedule = passed_on a u in
    let b : ℕ = first_present u (following a) in
    let l = on_air_lem k t h in
    let kk = in_five t k h.ok (has_duration t k h.here) in
    let bb = in_five t b h.ok (omega (arith, l.0, l.1)) in
    let r = of_five (round_at k) (of_five (λ x. for_all (round_at x) instances) round_test k kk.0 kk.1) a a1 a5 in
    let i : is_in b (before k (following a)) ≡ true = first_before u k (following a) h.here (and_true (is_in k (following a)) _ r).0 h.off in
    omega (arith, d b, sum_part m a k b a1 a5 kk.0 kk.1 bb.0 bb.1 i)

-- k waits at most for one turn of each other instance
pub waits_most : (m : ℕ → ℕ) (k : ℕ) (s : Schedule) → Waits k s → Under m s → waiting m k s ≤ sum_of m (others k instances)
unfolding waiting Under round_at
waits_most m k s h d =
    let a : ℕ = s.on_air in
    let l = on_air_lem k s h in
    let kk = in_five s k h.ok (has_duration s k h.here) in
    let aa = in_five s a h.ok (omega (arith, l.0, l.1)) in
    let r = of_five (round_at k) (of_five (λ x. for_all (round_at x) instances) round_test k kk.0 kk.1) a aa.0 aa.1 in
    let i : is_in a (before k (following k)) ≡ true = rw (ne_eqb a k h.off) at (and_true (is_in k (following a)) _ r).1 in
    omega (arith, l.1, d a, sum_part m k k a kk.0 kk.1 kk.0 kk.1 aa.0 aa.1 i, sum_round m k kk.0 kk.1)

-- while k waits, it waits at least a second
pub waits_least : (m : ℕ → ℕ) (k : ℕ) (s : Schedule) → Waits k s → 1 ≤ waiting m k s
unfolding waiting
waits_least m k s h = omega (arith, (on_air_lem k s h).0)

-- 4. A command: the turn is left alone, or passes on ----------------------------------------------------------------------------------------------

-- what a command does to the turn
pub data Moves (s t : Schedule) : Type 0 where
  -- it is left alone
  alone : t.on_air ≡ s.on_air → t.left ≡ s.left → Moves s t
  -- it passes on from the one on air, as the instances are afterwards
  on : (u : Schedule) → t ≡ passed_on s.on_air u → Moves s t

-- so k waits no longer than before
pub move_wait : (m : ℕ → ℕ) (k : ℕ) (s t : Schedule) → Waits k s → Waits k t → Under m t → Moves s t → waiting m k t ≤ waiting m k s
unfolding waiting
move_wait m k s t hs ht d (alone a b) = rw (a, b) (omega arith)
move_wait m k s t hs ht d (on u e) =
    let l = on_air_lem k s hs in
    let aa = in_five s s.on_air hs.ok (omega (arith, l.0, l.1)) in
    let w : waiting m k t ≤ sum_of m (before k (following s.on_air)) = rw e (pass_wait m k s.on_air u aa.0 aa.1 (rw e at ht) (rw e at d)) in
    omega (arith, w)

-- 5. Seconds --------------------------------------------------------------------------------------------------------------------------------

-- a second leaves the duration of an instance that is not on air
second_other : (s : Schedule) (k : ℕ) → (s.on_air ≡ k → ⊥) → duration_of (second s) k ≡ duration_of s k
unfolding second on_air_second passed_on turn_to counted without with_instance duration_of
second_other s k n =
    either (λ (t : Schedule). duration_of t k ≡ duration_of s k) (eqb s.on_air 0) (λ _. refl)
    (λ _. either (λ (t : Schedule). duration_of t k ≡ duration_of s k) (eqb (timeout_of s s.on_air) 1)
    (λ _. value_other s.on_air k 0 s.durations (λ e. n (sym e)))
    (λ _. either (λ (t : Schedule). duration_of t k ≡ duration_of s k) (eqb s.left 1) (λ _. refl) (λ _. refl)))

-- the turn has passed on, and this one had a second left
passed_less : (m : ℕ → ℕ) (k n : ℕ) (s : Schedule) → n ≤ sum_of m (before k (following s.on_air)) → 1 ≤ s.left → n + 1 ≤ waiting m k s
unfolding waiting
passed_less m k n s a b = omega arith

-- the turn goes on, a second shorter
counted_less : (m : ℕ → ℕ) (k : ℕ) (s : Schedule) → 1 ≤ s.left → waiting m k (counted s) + 1 ≤ waiting m k s
unfolding waiting counted
counted_less m k s a = omega arith

-- after a second, k waits one second less
second_wait : (m : ℕ → ℕ) (k : ℕ) (s : Schedule) → Waits k s → Waits k (second s) → Under m (second s) → waiting m k (second s) + 1 ≤ waiting m k s
unfolding second on_air_second
second_wait m k s h =
    let a : ℕ = s.on_air in
    let l = on_air_lem k s h in
    let aa = in_five s a h.ok (omega (arith, l.0, l.1)) in
    either Less (eqb a 0) (λ z. absurd (omega (arith, eqb-true a 0 z, aa.0)))
    (λ _. either Less (eqb (timeout_of s a) 1) (λ _ ht d. passed_less m k _ s (pass_wait m k a (without a s) aa.0 aa.1 ht d) l.0)
    (λ _. either Less (eqb s.left 1) (λ _ ht d. passed_less m k _ s (pass_wait m k a (counted s) aa.0 aa.1 ht d) l.0)
    (λ _ ht d. counted_less m k s l.0)))
  where
    Less : Schedule → Type 0
    Less t = Waits k t → Under m t → waiting m k t + 1 ≤ waiting m k s

-- no duration of any of these schedules is longer
pub data AllUnder (m : ℕ → ℕ) : List Schedule → Type 0 where
  -- of none at all
  no_more : AllUnder m []
  -- of one, before others
  one_more : {s : Schedule} {ss : List Schedule} → Under m s → AllUnder m ss → AllUnder m (s ∷ ss)

-- k still waits after a second that does not bring it on air
still_waits : (k : ℕ) (s : Schedule) → Waits k s → not (eqb (second s).on_air k) ≡ true → Waits k (second s)
unfolding present
still_waits k s h n = record { ok = second_ok true true s h.ok; here = rw (second_other s k h.off) h.here; off = eqb-false _ _ (not-true _ n) }

-- after n seconds that do not bring it on air k still waits, and n seconds less
pub seconds_wait : (m : ℕ → ℕ) (k n : ℕ) (s : Schedule) → Waits k s → off_air k (each n s) ≡ true → AllUnder m (each n s) → Waits k (seconds n s)
    × (waiting m k (seconds n s) + n ≤ waiting m k s)
unfolding each off_air seconds
seconds_wait m k zero s h o d = (h, omega arith)
seconds_wait m k (suc n) s h o (one_more d ds) =
    let a = and_true (not (eqb (second s).on_air k)) _ o in
    let w = still_waits k s h a.0 in
    let r = seconds_wait m k n (second s) w a.1 ds in
    (r.0, omega (arith, second_wait m k s h w d, r.1))
