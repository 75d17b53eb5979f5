-- Whole rounds: each instance that is there is on air for its duration, and the schedule is as it was, with the timeouts fallen.
use mathlib.Core.Path.{◌≡◌, refl}
use mathlib.Core.Logic.{inl, inr, ⊎_elim}
use Prim.Native.Nat.{ℕ, zero, suc, ◌+◌, ◌-◌, ◌*◌, ◌≤◌, ◌<◌}
use native.Mathlib.Omega.{arith}
use mathlib.Core.List.{List, [], ◌∷◌}
use lib.ListN.{length, take}
use Rattle.model.specs.Advertising.{following, seconds, value_of, with_value}
use Rattle.model.specs.Fairness.{sum_of}
use Rattle.model.proofs.Model.Tests.{Five, five as each_of, five_of}
use Rattle.turns.specs.Ring.{next}
use Rattle.turns.specs.Walk.{Stays, Rounds, whole, later, falls, count}
use Rattle.turns.proofs.Values.{with_same, length_with}
use Rattle.turns.proofs.Ring.{five, next_below, take_ring}
use Rattle.turns.proofs.Seconds.{seconds_add, begun, begun_suc, begun_past, begun_here, passes}

-- the turn of place p, if it has one, takes its duration, and the turn passes on
place : (ds ts : List ℕ) (p : ℕ) → p < 5 → length ts ≡ 5 → Stays (value_of ds (suc p)) (value_of ts (suc p))
    → seconds (value_of ds (suc p)) (begun ds ts p) ≡ begun ds (with_value ts (suc p) (value_of ts (suc p) - value_of ds (suc p))) (next p)
unfolding seconds
place ds ts p h l s = go (value_of ds (suc p)) refl
  where
    go : (d : ℕ) → value_of ds (suc p) ≡ d
        → seconds (value_of ds (suc p)) (begun ds ts p) ≡ begun ds (with_value ts (suc p) (value_of ts (suc p) - value_of ds (suc p))) (next p)
    go zero e =
        let z : value_of ts (suc p) - 0 ≡ value_of ts (suc p) = omega arith in
        rw (e, z, with_same) (begun_past ds ts p h e)
    go (suc d) e =
        let b : suc p ≤ length ts = omega arith in
        let s1 : Stays (suc d) (value_of ts (suc p)) = rw e at s in
        rw (begun_here ds ts p h (omega arith), e, ← begun_suc ds (with_value ts (suc p) (value_of ts (suc p) - suc d)) p h)
        (passes d ds ts (suc p) (omega arith) b s1)

-- A part of a round: the instances ks, one after the other ---------------------------------------------------------------------------------------

-- none of them goes in its turn
abbrev pub AllStay : List ℕ → List ℕ → List ℕ → Type 0
AllStay ds ts [] = Unit {0}
AllStay ds ts (k ∷ ks) = Stays (value_of ds k) (value_of ts k) × AllStay ds (with_value ts k (value_of ts k - value_of ds k)) ks

-- the timeouts after their turns
unfoldable fallen : List ℕ → List ℕ → List ℕ → List ℕ
fallen ds ts [] = ts
fallen ds ts (k ∷ ks) = fallen ds (with_value ts k (value_of ts k - value_of ds k)) ks

-- the place c places on
unfoldable nexts : ℕ → ℕ → ℕ
nexts zero p = p
nexts (suc c) p = nexts c (next p)

-- c places take the durations of their instances
part : (c : ℕ) → c ≤ 5 → (ds ts : List ℕ) (p : ℕ) → p < 5 → length ts ≡ 5 → AllStay ds ts (take c (following p))
    → seconds (sum_of (value_of ds) (take c (following p))) (begun ds ts p) ≡ begun ds (fallen ds ts (take c (following p))) (nexts c p)
unfolding seconds sum_of fallen nexts
part zero h ds ts p b l s = refl
part (suc c) h ds ts p b l s =
    let s1 : AllStay ds ts (suc p ∷ take c (following (next p))) = rw (take_ring c h p b) at s in
    let l1 : length (with_value ts (suc p) (value_of ts (suc p) - value_of ds (suc p))) ≡ 5 = rw length_with l in
    rw (take_ring c h p b, seconds_add, place ds ts p b l s1.0)
    (part c (omega arith) ds (with_value ts (suc p) (value_of ts (suc p) - value_of ds (suc p))) (next p) (next_below p b) l1 s1.1)

-- A whole round, and r rounds ------------------------------------------------------------------------------------------------------------------

-- once
one-mul : (d : ℕ) → 1 * d ≡ d
one-mul d = omega arith

-- a round in which it stays
stays_one : (d t : ℕ) → Stays (1 * d) t → Stays d t
stays_one d t s = rw one-mul at s

-- and back
one_stays : (d t : ℕ) → Stays d t → Stays (1 * d) t
one_stays d t s = rw one-mul s

-- the durations of five places, from any on, are those of a whole round
pub sum_ring : (ds : List ℕ) → length ds ≡ 5 → (p : ℕ) → p < 5 → sum_of (value_of ds) (take 5 (following p)) ≡ whole ds
unfolding whole sum_of value_of following
sum_ring ds l = go (five_of ds l)
  where
    go : Five ds → (p : ℕ) → p < 5 → sum_of (value_of ds) (take 5 (following p)) ≡ whole ds
    go f = five (λ p. sum_of (value_of ds) (take 5 (following p)) ≡ whole ds) (omega arith) (omega arith) (omega arith) (omega arith) (omega arith)

-- the timeouts after five places are those after a round
fallen_ring : (ds ts : List ℕ) → length ds ≡ 5 → length ts ≡ 5 → (p : ℕ) → p < 5 → fallen ds ts (take 5 (following p)) ≡ falls 1 ds ts
unfolding fallen falls later value_of with_value following
fallen_ring ds ts l m = go (five_of ds l) (five_of ts m)
  where
    go : {ds ts : List ℕ} → Five ds → Five ts → (p : ℕ) → p < 5 → fallen ds ts (take 5 (following p)) ≡ falls 1 ds ts
    go (each_of a b c d e) (each_of t u v w x) = five _ (simp one-mul) (simp one-mul) (simp one-mul) (simp one-mul) (simp one-mul)

-- no instance goes in a round: none does in five places, from any on
stay_ring : (ds ts : List ℕ) → length ds ≡ 5 → length ts ≡ 5 → Rounds 1 ds ts → (p : ℕ) → p < 5 → AllStay ds ts (take 5 (following p))
unfolding value_of with_value following
stay_ring ds ts l m = go (five_of ds l) (five_of ts m)
  where
    go : {ds ts : List ℕ} → Five ds → Five ts → Rounds 1 ds ts → (p : ℕ) → p < 5 → AllStay ds ts (take 5 (following p))
    go (each_of a b c d e) (each_of t u v w x) s =
        let s1 = stays_one a t (s 1) in
        let s2 = stays_one b u (s 2) in
        let s3 = stays_one c v (s 3) in
        let s4 = stays_one d w (s 4) in
        let s5 = stays_one e x (s 5) in
        five _ (s1, (s2, (s3, (s4, (s5, tt))))) (s2, (s3, (s4, (s5, (s1, tt))))) (s3, (s4, (s5, (s1, (s2, tt)))))
        (s4, (s5, (s1, (s2, (s3, tt))))) (s5, (s1, (s2, (s3, (s4, tt)))))

-- and back
pub ring_stay : (ds ts : List ℕ) → length ds ≡ 5 → length ts ≡ 5 → (p : ℕ) → p < 5 → AllStay ds ts (take 5 (following p)) → Rounds 1 ds ts
unfolding value_of with_value following
ring_stay ds ts l m = go (five_of ds l) (five_of ts m)
  where
    each : (a b c d e t u v w x : ℕ) → Stays a t → Stays b u → Stays c v → Stays d w → Stays e x
        → Rounds 1 (a ∷ b ∷ c ∷ d ∷ e ∷ []) (t ∷ u ∷ v ∷ w ∷ x ∷ [])
    each a b c d e t u v w x s1 s2 s3 s4 s5 zero = inl refl
    each a b c d e t u v w x s1 s2 s3 s4 s5 (suc zero) = one_stays a t s1
    each a b c d e t u v w x s1 s2 s3 s4 s5 (suc (suc zero)) = one_stays b u s2
    each a b c d e t u v w x s1 s2 s3 s4 s5 (suc (suc (suc zero))) = one_stays c v s3
    each a b c d e t u v w x s1 s2 s3 s4 s5 (suc (suc (suc (suc zero)))) = one_stays d w s4
    each a b c d e t u v w x s1 s2 s3 s4 s5 (suc (suc (suc (suc (suc zero))))) = one_stays e x s5
    each a b c d e t u v w x s1 s2 s3 s4 s5 (suc (suc (suc (suc (suc (suc k)))))) = inl refl

    go : {ds ts : List ℕ} → Five ds → Five ts → (p : ℕ) → p < 5 → AllStay ds ts (take 5 (following p)) → Rounds 1 ds ts
    go (each_of a b c d e) (each_of t u v w x) =
        five _
        (λ s. each a b c d e t u v w x s.0 s.1.0 s.1.1.0 s.1.1.1.0 s.1.1.1.1.0)
        (λ s. each a b c d e t u v w x s.1.1.1.1.0 s.0 s.1.0 s.1.1.0 s.1.1.1.0)
        (λ s. each a b c d e t u v w x s.1.1.1.0 s.1.1.1.1.0 s.0 s.1.0 s.1.1.0)
        (λ s. each a b c d e t u v w x s.1.1.0 s.1.1.1.0 s.1.1.1.1.0 s.0 s.1.0)
        (λ s. each a b c d e t u v w x s.1.0 s.1.1.0 s.1.1.1.0 s.1.1.1.1.0 s.0)

-- five places on is the place itself
nexts_five : (p : ℕ) → p < 5 → nexts 5 p ≡ p
unfolding nexts next
nexts_five = five (λ p. nexts 5 p ≡ p) refl refl refl refl refl

-- one round
round : (ds ts : List ℕ) → length ds ≡ 5 → length ts ≡ 5 → (p : ℕ) → p < 5 → Rounds 1 ds ts
    → seconds (whole ds) (begun ds ts p) ≡ begun ds (falls 1 ds ts) p
round ds ts l m p h s =
    let e = part 5 (omega arith) ds ts p h m (stay_ring ds ts l m s p h) in
    rw (sum_ring ds l p h, fallen_ring ds ts l m p h, nexts_five p h) at e

-- the timeout of one instance after r rounds
pub value_falls : (r : ℕ) (ds ts : List ℕ) → length ts ≡ 5 → (k : ℕ) → value_of (falls r ds ts) k ≡ value_of ts k - r * value_of ds k
unfolding value_of falls later
value_falls r ds ts l = go (five_of ts l)
  where
    go : {ts : List ℕ} → Five ts → (k : ℕ) → value_of (falls r ds ts) k ≡ value_of ts k - r * value_of ds k
    go (each_of t u v w x) zero = omega arith
    go (each_of t u v w x) (suc zero) = refl
    go (each_of t u v w x) (suc (suc zero)) = refl
    go (each_of t u v w x) (suc (suc (suc zero))) = refl
    go (each_of t u v w x) (suc (suc (suc (suc zero)))) = refl
    go (each_of t u v w x) (suc (suc (suc (suc (suc zero))))) = refl
    go (each_of t u v w x) (suc (suc (suc (suc (suc (suc k)))))) = omega arith

-- as many as before
length_falls : (r : ℕ) (ds ts : List ℕ) → length (falls r ds ts) ≡ 5
unfolding falls later
length_falls r ds ts = refl

-- none
falls_none : (ds ts : List ℕ) → length ts ≡ 5 → falls 0 ds ts ≡ ts
unfolding falls later value_of
falls_none ds ts l = go (five_of ts l)
  where
    none : (t d : ℕ) → t - 0 * d ≡ t
    none t d = omega arith

    go : {ts : List ℕ} → Five ts → falls 0 ds ts ≡ ts
    go (each_of t u v w x) = simp none

-- one, and r more
falls_more : (r : ℕ) (ds ts : List ℕ) → falls r ds (falls 1 ds ts) ≡ falls (suc r) ds ts
unfolding falls later value_of
falls_more r ds ts = simp more
  where
    more : (t d : ℕ) → t - 1 * d - r * d ≡ t - suc r * d
    more t d = omega arith

-- R ROUNDS IN WHICH NO INSTANCE GOES
pub rounds : (r : ℕ) (ds ts : List ℕ) → length ds ≡ 5 → length ts ≡ 5 → (p : ℕ) → p < 5 → Rounds r ds ts
    → seconds (r * whole ds) (begun ds ts p) ≡ begun ds (falls r ds ts) p
unfolding seconds
rounds zero ds ts l m p h s =
    let e : 0 * whole ds ≡ 0 = omega arith in
    rw (e, falls_none ds ts m)
rounds (suc r) ds ts l m p h s =
    let e : suc r * whole ds ≡ whole ds + r * whole ds = omega arith in
    rw (e, seconds_add, round ds ts l m p h (λ k. first_one (value_of ds k) (value_of ts k) (s k)), ← falls_more r ds ts)
    (rounds r ds (falls 1 ds ts) l (length_falls 1 ds ts) p h (λ k. rw (value_falls 1 ds ts m k) (others (value_of ds k) (value_of ts k) (s k))))
  where
    first_one : (d t : ℕ) → Stays (suc r * d) t → Stays (1 * d) t
    first_one d t s = ⊎_elim (λ z. inl z) (λ q. inr (omega arith)) s

    others : (d t : ℕ) → Stays (suc r * d) t → Stays (r * d) (t - 1 * d)
    others d t s = ⊎_elim (λ z. inl (omega arith)) (λ q. inr (omega arith)) s

-- How many are there --------------------------------------------------------------------------------------------------------------------------

-- no more than there are places
pub count_most : (ds : List ℕ) → count ds ≤ length ds
unfolding count
count_most [] = omega arith
count_most (d ∷ ds) = let h = count_most ds in omega arith

-- one fewer where one goes
pub count_gone : (ds : List ℕ) (k : ℕ) → 0 < value_of ds k → count (with_value ds k 0) < count ds
unfolding count value_of with_value
count_gone ds zero h = absurd (omega arith)
count_gone [] (suc i) h = absurd (omega arith)
count_gone (d ∷ ds) (suc zero) h = omega arith
count_gone (d ∷ ds) (suc (suc i)) h = let r : count (with_value ds (suc i) 0) < count ds = count_gone ds (suc i) h in omega arith
