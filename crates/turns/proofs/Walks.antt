-- One round walked place by place: at its end no seconds are left, or an instance went. For if none goes, the places walked take their
-- durations, so that what is left of the round stays too much for the seconds that are left (`Short`), down to a rest of no places, which is
-- never too much. So at most six rounds are walked.
use mathlib.Core.Path.{◌≡◌, refl, sym, ap, ◌∙◌}
use mathlib.Core.Logic.{◌⊎◌, inl, inr, ⊎_elim}
use Prim.Native.Nat.{ℕ, suc, ◌+◌, ◌-◌, ◌≤◌, ◌<◌, min}
use native.Mathlib.Nat.{eq-zero-or-pos}
use native.Mathlib.Omega.{arith}
use mathlib.Core.List.{List, ◌∷◌}
use lib.ListN.{take}
use Rattle.model.specs.declared.Schedule.{Schedule}
use Rattle.model.specs.Advertising.{duration_of, following, passed_on, timeout_of, turn_to, value_of, with_value}
use Rattle.model.specs.Fairness.{sum_of}
use Rattle.turns.specs.declared.Pending.{Pending}
use Rattle.turns.specs.Ring.{next}
use Rattle.turns.specs.Walk.{Sound, count, Reached, Fresh, gone, Passed, Placed, Blocked, Skipped, Walked}
use Rattle.turns.proofs.Values.{with_same}
use Rattle.turns.proofs.Ring.{next_below, take_ring}
use Rattle.turns.proofs.Seconds.{seconds_rest, begun, begun_here, begun_past, begun_next}
use Rattle.turns.proofs.Rounds.{AllStay, sum_ring, ring_stay, count_gone, count_most}
use Rattle.turns.proofs.Sound.{facts, here}
use Rattle.turns.proofs.Turns.{pending, gone_begun, passed_on_begun, begun_fresh, reached_none, reached_on}
use Rattle.turns.proofs.Skipping.{as_begun}

-- Walking one round: c places are left, from place p on ----------------------------------------------------------------------------------------

-- another part of a round, the instances ks, does not fit, or one goes in it
abbrev Short : Pending → List ℕ → Type 0
Short v ks = sum_of (value_of v.schedule.durations) ks ≤ v.seconds → AllStay v.schedule.durations v.schedule.timeouts ks → ⊥

-- a turn begins, with the first instance from place p on that is there; one went, or what is left of the round is too much
record Midway (w v : Pending) (c p : ℕ) : Type 0 where
  begins : v.schedule ≡ begun v.schedule.durations v.schedule.timeouts p
  went : (count v.schedule.durations < count w.schedule.durations) ⊎ Short v (take c (following p))

-- the loop's invariant: no seconds are left, or the walk is midway
pub record Walking (w v : Pending) (c p : ℕ) : Type 0 where
  pub place : p < 5
  pub places : c ≤ 5
  pub reached : Reached w v
  how : (v.seconds ≡ 0) ⊎ Midway w v c p

-- the walk begins with the one on air
pub walk_starts : (w : Pending) → Sound w.schedule → 0 < w.schedule.on_air → Fresh w.schedule → Blocked w → Walking w w 5 (w.schedule.on_air - 1)
walk_starts w sound h f b =
    let v = facts w.schedule sound in
    let m : w.schedule.on_air - 1 < 5 = let x = v.one in omega arith in
    record {
      place = m;
      places = omega arith;
      reached = reached_none w;
      how = inr (record {
        begins = sym (as_begun w.schedule sound h f w.schedule.timeouts);
        went = inr (λ s a. b (rw (sum_ring w.schedule.durations v.five_durations (w.schedule.on_air - 1) m) at s)
            (ring_stay w.schedule.durations w.schedule.timeouts v.five_durations v.five_timeouts (w.schedule.on_air - 1) m a));
      });
    }

-- no places are left: no seconds are, or one went
pub walk_ends : (w v : Pending) (c p : ℕ) → Walking w v c p → c ≤ 0 → Walked w v
unfolding sum_of
walk_ends w v c p k h =
    let z : c ≡ 0 = omega arith in
    record {
      reached = k.reached;
      how = ⊎_elim (λ e. inl e)
          (λ m. ⊎_elim (λ l. inr (l, begun_fresh _ _ _ p m.begins)) (λ s. absurd ((rw z at s) (omega arith) tt)) m.went)
          k.how;
    }

-- the next instance of the round
module _ (c p : ℕ) (some_left : 0 < c) (most : c ≤ 5) (below : p < 5) where
  -- it stands before the others that are left
  take_next : take c (following p) ≡ suc p ∷ take (c - 1) (following (next p))
  take_next =
      let b : c - 1 < 5 = omega arith in
      let e : suc (c - 1) ≡ c = omega arith in
      rw e at (take_ring (c - 1) b p below)

  -- where another one is on air it is absent
  not_here : (w v : Pending) → (v.schedule.on_air ≡ suc p → ⊥) → Midway w v c p → value_of v.schedule.durations (suc p) ≡ 0
  not_here w v n m =
      ⊎_elim (λ e. e)
      (λ d. absurd (n (ap (λ (x : Schedule). x.on_air) (m.begins ∙ begun_here v.schedule.durations v.schedule.timeouts p below d))))
      (eq-zero-or-pos (value_of v.schedule.durations (suc p)))

  -- it is absent
  walk_past : (w v : Pending) → (v.schedule.on_air ≡ suc p → ⊥) → Midway w v c p → Midway w v (c - 1) (next p)
  unfolding sum_of
  walk_past w v n m =
      let z : value_of v.schedule.durations (suc p) ≡ 0 = not_here w v n m in
      let t : value_of v.schedule.timeouts (suc p) - 0 ≡ value_of v.schedule.timeouts (suc p) = omega arith in
      record {
        begins = m.begins ∙ begun_past v.schedule.durations v.schedule.timeouts p below z;
        went = ⊎_elim (λ l. inl l)
            (λ s. inr (λ a b. (rw (take_next, z) at s) (omega arith) (eq-zero-or-pos (value_of v.schedule.timeouts (suc p)), rw (t, with_same) b)))
            m.went;
      }

  -- it goes
  walk_gone : (w v u : Pending) → Sound v.schedule → v.schedule.on_air ≡ suc p → Reached w v → u.schedule ≡ gone v.schedule
      → Midway w u (c - 1) (next p)
  unfolding begun passed_on turn_to
  walk_gone w v u a o r e =
      let ds : List ℕ = v.schedule.durations in
      let h : count (with_value ds v.schedule.on_air 0) < count ds = count_gone ds v.schedule.on_air (here v.schedule a (omega arith)) in
      let k = r.fewer in
      let f = e ∙ gone_begun v.schedule in
      record {
        begins = begun_next _ _ _ _ p below o f;
        went = inl (rw f (omega arith));
      }

  -- it stays
  walk_passed : (w v u : Pending) → v.schedule.on_air ≡ suc p → Midway w v c p → Passed v u → Midway w u (c - 1) (next p)
  unfolding begun passed_on turn_to sum_of duration_of timeout_of
  walk_passed w v u o m q =
      let e = q.now ∙ passed_on_begun v.schedule in
      let l : v.schedule.left ≡ value_of v.schedule.durations (suc p) = rw o at (begun_fresh v.schedule _ _ p m.begins) in
      let took = q.took in
      record {
        begins = begun_next _ _ _ _ p below o e;
        went = ⊎_elim (λ h. inl (rw e h)) (λ s. inr (rw e (λ a b. (rw take_next at s) (omega arith) (rw (l, o) at q.stays, rw (l, o) at b)))) m.went;
      }

-- one place on
pub walk_goes_on : (w v u : Pending) (c p q : ℕ) → Sound v.schedule → Walking w v c p → 0 < c → Placed v p u → q ≡ next p → Walking w u (c - 1) q
walk_goes_on w v u c p q a k h (inr x) e =
    rw (x.1, e)
    (record {
      place = next_below p k.place;
      places = let y = k.places in omega arith;
      reached = k.reached;
      how = ⊎_elim (λ z. inl z) (λ m. inr (walk_past c p h k.places k.place w v x.0 m)) k.how;
    })
walk_goes_on w v u c p q a k h (inl x) e =
    let f : u.seconds ≤ v.seconds = x.1.reached.fits in
    rw e
    (record {
      place = next_below p k.place;
      places = let y = k.places in omega arith;
      reached = reached_on w v u k.reached x.1.reached;
      how =
          ⊎_elim (λ z. inl z)
          (λ g. ⊎_elim
          (λ d. inr (walk_gone c p h k.places k.place w v u a x.0 k.reached d))
          (λ d. ⊎_elim (λ z. inl (omega arith)) (λ m. inr (walk_passed c p h k.places k.place w v u x.0 m d)) k.how) g)
          x.1.how;
    })

-- Round by round ------------------------------------------------------------------------------------------------------------------------------

-- none is on air: the seconds that are left change nothing
pub round_rests : (s : Schedule) (n : ℕ) → s.on_air ≡ 0 → Walked (pending s n) (pending s 0)
round_rests s n e =
    record { reached = record { fits = omega arith; met = sym (seconds_rest (n - 0) s e); fewer = omega arith }; how = inl refl }

-- rounds skipped, and one walked
pub round_goes_on : (w v u : Pending) → Skipped w v → Walked v u → Walked w u
round_goes_on w v u s n = record {
  reached = reached_on w v u s.reached n.reached;
  how = ⊎_elim (λ z. inl z) (λ h. inr (let f = s.reached.fewer in let g = h.0 in omega arith, h.1)) n.how;
}

-- how many rounds are walked at most: one for each instance that is there, and one more
unfoldable pub rest : Pending → ℕ
rest w = min w.seconds 1 + count w.schedule.durations

-- at most six
pub rest_most : (w : Pending) → Sound w.schedule → rest w ≤ 6
unfolding rest
rest_most w v = let c = count_most w.schedule.durations in let l = (facts w.schedule v).five_durations in omega arith

-- each one that is walked leaves one fewer
pub walked_less : (w v : Pending) → (w.seconds ≡ 0 → ⊥) → Walked w v → rest v < rest w
unfolding rest
walked_less w v h n = let f = n.reached.fewer in ⊎_elim (λ z. omega arith) (λ l. (let g = l.0 in omega arith)) n.how

-- where none are left, no seconds are
pub rest_none : (w : Pending) → rest w ≤ 0 → w.seconds ≤ 0
unfolding rest
rest_none w h = omega arith

-- a turn begins after a round, unless no seconds are left
pub walked_fresh : (w v : Pending) → Walked w v → (v.seconds ≡ 0) ⊎ Fresh v.schedule
walked_fresh w v n = ⊎_elim (λ z. inl z) (λ l. inr l.1) n.how

-- seconds are left
pub fresh_now : (v : Pending) → (v.seconds ≡ 0 → ⊥) → (v.seconds ≡ 0) ⊎ Fresh v.schedule → Fresh v.schedule
fresh_now v h f = ⊎_elim (λ z. absurd (h z)) (λ e. e) f
