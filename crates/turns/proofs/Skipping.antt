-- The rounds that can be skipped, and what is true once they are: another one does not fit, or an instance goes in it.
use mathlib.Core.Path.{◌≡◌, refl, sym, ap}
use mathlib.Core.Logic.{◌⊎◌, inl, inr, ⊎_elim}
use mathlib.Core.Bool.{Bool, true, false}
use Prim.Native.Nat.{ℕ, zero, suc, ◌-◌, ◌*◌, ◌/◌, ◌≤◌, ◌<◌}
use native.Mathlib.Nat.{div-mul-le_self, lt-div-mul-add, mul-le-mul_right, eq-or-lt_of_le}
use native.Mathlib.Omega.{arith}
use mathlib.Core.List.{List}
use lib.ListN.{length, get_or-eq_default}
use lib.Dec.{ltb}
use borrow.Author.Tests.{ltb-true, ltb-false}
use Rattle.model.specs.declared.Schedule.{Schedule}
use Rattle.model.specs.Advertising.{duration_of, value_of}
use Rattle.model.specs.Fairness.{sum_of}
use Rattle.turns.specs.Walk.{Sound, Stays, Rounds, whole, falls, Fresh, Capped, Most, Skipped}
use Rattle.turns.proofs.Ring.{five}
use Rattle.turns.proofs.Seconds.{state, begun, begun_here}
use Rattle.turns.proofs.Rounds.{value_falls, rounds}
use Rattle.turns.proofs.Sound.{facts, here}
use Rattle.turns.proofs.Turns.{pending}

-- All five: the least of five most ------------------------------------------------------------------------------------------------------------

-- less, or not
less_or : (j k : ℕ) → (j < k) ⊎ (k ≤ j)
less_or j k = go (ltb j k) refl
  where
    go : (b : Bool) → ltb j k ≡ b → (j < k) ⊎ (k ≤ j)
    go true e = inl (ltb-true j k e)
    go false e = inr (ltb-false j k e)

-- fewer rounds leave it there too
stays_fewer : (q r d t : ℕ) → q ≤ r → Stays (r * d) t → Stays (q * d) t
stays_fewer q r d t h s = let m = mul-le-mul_right d h in ⊎_elim (λ z. inl z) (λ l. inr (omega arith)) s

-- one that goes in the next round
stops : (d t r : ℕ) → (0 < t) × (t ≤ suc r * d) → Stays (suc r * d) t → ⊥
stops d t r g s = ⊎_elim (λ z. omega arith) (λ l. omega arith) s

-- the instances up to i are looked at
pub record Upto (i : ℕ) (ds ts : List ℕ) (m r : ℕ) : Type 0 where
  most : r ≤ m
  stays : (k : ℕ) → k ≤ i → Stays (r * value_of ds k) (value_of ts k)
  tight : (r ≡ m) ⊎ (Rounds (suc r) ds ts → ⊥)

-- none is looked at
pub upto_none : (ds ts : List ℕ) (m : ℕ) → Upto 0 ds ts m m
unfolding value_of
upto_none ds ts m = record { most = omega arith; stays = λ k h. (let e : k ≡ 0 = omega arith in rw e (inl refl)); tight = inl refl }

-- one more
pub upto_more : (i : ℕ) (ds ts : List ℕ) (m q r : ℕ) → Upto i ds ts m q → Capped (value_of ds (suc i)) (value_of ts (suc i)) q r → Upto (suc i) ds ts m r
upto_more i ds ts m q r u c = record {
  most = let a = u.most in let b = c.most in omega arith;
  stays = λ k h. ⊎_elim (λ e. rw e c.stays) (λ n. stays_fewer r q (value_of ds k) (value_of ts k) c.most (u.stays k (omega arith))) (eq-or-lt_of_le h);
  tight = ⊎_elim (λ e. rw e u.tight) (λ g. inr (λ s. stops (value_of ds (suc i)) (value_of ts (suc i)) r g (s (suc i)))) c.tight;
}

-- all five: there are no others
pub most_of : (i : ℕ) (ds ts : List ℕ) (m r : ℕ) → 5 ≤ i → length ts ≡ 5 → Upto i ds ts m r → Most ds ts m r
unfolding value_of
most_of i ds ts m r f l u = record {
  most = u.most;
  stays = λ k. ⊎_elim (λ h. u.stays k (omega arith)) (λ h. inl (beyond k h)) (less_or k 6);
  tight = u.tight;
}
  where
    beyond : (k : ℕ) → 6 ≤ k → value_of ts k ≡ 0
    beyond zero h = refl
    beyond (suc k) h = get_or-eq_default ts 0 (omega arith)

-- Skipping ------------------------------------------------------------------------------------------------------------------------------------

-- a duration is part of the round
whole_part : (ds : List ℕ) (p : ℕ) → p < 5 → value_of ds (suc p) ≤ whole ds
unfolding whole sum_of
whole_part ds = five (λ p. value_of ds (suc p) ≤ whole ds) (omega arith) (omega arith) (omega arith) (omega arith) (omega arith)

-- where a turn begins, the one on air is the first from its place on that is there
pub as_begun : (s : Schedule) → Sound s → 0 < s.on_air → Fresh s → (ts : List ℕ)
    → begun s.durations ts (s.on_air - 1) ≡ state s.durations ts s.on_air s.left
unfolding duration_of
as_begun s v h f ts =
    let e : suc (s.on_air - 1) ≡ s.on_air = omega arith in
    let b : s.on_air - 1 < 5 = let m = (facts s v).one in omega arith in
    let q : 0 < value_of s.durations (suc (s.on_air - 1)) = rw e (here s v h) in
    rw (begun_here s.durations ts (s.on_air - 1) b q, e, f)

module _ (s : Schedule) (n r : ℕ) (sound : Sound s) (airs : 0 < s.on_air) (fresh : Fresh s) where
  -- the seconds of a round
  abbrev w : ℕ
  w = whole s.durations

  -- there are some
  pub whole_some : 0 < w
  whole_some =
      let m = (facts s sound).one in
      let e : suc (s.on_air - 1) ≡ s.on_air = omega arith in
      let h : value_of s.durations s.on_air ≤ w = rw e at (whole_part s.durations (s.on_air - 1) (omega arith)) in
      let p = here s sound airs in
      omega arith

  -- rounds that fit into the seconds
  pub rounds_fit : r ≤ n / w → r * w ≤ n
  rounds_fit h =
      let a = mul-le-mul_right w h in
      let b = div-mul-le_self n w in
      omega arith

  -- the most rounds are skipped
  pub skipped : Most s.durations s.timeouts (n / w) r
      → Skipped (pending s n) (pending (state s.durations (falls r s.durations s.timeouts) s.on_air s.left) (n - r * w))
  unfolding duration_of
  skipped h =
      let v = facts s sound in
      let f : r * w ≤ n = rounds_fit h.most in
      let d : n - (n - r * w) ≡ r * w = omega arith in
      let b : s.on_air - 1 < 5 = let m = v.one in omega arith in
      let e = rounds r s.durations s.timeouts v.five_durations v.five_timeouts (s.on_air - 1) b h.stays in
      let g = rw (as_begun s sound airs fresh s.timeouts, as_begun s sound airs fresh (falls r s.durations s.timeouts)) at e in
      record {
        reached = record { fits = omega arith; met = rw d (sym g); fewer = omega arith };
        same = refl;
        fresh = fresh;
        blocked = λ l q. ⊎_elim
            (λ z. (let y : r * w ≡ n / w * w = ap (λ (x : ℕ). x * w) z in let x = lt-div-mul-add {a = n} whole_some in omega arith))
            (λ none. none (λ k. again (value_of s.durations k) (value_of s.timeouts k) (h.stays k)
            (rw (value_falls r s.durations s.timeouts v.five_timeouts k) at (q k))))
            h.tight;
      }
    where
      again : (d t : ℕ) → Stays (r * d) t → Stays (1 * d) (t - r * d) → Stays (suc r * d) t
      again d t (inl z) q = inl z
      again d t (inr l) (inl z) = absurd (omega arith)
      again d t (inr l) (inr m) = inr (omega arith)
