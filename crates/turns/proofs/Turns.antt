-- One turn: one law for each way out of it, and turns on turns.
use mathlib.Core.Path.{◌≡◌, refl, sym, ap, ◌∙◌, subst}
use mathlib.Core.Logic.{◌⊎◌, inl, inr, ⊎_elim}
use mathlib.Core.Bool.{Bool, true, false}
use Prim.Native.Nat.{ℕ, zero, suc, ◌+◌, ◌-◌, ◌≤◌, ◌<◌}
use native.Mathlib.Omega.{arith}
use mathlib.Core.List.{List}
use Rattle.model.specs.declared.Schedule.{Schedule}
use Rattle.model.specs.Advertising.{duration_of, passed_on, seconds, timeout_of, turn_to, value_of, with_instance, with_value, without}
use Rattle.turns.specs.declared.Pending.{Pending}
use Rattle.turns.specs.Walk.{Sound, Stays, Goes, aired, gone, passed, count, Reached, Fresh, Turned}
use Rattle.turns.proofs.Seconds.{seconds_add, begun, passed_begun, runs, goes, passes}
use Rattle.turns.proofs.Rounds.{count_gone}
use Rattle.turns.proofs.Sound.{seconds_sound, inside, lasts, here}

-- a schedule with n seconds to come
abbrev pub pending : Schedule → ℕ → Pending
pending s n = record { schedule = s; seconds = n }

-- the turn passes on from one that goes
pub gone_begun : (s : Schedule) → gone s ≡ begun (with_value s.durations s.on_air 0) (with_value s.timeouts s.on_air 0) s.on_air
unfolding gone without with_instance
gone_begun s = passed_begun s.on_air (without s.on_air s)

-- from one that stays
pub passed_on_begun : (s : Schedule)
    → passed s ≡ begun s.durations (with_value s.timeouts s.on_air (value_of s.timeouts s.on_air - s.left)) s.on_air
unfolding passed aired timeout_of
passed_on_begun s = passed_begun s.on_air (aired s.left s)

-- One turn ------------------------------------------------------------------------------------------------------------------------------------

module _ (s a : Schedule) (n : ℕ) (sound : Sound s) (airs : 0 < s.on_air) where
  -- the timeout of the one on air
  abbrev t : ℕ
  t = timeout_of s s.on_air

  -- the seconds of its timeout end it
  ends : (m : ℕ) → t ≡ m → 0 < m → m ≤ s.left → seconds m s ≡ gone s
  unfolding timeout_of
  ends zero e h l = absurd (omega arith)
  ends (suc m) e h l = goes m s.durations s.timeouts s.on_air s.left airs (inside s sound airs) e l ∙ sym (gone_begun s)

  -- the seconds of its turn pass the turn on
  goes_on_lem : (l : ℕ) → s.left ≡ l → Stays l t → seconds l s ≡ passed s
  unfolding timeout_of
  goes_on_lem zero e h = absurd (let p = lasts s sound airs in omega arith)
  goes_on_lem (suc l) e h = rw (passed_on_begun s, e) (passes l s.durations s.timeouts s.on_air airs (inside s sound airs) h)

  -- its timeout ends within the turn and the seconds
  turn_goes : (0 < t) × (t ≤ s.left) × (t ≤ n) → a ≡ gone s → Turned (pending s n) (pending a (n - t))
  unfolding begun passed_on turn_to
  turn_goes g e =
      let d : n - (n - t) ≡ t = omega arith in
      let f : count (with_value s.durations s.on_air 0) < count s.durations = count_gone s.durations s.on_air (here s sound airs) in
      record {
        reached = record {
          fits = omega arith;
          met = rw d (e ∙ sym (ends t refl g.0 g.1));
          fewer = rw (e, gone_begun s) (omega arith);
        };
        how = inr (inl e);
      }

  -- the seconds are used up within the turn
  turn_runs : n < s.left → Stays n t → a ≡ aired n s → Turned (pending s n) (pending a 0)
  unfolding aired timeout_of
  turn_runs l h e =
      let d : n - 0 ≡ n = omega arith in
      record {
        reached = record {
          fits = omega arith;
          met = rw d (e ∙ sym (runs n s.durations s.timeouts s.on_air s.left airs (inside s sound airs) l h));
          fewer = rw e (omega arith);
        };
        how = inl refl;
      }

  -- the turn runs to its end
  turn_passes : s.left ≤ n → Stays s.left t → a ≡ passed s → Turned (pending s n) (pending a (n - s.left))
  unfolding begun passed_on turn_to
  turn_passes l h e =
      let d : n - (n - s.left) ≡ s.left = omega arith in
      record {
        reached = record {
          fits = omega arith;
          met = rw d (e ∙ sym (goes_on_lem s.left refl h));
          fewer = rw (e, passed_on_begun s) (omega arith);
        };
        how = inr (inr (record { now = e; took = omega arith; stays = h }));
      }

-- it stays for the rest of its turn
stays_turn : (t l n : ℕ) → Goes t l n false → l ≤ n → Stays l t
stays_turn t l n g h = ⊎_elim (λ z. inl z) (λ f. ⊎_elim (λ q. inr q) (λ q. inr (omega arith)) f) g

-- for a part of it
stays_part : (t l n : ℕ) → Goes t l n false → n < l → Stays n t
stays_part t l n g h = ⊎_elim (λ z. inl z) (λ f. ⊎_elim (λ q. inr (omega arith)) (λ q. inr q) f) g

-- the same as the code has it: x is its timeout, g the answer of `goes`, b the schedule before the turn passes on
module _ (s a b : Schedule) (n x : ℕ) (g : Bool) (sound : Sound s) (airs : 0 < s.on_air) (time : x ≡ value_of s.timeouts s.on_air)
    (told : Goes x s.left n g) where
  -- it goes
  pub turn_going : g ≡ true → b ≡ with_instance s.on_air 0 0 s → a ≡ passed_on s.on_air b → Turned (pending s n) (pending a (n - x))
  unfolding gone without timeout_of
  turn_going i e f = rw time (turn_goes s a n sound airs (rw (i, time) at told) (rw e at f))

  -- the seconds are used up
  pub turn_running : g ≡ false → n < s.left → a ≡ aired n s → Turned (pending s n) (pending a 0)
  unfolding timeout_of
  turn_running i l e = turn_runs s a n sound airs l (stays_part (value_of s.timeouts s.on_air) s.left n (rw (i, time) at told) l) e

  -- the turn runs to its end
  pub turn_passing : g ≡ false → s.left ≤ n → b ≡ aired s.left s → a ≡ passed_on s.on_air b → Turned (pending s n) (pending a (n - s.left))
  unfolding passed timeout_of
  turn_passing i l e f =
      turn_passes s a n sound airs l (stays_turn (value_of s.timeouts s.on_air) s.left n (rw (i, time) at told) l) (rw e at f)

-- Turns on turns ------------------------------------------------------------------------------------------------------------------------------

-- no seconds
pub reached_none : (w : Pending) → Reached w w
unfolding seconds
reached_none w = let z : w.seconds - w.seconds ≡ 0 = omega arith in record { fits = omega arith; met = rw z; fewer = omega arith }

-- seconds, and more seconds
pub reached_on : (w v u : Pending) → Reached w v → Reached v u → Reached w u
reached_on w v u a b =
    let f : u.seconds ≤ v.seconds = b.fits in
    let g : v.seconds ≤ w.seconds = a.fits in
    let e : (w.seconds - v.seconds) + (v.seconds - u.seconds) ≡ w.seconds - u.seconds = omega arith in
    let h : u.schedule ≡ seconds (v.seconds - u.seconds) (seconds (w.seconds - v.seconds) w.schedule) = rw (← a.met) b.met in
    record {
      fits = omega arith;
      met = h ∙ sym (seconds_add (w.seconds - v.seconds) (v.seconds - u.seconds) w.schedule) ∙ ap (λ (n : ℕ). seconds n w.schedule) e;
      fewer = let c = a.fewer in let d = b.fewer in omega arith;
    }

-- the rules are kept
pub reached_sound : (w v : Pending) → Sound w.schedule → Reached w v → Sound v.schedule
reached_sound w v a r = rw r.met (seconds_sound (w.seconds - v.seconds) w.schedule a)

-- no seconds are left
pub reached_all : (s : Schedule) (n : ℕ) (v : Pending) → Reached (pending s n) v → v.seconds ≤ 0 → v.schedule ≡ seconds n s
reached_all s n v r z =
    let e : n - v.seconds ≡ n = omega arith in
    r.met ∙ ap (λ (m : ℕ). seconds m s) e

-- a turn that begins is whole
pub begun_fresh : (s : Schedule) (ds ts : List ℕ) (p : ℕ) → s ≡ begun ds ts p → Fresh s
unfolding begun passed_on turn_to duration_of
begun_fresh s ds ts p e = subst (λ (x : Schedule). Fresh x) (sym e) refl

-- a turn that ended lets another begin
pub turned_fresh : (w v : Pending) → Turned w v → (v.seconds ≡ 0) ⊎ Fresh v.schedule
turned_fresh w v t =
    ⊎_elim (λ z. inl z)
    (λ h. inr (⊎_elim (λ e. begun_fresh _ _ _ _ (e ∙ gone_begun w.schedule)) (λ p. begun_fresh _ _ _ _ (p.now ∙ passed_on_begun w.schedule)) h))
    t.how
