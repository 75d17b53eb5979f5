-- What the model's rules say of a schedule, as facts over its parts; and that seconds keep them.
use mathlib.Core.Path.{◌≡◌, refl, ◌∙◌}
use Prim.Native.Nat.{ℕ, zero, suc, ◌≤◌, ◌<◌}
use native.Mathlib.Omega.{arith}
use mathlib.Core.Bool.{Bool, true, ◌||◌, not}
use lib.ListN.{length}
use lib.Dec.{eqb}
use borrow.Author.Tests.{eqb-true, eq-eqb}
use Rattle.model.specs.declared.Schedule.{Schedule}
use Rattle.model.specs.Advertising.{duration_of, seconds, value_of}
use Rattle.model.specs.WellFormed.{schedule_ok, times_fit}
use Rattle.model.proofs.Model.Schedule.{ScheduleFit, Turn, on_air_five, rests, runs, schedule_fit, seconds_ok, times_at, times_many, turn_of}
use Rattle.model.proofs.Model.Tests.{and_true}
use Rattle.turns.specs.Walk.{Sound}

-- A SCHEDULE THAT KEEPS THE MODEL'S RULES IS ONE THAT CAN ADVANCE
pub sound_of : (l w : Bool) (s : Schedule) → schedule_ok l w s ≡ true → Sound s
sound_of l w s e = record { low_energy = l; powered = w; ok = e }

-- any number of seconds later it keeps them still
pub seconds_sound : (n : ℕ) (s : Schedule) → Sound s → Sound (seconds n s)
seconds_sound n s h = sound_of h.low_energy h.powered (seconds n s) (seconds_ok h.low_energy h.powered n s h.ok)

-- the rules as facts: none is on air and 0 seconds are left, or an instance that is there with 1 second to its duration left; timeouts only where
-- instances are there
pub record Facts (s : Schedule) : Type 0 where
  pub five_durations : length s.durations ≡ 5
  pub five_timeouts : length s.timeouts ≡ 5
  pub one : s.on_air ≤ 5
  pub most : s.left ≤ duration_of s s.on_air
  pub least : s.left ≡ 0 → s.on_air ≡ 0
  pub timed : (k : ℕ) → value_of s.durations k ≡ 0 → value_of s.timeouts k ≡ 0

-- what the rules come to
pub facts : (s : Schedule) → Sound s → Facts s
unfolding duration_of times_fit
facts s sound = record {
  five_durations = five;
  five_timeouts = times_many _ _ h.times ∙ five;
  one = on_air_five sound.low_energy sound.powered s sound.ok;
  most = turn.0;
  least = turn.1;
  timed = timed;
}
  where
    h : ScheduleFit sound.low_energy sound.powered s
    h = schedule_fit sound.low_energy sound.powered s sound.ok

    five : length s.durations ≡ 5
    five = eqb-true _ _ h.five

    go : Turn sound.powered s → (s.left ≤ duration_of s s.on_air) × (s.left ≡ 0 → s.on_air ≡ 0)
    go (runs ew a b) = (b, λ z. absurd (omega arith))
    go (rests z a b) = (omega arith, λ _. a)

    turn : (s.left ≤ duration_of s s.on_air) × (s.left ≡ 0 → s.on_air ≡ 0)
    turn = go (turn_of sound.powered s h.turn)

    timed : (k : ℕ) → value_of s.durations k ≡ 0 → value_of s.timeouts k ≡ 0
    timed k z =
        let f : not (eqb (value_of s.durations k) 0) || eqb (value_of s.timeouts k) 0 ≡ true =
        (and_true _ _ (times_at k s.durations s.timeouts h.times)).0 in
        let g : eqb (value_of s.timeouts k) 0 ≡ true = rw (eq-eqb _ _ z) at f in
        eqb-true _ _ g

-- The one on air ------------------------------------------------------------------------------------------------------------------------------
module _ (s : Schedule) (sound : Sound s) (airs : 0 < s.on_air) where
  -- it is one of the five
  pub inside : s.on_air ≤ length s.timeouts
  inside = let v = facts s sound in omega arith

  -- its turn has seconds left
  pub lasts : 0 < s.left
  lasts = positive s.left (facts s sound).least
    where
      positive : (x : ℕ) → (x ≡ 0 → s.on_air ≡ 0) → 0 < x
      positive zero f = let e = f refl in absurd (omega arith)
      positive (suc x) f = omega arith

  -- it is there
  pub here : 0 < value_of s.durations s.on_air
  unfolding duration_of
  here = let l = lasts in let m = (facts s sound).most in omega arith
