-- Fairness, the statement (02, E1): how long an advertising instance can wait for its turn while LE and power stay on.
use Rattle.std.specs.Prelude.{ℕ, zero, suc, ◌+◌, ◌<◌, ◌≤◌, max, ◌≡◌, Bool, true, false, ◌&&◌, not, List, [], ◌∷◌, ◌++◌, eqb}
use Rattle.std.proofs.Math.Option.{Option, none, some}
use Rattle.model.specs.Octets.{Octets}
use Rattle.model.specs.Advertising.{Schedule, duration_of, no_schedule, instances, present, second}
use Rattle.model.specs.State.{Controller, Hub, controller_at}
use Rattle.model.specs.Answers.{number_of, Done}
use Rattle.model.specs.Hub.{Call, Result, clock, command, plug, report, save, step_of, unplug}
use Rattle.model.specs.Stream.{HostCall, Streamed, direct, stream}
use Rattle.model.specs.WellFormed.{host_calls_wide}
use Rattle.model.specs.Layout.{decode}
use Rattle.model.specs.Meanings.{meaning, state_ok, stream_meaning}
use Rattle.model.specs.Demand3.{host_next}

-- Moments -----------------------------------------------------------------------------------------------------------------------------------

-- the schedule of a controller; no instance is there where there is no controller
unfoldable pub schedule_in : Option Controller → Schedule
schedule_in none = no_schedule
schedule_in (some c) = c.host.advertising.schedule

-- the schedule at an index
unfoldable pub schedule_at : Hub → ℕ → Schedule
schedule_at h i = schedule_in (controller_at h.plain i)

-- the schedules after each of n single seconds
unfoldable pub each : ℕ → Schedule → List Schedule
each zero s = []
each (suc n) s = second s ∷ each n (second s)

-- power and LE are on, and instance k is there
unfoldable pub steady_in : ℕ → Option Controller → Bool
steady_in k none = false
steady_in k (some c) = c.radio.powered && (c.radio.low_energy && present c.host.advertising.schedule k)

-- A list of calls and lumps on a hub: `view` says which hub a state means, `run` what a call does to a state, and `feed` what a lump does to it (02, E6).
-- The theorem is over the octets of the lent state, with `decode`, `meaning` and `stream_meaning`; its proof is over the model's hubs themselves.
module _ {S : Type 0} (view : S → Hub) (run : S → Call → Result S) (feed : S → ℕ → Octets → Streamed S) where
  -- the seconds that pass in a call: the step of a clock reading that is taken; in a lump none pass
  unfoldable pub seconds_in : S → HostCall → ℕ
  seconds_in s (direct (clock room reading)) =
      elim (eqb (run s (clock room reading)).answer (number_of (Done 0))) [
        | true ↦ step_of (view s).plain.clock reading
        | false ↦ 0
      ]
  seconds_in s (direct (command room packet)) = 0
  seconds_in s (direct (report room i status)) = 0
  seconds_in s (direct (plug room i f)) = 0
  seconds_in s (direct (unplug room i)) = 0
  seconds_in s (direct (save room)) = 0
  seconds_in s (stream room o) = 0

  -- the seconds that pass in a list of calls and lumps
  unfoldable pub seconds_passed : S → List HostCall → ℕ
  seconds_passed s [] = 0
  seconds_passed s (c ∷ cs) = seconds_in s c + seconds_passed (host_next run feed s c) cs

  -- the schedules of an index at every moment: at the start, after each single second of a clock step, after each call and after each lump
  unfoldable pub moments : ℕ → S → List HostCall → List Schedule
  moments i s [] = schedule_at (view s) i ∷ []
  moments i s (c ∷ cs) = schedule_at (view s) i ∷ (each (seconds_in s c) (schedule_at (view s) i) ++ moments i (host_next run feed s c) cs)

  -- power and LE stay on and instance k stays there: at the start, after each call and after each lump
  unfoldable pub steady : ℕ → ℕ → S → List HostCall → Bool
  steady i k s [] = steady_in k (controller_at (view s).plain i)
  steady i k s (c ∷ cs) = steady_in k (controller_at (view s).plain i) && steady i k (host_next run feed s c) cs

-- What is asked of them ---------------------------------------------------------------------------------------------------------------------

-- instance k is on air at none of these moments
unfoldable pub off_air : ℕ → List Schedule → Bool
off_air k [] = true
off_air k (s ∷ ss) = not (eqb s.on_air k) && off_air k ss

-- the longest duration that instance j had at any of these moments, 0 if it was never there
unfoldable pub longest : List Schedule → ℕ → ℕ
longest [] j = 0
longest (s ∷ ss) j = max (duration_of s j) (longest ss j)

-- of these instances, those other than k
unfoldable pub others : ℕ → List ℕ → List ℕ
others k [] = []
others k (j ∷ js) = elim (eqb j k) [ true ↦ others k js | false ↦ j ∷ others k js ]

-- the sum over these instances
unfoldable pub sum_of : (ℕ → ℕ) → List ℕ → ℕ
sum_of m [] = 0
sum_of m (j ∷ js) = m j + sum_of m js

-- THE CLAIM, over the octets. From any well-formed state, octets waiting or not, and for any list of calls and lumps during which LE and power of the
-- controller at index i stay on and instance k stays present: if k is on air at no moment, fewer seconds have passed than the sum over the other four
-- instances of the longest duration each had at any moment (02, E1 and E6).
-- (02 asks it of an instance that is not changed. That is not needed: to change one that is not on air leaves the turn alone.)
abbrev pub Fairness : Type 0
Fairness = (s : Octets) (i k : ℕ) (calls : List HostCall) → state_ok s ≡ true → host_calls_wide calls ≡ true
    → steady decode meaning stream_meaning i k s calls ≡ true
    → off_air k (moments decode meaning stream_meaning i s calls) ≡ true
    → seconds_passed decode meaning stream_meaning s calls < sum_of (longest (moments decode meaning stream_meaning i s calls)) (others k instances)

-- The same, told the other way: once that many seconds have passed, k was on air at some moment.
abbrev pub InTime : Type 0
InTime = (s : Octets) (i k : ℕ) (calls : List HostCall) → state_ok s ≡ true → host_calls_wide calls ≡ true
    → steady decode meaning stream_meaning i k s calls ≡ true
    → sum_of (longest (moments decode meaning stream_meaning i s calls)) (others k instances) ≤ seconds_passed decode meaning stream_meaning s calls
    → off_air k (moments decode meaning stream_meaning i s calls) ≡ false

-- Named on an `unfolding` line, this opens every definition of the module: for examples that are computed.
unfoldable pub open_fairness : Unit {0}
unfolding schedule_in schedule_at seconds_in seconds_passed each moments steady_in steady off_air longest others sum_of
open_fairness = tt
