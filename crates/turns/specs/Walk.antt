-- What the functions by which a schedule advances ask of one another, and promise. The seconds themselves are the model's.
use Rattle.std.specs.Prelude.{◌≡◌, ◌⊎◌, ℕ, suc, ◌+◌, ◌-◌, ◌*◌, ◌≤◌, ◌<◌, min, Bool, true, false, List, [], ◌∷◌, map}
use Rattle.model.specs.declared.Schedule.{Schedule}
use Rattle.model.specs.Advertising.{duration_of, instances, passed_on, seconds, timeout_of, value_of, with_value, without}
use Rattle.model.specs.Fairness.{sum_of}
use Rattle.model.specs.WellFormed.{schedule_ok}
use Rattle.turns.specs.declared.Pending.{Pending}

-- a schedule that keeps the model's rules, with Low Energy and power on or off
pub record Sound (s : Schedule) : Type 0 where
  pub low_energy : Bool
  pub powered : Bool
  pub ok : schedule_ok low_energy powered s ≡ true

-- One turn ------------------------------------------------------------------------------------------------------------------------------------

-- n seconds on air leave an instance with timeout t (0: none) there
abbrev pub Stays : ℕ → ℕ → Type 0
Stays n t = (t ≡ 0) ⊎ (n < t)

-- whether the instance on air goes within its turn, of which l seconds are left, and within n seconds
abbrev pub Goes : ℕ → ℕ → ℕ → Bool → Type 0
Goes t l n true = (0 < t) × (t ≤ l) × (t ≤ n)
Goes t l n false = (t ≡ 0) ⊎ ((l < t) ⊎ (n < t))

-- n seconds within a turn in which the instance on air stays
unfoldable pub aired : ℕ → Schedule → Schedule
aired n s = record {
  durations = s.durations;
  timeouts = with_value s.timeouts s.on_air (timeout_of s s.on_air - n);
  on_air = s.on_air;
  left = s.left - n;
}

-- the instance on air goes, and the turn passes on
unfoldable pub gone : Schedule → Schedule
gone s = passed_on s.on_air (without s.on_air s)

-- the turn runs to its end, the instance on air stays, and the turn passes on
unfoldable pub passed : Schedule → Schedule
passed s = passed_on s.on_air (aired s.left s)

-- how many instances are there
unfoldable pub count : List ℕ → ℕ
count [] = 0
count (d ∷ ds) = min d 1 + count ds

-- v is w some seconds later, with no more instances there
pub record Reached (w v : Pending) : Type 0 where
  pub fits : v.seconds ≤ w.seconds
  pub met : v.schedule ≡ seconds (w.seconds - v.seconds) w.schedule
  pub fewer : count v.schedule.durations ≤ count w.schedule.durations

-- the turn ran to its end, and the instance on air stayed
pub record Passed (w v : Pending) : Type 0 where
  pub now : v.schedule ≡ passed w.schedule
  pub took : v.seconds + w.schedule.left ≡ w.seconds
  pub stays : Stays w.schedule.left (timeout_of w.schedule w.schedule.on_air)

-- one turn, or as much of it as there are seconds: no seconds are left, or the instance on air went, or it stayed
pub record Turned (w v : Pending) : Type 0 where
  pub reached : Reached w v
  pub how : (v.seconds ≡ 0) ⊎ ((v.schedule ≡ gone w.schedule) ⊎ Passed w v)

-- the turn of place p, if instance p + 1 is on air
abbrev pub Placed : Pending → ℕ → Pending → Type 0
Placed w p v = ((w.schedule.on_air ≡ suc p) × Turned w v) ⊎ ((w.schedule.on_air ≡ suc p → ⊥) × (v ≡ w))

-- Whole rounds --------------------------------------------------------------------------------------------------------------------------------

-- the one on air has its whole turn before it
abbrev pub Fresh : Schedule → Type 0
Fresh s = s.left ≡ duration_of s s.on_air

-- the seconds of a round: an absent instance has none
unfoldable pub whole : List ℕ → ℕ
whole ds = sum_of (value_of ds) instances

-- no instance goes in r rounds
abbrev pub Rounds : ℕ → List ℕ → List ℕ → Type 0
Rounds r ds ts = (k : ℕ) → Stays (r * value_of ds k) (value_of ts k)

-- the timeout of instance k after r rounds
unfoldable pub later : ℕ → List ℕ → List ℕ → ℕ → ℕ
later r ds ts k = value_of ts k - r * value_of ds k

-- the timeouts of all after r rounds
unfoldable pub falls : ℕ → List ℕ → List ℕ → List ℕ
falls r ds ts = map (later r ds ts) instances

-- r is the most rounds, up to m, in which an instance of duration d with timeout t stays
pub record Capped (d t m r : ℕ) : Type 0 where
  pub most : r ≤ m
  pub stays : Stays (r * d) t
  pub tight : (r ≡ m) ⊎ ((0 < t) × (t ≤ suc r * d))

-- r is the most rounds, up to m, in which no instance goes
pub record Most (ds ts : List ℕ) (m r : ℕ) : Type 0 where
  pub most : r ≤ m
  pub stays : Rounds r ds ts
  pub tight : (r ≡ m) ⊎ (Rounds (suc r) ds ts → ⊥)

-- another whole round does not fit, or an instance goes in it
abbrev pub Blocked : Pending → Type 0
Blocked w = whole w.schedule.durations ≤ w.seconds → Rounds 1 w.schedule.durations w.schedule.timeouts → ⊥

-- as many whole rounds later as can be skipped
pub record Skipped (w v : Pending) : Type 0 where
  pub reached : Reached w v
  pub same : v.schedule.on_air ≡ w.schedule.on_air
  pub fresh : Fresh v.schedule
  pub blocked : Blocked v

-- no seconds are left, or one instance fewer is there and a turn begins
pub record Walked (w v : Pending) : Type 0 where
  pub reached : Reached w v
  pub how : (v.seconds ≡ 0) ⊎ ((count v.schedule.durations < count w.schedule.durations) × Fresh v.schedule)
