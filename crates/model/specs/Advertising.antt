-- Rotating advertisements (02, E1): which advertising instances are there, which one is on air, and how the turn goes round.
use Rattle.std.specs.Prelude.{ℕ, zero, suc, ◌-◌, Bool, true, false, ◌&&◌, ◌||◌, not, List, [], ◌∷◌, ◌++◌, length, get_or, set, take, drop, replicate, eqb}
use Rattle.model.specs.Events as Events
use Rattle.model.specs.Octets.{Octets, event}
pub use Rattle.model.specs.declared.Schedule.{Schedule}

-- the schedule, and beside it Adv_Data and Scan_Rsp of the five instances, empty where an instance is absent
pub record Advertising : Type 0 where
  pub schedule : Schedule
  pub adv_data : List Octets
  pub scan_rsp : List Octets

-- the five instances (02, E1)
abbrev pub instances : List ℕ
instances = 1 ∷ 2 ∷ 3 ∷ 4 ∷ 5 ∷ []

-- what is written for instance k, which stands at place k - 1; 0 for what is no instance
unfoldable pub value_of : List ℕ → ℕ → ℕ
value_of l zero = 0
value_of l (suc j) = get_or l j 0

-- another value for instance k
unfoldable pub with_value : {A : Type 0} → List A → ℕ → A → List A
with_value l zero x = l
with_value l (suc j) x = set l j x

-- the seconds of a turn of instance k, 0 where it is absent
unfoldable pub duration_of : Schedule → ℕ → ℕ
duration_of s k = value_of s.durations k

-- the seconds on air that instance k has left, 0 where it has no timeout
unfoldable pub timeout_of : Schedule → ℕ → ℕ
timeout_of s k = value_of s.timeouts k

-- instance k is there
unfoldable pub present : Schedule → ℕ → Bool
present s k = not (eqb (duration_of s k) 0)

-- no instance is there, and none is on air
unfoldable pub no_schedule : Schedule
no_schedule = record { durations = replicate 5 0; timeouts = replicate 5 0; on_air = 0; left = 0 }

-- no advertising: what plug gives, and load
unfoldable pub no_advertising : Advertising
no_advertising = record { schedule = no_schedule; adv_data = replicate 5 []; scan_rsp = replicate 5 [] }

-- The turn ------------------------------------------------------------------------------------------------------------------------------------

-- the first of these instances that is there, 0 if none is
unfoldable pub first_present : Schedule → List ℕ → ℕ
first_present s [] = 0
first_present s (k ∷ ks) = elim (present s k) [ true ↦ k | false ↦ first_present s ks ]

-- the order of turns behind that of k, round and round ascending (02, E1): the instances above k, then those up to k
unfoldable pub following : ℕ → List ℕ
following k = drop k instances ++ take k instances

-- instance k comes on air for its whole duration; with 0 none does
unfoldable pub turn_to : ℕ → Schedule → Schedule
turn_to k s = record { durations = s.durations; timeouts = s.timeouts; on_air = k; left = duration_of s k }

-- the turn passes on from k (02, E1): to the next instance above k that is there, else to the lowest, possibly k itself; from 0 to the lowest
unfoldable pub passed_on : ℕ → Schedule → Schedule
passed_on k s = turn_to (first_present s (following k)) s

-- instance k with this duration and timeout; the turn is left alone
unfoldable pub with_instance : ℕ → ℕ → ℕ → Schedule → Schedule
with_instance k d t s =
    record { durations = with_value s.durations k d; timeouts = with_value s.timeouts k t; on_air = s.on_air; left = s.left }

-- instance k goes; the turn is left alone
unfoldable pub without : ℕ → Schedule → Schedule
without k s = with_instance k 0 0 s

-- Seconds -------------------------------------------------------------------------------------------------------------------------------------

-- the seconds left of the turn fall by one, and the timeout of the one on air by one if it has one
unfoldable pub counted : Schedule → Schedule
counted s = record {
  durations = s.durations;
  timeouts = with_value s.timeouts s.on_air (timeout_of s s.on_air - 1);
  on_air = s.on_air;
  left = s.left - 1;
}

-- A second of the instance on air. It was the last one of its timeout: the instance goes, and the turn passes on. Else it was the last one of its turn: the
-- turn passes on, and a lone instance begins anew (02, E1).
unfoldable pub on_air_second : Schedule → Schedule
on_air_second s = elim (eqb (timeout_of s s.on_air) 1) [
  | true ↦ passed_on s.on_air (without s.on_air s)
  | false ↦ elim (eqb s.left 1) [ true ↦ passed_on s.on_air (counted s) | false ↦ counted s ]
]

-- one second; where none is on air, nothing changes
unfoldable pub second : Schedule → Schedule
second s = elim (eqb s.on_air 0) [ true ↦ s | false ↦ on_air_second s ]

-- many seconds are that many times one (02, E1)
unfoldable pub seconds : ℕ → Schedule → Schedule
seconds zero s = s
seconds (suc n) s = seconds n (second s)

-- Commands ------------------------------------------------------------------------------------------------------------------------------------

-- the duration that is kept: 0 stands for 2 seconds (02, E1)
unfoldable pub whole_turn : ℕ → ℕ
whole_turn d = elim (eqb d 0) [ true ↦ 2 | false ↦ d ]

-- Instance k is added or changed. With power on, it comes on air at once if none is; if it is the one on air, the turn passes on (02, E1). Else the turn is
-- left alone.
unfoldable pub added_instance : Bool → ℕ → ℕ → ℕ → Schedule → Schedule
added_instance powered k d t s = elim (powered && (eqb s.on_air 0 || eqb s.on_air k)) [
  | true ↦ passed_on s.on_air (with_instance k d t s)
  | false ↦ with_instance k d t s
]

-- Instance k is removed, and with 0 all are. If it is the one on air, the turn passes on (02, E1).
unfoldable pub removed_instance : ℕ → Schedule → Schedule
removed_instance k s = elim (eqb k 0) [
  | true ↦ no_schedule
  | false ↦ elim (eqb s.on_air k) [ true ↦ passed_on k (without k s) | false ↦ without k s ]
]

-- the durations of the instances that have no timeout
unfoldable pub lasting : List ℕ → List ℕ → List ℕ
lasting [] ts = []
lasting (d ∷ ds) [] = []
lasting (d ∷ ds) (t ∷ ts) = elim (eqb t 0) [ true ↦ d | false ↦ 0 ] ∷ lasting ds ts

-- power off: those with a timeout go, and none is on air (02, E1)
unfoldable pub powered_off : Schedule → Schedule
powered_off s = record { durations = lasting s.durations s.timeouts; timeouts = replicate 5 0; on_air = 0; left = 0 }

-- power now and power before: where it comes on, the lowest instance begins (02, E1); on while on changes nothing
unfoldable pub repowered : (now before : Bool) → Schedule → Schedule
repowered false b s = powered_off s
repowered true true s = s
repowered true false s = passed_on 0 s

-- the data of the instances that are there
unfoldable pub data_kept : List ℕ → List Octets → List Octets
data_kept [] os = []
data_kept (d ∷ ds) [] = []
data_kept (d ∷ ds) (o ∷ os) = elim (eqb d 0) [ true ↦ [] | false ↦ o ] ∷ data_kept ds os

-- another schedule: the data of the instances that went go with them
unfoldable pub rescheduled : Advertising → Schedule → Advertising
rescheduled a s =
    record { schedule = s; adv_data = data_kept s.durations a.adv_data; scan_rsp = data_kept s.durations a.scan_rsp }

-- Events --------------------------------------------------------------------------------------------------------------------------------------

-- Advertising Removed for each of these instances that was there and no longer is, ascending: so for a removal by a command, a setting or the clock (02, E1)
unfoldable pub removed_of : ℕ → Schedule → Schedule → List ℕ → Octets
removed_of i s t [] = []
removed_of i s t (k ∷ ks) =
    elim (present s k && not (present t k)) [ true ↦ event Events.advertising_removed i (k ∷ []) | false ↦ [] ] ++ removed_of i s t ks

-- the same of all instances
unfoldable pub advertising_removed : ℕ → Advertising → Advertising → Octets
advertising_removed i a b = removed_of i a.schedule b.schedule instances

-- Advertising Added for an instance that was not there (02, E1)
unfoldable pub advertising_added : ℕ → ℕ → Advertising → Octets
advertising_added i k a = elim (present a.schedule k) [ true ↦ [] | false ↦ event Events.advertising_added i (k ∷ []) ]

-- What the driver is to send ------------------------------------------------------------------------------------------------------------------

-- the data of instance k
unfoldable pub data_of : List Octets → ℕ → Octets
data_of l zero = []
data_of l (suc j) = get_or l j []

-- what is said of the one on air: Instance 1, Adv_Data_Len 1, Scan_Rsp_Len 1, Adv_Data, Scan_Rsp; nothing if none is
unfoldable pub on_air_octets : Advertising → Octets
on_air_octets a =
    let k : ℕ = a.schedule.on_air in
    let adv : Octets = data_of a.adv_data k in
    let scan : Octets = data_of a.scan_rsp k in
    elim (eqb k 0) [ true ↦ [] | false ↦ k ∷ length adv ∷ length scan ∷ (adv ++ scan) ]

-- Named on an `unfolding` line, this opens every definition of the module: for examples that are computed.
unfoldable pub open_advertising : Unit {0}
unfolding value_of with_value duration_of timeout_of present no_schedule no_advertising first_present following turn_to passed_on with_instance without counted
    on_air_second second seconds whole_turn added_instance removed_instance lasting powered_off repowered data_kept rescheduled removed_of advertising_removed
    advertising_added data_of on_air_octets
open_advertising = tt
