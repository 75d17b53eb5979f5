-- What power off leaves of a schedule.
use Rattle.std.proofs.Common.{◌≡◌, ◌∙◌, refl, ℕ, ◌<◌, true, false, eqb, List, length, get_or, replicate, map}
use Rattle.std.specs.List.{range_with_len}
use Rattle.std.proofs.lemmas.List.FromFn.{fill_by_all}
use Rattle.model.specs.declared.Schedule.{Schedule}
use Rattle.model.specs.Advertising.{lasting, powered_off}
use Rattle.model.proofs.Model.Tests.{Five, five, five_of}

-- the duration at place k that power off leaves
abbrev pub lasts : List ℕ → List ℕ → ℕ → ℕ
lasts ds ts k = elim (eqb (get_or ts k 0) 0) [ true ↦ get_or ds k 0 | false ↦ 0 ]

-- five of them are all
lasting_five : (ds ts : List ℕ) → Five ds → Five ts → map (lasts ds ts) (range_with_len 0 5) ≡ lasting ds ts
unfolding lasting
lasting_five ds ts (five p q r s t) (five u v w x y) = refl

-- what power off leaves
pub power_left : (s : Schedule) → length s.durations ≡ 5 → length s.timeouts ≡ 5 → (ds : List ℕ) → length ds ≡ 5
    → ((k : ℕ) → k < 5 → get_or ds k 0 ≡ lasts s.durations s.timeouts k)
    → ◌≡◌ {A = Schedule} (record { durations = ds; timeouts = replicate 5 0; on_air = 0; left = 0 }) (powered_off s)
unfolding powered_off
power_left s l m ds n h =
    rw (fill_by_all (lasts s.durations s.timeouts) ds 5 0 n h ∙ lasting_five s.durations s.timeouts (five_of s.durations l) (five_of s.timeouts m))
