-- The advertising of a controller where it lies: schedule (23 octets), then Adv_Data and Scan_Rsp of the five instances, 32 octets each.
use Rattle.std.specs.Prelude.{ℕ, ◌+◌, ◌-◌, Bool, true, ◌&&◌, ◌||◌, not, List, [], ◌∷◌, get_or, drop, eqb, leb}
use Rattle.model.specs.Octets.{Octets, all_zero}
use Rattle.model.specs.WellFormed.{schedule_ok}
use Rattle.model.specs.Layout.{schedule_back}
use Rattle.octets.specs.Parts.{part}

-- 1. Data -------------------------------------------------------------------------------------------------------------------------------------

-- the data of one instance, with this duration, from a place on: the length is at most 31, and 0 if the instance is absent; behind the data are zeros
unfoldable pub slot_octets_ok : ℕ → Octets → ℕ → Bool
slot_octets_ok d s at =
    (not (eqb d 0) || eqb (get_or s at 0) 0) && (leb (get_or s at 0) 31 && all_zero (part s (at + (1 + get_or s at 0)) (31 - get_or s at 0)))

-- those of the instances with these durations, one behind the other
unfoldable pub data_octets_ok : List ℕ → Octets → ℕ → Bool
data_octets_ok [] s at = true
data_octets_ok (d ∷ ds) s at = slot_octets_ok d s at && data_octets_ok ds s (at + 32)

-- 2. The whole --------------------------------------------------------------------------------------------------------------------------------

-- the schedule that lies at a place keeps its rules, of a controller with these settings, and so do the data behind it
unfoldable pub advertising_octets_ok : (low_energy powered : Bool) → Octets → ℕ → Bool
advertising_octets_ok l w s at =
    schedule_ok l w (schedule_back (drop at s))
    && (data_octets_ok (schedule_back (drop at s)).durations s (at + 23) && data_octets_ok (schedule_back (drop at s)).durations s (at + 183))
