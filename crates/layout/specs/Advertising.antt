-- The advertising of a controller where it lies: what is read, and what a write makes of the octets.
use Rattle.std.specs.Prelude.{ℕ, ◌+◌, true, false, ◌&&◌, not, List, [], ◌∷◌, replicate, eqb}
use Rattle.model.specs.Octets.{Octets, u16}
use Rattle.model.specs.Advertising.{with_value}
use Rattle.model.specs.declared.Schedule.{Schedule}
use Rattle.model.specs.State.{Controller, with_advertising, with_host}
use Rattle.octets.specs.Parts.{write_at}

-- five numbers of two octets from a place on
unfoldable pub five_from : Octets → ℕ → List ℕ
five_from s at = u16 s at ∷ u16 s (at + 2) ∷ u16 s (at + 4) ∷ u16 s (at + 6) ∷ u16 s (at + 8) ∷ []

-- the data at a place cleared, if an instance of the first duration was there and one of the second is not
unfoldable pub cleared_slot : Octets → ℕ → ℕ → ℕ → Octets
cleared_slot s at before after = elim (not (eqb before 0) && eqb after 0) [ true ↦ write_at s at (replicate 32 0) | false ↦ s ]

-- the same of each of these instances, from the place of the first on
unfoldable pub cleared_slots : Octets → ℕ → List ℕ → List ℕ → Octets
cleared_slots s at [] ds = s
cleared_slots s at (b ∷ bs) [] = s
cleared_slots s at (b ∷ bs) (d ∷ ds) = cleared_slots (cleared_slot s at b d) (at + 32) bs ds

-- the controller with other turns, and with these data of instance k
unfoldable pub with_instance_data : Controller → Schedule → ℕ → Octets → Octets → Controller
with_instance_data c t k adv scan =
    with_host c
    (with_advertising c.host (record
    { schedule = t; adv_data = with_value c.host.advertising.adv_data k adv; scan_rsp = with_value c.host.advertising.scan_rsp k scan }))
