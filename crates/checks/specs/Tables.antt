-- The tables of a controller where they lie, one after the other: each keeps its rule, has the support it needs, and its free slots are zero.
use Rattle.std.specs.Prelude.{ℕ, ◌+◌, ◌*◌, Bool, true, ◌&&◌, List, [], ◌∷◌}
use Rattle.model.specs.declared.Hardware.{Hardware}
use Rattle.model.specs.Octets.{Octets, u32}
use Rattle.model.specs.Tables.{TableRule, entries, records_ok, support_ok}
use Rattle.table.specs.Slots.{table_at}
use Rattle.records.specs.Slots.{free_zero}

-- 1. One table ------------------------------------------------------------------------------------------------------------------------------

-- the table that lies at a place is well formed, and its octets are the one encoding of it
unfoldable pub table_octets_ok : TableRule → Hardware → Octets → ℕ → Bool
table_octets_ok u f s at =
    records_ok u (entries (table_at s at u.size))
    && (support_ok u f (entries (table_at s at u.size))
    && free_zero s u.size (at + 4) 32 (u32 s at))

-- 2. The tables behind-word one another ------------------------------------------------------------------------------------------------------------

-- each table of the list is fine, from where the one before it ends
unfoldable pub tables_octets_ok : Hardware → List TableRule → Octets → ℕ → Bool
tables_octets_ok f [] s at = true
tables_octets_ok f (u ∷ us) s at = table_octets_ok u f s at && tables_octets_ok f us s (at + (4 + u.size * 32))
