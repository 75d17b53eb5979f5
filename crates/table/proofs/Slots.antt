-- Laws of tables as lists of slots: the first slot that matches, the lowest free slot, slots freed, records of one size.
use mathlib.Core.Path.{◌≡◌, refl, ap, sym, ◌∙◌}
use Prim.Native.Nat.{ℕ, zero, suc, ◌+◌, ◌*◌, ◌-◌, ◌≤◌, ◌<◌}
use native.Mathlib.Omega.{arith}
use native.Mathlib.Nat.{mul-suc}
use mathlib.Core.Bool.{Bool, true, false, ◌||◌}
use mathlib.Core.List.{List, [], ◌∷◌, ◌++◌, map}
use mathlib.Core.Option.{Option, none, some}
use lib.ListN.{length, drop, set, replicate, length-append, length-map, length-replicate, length-drop}
use lib.Seq.{length-take-le}
use borrow.Author.Tests.{lt-ltb, le-ltb, ltb-true, ltb-false, eq-eqb, eqb-true, ne_eqb, eqb-false}
use lib.Dec.{eqb, ltb}
use Rattle.model.specs.Octets.{Octets}
use Rattle.model.specs.declared.Hardware.{Hardware}
use Rattle.model.specs.State.{Table}
use Rattle.model.specs.WellFormed.{table_ok}
use Rattle.model.specs.Tables.{entries, any, holds, full, freed, replaced, loaded, chop, TableRule, every, record_ok, free}
use Rattle.model.specs.Layout.{slot_octets}
use Rattle.model.proofs.Model.Tests.{and_true, either, equal}
use Rattle.model.proofs.Model.Region.{Sized}
use Rattle.model.proofs.Model.Tables.{table_fit}
use Rattle.table.specs.Slots.{first_at}

-- 1. The first slot that matches, the lowest free slot ------------------------------------------------------------------------------------------

-- one slot more in front changes no comparison of slots
suc_ltb : (a b : ℕ) → ltb a b ≡ ltb (suc a) (suc b)
suc_ltb a b = go (ltb a b) refl
  where
    go : (x : Bool) → ltb a b ≡ x → x ≡ ltb (suc a) (suc b)
    go true e = let h = ltb-true a b e in sym (lt-ltb (suc a) (suc b) (omega arith))
    go false e = let h = ltb-false a b e in sym (le-ltb (suc a) (suc b) (omega arith))

-- the same, of equality
suc_eqb : (a b : ℕ) → eqb a b ≡ eqb (suc a) (suc b)
suc_eqb a b = go (eqb a b) refl
  where
    go : (x : Bool) → eqb a b ≡ x → x ≡ eqb (suc a) (suc b)
    go true e = sym (eq-eqb (suc a) (suc b) (ap suc (eqb-true a b e)))
    go false e = sym (ne_eqb (suc a) (suc b) (λ q. eqb-false a b e (omega arith)))

-- the lowest free slot is at most the number of slots
pub free_le : (t : Table) → free t ≤ length t
unfolding free
free_le [] = omega arith
free_le (none ∷ t) = omega arith
free_le (some r ∷ t) = omega (arith, free_le t)

-- a table holds a match if the first match is one of its slots
pub holds_first : (m : Octets → Bool) (t : Table) → holds m t ≡ ltb (first_at m t) (length t)
unfolding holds entries any first_at
holds_first m [] = refl
holds_first m (none ∷ t) = holds_first m t ∙ suc_ltb (first_at m t) (length t)
holds_first m (some r ∷ t) = go (m r) (holds_first m t)
  where
    go : (b : Bool) → any m (entries t) ≡ ltb (first_at m t) (length t) → b
        || any m (entries t) ≡ ltb (elim b [ true ↦ 0 | false ↦ suc (first_at m t) ]) (suc (length t))
    go true e = sym (lt-ltb 0 (suc (length t)) (omega arith))
    go false e = e ∙ suc_ltb (first_at m t) (length t)

-- a table is full if the lowest free slot is past its end
pub full_free : (t : Table) → full t ≡ eqb (free t) (length t)
unfolding full free
full_free [] = refl
full_free (none ∷ t) = sym (ne_eqb 0 (suc (length t)) (λ e. omega arith))
full_free (some r ∷ t) = full_free t ∙ suc_eqb (free t) (length t)

-- replacing is a write to the slot found
pub replaced_set : (m : Octets → Bool) (x : Octets) (t : Table) → replaced m x t ≡ set t (first_at m t) (some x)
unfolding replaced first_at
replaced_set m x [] = refl
replaced_set m x (none ∷ t) = ap {B = Table} (λ l. none ∷ l) (replaced_set m x t)
replaced_set m x (some r ∷ t) = go (m r) (replaced_set m x t)
  where
    go : (b : Bool) → replaced m x t ≡ set t (first_at m t) (some x)
        → ◌≡◌ {A = Table} (elim b [ true ↦ some x ∷ t | false ↦ some r ∷ replaced m x t ])
        (set (some r ∷ t) (elim b [ true ↦ 0 | false ↦ suc (first_at m t) ]) (some x))
    go true e = refl
    go false e = ap {B = Table} (λ l. some r ∷ l) e

-- 2. Slots freed ----------------------------------------------------------------------------------------------------------------------------------

-- nothing matches: nothing is freed
pub freed_none : (m : Octets → Bool) (t : Table) → first_at m t ≡ length t → freed m t ≡ t
unfolding freed first_at
freed_none m [] e = refl
freed_none m (none ∷ t) e = ap {B = Table} (λ l. none ∷ l) (freed_none m t (omega arith))
freed_none m (some r ∷ t) e = go (m r) e (λ q. freed_none m t q)
  where
    go : (b : Bool) → elim b [ true ↦ 0 | false ↦ suc (first_at m t) ] ≡ suc (length t) → (first_at m t ≡ length t → freed m t ≡ t)
        → ◌≡◌ {A = Table} (elim b [ true ↦ none | false ↦ some r ] ∷ freed m t) (some r ∷ t)
    go true e ih = absurd (omega arith)
    go false e ih = ap {B = Table} (λ l. some r ∷ l) (ih (omega arith))

-- all match: all is freed
pub freed_all : (m : Octets → Bool) → ((r : Octets) → m r ≡ true) → (t : Table) → freed m t ≡ replicate (length t) none
unfolding freed
freed_all m h [] = refl
freed_all m h (none ∷ t) = ap {B = Table} (λ l. none ∷ l) (freed_all m h t)
freed_all m h (some r ∷ t) = rw (h r) (ap {B = Table} (λ l. none ∷ l) (freed_all m h t))

-- the first match freed by itself: what is freed in all is the same
pub freed_first : (m : Octets → Bool) (t : Table) → freed m (set t (first_at m t) none) ≡ freed m t
unfolding freed first_at
freed_first m [] = refl
freed_first m (none ∷ t) = ap {B = Table} (λ l. none ∷ l) (freed_first m t)
freed_first m (some r ∷ t) = go (m r) refl (freed_first m t)
  where
    go : (b : Bool) → m r ≡ b → freed m (set t (first_at m t) none) ≡ freed m t
        → ◌≡◌ {A = Table} (freed m (set (some r ∷ t) (elim b [ true ↦ 0 | false ↦ suc (first_at m t) ]) none))
        (elim b [ true ↦ none | false ↦ some r ] ∷ freed m t)
    go true q ih = refl
    go false q ih = rw (q, ih)

-- and there is an entry less
pub entries_first : (m : Octets → Bool) (t : Table) → first_at m t < length t → suc (length (entries (set t (first_at m t) none))) ≡ length (entries t)
unfolding entries first_at
entries_first m [] l = absurd (omega arith)
entries_first m (none ∷ t) l = entries_first m t (omega arith)
entries_first m (some r ∷ t) l = go (m r) l (λ q. entries_first m t q)
  where
    go : (b : Bool) → elim b [ true ↦ 0 | false ↦ suc (first_at m t) ] < suc (length t)
        → (first_at m t < length t → suc (length (entries (set t (first_at m t) none))) ≡ length (entries t))
        → suc (length (entries (set (some r ∷ t) (elim b [ true ↦ 0 | false ↦ suc (first_at m t) ]) none))) ≡ suc (length (entries t))
    go true l ih = refl
    go false l ih = ap suc (ih (omega arith))

-- 3. Lengths, and records of one size -------------------------------------------------------------------------------------------------------------

-- a list of at most 32 records is loaded as 32 slots
pub length_loaded : (rs : List Octets) → length rs ≤ 32 → length (loaded rs) ≡ 32
unfolding loaded
length_loaded rs h = simp (length-append, length-map, length-replicate) (omega arith)

-- a slot of the size, written into a table of that size, keeps it so
pub sized_set : (size : ℕ) (t : Table) (k : ℕ) (y : Option Octets) → Sized size t → length (slot_octets size y) ≡ size → Sized size (set t k y)
unfolding Sized
sized_set size [] k y z e = z
sized_set size (s ∷ t) zero y z e = (e, z.1)
sized_set size (s ∷ t) (suc k) y z e = (z.0, sized_set size t k y z.1 e)

-- the same, of a record put into a slot
pub sized_some : (size : ℕ) (t : Table) (k : ℕ) (x : Octets) → Sized size t → length x ≡ size → Sized size (set t k (some x))
unfolding slot_octets
sized_some size t k x z e = sized_set size t k (some x) z e

-- the same, of a slot freed: its octets are that many zeros
pub sized_none : (size : ℕ) (t : Table) (k : ℕ) → Sized size t → Sized size (set t k none)
unfolding slot_octets
sized_none size t k z = sized_set size t k none z (length-replicate size 0)

-- freeing the records that match keeps the size of the others
pub sized_freed : (size : ℕ) (m : Octets → Bool) (t : Table) → Sized size t → Sized size (freed m t)
unfolding Sized freed slot_octets
sized_freed size m [] z = z
sized_freed size m (none ∷ t) z = (z.0, sized_freed size m t z.1)
sized_freed size m (some r ∷ t) z =
    (either {A = Option Octets} (λ y. length (slot_octets size y) ≡ size) (m r) (λ q. length-replicate size 0) (λ q. z.0), sized_freed size m t z.1)

-- free slots are of any size
pub sized_nones : (size n : ℕ) → Sized size (replicate n none)
unfolding Sized slot_octets
sized_nones size zero = tt
sized_nones size (suc n) = (length-replicate size 0, sized_nones size n)

-- n records cut from octets that are long enough
sized_run : (size n : ℕ) (o : Octets) (m : ℕ) → size * n ≤ length o → Sized size (map some (chop size n o) ++ replicate m none)
unfolding Sized slot_octets chop
sized_run size zero o m h = sized_nones size m
sized_run size (suc n) o m h =
    let e : size * suc n ≡ size * n + size = mul-suc size n in
    (length-take-le size o (omega arith), sized_run size n (drop size o) m (rw length-drop (omega arith)))

-- so a list whose records all lie in its source loads slots of their size
pub sized_loaded : (size n : ℕ) (src : Octets) (from : ℕ) → from + size * n ≤ length src → Sized size (loaded (chop size n (drop from src)))
unfolding loaded
sized_loaded size n src from h = sized_run size n (drop from src) (32 - length (chop size n (drop from src))) (rw length-drop (omega arith))

-- the records of a well-formed table have its rule's size
sized_every : (u : TableRule) (t : Table) → every (record_ok u) (entries t) ≡ true → Sized u.size t
unfolding Sized slot_octets entries every record_ok
sized_every u [] e = tt
sized_every u (none ∷ t) e = (length-replicate u.size 0, sized_every u t e)
sized_every u (some r ∷ t) e =
    let a = and_true (record_ok u r) (every (record_ok u) (entries t)) e in
    (equal (length r) u.size (and_true (eqb (length r) u.size) _ a.0).0, sized_every u t a.1)

-- so in a table that is well formed for its controller
pub sized_ok : (u : TableRule) (f : Hardware) (t : Table) → table_ok u f t ≡ true → Sized u.size t
sized_ok u f t e = sized_every u t (table_fit u f t e).each
