-- What freeing, replacing, adding and loading do to the entries of a table, and that a table keeps its rule through each.
use Rattle.std.specs.Prelude.{ℕ, zero, suc, ◌-◌, ◌<◌, ◌≤◌, ◌≡◌, refl, Bool, true, false, ◌&&◌, ◌||◌, not, List, [], ◌∷◌, ◌++◌, map, length, get_or, take, drop, replicate, eqb, ltb, T}
use Rattle.std.proofs.Common.{arith, sym, ap, ◌∙◌, length-append, ltb→lt, lt→ltb}
use Rattle.std.proofs.Math.Option.{none, some}
use Rattle.std.proofs.lemmas.List.{length-replicate, length-map}
use Rattle.std.proofs.Math.Dec.{eqb_refl}
use Rattle.model.specs.Octets.{Octets, bytes, same}
use Rattle.model.specs.State.{Hardware, Table}
use Rattle.model.specs.Reasons.{passes}
use Rattle.model.specs.Tables.{TableRule, added, any, chop, distinct, empty, entries, every, freed, holds, loaded, record_ok, records_ok}
use Rattle.model.specs.Tables.{replaced, stored, support_ok}
use Rattle.model.specs.WellFormed.{table_ok}
use Rattle.model.proofs.Model.Tests.{and_true, both, either, equal, no_way, not-true, or_false, or_true}

-- 1. Octets that are the same -------------------------------------------------------------------------------------------------------------

-- octets that the test calls the same
pub same_eq : (a b : Octets) → same a b ≡ true → a ≡ b
unfolding same
same_eq [] [] e = refl
same_eq [] (y ∷ ys) e = no_way (sym e)
same_eq (x ∷ xs) [] e = no_way (sym e)
same_eq (x ∷ xs) (y ∷ ys) e =
    let h = and_true (eqb x y) (same xs ys) e in
    let p : x ≡ y = equal x y h.0 in
    let q : xs ≡ ys = same_eq xs ys h.1 in cc

-- a number is equal to itself
pub eqb_self : (n : ℕ) → eqb n n ≡ true
eqb_self n = go (eqb n n) (eqb_refl n)
  where
    go : (b : Bool) → T b → b ≡ true
    go true t = refl
    go false t = absurd t

-- octets are the same as themselves
pub same_refl : (a : Octets) → same a a ≡ true
unfolding same
same_refl [] = refl
same_refl (x ∷ xs) = both (eqb_self x) (same_refl xs)

-- not the same one way round, not the other
pub same_sym : (a b : Octets) → same a b ≡ false → same b a ≡ false
same_sym a b e = go (same b a) refl
  where
    go : (t : Bool) → same b a ≡ t → t ≡ false
    go false f = refl
    go true f = let p : b ≡ a = same_eq b a f in no_way (sym (same_refl a) ∙ (rw p at e))

-- 2. Lists of records -----------------------------------------------------------------------------------------------------------------------

-- the records that do not match
unfoldable pub without : (Octets → Bool) → List Octets → List Octets
without m [] = []
without m (r ∷ rs) = elim (m r) [ true ↦ without m rs | false ↦ r ∷ without m rs ]

-- what holds of every record holds of those left
every_without : (p m : Octets → Bool) (rs : List Octets) → every p rs ≡ true → every p (without m rs) ≡ true
unfolding every without
every_without p m [] e = refl
every_without p m (r ∷ rs) e =
    let h = and_true (p r) (every p rs) e in
    let ih = every_without p m rs h.1 in
    go (m r) ih h.0
  where
    go : (b : Bool) → every p (without m rs) ≡ true → p r ≡ true → every p (elim b [ true ↦ without m rs | false ↦ r ∷ without m rs ]) ≡ true
    go true ih h = ih
    go false ih h = both h ih

-- what holds of no key holds of no key left
any_without : (q : Octets → Bool) (k : Octets → Octets) (m : Octets → Bool) (rs : List Octets) → any q (map k rs) ≡ false → any q (map k (without m rs)) ≡ false
unfolding any without
any_without q k m [] e = refl
any_without q k m (r ∷ rs) e =
    let h = or_false (q (k r)) (any q (map k rs)) e in
    go (m r) (any_without q k m rs h.1) h.0
  where
    go : (b : Bool) → any q (map k (without m rs)) ≡ false → q (k r) ≡ false → any q (map k (elim b [ true ↦ without m rs | false ↦ r ∷ without m rs ])) ≡ false
    go true ih h = ih
    go false ih h = rw (h, ih)

-- distinct keys stay distinct
distinct_without : (k : Octets → Octets) (m : Octets → Bool) (rs : List Octets) → distinct (map k rs) ≡ true → distinct (map k (without m rs)) ≡ true
unfolding distinct without
distinct_without k m [] e = refl
distinct_without k m (r ∷ rs) e =
    let h = and_true (not (any (same (k r)) (map k rs))) (distinct (map k rs)) e in
    go (m r) (distinct_without k m rs h.1) (any_without (same (k r)) k m rs (not-true _ h.0))
  where
    go : (b : Bool) → distinct (map k (without m rs)) ≡ true → any (same (k r)) (map k (without m rs)) ≡ false
        → distinct (map k (elim b [ true ↦ without m rs | false ↦ r ∷ without m rs ])) ≡ true
    go true ih h = ih
    go false ih h = rw (h, ih)

-- a table that needs no support, or has it, goes on so
empty_without : (m : Octets → Bool) (s : Bool) (rs : List Octets) → empty rs || s ≡ true → empty (without m rs) || s ≡ true
unfolding empty without
empty_without m s [] e = refl
empty_without m s (r ∷ rs) e = rw e (or_true (empty (without m (r ∷ rs))))

-- 3. Tables: freed, replaced, added, loaded ---------------------------------------------------------------------------------------------------

-- freeing leaves the records that do not match
pub entries_freed : (m : Octets → Bool) (t : Table) → entries (freed m t) ≡ without m (entries t)
unfolding entries freed without
entries_freed m [] = refl
entries_freed m (none ∷ t) = entries_freed m t
entries_freed m (some r ∷ t) = go (m r) (entries_freed m t)
  where
    go : (b : Bool) → entries (freed m t) ≡ without m (entries t)
        → entries (elim b [ true ↦ none | false ↦ some r ] ∷ freed m t) ≡ elim b [ true ↦ without m (entries t) | false ↦ r ∷ without m (entries t) ]
    go true ih = ih
    go false ih = ap {B = List Octets} (λ l. r ∷ l) ih

-- freeing keeps the number of slots
pub length_freed : (m : Octets → Bool) (t : Table) → length (freed m t) ≡ length t
unfolding freed
length_freed m [] = refl
length_freed m (none ∷ t) = ap suc (length_freed m t)
length_freed m (some r ∷ t) = ap suc (length_freed m t)

-- replacing keeps the number of slots
pub length_replaced : (m : Octets → Bool) (x : Octets) (t : Table) → length (replaced m x t) ≡ length t
unfolding replaced
length_replaced m x [] = refl
length_replaced m x (none ∷ t) = ap suc (length_replaced m x t)
length_replaced m x (some r ∷ t) = either {A = Table} (λ l. length l ≡ suc (length t)) (m r) (λ q. refl) (λ q. ap suc (length_replaced m x t))

-- adding keeps the number of slots
pub length_added : (x : Octets) (t : Table) → length (added x t) ≡ length t
unfolding added
length_added x [] = refl
length_added x (none ∷ t) = refl
length_added x (some r ∷ t) = ap suc (length_added x t)

-- replacing leaves the keys, where what matches has the new record's key
keys_replaced : (k : Octets → Octets) (m : Octets → Bool) (x : Octets) (t : Table) → ((r : Octets) → m r ≡ true → k x ≡ k r)
    → map k (entries (replaced m x t)) ≡ map k (entries t)
unfolding entries replaced
keys_replaced k m x [] h = refl
keys_replaced k m x (none ∷ t) h = keys_replaced k m x t h
keys_replaced k m x (some r ∷ t) h =
    either {A = Table} (λ l. map k (entries l) ≡ k r ∷ map k (entries t)) (m r) (λ q. rw (h r q)) (λ q. rw (keys_replaced k m x t h))

-- what holds of the new record and of every old one holds after replacing
every_replaced : (p m : Octets → Bool) (x : Octets) (t : Table) → p x ≡ true → every p (entries t) ≡ true → every p (entries (replaced m x t)) ≡ true
unfolding entries replaced every
every_replaced p m x [] px e = refl
every_replaced p m x (none ∷ t) px e = every_replaced p m x t px e
every_replaced p m x (some r ∷ t) px e =
    let h = and_true (p r) (every p (entries t)) e in
    either {A = Table} (λ l. every p (entries l) ≡ true) (m r) (λ q. both px h.1) (λ q. both h.0 (every_replaced p m x t px h.1))

-- what holds of the new record and of every old one holds after adding
every_added : (p : Octets → Bool) (x : Octets) (t : Table) → p x ≡ true → every p (entries t) ≡ true → every p (entries (added x t)) ≡ true
unfolding entries added every
every_added p x [] px e = refl
every_added p x (none ∷ t) px e = both px e
every_added p x (some r ∷ t) px e = let h = and_true (p r) (every p (entries t)) e in both h.0 (every_added p x t px h.1)

-- what holds of no key, and not of the new one, holds of none after adding
any_added : (q : Octets → Bool) (k : Octets → Octets) (x : Octets) (t : Table) → q (k x) ≡ false → any q (map k (entries t)) ≡ false
    → any q (map k (entries (added x t))) ≡ false
unfolding entries added any
any_added q k x [] qx e = refl
any_added q k x (none ∷ t) qx e = rw (qx, e)
any_added q k x (some r ∷ t) qx e = let h = or_false (q (k r)) (any q (map k (entries t))) e in rw h.0 (any_added q k x t qx h.1)

-- distinct keys, and another: distinct after adding
distinct_added : (k : Octets → Octets) (x : Octets) (t : Table) → any (same (k x)) (map k (entries t)) ≡ false → distinct (map k (entries t)) ≡ true
    → distinct (map k (entries (added x t))) ≡ true
unfolding entries added distinct any
distinct_added k x [] n e = refl
distinct_added k x (none ∷ t) n e = rw (n, e)
distinct_added k x (some r ∷ t) n e =
    let h = and_true (not (any (same (k r)) (map k (entries t)))) (distinct (map k (entries t))) e in
    let g = or_false (same (k x) (k r)) (any (same (k x)) (map k (entries t))) n in
    rw (any_added (same (k r)) k x t (same_sym (k x) (k r) g.0) (not-true _ h.0), distinct_added k x t g.1 h.1)

-- some key is such a one if that of some record is
any_map : (q : Octets → Bool) (k : Octets → Octets) (rs : List Octets) → any q (map k rs) ≡ any (λ r. q (k r)) rs
unfolding any
any_map q k [] = refl
any_map q k (r ∷ rs) = rw (any_map q k rs)

-- a table of free slots has no entries
entries_nones : (n : ℕ) → entries (replicate n none) ≡ []
unfolding entries
entries_nones zero = refl
entries_nones (suc n) = entries_nones n

-- the entries of a loaded list are the list
pub entries_loaded : (rs : List Octets) (n : ℕ) → entries (map some rs ++ replicate n none) ≡ rs
unfolding entries
entries_loaded [] n = entries_nones n
entries_loaded (r ∷ rs) n = ap {B = List Octets} (λ l. r ∷ l) (entries_loaded rs n)

-- 4. A table stays well formed ---------------------------------------------------------------------------------------------------------------

-- a table that keeps its rule, taken apart
pub record TableFit (u : TableRule) (f : Hardware) (t : Table) : Type 0 where
  pub slots : length t ≡ 32
  pub octets : every bytes (entries t) ≡ true
  pub each : every (record_ok u) (entries t) ≡ true
  pub keys : distinct (map u.key (entries t)) ≡ true
  pub support : support_ok u f (entries t) ≡ true

-- the parts of a table that keeps its rule
pub table_fit : (u : TableRule) (f : Hardware) (t : Table) → table_ok u f t ≡ true → TableFit u f t
unfolding table_ok records_ok
table_fit u f t e =
    let a = and_true (eqb (length t) 32 && every bytes (entries t)) _ e in
    let w = and_true (eqb (length t) 32) _ a.0 in
    let b = and_true (records_ok u (entries t)) _ a.1 in
    let d = and_true (every (record_ok u) (entries t)) _ b.0 in
    record { slots = equal _ _ w.0; octets = w.1; each = d.0; keys = d.1; support = b.1 }

-- a table with these parts keeps its rule
pub fit_table : (u : TableRule) (f : Hardware) (t : Table) → TableFit u f t → table_ok u f t ≡ true
unfolding table_ok records_ok
fit_table u f t h = rw h.slots (both h.octets (both (both h.each h.keys) h.support))

-- a table keeps its rule when records are freed
pub freed_ok : (u : TableRule) (f : Hardware) (m : Octets → Bool) (t : Table) → table_ok u f t ≡ true → table_ok u f (freed m t) ≡ true
unfolding support_ok
freed_ok u f m t e =
    let h = table_fit u f t e in
    fit_table u f (freed m t) (record {
      slots = length_freed m t ∙ h.slots;
      octets = rw (entries_freed m t) (every_without _ m (entries t) h.octets);
      each = rw (entries_freed m t) (every_without _ m (entries t) h.each);
      keys = rw (entries_freed m t) (distinct_without u.key m (entries t) h.keys);
      support = rw (entries_freed m t) (empty_without m (passes (u.support f)) (entries t) h.support);
    })

-- a table keeps its rule when a record with another key is added
pub added_ok : (u : TableRule) (f : Hardware) (x : Octets) (t : Table) → table_ok u f t ≡ true
    → bytes x ≡ true → eqb (length x) u.size ≡ true → passes (u.checks x) ≡ true → passes (u.support f) ≡ true
    → any (λ r. same (u.key x) (u.key r)) (entries t) ≡ false
    → table_ok u f (added x t) ≡ true
unfolding support_ok record_ok
added_ok u f x t e bx lx gx s n =
    let h = table_fit u f t e in
    fit_table u f (added x t) (record {
      slots = length_added x t ∙ h.slots;
      octets = every_added _ x t bx h.octets;
      each = every_added _ x t (both lx gx) h.each;
      keys = distinct_added u.key x t (any_map (same (u.key x)) u.key (entries t) ∙ n) h.keys;
      support = rw s (or_true (empty (entries (added x t))));
    })

-- a table keeps its rule when a record of the same key is replaced
pub replaced_ok : (u : TableRule) (f : Hardware) (x : Octets) (t : Table) → table_ok u f t ≡ true
    → bytes x ≡ true → eqb (length x) u.size ≡ true → passes (u.checks x) ≡ true → passes (u.support f) ≡ true
    → table_ok u f (replaced (λ r. same (u.key x) (u.key r)) x t) ≡ true
unfolding support_ok record_ok
replaced_ok u f x t e bx lx gx s =
    let h = table_fit u f t e in
    let m : Octets → Bool = λ r. same (u.key x) (u.key r) in
    fit_table u f (replaced m x t) (record {
      slots = length_replaced m x t ∙ h.slots;
      octets = every_replaced _ m x t bx h.octets;
      each = every_replaced _ m x t (both lx gx) h.each;
      keys = rw (keys_replaced u.key m x t (λ r q. same_eq (u.key x) (u.key r) q)) h.keys;
      support = rw s (or_true (empty (entries (replaced m x t))));
    })

-- a table keeps its rule when a record is replaced or added
pub stored_ok : (u : TableRule) (f : Hardware) (x : Octets) (t : Table) → table_ok u f t ≡ true
    → bytes x ≡ true → eqb (length x) u.size ≡ true → passes (u.checks x) ≡ true → passes (u.support f) ≡ true
    → table_ok u f (stored (λ r. same (u.key x) (u.key r)) x t) ≡ true
unfolding stored holds
stored_ok u f x t e bx lx gx s = go (holds (λ r. same (u.key x) (u.key r)) t) refl
  where
    go : (b : Bool) → any (λ r. same (u.key x) (u.key r)) (entries t) ≡ b
        → table_ok u f (elim b [ true ↦ replaced (λ r. same (u.key x) (u.key r)) x t | false ↦ added x t ]) ≡ true
    go true q = replaced_ok u f x t e bx lx gx s
    go false q = added_ok u f x t e bx lx gx s q

-- a list that keeps the rule is loaded into a table that keeps it
pub loaded_ok : (u : TableRule) (f : Hardware) (rs : List Octets) → length rs ≤ 32 → every bytes rs ≡ true → records_ok u rs ≡ true
    → support_ok u f rs ≡ true → table_ok u f (loaded rs) ≡ true
unfolding loaded records_ok
loaded_ok u f rs le br ok s =
    let d = and_true (every (record_ok u) rs) _ ok in
    let n : length (loaded rs) ≡ 32 = simp (length-append, length-map, length-replicate) (omega arith) in
    fit_table u f (loaded rs) (record {
      slots = n;
      octets = rw (entries_loaded rs (32 - length rs)) br;
      each = rw (entries_loaded rs (32 - length rs)) d.0;
      keys = rw (entries_loaded rs (32 - length rs)) d.1;
      support = rw (entries_loaded rs (32 - length rs)) s;
    })

-- 5. Octets of parts ------------------------------------------------------------------------------------------------------------------------------

-- the first of octets are octets
pub bytes_take : (n : ℕ) (o : Octets) → bytes o ≡ true → bytes (take n o) ≡ true
unfolding bytes
bytes_take zero o e = refl
bytes_take (suc n) [] e = refl
bytes_take (suc n) (x ∷ o) e = let h = and_true (ltb x 256) _ e in both h.0 (bytes_take n o h.1)

-- octets behind a place are octets
pub bytes_drop : (n : ℕ) (o : Octets) → bytes o ≡ true → bytes (drop n o) ≡ true
unfolding bytes
bytes_drop zero o e = e
bytes_drop (suc n) [] e = refl
bytes_drop (suc n) (x ∷ o) e = bytes_drop n o (and_true (ltb x 256) _ e).1

-- records cut from octets are octets
pub bytes_chop : (size n : ℕ) (o : Octets) → bytes o ≡ true → every bytes (chop size n o) ≡ true
unfolding every chop
bytes_chop size zero o e = refl
bytes_chop size (suc n) o e = both (bytes_take size o e) (bytes_chop size n (drop size o) (bytes_drop size o e))

-- an octet at a place is below 256
pub byte_at : (o : Octets) (k : ℕ) → bytes o ≡ true → get_or o k 0 < 256
unfolding bytes
byte_at [] k e = omega arith
byte_at (x ∷ o) zero e = ltb→lt x 256 (rw (and_true (ltb x 256) _ e).0 tt)
byte_at (x ∷ o) (suc k) e = byte_at o k (and_true (ltb x 256) _ e).1

-- an order, as a test
pub lt_true : (m n : ℕ) → m < n → ltb m n ≡ true
lt_true m n h = go (ltb m n) (lt→ltb m n h)
  where
    go : (b : Bool) → T b → b ≡ true
    go true t = refl
    go false t = absurd t

-- n records are cut
pub length_chop : (size n : ℕ) (o : Octets) → length (chop size n o) ≡ n
unfolding chop
length_chop size zero o = refl
length_chop size (suc n) o = ap suc (length_chop size n (drop size o))

-- octets of a slice are octets
pub slice_bytes : (o : Octets) → ((k : ℕ) → get_or o k 0 < 256) → bytes o ≡ true
unfolding bytes
slice_bytes [] h = refl
slice_bytes (x ∷ o) h = both (lt_true x 256 (h 0)) (slice_bytes o (λ k. h (suc k)))
