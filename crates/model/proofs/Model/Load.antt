-- What the walk through an image keeps is well formed, whatever it drops; so what load makes is.
use Rattle.std.specs.Prelude.{ℕ, zero, suc, ◌+◌, ◌≤◌, ◌≡◌, refl, Bool, true, false, ◌&&◌, List, [], ◌∷◌, ◌++◌, map, length, take, drop, replicate, set, eqb, leb, ltb}
use Rattle.std.proofs.Common.{arith, ◌∙◌, length-append, length-set, lit≤}
use Rattle.std.proofs.Math.Option.{Option, none, some}
use Rattle.model.specs.Octets.{Octets, bytes, number, octet, same}
use Rattle.model.specs.Answers.{fault_number}
use Rattle.model.specs.State.{Controller, Hardware, PlainHub, Table}
use Rattle.model.specs.Reasons.{passes}
use Rattle.model.specs.Tables.{TableRule, any, distinct, empty, every, record_ok, records_ok, support_ok, table_rules}
use Rattle.model.specs.Image.{One, Two, Version, can_say, has_image, slot_in_image, version_octet}
use Rattle.model.specs.Reading.{End, Fixed, Item, Judged, ImageFault, Reading, Slots, Walk, acceptable, also, before, either_version, faulty, items, judge, judge_as, judge_items, load, only, state_in, controller_by, controller_then, cut, fixed_part, goes_on, hub_of, kept_then}
use Rattle.model.specs.Reading.{BadCount, BadField, BadIndex, BadLength, BadRecord, BadVersion, Repeated}
use Rattle.model.specs.Reading.{nothing_dropped, record_fault, right, short, table_then, walk, walk_controllers, walk_records, walk_table, walk_tables, wrong}
use Rattle.model.specs.WellFormed.{plain_ok, slot_is_ok, slots_ok, tables_ok}
use Rattle.model.proofs.Model.Fields.{Leaves, bytes_parts, le_of}
use Rattle.model.proofs.Model.Fixed.{fixed_leaves, fixed_right}
use Rattle.model.proofs.Model.Stays.{fit_plain, slots_set}
use Rattle.model.proofs.Model.Tables.{bytes_drop, bytes_take, loaded_ok, same_sym}
use Rattle.model.proofs.Model.Tests.{and_true, both, either, equal, not-true, optional, or_false, or_true}

-- 1. One record more --------------------------------------------------------------------------------------------------------------------------

-- what holds of every record and of one more
every_more : (p : Octets → Bool) (rs : List Octets) (r : Octets) → every p rs ≡ true → p r ≡ true → every p (rs ++ (r ∷ [])) ≡ true
unfolding every
every_more p [] r e h = both h refl
every_more p (x ∷ rs) r e h = let a = and_true (p x) _ e in both a.0 (every_more p rs r a.1 h)

-- what holds of no key, nor of one more
any_more : (q : Octets → Bool) (k : Octets → Octets) (rs : List Octets) (r : Octets) → any q (map k rs) ≡ false → q (k r) ≡ false → any q (map k (rs ++ (r ∷ []))) ≡ false
unfolding any
any_more q k [] r e h = rw h
any_more q k (x ∷ rs) r e h = let a = or_false (q (k x)) _ e in rw a.0 (any_more q k rs r a.1 h)

-- distinct keys, and one more that is none of them
distinct_more : (k : Octets → Octets) (rs : List Octets) (r : Octets) → distinct (map k rs) ≡ true → any (same (k r)) (map k rs) ≡ false → distinct (map k (rs ++ (r ∷ []))) ≡ true
unfolding distinct any
distinct_more k [] r e h = refl
distinct_more k (x ∷ rs) r e h =
    let a = and_true _ (distinct (map k rs)) e in
    let b = or_false (same (k r) (k x)) _ h in
    rw (any_more (same (k x)) k rs r (not-true _ a.0) (same_sym (k r) (k x) b.0)) (distinct_more k rs r a.1 b.1)

-- a record that is kept keeps its rule, has its support and repeats none
pub fault_none : (u : TableRule) (f : Hardware) (kept : List Octets) (r : Octets) → record_fault u f kept r ≡ none
    → (record_ok u r ≡ true) × (passes (u.support f) ≡ true) × (any (same (u.key r)) (map u.key kept) ≡ false)
unfolding record_fault
fault_none u f kept r =
    either {A = Option ImageFault} (λ x. x ≡ none → Kept) (record_ok u r && passes (u.support f))
    (λ t. either {A = Option ImageFault} (λ x. x ≡ none → Kept) (any (same (u.key r)) (map u.key kept))
    (λ d e. let z : ◌≡◌ {A = ℕ} 0 1 = cc in absurd (omega arith))
    (λ d e. let a = and_true (record_ok u r) _ t in (a.0, a.1, d)))
    (λ t e. let z : ◌≡◌ {A = ℕ} 0 1 = cc in absurd (omega arith))
  where
    Kept : Type 0
    Kept = (record_ok u r ≡ true) × (passes (u.support f) ≡ true) × (any (same (u.key r)) (map u.key kept) ≡ false)

-- 2. Records and tables -----------------------------------------------------------------------------------------------------------------------

-- the octets that a walk has before it are octets
unfoldable pub end_bytes : End → Bool
end_bytes (goes_on o) = bytes o
end_bytes (cut i) = true

-- records that a table may have, and where they end
record RecordsKept (u : TableRule) (f : Hardware) (most : ℕ) (w : Walk (List Octets)) : Type 0 where
  few : length w.kept ≤ most
  octets : every bytes w.kept ≡ true
  rule : records_ok u w.kept ≡ true
  support : support_ok u f w.kept ≡ true
  end : end_bytes w.end ≡ true

-- the records that are kept, after those kept before
records_kept : (u : TableRule) (f : Hardware) (most n : ℕ) (kept : List Octets) (o : Octets) → bytes o ≡ true → length kept + n ≤ most → every bytes kept ≡ true → records_ok u kept ≡ true
    → support_ok u f kept ≡ true → RecordsKept u f most (walk_records u f n kept o)
unfolding walk_records nothing_dropped also end_bytes records_ok support_ok
records_kept u f most zero kept o w le ek rk sk = record { few = omega arith; octets = ek; rule = rk; support = sk; end = w }
records_kept u f most (suc n) kept o w le ek rk sk =
    either {A = Walk (List Octets)} (RecordsKept u f most) (leb u.size (length o))
    (λ t. optional {B = Walk (List Octets)} (RecordsKept u f most) (record_fault u f kept r)
    (λ h. let a = fault_none u f kept r h in
    records_kept u f most n (kept ++ (r ∷ [])) x wx (omega (arith, length-append kept (r ∷ []))) (every_more bytes kept r ek (bytes_take u.size o w))
    (both (every_more (record_ok u) kept r d.0 a.0) (distinct_more u.key kept r d.1 a.2))
    (rw a.1 (or_true (empty (kept ++ (r ∷ []))))))
    (λ k h. let g = records_kept u f most n kept x wx (omega arith) ek rk sk in record { few = g.few; octets = g.octets; rule = g.rule; support = g.support; end = g.end }))
    (λ t. record { few = omega arith; octets = ek; rule = rk; support = sk; end = refl })
  where
    r : Octets
    r = take u.size o

    x : Octets
    x = drop u.size o

    wx : bytes x ≡ true
    wx = bytes_drop u.size o w

    d : (every (record_ok u) kept ≡ true) × (distinct (map u.key kept) ≡ true)
    d = and_true (every (record_ok u) kept) _ rk

-- one table
table_kept : (u : TableRule) (f : Hardware) (e : End) → end_bytes e ≡ true → RecordsKept u f 32 (walk_table u f e)
unfolding walk_table nothing_dropped end_bytes bytes every records_ok support_ok empty distinct
table_kept u f (cut i) w = record { few = omega arith; octets = refl; rule = refl; support = refl; end = refl }
table_kept u f (goes_on []) w = record { few = omega arith; octets = refl; rule = refl; support = refl; end = refl }
table_kept u f (goes_on (n ∷ o)) w =
    either {A = Walk (List Octets)} (RecordsKept u f 32) (leb n 32)
    (λ t. records_kept u f 32 n [] o (and_true (ltb n 256) _ w).1 (omega (arith, le_of n 32 t)) refl refl refl)
    (λ t. record { few = omega arith; octets = refl; rule = refl; support = refl; end = refl })

-- all tables
pub tables_kept : (f : Hardware) (us : List TableRule) (e : End) → end_bytes e ≡ true → (tables_ok f us (walk_tables f us e).kept ≡ true) × (end_bytes (walk_tables f us e).end ≡ true)
unfolding walk_tables table_then before nothing_dropped tables_ok
tables_kept f [] e w = (refl, w)
tables_kept f (u ∷ us) e w =
    let h = table_kept u f e w in
    let g = tables_kept f us (walk_table u f e).end h.end in
    (both (loaded_ok u f (walk_table u f e).kept h.few h.octets h.rule h.support) g.0, g.1)

-- 3. Controllers --------------------------------------------------------------------------------------------------------------------------------

-- indexes that have an image have one with another such controller among them
said_set : (v : Version) (l : Slots) (i : ℕ) (x : Option Controller) → has_image v l ≡ true → slot_in_image v x ≡ true → has_image v (set l i x) ≡ true
unfolding has_image
said_set v [] i x e n = refl
said_set v (s ∷ l) zero x e n = both n (and_true (slot_in_image v s) _ e).1
said_set v (s ∷ l) (suc i) x e n = let h = and_true (slot_in_image v s) _ e in both h.0 (said_set v l i x h.1 n)

-- four places with well-formed controllers that the version can tell
pub record SlotsKept (v : Version) (s : Slots) : Type 0 where
  pub four : length s ≡ 4
  pub fit : slots_ok s ≡ true
  pub said : has_image v s ≡ true

-- one controller more
slots_more : (v : Version) (s : Slots) (c : Fixed) (ts : List Table) → SlotsKept v s → slot_is_ok (some (controller_by c ts)) ≡ true → can_say v c.radio ≡ true
    → SlotsKept v (set s c.index (some (controller_by c ts)))
unfolding controller_by slot_in_image
slots_more v s c ts h k t = record {
  four = length-set s c.index _ ∙ h.four;
  fit = slots_set s c.index _ h.fit k;
  said = said_set v s c.index _ h.said t;
}

-- what is kept of controllers, if it is of those behind the first
controller_kept : (v : Version) (low : ℕ) (found : Slots) (o : Octets) (r : Reading Fixed) (more : ℕ → Slots → End → Walk Slots) → bytes o ≡ true → fixed_part v low o ≡ r → SlotsKept v found
    → ((low : ℕ) (found : Slots) (e : End) → end_bytes e ≡ true → SlotsKept v found → SlotsKept v (more low found e).kept)
    → SlotsKept v (controller_then low found o r more).kept
unfolding controller_then kept_then also nothing_dropped slot_is_ok end_bytes Leaves
controller_kept v low found o (right c x) more w e k ih =
    let h = fixed_right v low o c x w e in
    let t = tables_kept c.radio.hardware table_rules (goes_on x) h.behind in
    ih _ _ _ t.1 (slots_more v found c _ k (h.fits _ t.0) h.said)
controller_kept v low found o (wrong y c x) more w e k ih =
    let l : Leaves 24 o (wrong y c x) = rw e at (fixed_leaves v low o) in
    let b = bytes_parts l.front x (rw l.parts w) in
    ih low found _ (tables_kept c.radio.hardware table_rules (goes_on x) b.1).1 k
controller_kept v low found o (short y) more w e k ih = k

-- all controllers
controllers_kept : (v : Version) (n low : ℕ) (found : Slots) (e : End) → end_bytes e ≡ true → SlotsKept v found → SlotsKept v (walk_controllers v n low found e).kept
unfolding walk_controllers nothing_dropped end_bytes
controllers_kept v zero low found e w k = k
controllers_kept v (suc n) low found (cut i) w k = k
controllers_kept v (suc n) low found (goes_on o) w k = controller_kept v low found o (fixed_part v low o) (walk_controllers v n) w refl k (controllers_kept v n)

-- what is kept of an image
pub walk_kept : (v : Version) (o : Octets) → bytes o ≡ true → SlotsKept v (walk v o).kept
unfolding walk nothing_dropped end_bytes bytes slots_ok slot_is_ok has_image slot_in_image
walk_kept v [] w = record { four = refl; fit = refl; said = refl }
walk_kept v (n ∷ o) w = controllers_kept v n 0 (replicate 4 none) (goes_on o) (and_true (ltb n 256) _ w).1 (record { four = refl; fit = refl; said = refl })

-- WHAT IS KEPT IS WELL FORMED, whatever is dropped
pub kept_ok : (v : Version) (o : Octets) → bytes o ≡ true → plain_ok (hub_of (walk v o)) ≡ true
unfolding hub_of
kept_ok v o w = let h = walk_kept v o w in fit_plain (hub_of (walk v o)) (record { four = rw h.four; clock = refl; slots = h.fit })

-- 4. Acceptable images --------------------------------------------------------------------------------------------------------------------------

-- what is wrong with an image has a number from 71 to 77
pub fault_number_lem : (k : ImageFault) → (71 ≤ fault_number k) × (fault_number k ≤ 77)
fault_number_lem BadLength = (lit≤ tt, lit≤ tt)
fault_number_lem BadVersion = (lit≤ tt, lit≤ tt)
fault_number_lem BadIndex = (lit≤ tt, lit≤ tt)
fault_number_lem BadField = (lit≤ tt, lit≤ tt)
fault_number_lem BadCount = (lit≤ tt, lit≤ tt)
fault_number_lem BadRecord = (lit≤ tt, lit≤ tt)
fault_number_lem Repeated = (lit≤ tt, lit≤ tt)

-- what is known of an image that is accepted in a version, and gives this hub
pub record Accepted (v : Version) (o : Octets) (p : PlainHub) : Type 0 where
  pub long : leb 5 (length o) ≡ true
  pub version : octet o 4 ≡ version_octet v
  pub size : eqb (number 0 (take 4 o)) (length o) ≡ true
  pub count : leb (octet o 5) 4 ≡ true
  pub whole : items (walk v (drop 5 o)) ≡ []
  pub hub : hub_of (walk v (drop 5 o)) ≡ p

-- nothing was dropped, and this is the hub
judged_items : (n : ℕ) (p q : PlainHub) (is : List Item) → judge_items n p is ≡ acceptable q → (is ≡ []) × (p ≡ q)
unfolding judge_items
judged_items n p q [] e = (refl, cc)
judged_items n p q (i ∷ is) e = let z : ◌≡◌ {A = ℕ} 0 1 = cc in absurd (omega arith)

-- an image that is accepted: in a version that is taken, and that its version octet says
pub accepted : (takes : ℕ → Option Version) (o : Octets) (p : PlainHub) → ((n : ℕ) (v : Version) → takes n ≡ some v → n ≡ version_octet v) → judge takes o ≡ acceptable p
    → (v : Version) × (takes (octet o 4) ≡ some v) × Accepted v o p
unfolding judge judge_as
accepted takes o p sound =
    either {A = Judged} (λ j. j ≡ acceptable p → Result) (leb 5 (length o))
    (λ l. by (takes (octet o 4)) refl l)
    (λ l e. let z : ◌≡◌ {A = ℕ} 0 1 = cc in absurd (omega arith))
  where
    Result : Type 0
    Result = (v : Version) × (takes (octet o 4) ≡ some v) × Accepted v o p

    by : (x : Option Version) → takes (octet o 4) ≡ x → leb 5 (length o) ≡ true → judge_as o x ≡ acceptable p → Result
    by none t l = λ e. let z : ◌≡◌ {A = ℕ} 0 1 = cc in absurd (omega arith)
    by (some v) t l =
        either {A = Judged} (λ j. j ≡ acceptable p → Result) (eqb (number 0 (take 4 o)) (length o))
        (λ s. either {A = Judged} (λ j. j ≡ acceptable p → Result) (leb (octet o 5) 4)
        (λ c e. let h = judged_items (length o) (hub_of (walk v (drop 5 o))) p (items (walk v (drop 5 o))) e in
        (v, t, record { long = l; version = sound (octet o 4) v t; size = s; count = c; whole = h.0; hub = h.1 }))
        (λ c e. let z : ◌≡◌ {A = ℕ} 0 1 = cc in absurd (omega arith)))
        (λ s e. let z : ◌≡◌ {A = ℕ} 0 1 = cc in absurd (omega arith))

-- the other way: so is every image for which that holds
pub accepts : (takes : ℕ → Option Version) (v : Version) (o : Octets) (p : PlainHub) → takes (version_octet v) ≡ some v → Accepted v o p → judge takes o ≡ acceptable p
unfolding judge judge_as judge_items
accepts takes v o p t h = rw (h.long, judge, h.version, t, h.size, judge_as, h.count, h.whole, h.hub)

-- load takes the versions that there are
pub either_sound : (n : ℕ) (v : Version) → either_version n ≡ some v → n ≡ version_octet v
unfolding either_version version_octet
either_sound n v =
    either {A = Option Version} (λ x. x ≡ some v → n ≡ version_octet v) (eqb n 1)
    (λ a e. let q : One ≡ v = cc in rw (← q) (equal n 1 a))
    (λ a. either {A = Option Version} (λ x. x ≡ some v → n ≡ version_octet v) (eqb n 2)
    (λ b e. let q : Two ≡ v = cc in rw (← q) (equal n 2 b))
    (λ b e. let z : ◌≡◌ {A = ℕ} 0 1 = cc in absurd (omega arith)))

-- a move takes the one it is from
only_sound : (w : Version) (n : ℕ) (v : Version) → only w n ≡ some v → (n ≡ version_octet v) × (w ≡ v)
unfolding only
only_sound w n v =
    either {A = Option Version} (λ x. x ≡ some v → (n ≡ version_octet v) × (w ≡ v)) (eqb n (version_octet w))
    (λ a e. let q : w ≡ v = cc in rw (← q) (equal n (version_octet w) a, refl))
    (λ a e. let z : ◌≡◌ {A = ℕ} 0 1 = cc in absurd (omega arith))

-- both versions are taken by load
pub either_takes : (v : Version) → either_version (version_octet v) ≡ some v
unfolding either_version version_octet
either_takes One = refl
either_takes Two = refl

-- each by its move
pub only_takes : (v : Version) → only v (version_octet v) ≡ some v
unfolding only version_octet
only_takes One = refl
only_takes Two = refl

-- an image that load takes
pub loaded_by : (o : Octets) (p : PlainHub) → load o ≡ some p → (v : Version) × Accepted v o p
unfolding load state_in
loaded_by o p e = go (judge either_version o) refl e
  where
    go : (j : Judged) → judge either_version o ≡ j → state_in j ≡ some p → (v : Version) × Accepted v o p
    go (acceptable q) f e = let g : q ≡ p = cc in let a = accepted either_version o p either_sound (rw g at f) in (a.0, a.2)
    go (faulty k at) f e = let z : ◌≡◌ {A = ℕ} 0 1 = cc in absurd (omega arith)

-- so does every image for which that holds
pub loads_by : (v : Version) (o : Octets) (p : PlainHub) → Accepted v o p → load o ≡ some p
unfolding load state_in
loads_by v o p h = rw (accepts either_version v o p (either_takes v) h)

-- an image that is accepted where one version is taken
pub only_by : (v : Version) (o : Octets) (p : PlainHub) → judge (only v) o ≡ acceptable p → Accepted v o p
only_by v o p e =
    let a = accepted (only v) o p (λ n w t. (only_sound v n w t).0) e in
    rw (only_sound v (octet o 4) a.0 a.1).1 a.2

-- the hub of an accepted image is well formed
pub accepted_ok : (v : Version) (o : Octets) (p : PlainHub) → bytes o ≡ true → Accepted v o p → plain_ok p ≡ true
accepted_ok v o p w h = rw (← h.hub) (kept_ok v (drop 5 o) (bytes_drop 5 o w))

-- WHAT LOAD MAKES IS WELL FORMED
pub load_ok : (o : Octets) (p : PlainHub) → bytes o ≡ true → load o ≡ some p → plain_ok p ≡ true
load_ok o p w e = let a = loaded_by o p e in accepted_ok a.0 o p w a.1
