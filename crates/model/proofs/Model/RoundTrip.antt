-- A saved image loads, in the version it is written in, as `reloaded_hub` says; and no image is longer than 16,014 octets.
use Rattle.std.specs.Prelude.{ℕ, suc, ◌+◌, ◌-◌, ◌*◌, ◌/◌, ◌%◌, ◌<◌, ◌≤◌, ◌≡◌, refl, Bool, true, false, ◌&&◌, ◌||◌, List, [], ◌∷◌, ◌++◌, map, length, take, drop, replicate, set, eqb, leb, ltb}
use Rattle.std.proofs.Common.{arith, mul-le-mul_left, mul-suc, mul-zero, sym, ap, ◌∙◌, append_assoc, append-nil, length-append, take_at, drop_at, lit<, lit≤}
use Rattle.std.proofs.Math.Option.{Option, none, some}
use Rattle.model.specs.Lengths as Lengths
use Rattle.model.specs.Octets.{Octets, be16, be32, bytes, joined, number, octet, same, used_part}
use Rattle.model.specs.State.{Controller, Hardware, PlainHub, Table}
use Rattle.model.specs.Reasons.{passes}
use Rattle.model.specs.Tables.{TableRule, any, blocked_rule, device_rule, distinct, empty, entries, every, identity_key_rule, link_key_rule, long_term_key_rule, record_ok}
use Rattle.model.specs.Tables.{support_ok, table_rules, uuid_rule}
use Rattle.model.specs.Image.{One, Two, Version, can_say, closed_up, controller_image, controller_images, has_image, image_of, name_image, names_image}
use Rattle.model.specs.Image.{reloaded, reloaded_hub, reloaded_slot, slot_in_image, table_image, version_octet}
use Rattle.model.specs.Reading.{Slots, also, before, controller_by, controller_then, goes_on, hub_of, index_right, items, kept_then, last_item, nothing_dropped}
use Rattle.model.specs.Reading.{record_fault, table_then, walk, walk_controllers, walk_records, walk_table, walk_tables}
use Rattle.model.specs.WellFormed.{controller_ok, plain_ok, slot_is_ok, slots_ok, table_ok, tables_ok}
use Rattle.model.proofs.Model.Fields.{bytes_both, leb_of, used_bytes, used_most}
use Rattle.model.proofs.Model.Fixed.{fixed_reads, fixed_of, name_parts}
use Rattle.model.proofs.Model.Load.{Accepted}
use Rattle.model.proofs.Model.Numbers.{be32_back}
use Rattle.model.proofs.Model.Parts.{controller_fit, lengths, widths_fit}
use Rattle.model.proofs.Model.Stays.{plain_fit}
use Rattle.model.proofs.Model.Tables.{bytes_drop, bytes_take, eqb_self, lt_true, same_sym, table_fit}
use Rattle.model.proofs.Model.Tests.{and_true, both, equal, no_way, not-true, or_false, or_true}

-- 1. Records --------------------------------------------------------------------------------------------------------------------------------

-- what holds of no key in a list holds not of one in its middle
any_middle : (q : Octets → Bool) (k : Octets → Octets) (xs : List Octets) (r : Octets) (rs : List Octets) → any q (map k (xs ++ (r ∷ rs))) ≡ false → q (k r) ≡ false
unfolding any
any_middle q k [] r rs e = (or_false (q (k r)) _ e).0
any_middle q k (x ∷ xs) r rs e = any_middle q k xs r rs (or_false (q (k x)) _ e).1

-- of distinct keys, one in the middle is none of those before it
distinct_middle : (k : Octets → Octets) (xs : List Octets) (r : Octets) (rs : List Octets) → distinct (map k (xs ++ (r ∷ rs))) ≡ true → any (same (k r)) (map k xs) ≡ false
unfolding any distinct
distinct_middle k [] r rs e = refl
distinct_middle k (x ∷ xs) r rs e =
    let a = and_true _ (distinct (map k (xs ++ (r ∷ rs)))) e in
    rw (same_sym (k x) (k r) (any_middle (same (k x)) k xs r rs (not-true _ a.0))) (distinct_middle k xs r rs a.1)

-- a record that keeps its rule, has its support and repeats none is kept
pub fault_free : (u : TableRule) (f : Hardware) (kept : List Octets) (r : Octets) → record_ok u r ≡ true → passes (u.support f) ≡ true → any (same (u.key r)) (map u.key kept) ≡ false
    → record_fault u f kept r ≡ none
unfolding record_fault
fault_free u f kept r a b c = rw (a, record_fault, b, c)

-- a record that is kept, before others
record_then : (u : TableRule) (f : Hardware) (n : ℕ) (kept : List Octets) (r x : Octets) → length r ≡ u.size → record_fault u f kept r ≡ none
    → walk_records u f (suc n) kept (r ++ x) ≡ walk_records u f n (kept ++ (r ∷ [])) x
unfolding walk_records
record_then u f n kept r x l e =
    let t : leb u.size (length (r ++ x)) ≡ true = leb_of u.size (length (r ++ x)) (omega (arith, length-append r x)) in
    let a : take u.size (r ++ x) ≡ r = take_at r x u.size l in
    let d : record_fault u f kept (take u.size (r ++ x)) ≡ none = rw a e in
    rw (t, walk_records, d, a, drop_at r x u.size l)

-- records that keep the rules are all kept, after those kept before
pub records_back : (u : TableRule) (f : Hardware) (rs kept : List Octets) (x : Octets) → every (record_ok u) rs ≡ true → support_ok u f rs ≡ true → distinct (map u.key (kept ++ rs)) ≡ true
    → walk_records u f (length rs) kept (joined rs ++ x) ≡ nothing_dropped (kept ++ rs) (goes_on x)
unfolding joined every support_ok empty record_ok walk_records
records_back u f [] kept x e s d = rw (append-nil kept)
records_back u f (r ∷ rs) kept x e s d =
    let a = and_true (eqb (length r) u.size && passes (u.checks r)) _ e in
    let l : length r ≡ u.size = equal _ _ (and_true (eqb (length r) u.size) _ a.0).0 in
    let m : kept ++ (r ∷ rs) ≡ (kept ++ (r ∷ [])) ++ rs = sym (append_assoc kept (r ∷ []) rs) in
    let s2 : empty rs || passes (u.support f) ≡ true = rw s (or_true (empty rs)) in
    rw (append_assoc r (joined rs) x) (record_then u f (length rs) kept r (joined rs ++ x) l (fault_free u f kept r a.0 s (distinct_middle u.key kept r rs d))
    ∙ records_back u f rs (kept ++ (r ∷ [])) x a.1 s2 (rw m at d) ∙ rw m)

-- no more entries than slots
pub length_entries : (t : Table) → length (entries t) ≤ length t
unfolding entries
length_entries [] = omega arith
length_entries (none ∷ t) = omega (arith, length_entries t)
length_entries (some r ∷ t) = omega (arith, length_entries t)

-- the length of records joined
length_joined : (size : ℕ) (g : Octets → Bool) (rs : List Octets) → every (λ r. eqb (length r) size && g r) rs ≡ true → length (joined rs) ≡ size * length rs
unfolding every joined
length_joined size g [] e = sym (mul-zero size)
length_joined size g (r ∷ rs) e =
    let a = and_true (eqb (length r) size && g r) _ e in
    length-append r (joined rs) ∙ omega (arith, equal (length r) size (and_true (eqb (length r) size) _ a.0).0, length_joined size g rs a.1, mul-suc size (length rs))

-- 2. Tables -----------------------------------------------------------------------------------------------------------------------------------

-- a saved table is read with its slots closed up, whatever follows
table_back_lem : (u : TableRule) (f : Hardware) (t : Table) (x : Octets) → table_ok u f t ≡ true → walk_table u f (goes_on (table_image t ++ x)) ≡ nothing_dropped (entries t) (goes_on x)
unfolding walk_table table_image
table_back_lem u f t x e =
    let h = table_fit u f t e in
    let l : leb (length (entries t)) 32 ≡ true = leb_of (length (entries t)) 32 (omega (arith, length_entries t, h.slots)) in
    rw (l, walk_table) (records_back u f (entries t) [] x h.each h.support h.keys)

-- saved tables are read so, whatever follows them
tables_back_lem : (f : Hardware) (us : List TableRule) (ts : List Table) (x : Octets) → tables_ok f us ts ≡ true
    → walk_tables f us (goes_on (joined (map table_image ts) ++ x)) ≡ nothing_dropped (map closed_up ts) (goes_on x)
unfolding walk_tables table_then before nothing_dropped tables_ok joined closed_up
tables_back_lem f [] [] x e = refl
tables_back_lem f [] (t ∷ ts) x e = no_way (sym e)
tables_back_lem f (u ∷ us) [] x e = no_way (sym e)
tables_back_lem f (u ∷ us) (t ∷ ts) x e =
    let a = and_true (table_ok u f t) _ e in
    rw (append_assoc (table_image t) (joined (map table_image ts)) x, table_back_lem u f t (joined (map table_image ts) ++ x) a.0, tables_back_lem f us ts x a.1)

-- 3. The indexes ------------------------------------------------------------------------------------------------------------------------------------

-- the controllers of l, from index i on, put into acc
fill : Version → ℕ → Slots → Slots → Slots
fill v i acc [] = acc
fill v i acc (none ∷ l) = fill v (suc i) acc l
fill v i acc (some c ∷ l) = fill v (suc i) (set acc i (some (reloaded v c))) l

-- a saved controller is read as `reloaded` says, and then those behind it
controller_back_lem : (v : Version) (n low i : ℕ) (acc : Slots) (c : Controller) (x : Octets) → controller_ok c ≡ true → can_say v c.radio ≡ true → index_right low i ≡ true
    → walk_controllers v (suc n) low acc (goes_on (controller_image v i c ++ x)) ≡ walk_controllers v n (suc i) (set acc i (some (reloaded v c))) (goes_on x)
unfolding walk_controllers controller_then kept_then also nothing_dropped fixed_of controller_by reloaded
controller_back_lem v n low i acc c x e t r =
    rw (fixed_reads v low i c x e t r, controller_then, tables_back_lem c.radio.hardware table_rules c.host.tables x (controller_fit c e).tables)

-- saved controllers are read one after the other
controllers_back : (v : Version) (l : Slots) (i low : ℕ) (acc : Slots) → slots_ok l ≡ true → has_image v l ≡ true → low ≤ i → i + length l ≤ 4
    → walk_controllers v (length (controller_images v i l)) low acc (goes_on (joined (controller_images v i l))) ≡ nothing_dropped (fill v i acc l) (goes_on [])
unfolding controller_images joined walk_controllers fill slots_ok slot_is_ok has_image slot_in_image index_right
controllers_back v [] i low acc e t le fits = refl
controllers_back v (none ∷ l) i low acc e t le fits = controllers_back v l (suc i) low acc e t (omega arith) (omega arith)
controllers_back v (some c ∷ l) i low acc e t le fits =
    let h = and_true (controller_ok c) _ e in
    let k = and_true (can_say v c.radio) _ t in
    controller_back_lem v (length (controller_images v (suc i) l)) low i acc c (joined (controller_images v (suc i) l)) h.0 k.0 (both (leb_of low i le) (leb_of i 3 (omega arith)))
    ∙ controllers_back v l (suc i) (suc i) (set acc i (some (reloaded v c))) h.1 k.1 (omega arith) (omega arith)

-- four places filled so are the four indexes reloaded
fill_four : (v : Version) (l : Slots) → length l ≡ 4 → fill v 0 (replicate 4 none) l ≡ map (reloaded_slot v) l
unfolding fill reloaded_slot
fill_four v [] n = absurd (omega arith)
fill_four v (a ∷ []) n = absurd (omega arith)
fill_four v (a ∷ b ∷ []) n = absurd (omega arith)
fill_four v (a ∷ b ∷ c ∷ []) n = absurd (omega arith)
fill_four v (a ∷ b ∷ c ∷ d ∷ x ∷ l) n = absurd (omega arith)
fill_four v (a ∷ b ∷ c ∷ d ∷ []) n = four a b c d
  where
    four : (a b c d : Option Controller) → fill v 0 (none ∷ none ∷ none ∷ none ∷ []) (a ∷ b ∷ c ∷ d ∷ []) ≡ reloaded_slot v a ∷ reloaded_slot v b ∷ reloaded_slot v c ∷ reloaded_slot v d ∷ []
    four none none none none = refl
    four none none none (some d) = refl
    four none none (some c) none = refl
    four none none (some c) (some d) = refl
    four none (some b) none none = refl
    four none (some b) none (some d) = refl
    four none (some b) (some c) none = refl
    four none (some b) (some c) (some d) = refl
    four (some a) none none none = refl
    four (some a) none none (some d) = refl
    four (some a) none (some c) none = refl
    four (some a) none (some c) (some d) = refl
    four (some a) (some b) none none = refl
    four (some a) (some b) none (some d) = refl
    four (some a) (some b) (some c) none = refl
    four (some a) (some b) (some c) (some d) = refl

-- 4. The length -----------------------------------------------------------------------------------------------------------------------------------

-- the most that tables of these rules take
most : List TableRule → ℕ
most [] = 0
most (u ∷ us) = suc (u.size * 32) + most us

-- no tables of these rules take more
tables_most : (f : Hardware) (us : List TableRule) (ts : List Table) → tables_ok f us ts ≡ true → length (joined (map table_image ts)) ≤ most us
unfolding tables_ok joined table_image most record_ok
tables_most f [] [] e = omega arith
tables_most f [] (t ∷ ts) e = no_way (sym e)
tables_most f (u ∷ us) [] e = no_way (sym e)
tables_most f (u ∷ us) (t ∷ ts) e =
    let a = and_true (table_ok u f t) _ e in
    let h = table_fit u f t a.0 in
    let z = length_joined u.size (λ r. passes (u.checks r)) (entries t) h.each in
    let n : length (entries t) ≤ 32 = omega (arith, length_entries t, h.slots) in
    omega (arith, length-append (joined (entries t)) (joined (map table_image ts)), z, mul-le-mul_left u.size n, tables_most f us ts a.1)

-- a name takes no more octets than its room
name_most : (v : Version) (room : ℕ) (n : Octets) → length n ≡ room → 0 < room → eqb (octet n (room - 1)) 0 ≡ true → length (name_image v n) ≤ room
unfolding name_image octet
name_most One room n l h e = omega arith
name_most Two room n l h e = omega (arith, used_most n (room - 1) (equal _ _ e))

-- a controller's image has at most 4,002 octets
controller_most : (v : Version) (i : ℕ) (c : Controller) → controller_ok c ≡ true → length (controller_image v i c) ≤ 4002
unfolding controller_image names_image be16 be32 most table_rules uuid_rule link_key_rule long_term_key_rule identity_key_rule blocked_rule device_rule
controller_most v i c e =
    let n = lengths c e in
    let h = controller_fit c e in
    let m = name_parts c.host.name n.name (and_true (eqb (length c.host.name) 260) _ h.name).1 in
    let a = name_most v 249 (take 249 c.host.name) m.0 (lit< tt) m.1 in
    let b = name_most v 11 (drop 249 c.host.name) m.2 (lit< tt) m.3 in
    let t : length (joined (map table_image c.host.tables)) ≤ 3718 = tables_most c.radio.hardware table_rules c.host.tables h.tables in
    simp length-append (omega (arith, n.public_address, n.static_address, a, b, t))

-- the images of all controllers of a list
controllers_most : (v : Version) (i : ℕ) (l : Slots) → slots_ok l ≡ true → length (joined (controller_images v i l)) ≤ 4002 * length l
unfolding controller_images joined slots_ok slot_is_ok
controllers_most v i [] e = omega arith
controllers_most v i (none ∷ l) e = omega (arith, controllers_most v (suc i) l e)
controllers_most v i (some c ∷ l) e =
    let h = and_true (controller_ok c) _ e in
    omega (arith, length-append (controller_image v i c) (joined (controller_images v (suc i) l)), controller_most v i c h.0, controllers_most v (suc i) l h.1)

-- no more images than places
images_few : (v : Version) (i : ℕ) (l : Slots) → length (controller_images v i l) ≤ length l
unfolding controller_images
images_few v i [] = omega arith
images_few v i (none ∷ l) = omega (arith, images_few v (suc i) l)
images_few v i (some c ∷ l) = omega (arith, images_few v (suc i) l)

-- the largest image
pub image_most : (v : Version) (p : PlainHub) → plain_ok p ≡ true → length (image_of v p) ≤ Lengths.largest_image
unfolding image_of be32
image_most v p e =
    let h = plain_fit p e in
    let n : length p.controllers ≡ 4 = equal _ _ h.four in
    omega (arith, controllers_most v 0 p.controllers h.slots)

-- 5. Octets --------------------------------------------------------------------------------------------------------------------------------------

-- two octets of a number are octets
bytes_be16 : (n : ℕ) → bytes (be16 n) ≡ true
unfolding bytes be16
bytes_be16 n = both (lt_true (n / 256 % 256) 256 (omega arith)) (both (lt_true (n % 256) 256 (omega arith)) refl)

-- so are four
bytes_be32 : (n : ℕ) → bytes (be32 n) ≡ true
unfolding bytes be32
bytes_be32 n =
    both (lt_true (n / 16777216 % 256) 256 (omega arith)) (both (lt_true (n / 65536 % 256) 256 (omega arith))
    (both (lt_true (n / 256 % 256) 256 (omega arith)) (both (lt_true (n % 256) 256 (omega arith)) refl)))

-- records joined are octets
bytes_joined : (rs : List Octets) → every bytes rs ≡ true → bytes (joined rs) ≡ true
unfolding every joined bytes
bytes_joined [] e = refl
bytes_joined (r ∷ rs) e = let a = and_true (bytes r) _ e in bytes_both r (joined rs) a.0 (bytes_joined rs a.1)

-- the image of tables that keep their rules is octets
tables_bytes : (f : Hardware) (us : List TableRule) (ts : List Table) → tables_ok f us ts ≡ true → bytes (joined (map table_image ts)) ≡ true
unfolding tables_ok joined table_image bytes
tables_bytes f [] [] e = refl
tables_bytes f [] (t ∷ ts) e = no_way (sym e)
tables_bytes f (u ∷ us) [] e = no_way (sym e)
tables_bytes f (u ∷ us) (t ∷ ts) e =
    let a = and_true (table_ok u f t) _ e in
    let h = table_fit u f t a.0 in
    both (lt_true (length (entries t)) 256 (omega (arith, length_entries t, h.slots))) (bytes_both (joined (entries t)) _ (bytes_joined (entries t) h.octets) (tables_bytes f us ts a.1))

-- a name's field is octets
name_bytes : (v : Version) (room : ℕ) (n : Octets) → bytes n ≡ true → room ≤ 249 → eqb (octet n (room - 1)) 0 ≡ true → bytes (name_image v n) ≡ true
unfolding name_image octet bytes
name_bytes One room n w l e = w
name_bytes Two room n w l e = both (lt_true (length (used_part n)) 256 (omega (arith, used_most n (room - 1) (equal _ _ e)))) (used_bytes n w)

-- a controller's image is octets
controller_bytes : (v : Version) (i : ℕ) (c : Controller) → i < 256 → controller_ok c ≡ true → bytes (controller_image v i c) ≡ true
unfolding controller_image names_image bytes
controller_bytes v i c l e =
    let n = lengths c e in
    let h = controller_fit c e in
    let w = widths_fit c e in
    let m = name_parts c.host.name n.name (and_true (eqb (length c.host.name) 260) _ h.name).1 in
    let a = name_bytes v 249 (take 249 c.host.name) (bytes_take 249 c.host.name w.name) (lit≤ tt) m.1 in
    let b = name_bytes v 11 (drop 249 c.host.name) (bytes_drop 249 c.host.name w.name) (lit≤ tt) m.3 in
    both (lt_true i 256 l) (bytes_both c.radio.hardware.public_address _ w.public_address (both w.version (bytes_both (be16 c.radio.hardware.manufacturer) _ (bytes_be16 _)
    (bytes_both (be32 c.radio.hardware.supported) _ (bytes_be32 _) (bytes_both (be32 _) _ (bytes_be32 _) (bytes_both c.radio.static_address _ w.static_address
    (bytes_both (names_image v c.host.name) _ (bytes_both (name_image v (take 249 c.host.name)) _ a b) (tables_bytes c.radio.hardware table_rules c.host.tables h.tables))))))))

-- the images of all controllers of a list
controllers_bytes : (v : Version) (i : ℕ) (l : Slots) → i + length l ≤ 4 → slots_ok l ≡ true → bytes (joined (controller_images v i l)) ≡ true
unfolding controller_images joined slots_ok slot_is_ok bytes
controllers_bytes v i [] n e = refl
controllers_bytes v i (none ∷ l) n e = controllers_bytes v (suc i) l (omega arith) e
controllers_bytes v i (some c ∷ l) n e =
    let h = and_true (controller_ok c) _ e in
    bytes_both (controller_image v i c) _ (controller_bytes v i c (omega arith) h.0) (controllers_bytes v (suc i) l (omega arith) h.1)

-- an image is octets
pub image_bytes : (v : Version) (p : PlainHub) → plain_ok p ≡ true → bytes (image_of v p) ≡ true
unfolding image_of bytes version_octet
image_bytes v p e =
    let h = plain_fit p e in
    let n : length p.controllers ≡ 4 = equal _ _ h.four in
    bytes_both (be32 _) _ (bytes_be32 _) (both (version v)
    (both (lt_true (length (controller_images v 0 p.controllers)) 256 (omega (arith, images_few v 0 p.controllers))) (controllers_bytes v 0 p.controllers (omega arith) h.slots)))
  where
    version : (v : Version) → ltb (version_octet v) 256 ≡ true
    version One = refl
    version Two = refl

-- 6. The hub ------------------------------------------------------------------------------------------------------------------------------------

-- A SAVED IMAGE IS ACCEPTED in its version, and gives the hub with power, discoverable, timers and clock cleared, slots closed up, and through version 2
-- name tails zero
pub saved_accepted : (v : Version) (p : PlainHub) → plain_ok p ≡ true → has_image v p.controllers ≡ true → Accepted v (image_of v p) (reloaded_hub v p)
unfolding image_of be32 reloaded_hub walk items last_item hub_of octet nothing_dropped
saved_accepted v p e t =
    let h = plain_fit p e in
    let four : length p.controllers ≡ 4 = equal _ _ h.four in
    let cs : List Octets = controller_images v 0 p.controllers in
    let size : ℕ = length (joined cs) in
    let small : size ≤ 16008 = omega (arith, controllers_most v 0 p.controllers h.slots) in
    let back : number 0 (be32 (6 + size)) ≡ suc (suc (suc (suc (suc (suc size))))) = be32_back (6 + size) (omega arith) ∙ omega arith in
    let all : walk_controllers v (length cs) 0 (none ∷ none ∷ none ∷ none ∷ []) (goes_on (joined cs)) ≡ nothing_dropped (map (reloaded_slot v) p.controllers) (goes_on []) =
    controllers_back v p.controllers 0 0 (none ∷ none ∷ none ∷ none ∷ []) h.slots t (omega arith) (omega arith)
    ∙ ap (λ (s : Slots). nothing_dropped s (goes_on [])) (fill_four v p.controllers four) in
    record {
      long = leb_of 5 (suc (suc (suc (suc (suc (suc size)))))) (omega arith);
      version = refl;
      size = rw back (eqb_self (suc (suc (suc (suc (suc (suc size)))))));
      count = leb_of (length cs) 4 (omega (arith, images_few v 0 p.controllers));
      whole = rw all refl;
      hub = rw all;
    }
