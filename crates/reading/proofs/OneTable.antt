-- One table of an image: what the tests of its records where they lie say of the model's walk through them.
use Rattle.std.specs.Prelude.{Result, Ok}
use Prim.Native.Nat.{ℕ, zero, suc, ◌+◌, ◌-◌, ◌*◌, ◌^◌, ◌≤◌, ◌<◌}
use native.Mathlib.Omega.{arith}
use native.Mathlib.Numerals.{add-one}
use native.Mathlib.Nat.{mul-le-mul_left, mul-suc, mul-zero, sub-zero}
use mathlib.Core.Path.{◌≡◌, refl, ap, subst, sym, ◌∙◌}
use mathlib.Core.Bool.{Bool, true, false, ◌&&◌, ◌||◌}
use mathlib.Core.List.{List, [], ◌∷◌, ◌++◌, map, append_assoc}
use mathlib.Core.Option.{none, some}
use lib.ListN.{length, get_or, take, drop, drop_of_length-le, length-drop, take-append-drop}
use lib.Seq.{drop-cons, drop-drop}
use lib.Dec.{eqb, leb}
use borrow.Author.Tests.{eq-eqb, le-leb, leb-true, lt-leb, ne_eqb}
use Rattle.model.specs.declared.Hardware.{Hardware}
use Rattle.model.specs.declared.ImageFault.{ImageFault}
use Rattle.model.specs.declared.ImageFault.TheVariants.{BadCount, BadLength, BadRecord, Repeated}
use Rattle.model.specs.Octets.{Octets, bytes, joined, same}
use Rattle.model.specs.Reasons.{passes}
use Rattle.model.specs.Tables.{TableRule, any, blocked_rule, chop, device_rule, empty, distinct, every, identity_key_rule, link_key_rule, long_term_key_rule}
use Rattle.model.specs.Tables.{record_ok, records_ok, rule_at, support_ok, table_rules, uuid_rule}
use Rattle.model.specs.Reading.{Walk, also, cut, fault_at, goes_on, item_at, not_whole, nothing_dropped, record_fault, walk_records, walk_table}
use Rattle.model.proofs.Model.RoundTrip.{fault_free, records_back}
use Rattle.model.proofs.Model.Tables.{bytes_drop, bytes_take, length_chop}
use Rattle.model.proofs.Model.Tests.{and_off, and_true}
use Rattle.octets.specs.Parts.{part}
use Rattle.octets.proofs.Parts.{length_part}
use Rattle.fields.specs.declared.FaultAt.{FaultAt}
use Rattle.fields.specs.Reads.{told}
use Rattle.records.specs.declared.Identity.{Identity}
use Rattle.records.specs.Identities.{identity_of, same_identity}
use Rattle.records.specs.Slots.{records_at}
use Rattle.records.proofs.Identities.{identity_told}
use Rattle.records.proofs.Laws.{room}
use Rattle.records.proofs.Slots.{list_records}
use Rattle.reading.specs.Comes.{Comes, first_fault}

-- 1. Sizes and cuts -------------------------------------------------------------------------------------------------------------------------------

-- no record is larger than a long term key
pub size_most : (k : ℕ) → k < 6 → (rule_at k).size ≤ 36
unfolding rule_at table_rules uuid_rule link_key_rule long_term_key_rule identity_key_rule blocked_rule device_rule
size_most zero l = omega arith
size_most (suc zero) l = omega arith
size_most (suc (suc zero)) l = omega arith
size_most (suc (suc (suc zero))) l = omega arith
size_most (suc (suc (suc (suc zero)))) l = omega arith
size_most (suc (suc (suc (suc (suc zero))))) l = omega arith
size_most (suc (suc (suc (suc (suc (suc k)))))) l = absurd (omega arith)

-- the records of a table take few octets
pub size_room : (k z n : ℕ) → k < 6 → z ≡ (rule_at k).size → n ≤ 32 → z * n ≤ 1152
size_room k z n l e m = let q : z ≤ 36 = rw e (size_most k l) in let a : z * n ≤ z * 32 = mul-le-mul_left z m in omega (arith, a, q)

-- records cut from octets, and the octets behind them, are those octets
pub chop_joined : (size n : ℕ) (o : Octets) → joined (chop size n o) ++ drop (size * n) o ≡ o
unfolding chop joined
chop_joined size zero o = rw (mul-zero size)
chop_joined size (suc n) o =
    let m : size * suc n ≡ size + size * n = mul-suc size n ∙ omega arith in
    let d : drop (size * suc n) o ≡ drop (size * n) (drop size o) = rw m (sym (drop-drop (size * n) size o)) in
    rw (d, append_assoc (take size o) (joined (chop size n (drop size o))) (drop (size * n) (drop size o)), chop_joined size n (drop size o))
    (take-append-drop size o)

-- one record more is the one behind those
pub chop_more : (size n : ℕ) (o : Octets) → chop size (suc n) o ≡ chop size n o ++ (take size (drop (size * n) o) ∷ [])
unfolding chop
chop_more size zero o = rw (mul-zero size)
chop_more size (suc n) o =
    let m : size * suc n ≡ size + size * n = mul-suc size n ∙ omega arith in
    let d : drop (size * suc n) o ≡ drop (size * n) (drop size o) = rw m (sym (drop-drop (size * n) size o)) in
    rw d (ap {B = List Octets} (λ l. take size o ∷ l) (chop_more size n (drop size o)))

-- no records are cut exactly if they are to be none
none_chopped : (size n : ℕ) (o : Octets) → empty (chop size n o) ≡ eqb n 0
unfolding empty chop
none_chopped size zero o = refl
none_chopped size (suc n) o = sym (ne_eqb (suc n) 0 (λ e. omega (arith, e)))

-- 2. A repeat, looked for among records ------------------------------------------------------------------------------------------------------------

-- the record at p has the key of one of the n records from a place on
abbrev pub repeated : TableRule → Octets → (p place n : ℕ) → Bool
repeated u image p place n = any (same (u.key (part image p u.size))) (map u.key (chop u.size n (drop place image)))

-- it has that of the first, or of one behind it
repeated_step : (u : TableRule) (image : Octets) (p at n : ℕ) → 0 < n
    → repeated u image p at n ≡ same (u.key (part image p u.size)) (u.key (part image at u.size)) || repeated u image p (at + u.size) (n - 1)
unfolding any chop part
repeated_step u image p at zero l = absurd (omega arith)
repeated_step u image p at (suc n) l = let e : suc n - 1 ≡ n = omega arith in rw (e, drop-drop u.size at image)

-- what `repeats` keeps: the records that are left tell what all tell
pub record Seek (k : ℕ) (image : Octets) (size p place n at left : ℕ) : Type 0 where
  pub sized : size ≡ (rule_at k).size
  pub within : at + size * left ≤ length image
  pub told : repeated (rule_at k) image p at left ≡ repeated (rule_at k) image p place n

-- at the start all are left
pub seek_first : (k : ℕ) (image : Octets) (size p place n : ℕ) → size ≡ (rule_at k).size → place + (rule_at k).size * n ≤ length image
    → Seek k image size p place n place n
seek_first k image size p place n e h = record { sized = e; within = rw e h; told = refl }

-- none is left
pub seek_end : (k : ℕ) (image : Octets) (size p place n at left : ℕ) → Seek k image size p place n at left → left ≤ 0
    → false ≡ repeated (rule_at k) image p place n
unfolding any chop
seek_end k image size p place n at left v l = let z : left ≡ 0 = omega arith in (rw z at v.told)

module _ (k : ℕ) (image : Octets) (size p place n at left : ℕ) (v : Seek k image size p place n at left) (l : 0 < left) where
  -- the next one lies within the image
  pub seek_here : at + (rule_at k).size ≤ length image
  seek_here = let r = room at size left (length image) l v.within in rw (← v.sized) (omega arith)

  module _ (small : k < 6) (wide : bytes image ≡ true) (h : p + (rule_at k).size ≤ length image) (a b : Identity)
      (ea : a ≡ identity_of k (part image p (rule_at k).size)) (eb : b ≡ identity_of k (part image at (rule_at k).size)) where
    -- it has the identity exactly if it has the key
    seek_told : same_identity a b ≡ same ((rule_at k).key (part image p (rule_at k).size)) ((rule_at k).key (part image at (rule_at k).size))
    unfolding part
    seek_told =
        let x : length (part image p (rule_at k).size) ≡ (rule_at k).size = length_part image p (rule_at k).size h in
        let y : length (part image at (rule_at k).size) ≡ (rule_at k).size = length_part image at (rule_at k).size seek_here in
        rw (ea, eb) (identity_told k (part image p (rule_at k).size) (part image at (rule_at k).size) small (x ∙ sym y)
        (bytes_take (rule_at k).size (drop p image) (bytes_drop p image wide)) (bytes_take (rule_at k).size (drop at image) (bytes_drop at image wide)))

    -- it is repeated by it
    pub seek_hit : same_identity a b ≡ true → true ≡ repeated (rule_at k) image p place n
    seek_hit t = rw (sym seek_told ∙ t) at (sym (repeated_step (rule_at k) image p at left l) ∙ v.told)

    -- it is not
    pub seek_miss : same_identity a b ≡ false → Seek k image size p place n (at + size) (left - 1)
    seek_miss t = record {
      sized = v.sized;
      within = room at size left (length image) l v.within;
      told = rw v.sized (rw (sym seek_told ∙ t) at (sym (repeated_step (rule_at k) image p at left l) ∙ v.told));
    }

-- 3. What a walk comes to ---------------------------------------------------------------------------------------------------------------------------

-- a walk that is another comes to the same
pub comes_by : {A : Type 0} (image : Octets) (w x : Walk A) (r : Result ℕ FaultAt) → w ≡ x → Comes image x r → Comes image w r
comes_by {A} image w x r e h = subst (λ (y : Walk A). Comes image y r) (sym e) h

-- nothing is dropped up to a place
pub comes_to : {A : Type 0} (image : Octets) (a : A) (p : ℕ) → p ≤ length image → Comes image (nothing_dropped a (goes_on (drop p image))) (Ok p)
unfolding nothing_dropped
comes_to image a p l = (l, refl, refl)

-- a thing is not whole
pub comes_short : {A : Type 0} (image : Octets) (a : A) (o : Octets) → Comes image (nothing_dropped a (cut (item_at o not_whole))) (told BadLength (length image))
unfolding nothing_dropped item_at not_whole fault_at first_fault
comes_short image a o = (not_whole, refl, refl, sub-zero (length image))

-- the octets from a place on are as many as are behind it
left_at : (image : Octets) (p : ℕ) → p ≤ length image → length image - length (drop p image) ≡ p
left_at image p l = rw (length-drop p image) (omega arith)

-- all is cut off from a thing that is at fault
pub comes_cut : {A : Type 0} (image : Octets) (a : A) (x : ImageFault) (p : ℕ) → p ≤ length image
    → Comes image (nothing_dropped a (cut (item_at (drop p image) (fault_at x (drop p image))))) (told x p)
unfolding nothing_dropped item_at fault_at first_fault
comes_cut image a x p l = (fault_at x (drop p image), refl, refl, left_at image p l)

-- a thing that is at fault is dropped
pub comes_fault : {A : Type 0} (image : Octets) (w : Walk A) (x : ImageFault) (p : ℕ) → p ≤ length image
    → Comes image (also (item_at (drop p image) (fault_at x (drop p image)) ∷ []) w) (told x p)
unfolding also item_at fault_at first_fault
comes_fault image w x p l = (fault_at x (drop p image), refl, refl, left_at image p l)

-- 4. One record -----------------------------------------------------------------------------------------------------------------------------------

-- a record of its size keeps its rule exactly if its checks pass
pub record_by : (u : TableRule) (r : Octets) → length r ≡ u.size → record_ok u r ≡ passes (u.checks r)
unfolding record_ok
record_by u r e = rw (eq-eqb (length r) u.size e)

module _ (u : TableRule) (f : Hardware) (kept : List Octets) (r : Octets) where
  -- one that breaks its rule
  pub fault_record : record_ok u r ≡ false → record_fault u f kept r ≡ some BadRecord
  unfolding record_fault
  fault_record a = rw (a, record_fault)

  -- one that its controller may not have
  pub fault_support : record_ok u r ≡ true → passes (u.support f) ≡ false → record_fault u f kept r ≡ some BadRecord
  unfolding record_fault
  fault_support a b = rw (a, record_fault, b)

  -- one that repeats another
  pub fault_repeat : record_ok u r ≡ true → passes (u.support f) ≡ true → any (same (u.key r)) (map u.key kept) ≡ true
      → record_fault u f kept r ≡ some Repeated
  unfolding record_fault
  fault_repeat a b c = rw (a, record_fault, b, c)

module _ (u : TableRule) (f : Hardware) (n : ℕ) (kept : List Octets) (o : Octets) where
  -- the next record is not whole
  pub walk_short : length o < u.size → walk_records u f (suc n) kept o ≡ nothing_dropped kept (cut (item_at o not_whole))
  unfolding walk_records
  walk_short l = rw (lt-leb u.size (length o) l, walk_records)

  module _ (l : u.size ≤ length o) where
    -- it is kept
    pub walk_kept : record_fault u f kept (take u.size o) ≡ none
        → walk_records u f (suc n) kept o ≡ walk_records u f n (kept ++ (take u.size o ∷ [])) (drop u.size o)
    unfolding walk_records
    walk_kept e = rw (le-leb u.size (length o) l, walk_records, e)

    -- it is dropped
    pub walk_dropped : (x : ImageFault) → record_fault u f kept (take u.size o) ≡ some x
        → walk_records u f (suc n) kept o ≡ also (item_at o (fault_at x o) ∷ []) (walk_records u f n kept (drop u.size o))
    unfolding walk_records
    walk_dropped x e = rw (le-leb u.size (length o) l, walk_records, e)

-- 5. The records, one by one -----------------------------------------------------------------------------------------------------------------------

-- what `first_fault` keeps: the j records before p are kept, and the walk from there on is that through all
pub record Goes (k : ℕ) (image : Octets) (size place n s j p : ℕ) : Type 0 where
  pub sized : size ≡ (rule_at k).size
  pub few : j ≤ n
  pub here : p ≡ place + size * j
  pub within : p ≤ length image
  pub known : (f : Hardware) → f.supported ≡ s
      → walk_records (rule_at k) f n [] (drop place image) ≡ walk_records (rule_at k) f (n - j) (chop (rule_at k).size j (drop place image)) (drop p image)

-- what `first_fault` comes to
abbrev pub Records : (k : ℕ) (image : Octets) (f : Hardware) (n place : ℕ) → Result ℕ FaultAt → Type 0
Records k image f n place r = Comes image (walk_records (rule_at k) f n [] (drop place image)) r

-- at the start none is kept
pub goes_first : (k : ℕ) (image : Octets) (size place n s : ℕ) → size ≡ (rule_at k).size → place ≤ length image → Goes k image size place n s 0 place
unfolding chop
goes_first k image size place n s e l = record {
  sized = e;
  few = omega arith;
  here = rw (mul-zero size) (omega arith);
  within = l;
  known = λ f h. rw (sub-zero n);
}

-- all are kept
pub goes_end : (k : ℕ) (image : Octets) (size place n s j p : ℕ) → Goes k image size place n s j p → n ≤ j → (f : Hardware) → f.supported ≡ s
    → Comes image (walk_records (rule_at k) f n [] (drop place image)) (Ok p)
unfolding walk_records
goes_end k image size place n s j p v l f e =
    let z : n - j ≡ 0 = omega arith in
    let q = rw z at (v.known f e) in
    comes_by image _ _ (Ok p) q (comes_to image (chop (rule_at k).size j (drop place image)) p v.within)

module _ (k : ℕ) (image : Octets) (size place n s j p : ℕ) (v : Goes k image size place n s j p) (l : j < n) (f : Hardware) (e : f.supported ≡ s) where
  -- one is left at least
  goes_on_lem : walk_records (rule_at k) f n [] (drop place image)
      ≡ walk_records (rule_at k) f (suc (n - (j + 1))) (chop (rule_at k).size j (drop place image)) (drop p image)
  goes_on_lem = let m : n - j ≡ suc (n - (j + 1)) = omega arith in rw (← m) (v.known f e)

  -- the next is not whole
  pub goes_short : length image - p < size → Comes image (walk_records (rule_at k) f n [] (drop place image)) (told BadLength (length image))
  goes_short h =
      let g : length (drop p image) < (rule_at k).size = rw (length-drop p image, ← v.sized) h in
      comes_by image _ _ (told BadLength (length image)) (goes_on_lem ∙ walk_short (rule_at k) f _ _ (drop p image) g) (comes_short image _ (drop p image))

  module _ (h : size ≤ length image - p) where
    -- it is whole
    goes_whole : (rule_at k).size ≤ length (drop p image)
    goes_whole = rw (length-drop p image, ← v.sized) h

    -- it keeps its rule exactly if its checks pass
    goes_record : (b : Bool) → b ≡ passes ((rule_at k).checks (part image p (rule_at k).size)) → record_ok (rule_at k) (take (rule_at k).size (drop p image)) ≡ b
    unfolding part
    goes_record b q =
        let g : p + (rule_at k).size ≤ length image = rw (← v.sized) (omega (arith, v.within)) in
        record_by (rule_at k) (take (rule_at k).size (drop p image)) (length_part image p (rule_at k).size g) ∙ sym q

    -- a fault of it is the first one
    goes_fault : (x : ImageFault) → record_fault (rule_at k) f (chop (rule_at k).size j (drop place image)) (take (rule_at k).size (drop p image)) ≡ some x
        → Comes image (walk_records (rule_at k) f n [] (drop place image)) (told x p)
    goes_fault x q =
        comes_by image _ _ (told x p) (goes_on_lem ∙ walk_dropped (rule_at k) f _ _ (drop p image) goes_whole x q) (comes_fault image _ x p v.within)

    -- it breaks its rule
    pub goes_record_fault : false ≡ passes ((rule_at k).checks (part image p (rule_at k).size))
        → Comes image (walk_records (rule_at k) f n [] (drop place image)) (told BadRecord p)
    goes_record_fault a = goes_fault BadRecord (fault_record (rule_at k) f _ _ (goes_record false a))

    module _ (a : true ≡ passes ((rule_at k).checks (part image p (rule_at k).size))) where
      -- its controller may not have it
      pub goes_support_fault : false ≡ passes ((rule_at k).support f) → Comes image (walk_records (rule_at k) f n [] (drop place image)) (told BadRecord p)
      goes_support_fault b = goes_fault BadRecord (fault_support (rule_at k) f _ _ (goes_record true a) (sym b))

      module _ (b : true ≡ passes ((rule_at k).support f)) where
        -- it repeats one that is kept
        pub goes_repeat_fault : true ≡ repeated (rule_at k) image p place j → Comes image (walk_records (rule_at k) f n [] (drop place image)) (told Repeated p)
        unfolding part
        goes_repeat_fault d = goes_fault Repeated (fault_repeat (rule_at k) f _ _ (goes_record true a) (sym b) (sym d))

        -- it is kept
        goes_kept : false ≡ repeated (rule_at k) image p place j
            → walk_records (rule_at k) f n [] (drop place image)
            ≡ walk_records (rule_at k) f (n - (j + 1)) (chop (rule_at k).size (j + 1) (drop place image)) (drop (p + size) image)
        unfolding part
        goes_kept d =
            let z = (rule_at k).size in
            let m : j + 1 ≡ suc j = omega arith in
            let c : drop (z * j) (drop place image) ≡ drop p image = drop-drop (z * j) place image ∙ rw (v.here, v.sized) in
            let t : chop z (j + 1) (drop place image) ≡ chop z j (drop place image) ++ (take z (drop p image) ∷ []) =
            rw (m, ← c) (chop_more z j (drop place image)) in
            let x : drop (p + size) image ≡ drop z (drop p image) = rw v.sized (sym (drop-drop z p image)) in
            rw (t, x) (goes_on_lem ∙ walk_kept (rule_at k) f _ _ (drop p image) goes_whole (fault_free (rule_at k) f _ _ (goes_record true a) (sym b) (sym d)))

-- one record more is kept
pub goes_turn : (k : ℕ) (image : Octets) (size place n s j p : ℕ) → Goes k image size place n s j p → j < n → size ≤ length image - p
    → true ≡ passes ((rule_at k).checks (part image p (rule_at k).size)) → ((f : Hardware) → f.supported ≡ s → true ≡ passes ((rule_at k).support f))
    → false ≡ repeated (rule_at k) image p place j → Goes k image size place n s (j + 1) (p + size)
goes_turn k image size place n s j p v l h a b d = record {
  sized = v.sized;
  few = omega arith;
  here = let m : size * (j + 1) ≡ size * j + size = rw add-one (mul-suc size j) in omega (arith, v.here, m);
  within = omega (arith, v.within);
  known = λ f e. goes_kept k image size place n s j p v l f e h a (b f e) d;
}

-- 6. The records, all at once -----------------------------------------------------------------------------------------------------------------------

-- a test and one that holds
and_on : (a : Bool) → a && true ≡ a
and_on true = refl
and_on false = refl

-- n records of these octets are whole and keep the table's rules
abbrev pub records_right : TableRule → Hardware → Octets → (place n : ℕ) → Bool
records_right u f image place n = leb (u.size * n) (length image - place)
    && (records_ok u (chop u.size n (drop place image)) && support_ok u f (chop u.size n (drop place image)))

module _ (u : TableRule) (f : Hardware) (image : Octets) (place n : ℕ) where
  module _ (l : u.size * n ≤ length image - place) where
    -- there are none
    pub right_none : n ≡ 0 → true ≡ records_right u f image place n
    unfolding records_ok support_ok chop every distinct empty
    right_none e = sym (rw (le-leb (u.size * n) (length image - place) l, e))

    module _ (e : n ≡ 0 → ⊥) where
      -- a controller may not have them
      pub right_unsupported : false ≡ passes (u.support f) → false ≡ records_right u f image place n
      unfolding support_ok
      right_unsupported b =
          let x = none_chopped u.size n (drop place image) ∙ ne_eqb n 0 e in
          sym (rw (le-leb (u.size * n) (length image - place) l, x, ← b, and_off (records_ok u (chop u.size n (drop place image)))))

      -- their rule decides
      pub right_supported : true ≡ passes (u.support f) → (r : Bool) (w : ℕ) → w ≡ 2 ^ n - 1 → r ≡ records_ok u (records_at image u.size place n w)
          → r ≡ records_right u f image place n
      unfolding support_ok
      right_supported b r w q h =
          let x = none_chopped u.size n (drop place image) ∙ ne_eqb n 0 e in
          let g : records_ok u (chop u.size n (drop place image)) ≡ r = sym (rw (q, list_records u.size n (drop place image)) at h) in
          sym (rw (le-leb (u.size * n) (length image - place) l, x, ← b, g, and_on r))

  -- all are kept
  pub right_walk : records_right u f image place n ≡ true
      → walk_records u f n [] (drop place image) ≡ nothing_dropped (chop u.size n (drop place image)) (goes_on (drop (place + u.size * n) image))
  unfolding records_ok
  right_walk e =
      let o : Octets = drop place image in
      let rs : List Octets = chop u.size n o in
      let a = and_true (leb (u.size * n) (length image - place)) _ e in
      let b = and_true (records_ok u rs) (support_ok u f rs) a.1 in
      let c = and_true (every (record_ok u) rs) _ b.0 in
      let t = records_back u f rs [] (drop (u.size * n) o) c.0 b.1 c.1 in
      (rw (length_chop u.size n o, chop_joined u.size n o, drop-drop (u.size * n) place image) at t)

-- 7. The table ----------------------------------------------------------------------------------------------------------------------------------------

module _ (u : TableRule) (f : Hardware) (image : Octets) (place : ℕ) where
  -- its count is not whole
  pub table_short : length image ≤ place → Comes image (walk_table u f (goes_on (drop place image))) (told BadLength (length image))
  unfolding walk_table
  table_short l =
      let q : walk_table u f (goes_on (drop place image)) ≡ nothing_dropped [] (cut (item_at [] not_whole)) = rw (drop_of_length-le image {i = place} l) in
      comes_by image _ _ (told BadLength (length image)) q (comes_short image [] [])

  module _ (l : place < length image) where
    -- too many records
    pub table_many : 32 < get_or image place 0 → Comes image (walk_table u f (goes_on (drop place image))) (told BadCount place)
    unfolding walk_table
    table_many a =
        let d = drop-cons image place 0 l in
        let q : walk_table u f (goes_on (drop place image)) ≡ nothing_dropped [] (cut (item_at (drop place image) (fault_at BadCount (drop place image)))) =
        rw (d, lt-leb (get_or image place 0) 32 a, walk_table) in
        comes_by image _ _ (told BadCount place) q (comes_cut image [] BadCount place (omega arith))

    module _ (a : get_or image place 0 ≤ 32) where
      -- its records decide
      pub table_reads : (r : Result ℕ FaultAt) → Comes image (walk_records u f (get_or image place 0) [] (drop (place + 1) image)) r
          → Comes image (walk_table u f (goes_on (drop place image))) r
      unfolding walk_table
      table_reads r h =
          let m : place + 1 ≡ suc place = omega arith in
          comes_by image (walk_table u f (goes_on (drop place image))) (walk_records u f (get_or image place 0) [] (drop (place + 1) image)) r
          (rw (drop-cons image place 0 l, le-leb (get_or image place 0) 32 a, walk_table, m)) h

      -- they are right
      pub table_right : records_right u f image (place + 1) (get_or image place 0) ≡ true → (z : ℕ) → z ≡ u.size
          → Comes image (walk_table u f (goes_on (drop place image))) (Ok (place + 1 + z * get_or image place 0))
      table_right e z q =
          let p = place + 1 + u.size * get_or image place 0 in
          let g = and_true (leb (u.size * get_or image place 0) (length image - (place + 1))) _ e in
          let h : p ≤ length image = omega (arith, leb-true (u.size * get_or image place 0) (length image - (place + 1)) g.0) in
          rw q (table_reads (Ok p) (comes_by image _ _ (Ok p) (right_walk u f image (place + 1) (get_or image place 0) e) (comes_to image _ p h)))
