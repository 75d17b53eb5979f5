-- The list: its offsets ascend, each stands in it as it is, and it fits its room.
use Prim.Native.Nat.{ℕ, zero, suc, ◌+◌, ◌-◌, ◌*◌, ◌^◌, ◌≤◌, ◌<◌}
use native.Mathlib.Omega.{arith}
use mathlib.Core.Path.{◌≡◌, refl, ◌∙◌}
use mathlib.Core.Bool.{true}
use mathlib.Core.List.{List, [], ◌∷◌, ◌++◌, map}
use lib.ListN.{length, get_or, take, drop, length-append, length-drop, length-map}
use lib.Dec.{eqb}
use Rattle.model.specs.declared.Version.{Version}
use Rattle.model.specs.Octets.{Octets, be32, bytes, joined, number}
use Rattle.model.specs.Reading.{End, Item, Slots, Walk, cut, goes_on, item_at, items, last_item, walk}
use Rattle.model.proofs.Model.Numbers.{be32_back}
use Rattle.model.proofs.Model.Tables.{bytes_drop}
use Rattle.model.proofs.Model.Tests.{either}
use Rattle.salvage.specs.Salvage.{begins_at, length_item, list_more, list_of, offsets}
use Rattle.salvage.proofs.Dropped.{Falls, falls_many, left_of, none_here, one_here, walk_fall}
use Rattle.salvage.proofs.Distance.{walk_far}

-- 1. The offsets ascend -----------------------------------------------------------------------------------------------------------------------------

-- numbers from one to another, each above the one before
unfoldable pub Rising : (from to : ℕ) → List ℕ → Type 0
Rising a b [] = Unit {0}
Rising a b (n ∷ ns) = (a ≤ n) × (n ≤ b) × Rising (suc n) b ns

-- the offsets of what is dropped, of n octets in all, up to where the walk ends
rises : (n low : ℕ) {hi k : ℕ} {is : List Item} (e : End) → left_of e ≡ k → hi ≤ n → low ≤ n - hi → Falls hi is k
    → Rising low (n - k) (map (begins_at n) (is ++ last_item e))
unfolding Rising left_of last_item item_at begins_at
rises n low (goes_on []) q h l (none_here f) = tt
rises n low (goes_on (x ∷ o)) q h l (none_here f) = (omega arith, omega arith, tt)
rises n low (cut i) q h l (none_here f) = (omega arith, omega arith, tt)
rises n low e q h l (one_here a s f) = (omega arith, omega (arith, falls_many f), rises n (suc (n - _)) e q (omega arith) (omega arith) f)

-- THE OFFSETS ASCEND, up to where the walk ends
offsets_rise : (v : Version) (o : Octets) → 5 ≤ length o → Rising 0 (length o - left_of (walk v (drop 5 o)).end) (offsets v o)
unfolding offsets length_item items Rising
offsets_rise v o l =
    let w : Walk Slots = walk v (drop 5 o) in
    let d : length (drop 5 o) ≡ length o - 5 = length-drop 5 o in
    either {A = List ℕ} (λ ns. Rising 0 (length o - left_of w.end) (ns ++ map (begins_at (length o)) (w.dropped ++ last_item w.end))) (eqb (number 0 (take 4 o)) (length o))
    (λ _. rises (length o) 0 w.end refl (omega arith) (omega arith) (walk_fall v (drop 5 o)))
    (λ _. (omega arith, omega arith, rises (length o) 1 w.end refl (omega arith) (omega arith) (walk_fall v (drop 5 o))))

-- the walk ends in the input, and before octet 2^21 of it
end_near : (v : Version) (o : Octets) → bytes o ≡ true → length o - left_of (walk v (drop 5 o)).end < 2 ^ 21
end_near v o w = let d : length (drop 5 o) ≡ length o - 5 = length-drop 5 o in omega (arith, walk_far v (drop 5 o) (bytes_drop 5 o w))

-- 2. The items of a list --------------------------------------------------------------------------------------------------------------------------------

-- an item of a list, counted from 0: the number in its four octets
unfoldable pub item_in : Octets → ℕ → ℕ
item_in list k = number 0 (take 4 (drop (4 * k) list))

-- four octets to an item
pub list_length : (ns : List ℕ) → length (list_of ns) ≡ 4 * length ns
unfolding list_of joined be32
list_length [] = omega arith
list_length (n ∷ ns) = omega (arith, list_length ns)

-- behind the first item of a list stands the list of the others
drop_list : (n k : ℕ) (ns : List ℕ) → drop (4 * suc k) (list_of (n ∷ ns)) ≡ drop (4 * k) (list_of ns)
unfolding list_of joined be32
drop_list n k ns = let e : 4 * suc k ≡ suc (suc (suc (suc (4 * k)))) = omega arith in rw e

-- the first four octets of a list
take_list : (n : ℕ) (x : Octets) → take 4 (be32 n ++ x) ≡ be32 n
unfolding be32
take_list n x = refl

-- each item is its offset
pub item_is : (b : ℕ) (ns : List ℕ) (from k : ℕ) → b < 2 ^ 32 → Rising from b ns → k < length ns → item_in (list_of ns) k ≡ get_or ns k 0
unfolding item_in Rising list_of joined
item_is b [] from k s r h = absurd (omega arith)
item_is b (n ∷ ns) from zero s r h = rw (take_list n (joined (map be32 ns))) (be32_back n (omega (arith, r.1)))
item_is b (n ∷ ns) from (suc k) s r h = rw (drop_list n k ns) (item_is b ns (suc n) k s r.2 (omega arith))

-- of ascending numbers each is at least the first bound and at most the last
pub rising_bounds : (a b : ℕ) (ns : List ℕ) (k : ℕ) → Rising a b ns → k < length ns → (a ≤ get_or ns k 0) × (get_or ns k 0 ≤ b)
unfolding Rising
rising_bounds a b [] k r h = absurd (omega arith)
rising_bounds a b (n ∷ ns) zero r h = (r.0, r.1)
rising_bounds a b (n ∷ ns) (suc k) r h = let g = rising_bounds (suc n) b ns k r.2 (omega arith) in (omega (arith, r.0, g.0), g.1)

-- and a later one is above an earlier one
pub rising_less : (a b : ℕ) (ns : List ℕ) (j k : ℕ) → Rising a b ns → j < k → k < length ns → get_or ns j 0 < get_or ns k 0
unfolding Rising
rising_less a b [] j k r l h = absurd (omega arith)
rising_less a b (n ∷ ns) zero zero r l h = absurd (omega arith)
rising_less a b (n ∷ ns) zero (suc k) r l h = omega (arith, (rising_bounds (suc n) b ns k r.2 (omega arith)).0)
rising_less a b (n ∷ ns) (suc j) zero r l h = absurd (omega arith)
rising_less a b (n ∷ ns) (suc j) (suc k) r l h = rising_less (suc n) b ns j k r.2 (omega arith) (omega arith)

-- there are no more of them than numbers between the bounds
rising_few : (a b : ℕ) (ns : List ℕ) → a ≤ suc b → Rising a b ns → a + length ns ≤ suc b
unfolding Rising
rising_few a b [] m r = omega arith
rising_few a b (n ∷ ns) m r = omega (arith, r.0, r.1, rising_few (suc n) b ns (omega (arith, r.1)) r.2)

-- 3. The list of an input ------------------------------------------------------------------------------------------------------------------------------

-- a walk ends with at most one thing dropped
last_one : (e : End) → length (last_item e) ≤ 1
unfolding last_item
last_one (goes_on []) = omega arith
last_one (goes_on (x ∷ o)) = omega arith
last_one (cut i) = omega arith

-- THE LIST FITS ITS ROOM
pub list_fits_lem : (v : Version) (o : Octets) → 5 ≤ length o → length (list_of (offsets v o)) ≤ length o + list_more
unfolding offsets length_item items
list_fits_lem v o l =
    let w : Walk Slots = walk v (drop 5 o) in
    let d : length (drop 5 o) ≡ length o - 5 = length-drop 5 o in
    let m : 7 * length w.dropped + left_of w.end ≤ length (drop 5 o) = falls_many (walk_fall v (drop 5 o)) in
    let n : length (w.dropped ++ last_item w.end) ≡ length w.dropped + length (last_item w.end) = length-append w.dropped (last_item w.end) in
    let k : length (map (begins_at (length o)) (w.dropped ++ last_item w.end)) ≡ length (w.dropped ++ last_item w.end) =
    length-map (w.dropped ++ last_item w.end) (begins_at (length o)) in
    either {A = List ℕ} (λ ns. length (list_of (ns ++ map (begins_at (length o)) (w.dropped ++ last_item w.end))) ≤ length o + list_more) (eqb (number 0 (take 4 o)) (length o))
    (λ _. rw (list_length (map (begins_at (length o)) (w.dropped ++ last_item w.end))) (omega (arith, last_one w.end)))
    (λ _. rw (list_length (0 ∷ map (begins_at (length o)) (w.dropped ++ last_item w.end))) (omega (arith, last_one w.end)))

-- what is known of the list of an input: its offsets ascend, within the input and before octet 2^21; and it has fewer than 2^24 octets
pub record ListFacts (v : Version) (o : Octets) : Type 0 where
  pub last : ℕ
  pub within : last ≤ length o
  pub near : last < 2 ^ 21
  pub rise : Rising 0 last (offsets v o)
  pub short : length (list_of (offsets v o)) < 2 ^ 24

-- THE LIST OF AN INPUT
pub list_facts : (v : Version) (o : Octets) → bytes o ≡ true → 5 ≤ length o → ListFacts v o
list_facts v o w l =
    let r = offsets_rise v o l in
    let n = end_near v o w in
    record {
      last = length o - left_of (walk v (drop 5 o)).end;
      within = omega arith;
      near = n;
      rise = r;
      short = omega (arith, list_length (offsets v o), rising_few 0 _ (offsets v o) (omega arith) r);
    }
