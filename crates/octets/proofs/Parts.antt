-- Laws of parts of octets and of writes at a place.
use mathlib.Core.Path.{◌≡◌, refl, ap, sym, ◌∙◌}
use Prim.Native.Nat.{ℕ, zero, suc, ◌+◌, ◌-◌, ◌≤◌, ◌<◌}
use native.Mathlib.Omega.{arith}
use native.Mathlib.Nat.{add-zero, zero-add, add-suc, suc-add, add_assoc}
use mathlib.Core.List.{List, [], ◌∷◌, ◌++◌, append-nil}
use lib.ListN.{length, get_or, take, drop, set, length-take, length-drop, length-set, drop_of_length-le}
use lib.Seq.{sets, sets-eq, length-sets, take-append-le, drop-append-le, drop-append-add, set-append_left, get_or-take, get_or-drop, take-take, drop-drop, take-nil}
use Rattle.model.specs.Octets.{Octets, u16, u32}
use Rattle.octets.specs.Parts.{part, write_at, place_at}

-- a write keeps the length
pub length_write_at : (d : Octets) (at : ℕ) (w : Octets) → length (write_at d at w) ≡ length d
unfolding write_at
length_write_at d at w = length-sets d at w

-- the first octets
pub part_first : (s : Octets) (n : ℕ) → part s 0 n ≡ take n s
unfolding part
part_first s n = refl

-- a part that fits is as long as it says
pub length_part : (s : Octets) (at n : ℕ) → at + n ≤ length s → length (part s at n) ≡ n
unfolding part
length_part s at n h = simp (length-take, length-drop) (omega arith)

-- a write of a joined list is two writes
pub write_split : (d : Octets) (at : ℕ) (s t : Octets) → write_at d at (s ++ t) ≡ write_at (write_at d at s) (at + length s) t
unfolding write_at
write_split d at [] t = rw add-zero
write_split d at (x ∷ s) t =
    write_split (set d at x) (suc at) s t ∙ ap (λ (k : ℕ). sets (sets (set d at x) (suc at) s) k t) (suc-add at (length s) ∙ sym (add-suc at (length s)))

-- a write at the front
pub write_front : (d w : Octets) → length w ≤ length d → write_at d 0 w ≡ w ++ drop (length w) d
unfolding write_at
write_front d w h =
    let e : 0 + length w ≡ length w = omega arith in
    sets-eq w d 0 (omega arith) ∙ rw e

-- an octet stored past the first list is stored in the second
set_right : (x y : Octets) (k a : ℕ) → set (x ++ y) (length x + k) a ≡ x ++ set y k a
set_right [] y k a = rw zero-add
set_right (z ∷ x) y k a = rw (suc-add, set_right x y k a)

-- a write past the first list is a write in the second
pub write_right : (x y : Octets) (k : ℕ) (p : Octets) → write_at (x ++ y) (length x + k) p ≡ x ++ write_at y k p
unfolding write_at
write_right x y k [] = refl
write_right x y k (a ∷ p) = rw (set_right x y k a, ← add-suc (length x) k) (write_right x (set y k a) (suc k) p)

-- a write within the first list leaves the second
pub write_left : (x y : Octets) (k : ℕ) (p : Octets) → k + length p ≤ length x → write_at (x ++ y) k p ≡ write_at x k p ++ y
unfolding write_at
write_left x y k [] h = refl
write_left x y k (a ∷ p) h = rw (set-append_left x y k a (omega arith)) (write_left (set x k a) y (suc k) p (rw length-set (omega arith)))

-- a part past the first list is a part of the second
pub part_right : (x y : Octets) (k n : ℕ) → part (x ++ y) (length x + k) n ≡ part y k n
unfolding part
part_right x y k n = rw drop-append-add

-- a part within the first list is a part of it
pub part_left : (x y : Octets) (k n : ℕ) → k + n ≤ length x → part (x ++ y) k n ≡ part x k n
unfolding part
part_left x y k n h = rw (drop-append-le k x y (omega arith)) (take-append-le n (drop k x) y (rw length-drop (omega arith)))

-- a write over the whole
pub write_whole : (x p : Octets) → length p ≡ length x → write_at x 0 p ≡ p
write_whole x p e =
    let d : drop (length p) x ≡ [] = drop_of_length-le x {i = length p} (omega arith) in
    write_front x p (omega arith) ∙ rw (d, append-nil)

-- THE LENS ------------------------------------------------------------------------------------------------------------------------------------

-- lists one after the other
unfoldable pub join : List Octets → Octets
join [] = []
join (p ∷ ps) = p ++ join ps

-- how long each part is
unfoldable pub lengths : List Octets → List ℕ
lengths [] = []
lengths (p ∷ ps) = length p ∷ lengths ps

-- reading inside part k
pub join_read : (ps : List Octets) (k a n : ℕ) → a + n ≤ length (get_or ps k []) → part (join ps) (place_at (lengths ps) k + a) n ≡ part (get_or ps k []) a n
unfolding join place_at lengths
join_read [] zero a n h = rw zero-add
join_read [] (suc k) a n h = rw zero-add
join_read (p ∷ ps) zero a n h = rw zero-add (part_left p (join ps) a n h)
join_read (p ∷ ps) (suc k) a n h = rw add_assoc (part_right p (join ps) (place_at (lengths ps) k + a) n ∙ join_read ps k a n h)

-- writing inside part k
pub join_write : (ps : List Octets) (k a : ℕ) (w : Octets) → k < length ps → a + length w ≤ length (get_or ps k [])
    → write_at (join ps) (place_at (lengths ps) k + a) w ≡ join (set ps k (write_at (get_or ps k []) a w))
unfolding join place_at lengths
join_write [] k a w l h = absurd (omega arith)
join_write (p ∷ ps) zero a w l h = rw zero-add (write_left p (join ps) a w h)
join_write (p ∷ ps) (suc k) a w l h =
    rw add_assoc (write_right p (join ps) (place_at (lengths ps) k + a) w ∙ ap (λ (x : Octets). p ++ x) (join_write ps k a w (omega arith) h))

-- the beginning of a list, with its own beginning dropped
pub drop_take : (a k : ℕ) (l : Octets) → drop a (take (a + k) l) ≡ take k (drop a l)
drop_take zero k l = rw zero-add
drop_take (suc a) k [] = rw (suc-add, take-nil)
drop_take (suc a) k (x ∷ l) = rw suc-add (drop_take a k l)

-- a part of a part is a part of the whole
pub part_part : (s : Octets) (b m a n : ℕ) → a + n ≤ m → part (part s b m) a n ≡ part s (b + a) n
unfolding part
part_part s b m a n h =
    let e : m ≡ a + (m - a) = omega arith in
    rw e (rw (drop_take a (m - a) (drop b s), take-take n (m - a) (drop a (drop b s)) (omega arith), drop-drop a b s))

-- an octet of a part is an octet of the whole
pub get_d_part : (s : Octets) (b m k : ℕ) → k < m → get_or (part s b m) k 0 ≡ get_or s (b + k) 0
unfolding part
get_d_part s b m k h = rw (get_or-take, get_or-drop)

-- a number of two octets in a part
pub u16_part : (s : Octets) (b m k : ℕ) → k + 1 < m → u16 (part s b m) k ≡ u16 s (b + k)
unfolding u16
u16_part s b m k h =
    let e : b + (k + 1) ≡ b + k + 1 = omega arith in
    rw (get_d_part s b m k (omega arith), get_d_part s b m (k + 1) h, e)

-- and of four octets
pub u32_part : (s : Octets) (b m : ℕ) → 4 ≤ m → u32 (part s b m) 0 ≡ u32 s b
unfolding u32
u32_part s b m h = rw (u16_part s b m 0 (omega arith), u16_part s b m 2 (omega arith), add-zero)
