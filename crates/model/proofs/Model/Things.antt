-- E8: things one behind the other, each first whole, then right, up to the first fault (FirstFault). Nothing that stands before that is at fault, whatever
-- stands from it on.
use Rattle.std.specs.Prelude.{ℕ, zero, suc, ◌+◌, ◌-◌, ◌≤◌, ◌≡◌, refl, Bool, true, false, List, [], ◌∷◌, ◌++◌, length, take, drop, leb}
use Rattle.std.proofs.Common.{arith, sym, ap, ◌∙◌, length-append, take-append-drop}
use Rattle.std.proofs.Math.Path.{subst}
use Rattle.std.proofs.Math.Option.{Option, none, some}
use Rattle.std.proofs.Math.ListN.{length-drop}
use Rattle.std.proofs.lemmas.List.{drop-append-le, take-append-le}
use Rattle.model.specs.Octets.{Octets, octet}
use Rattle.model.specs.State.{Hardware}
use Rattle.model.specs.Tables.{TableRule, table_rules}
use Rattle.model.specs.Image.{One, Two, Version, name_right, name_size}
use Rattle.model.specs.Reading.{BadCount, BadField, BadIndex, BadLength, Fault, ImageFault, fault_at, not_whole, record_fault}
use Rattle.model.specs.FirstFault.{Finder, controllers_then, count_then, fault_unless, field_then, first_fault, fixed_then, left_over, name_then, records_then}
use Rattle.model.specs.FirstFault.{tables_then, thing}
use Rattle.model.proofs.Model.Fields.{le_of}
use Rattle.model.proofs.Model.Tests.{either, no_way, optional}

-- 1. Octets that are alike but for the last ones ------------------------------------------------------------------------------------------------

-- as many octets, the same but for the last m
pub record Alike (m : ℕ) (x y : Octets) : Type 0 where
  pub front : Octets
  pub one : Octets
  pub two : Octets
  pub first : x ≡ front ++ one
  pub second : y ≡ front ++ two
  pub rest : length one ≡ m
  pub other : length two ≡ m

-- as long as each other
alike_length : (m : ℕ) (x y : Octets) → Alike m x y → length y ≡ length x
alike_length m x y a = rw (a.first, a.second) (length-append a.front a.two ∙ rw (a.other, ← a.rest) (sym (length-append a.front a.one)))

-- none of them differ: the same
alike_none : (x y : Octets) → Alike 0 x y → y ≡ x
alike_none x y a = by a.one a.two a.rest a.other a.first a.second
  where
    by : (s t : Octets) → length s ≡ 0 → length t ≡ 0 → x ≡ a.front ++ s → y ≡ a.front ++ t → y ≡ x
    by [] [] p q e f = f ∙ sym e
    by (u ∷ s) t p q e f = absurd (omega arith)
    by [] (u ∷ t) p q e f = absurd (omega arith)

-- n octets before the last m
front_long : (m n : ℕ) (x y : Octets) (a : Alike m x y) → n + m ≤ length x → n ≤ length a.front
front_long m n x y a h = omega (arith, length-append a.front a.one, a.rest, ap {B = ℕ} length a.first)

-- they are the same
alike_take : (m n : ℕ) (x y : Octets) → Alike m x y → n + m ≤ length x → take n y ≡ take n x
alike_take m n x y a h =
    let l = front_long m n x y a h in
    rw (a.first, a.second, take-append-le n a.front a.one l, take-append-le n a.front a.two l) refl

-- what follows them is alike
pub alike_drop : (m n : ℕ) (x y : Octets) → Alike m x y → n + m ≤ length x → Alike m (drop n x) (drop n y)
alike_drop m n x y a h =
    let l = front_long m n x y a h in
    record {
      front = drop n a.front;
      one = a.one;
      two = a.two;
      first = rw a.first (drop-append-le n a.front a.one l);
      second = rw a.second (drop-append-le n a.front a.two l);
      rest = a.rest;
      other = a.other;
    }

-- the same octets up to a place
pub alike_at : (at : ℕ) (x y : Octets) → at ≤ length x → length y ≡ length x → take at y ≡ take at x → Alike (length x - at) x y
alike_at at x y h n t = record {
  front = take at x;
  one = drop at x;
  two = drop at y;
  first = sym (take-append-drop at x);
  second = sym (take-append-drop at y) ∙ rw t refl;
  rest = length-drop at x;
  other = length-drop at y ∙ rw n refl;
}

-- 2. One thing after the other --------------------------------------------------------------------------------------------------------------------

-- no fault, or one with at most m octets from its place on
unfoldable pub Under : ℕ → Option Fault → Type 0
Under m none = Unit {0}
Under m (some z) = z.left ≤ m

-- What is found of octets. A fault lies among them; and where octets are alike up to the place of the fault that is found of the one, none is found before
-- that place of the other.
pub record Ordered (found : Octets → Option Fault) : Type 0 where
  pub bounded : (x : Octets) → Under (length x) (found x)
  pub first : (x y : Octets) (z : Fault) → Alike z.left x y → found x ≡ some z → Under z.left (found y)

-- a fault that is under a number is under a larger one
under_on : (m n : ℕ) (f : Option Fault) → m ≤ n → Under m f → Under n f
unfolding Under
under_on m n none h u = tt
under_on m n (some z) h u = omega arith

-- of octets and others that are as long, nothing is found before the first octet
under_all : (found : Octets → Option Fault) (m : ℕ) (x y : Octets) → ((x : Octets) → Under (length x) (found x)) → Alike m x y → m ≡ length x
    → Under m (found y)
under_all found m x y b a e = rw e (subst (λ n. Under n (found y)) (alike_length m x y a) (b y))

-- a thing that is whole
pub thing_whole : (size : Octets → ℕ) (ok : Octets → Option ImageFault) (next : Octets → Octets → Option Fault) (o : Octets) → leb (size o) (length o) ≡ true
    → thing size ok next o ≡ elim (ok (take (size o) o)) [ none ↦ next (take (size o) o) (drop (size o) o) | some k ↦ some (fault_at k o) ]
unfolding thing
thing_whole size ok next o t = rw (thing, t)

-- a thing that is whole and right
thing_goes : (size : Octets → ℕ) (ok : Octets → Option ImageFault) (next : Octets → Octets → Option Fault) (o : Octets) (n : ℕ) (a : Octets)
    → size o ≡ n → leb n (length o) ≡ true → take n o ≡ a → ok a ≡ none → thing size ok next o ≡ next a (drop n o)
unfolding thing
thing_goes size ok next o n a s t k d =
    let e : leb (size o) (length o) ≡ true = rw s t in
    let f : ok (take (size o) o) ≡ none = rw (s, k) d in
    by (leb (size o) (length o)) (ok (take (size o) o)) e f ∙ ap (λ (m : ℕ). next (take m o) (drop m o)) s ∙ ap (λ (x : Octets). next x (drop n o)) k
  where
    by : (b : Bool) (c : Option ImageFault) → b ≡ true → c ≡ none
        → ◌≡◌ {A = Option Fault} (elim b [
          | true ↦ elim c [ none ↦ next (take (size o) o) (drop (size o) o) | some k ↦ some (fault_at k o) ]
          | false ↦ some not_whole
        ])
        (next (take (size o) o) (drop (size o) o))
    by true none e f = refl
    by true (some x) e f = let z : ◌≡◌ {A = ℕ} 0 1 = cc in absurd (omega arith)
    by false c e f = no_way (sym e)

-- its size stands in it
abbrev pub Local : (Octets → ℕ) → Type 0
Local size = (m : ℕ) (x y : Octets) → Alike m x y → size x + m ≤ length x → size y ≡ size x

module _ (size : Octets → ℕ) (ok : Octets → Option ImageFault) (next : Octets → Octets → Option Fault) (local : Local size)
    (h : (a : Octets) → Ordered (next a)) where
  -- its fault lies among the octets
  thing_bounded : (x : Octets) → Under (length x) (thing size ok next x)
  unfolding thing Under fault_at not_whole
  thing_bounded x =
      either {A = Option Fault} (Under (length x)) (leb (size x) (length x))
      (λ t. optional {B = Option Fault} (Under (length x)) (ok (take (size x) x))
      (λ d. under_on (length (drop (size x) x)) (length x) (next (take (size x) x) (drop (size x) x)) (omega (arith, length-drop (size x) x))
      ((h (take (size x) x)).bounded (drop (size x) x)))
      (λ k d. omega arith))
      (λ t. omega arith)

  -- a fault behind it leaves it before the place
  room_for : (x : Octets) (z : Fault) → size x ≤ length x → next (take (size x) x) (drop (size x) x) ≡ some z → size x + z.left ≤ length x
  unfolding Under
  room_for x z l e =
      let b : Under (length (drop (size x) x)) (some z) = subst (Under (length (drop (size x) x))) e ((h (take (size x) x)).bounded (drop (size x) x)) in
      omega (arith, length-drop (size x) x)

  -- where octets are alike up to the place of a fault, it is the same thing in both, or the first at fault
  thing_first : (x y : Octets) (z : Fault) → Alike z.left x y → thing size ok next x ≡ some z → Under z.left (thing size ok next y)
  unfolding thing Under fault_at not_whole
  thing_first x y z a =
      either {A = Option Fault} (λ f. f ≡ some z → Goal) (leb (size x) (length x))
      (λ t. optional {B = Option Fault} (λ f. f ≡ some z → Goal) (ok (take (size x) x)) (λ d e. goes t d e)
      (λ k d e. let q : fault_at k x ≡ z = cc in under_all (thing size ok next) z.left x y thing_bounded a (ap (λ (w : Fault). w.left) (sym q))))
      (λ t e. ends t e)
    where
      Goal : Type 0
      Goal = Under z.left (thing size ok next y)

      goes : leb (size x) (length x) ≡ true → ok (take (size x) x) ≡ none → next (take (size x) x) (drop (size x) x) ≡ some z → Goal
      goes t d e =
          let r = room_for x z (le_of (size x) (length x) t) e in
          let g : thing size ok next y ≡ next (take (size x) x) (drop (size x) y)
          = thing_goes size ok next y (size x) (take (size x) x) (local z.left x y a r) (rw (alike_length z.left x y a) t)
          (alike_take z.left (size x) x y a r) d in
          rw g ((h (take (size x) x)).first (drop (size x) x) (drop (size x) y) z (alike_drop z.left (size x) x y a r) e)

      ends : leb (size x) (length x) ≡ false → some not_whole ≡ some z → Goal
      ends t e =
          let q : not_whole ≡ z = cc in
          let n : z.left ≡ 0 = ap (λ (w : Fault). w.left) (sym q) in
          let s : y ≡ x = alike_none x y (rw n at a) in
          rw s (rw (thing, t) (omega arith))

  -- A THING, AND WHAT IS BEHIND IT
  thing_ordered : Ordered (thing size ok next)
  thing_ordered = record { bounded = thing_bounded; first = thing_first }

-- a size that is always the same
always : (n : ℕ) → Local (λ o. n)
always n m x y a h = refl

-- 3. Fields, counts and records, up to the whole image -------------------------------------------------------------------------------------------------

-- a field, and what follows
field_ordered : (n : ℕ) (k : ImageFault) (ok : Octets → Bool) (next : Octets → Finder) → ((a : Octets) → Ordered (next a)) → Ordered (field_then n k ok next)
unfolding field_then
field_ordered n k ok next h = thing_ordered (λ o. n) (λ x. fault_unless k (ok x)) next (always n) h

-- the first octet is one of the first
octet_first : (o : Octets) → octet (take 1 o) 0 ≡ octet o 0
unfolding octet
octet_first [] = refl
octet_first (x ∷ o) = refl

-- the size of a name stands in it
name_local : (v : Version) (room : ℕ) → Local (name_size v room)
unfolding name_size
name_local One room m x y a h = refl
name_local Two room m x y a h =
    let t : take 1 y ≡ take 1 x = alike_take m 1 x y a (omega arith) in
    ap suc (sym (octet_first y) ∙ ap (λ (o : Octets). octet o 0) t ∙ octet_first x)

-- a name, and what follows
name_ordered : (v : Version) (room : ℕ) (next : Octets → Finder) → ((a : Octets) → Ordered (next a)) → Ordered (name_then v room next)
unfolding name_then
name_ordered v room next h = thing_ordered (name_size v room) (λ x. fault_unless BadField (name_right v room x)) next (name_local v room) h

-- a count, and what follows
count_ordered : (k : ImageFault) (most : ℕ) (next : ℕ → Finder) → ((n : ℕ) → Ordered (next n)) → Ordered (count_then k most next)
unfolding count_then
count_ordered k most next h =
    thing_ordered (λ o. 1) (λ x. fault_unless k (leb (octet x 0) most)) (λ x. next (octet x 0)) (always 1) (λ x. h (octet x 0))

-- a fixed part, and what follows
fixed_ordered : (v : Version) (low : ℕ) (next : ℕ → Hardware → Finder) → ((i : ℕ) (f : Hardware) → Ordered (next i f)) → Ordered (fixed_then v low next)
unfolding fixed_then
fixed_ordered v low next h =
    field_ordered 1 BadIndex _ _ λ i.
    field_ordered 6 BadField _ _ λ a.
    field_ordered 1 BadField _ _ λ e.
    field_ordered 2 BadField _ _ λ m.
    field_ordered 4 BadField _ _ λ s.
    field_ordered 4 BadField _ _ λ g.
    field_ordered 6 BadField _ _ λ t.
    name_ordered v 249 _ λ n.
    name_ordered v 11 _ λ k.
    h _ _

-- records, and what follows
records_ordered : (u : TableRule) (f : Hardware) (n : ℕ) (kept : List Octets) (next : Finder) → Ordered next → Ordered (records_then u f n kept next)
unfolding records_then
records_ordered u f zero kept next h = h
records_ordered u f (suc n) kept next h =
    thing_ordered (λ o. u.size) (record_fault u f kept) (λ r. records_then u f n (kept ++ (r ∷ [])) next) (always u.size)
    (λ r. records_ordered u f n (kept ++ (r ∷ [])) next h)

-- tables, and what follows
tables_ordered : (f : Hardware) (us : List TableRule) (next : Finder) → Ordered next → Ordered (tables_then f us next)
unfolding tables_then
tables_ordered f [] next h = h
tables_ordered f (u ∷ us) next h = count_ordered BadCount 32 _ (λ n. records_ordered u f n [] (tables_then f us next) (tables_ordered f us next h))

-- controllers, and what follows
controllers_ordered : (v : Version) (n low : ℕ) (next : Finder) → Ordered next → Ordered (controllers_then v n low next)
unfolding controllers_then
controllers_ordered v zero low next h = h
controllers_ordered v (suc n) low next h =
    fixed_ordered v low _ (λ i f. tables_ordered f table_rules (controllers_then v n (suc i) next) (controllers_ordered v n (suc i) next h))

-- octets left over are at fault by the first of them
left_bounded : (o : Octets) → Under (length o) (left_over o)
unfolding left_over Under fault_at
left_bounded [] = tt
left_bounded (x ∷ o) = omega arith

-- with all others that are as many
left_ordered : Ordered left_over
unfolding left_over fault_at
left_ordered = record {
  bounded = left_bounded;
  first = λ x y z a e. under_all left_over z.left x y left_bounded a (at x z e);
}
  where
    at : (x : Octets) (z : Fault) → left_over x ≡ some z → z.left ≡ length x
    at [] z e = let n : ◌≡◌ {A = ℕ} 0 1 = cc in absurd (omega arith)
    at (u ∷ x) z e = let q : fault_at BadLength (u ∷ x) ≡ z = cc in ap (λ (w : Fault). w.left) (sym q)

-- ALL OF AN IMAGE behind its version octet
pub first_ordered : (v : Version) → Ordered (first_fault v)
unfolding first_fault
first_ordered v = count_ordered BadIndex 4 (λ n. controllers_then v n 0 left_over) (λ n. controllers_ordered v n 0 left_over left_ordered)
