-- How far fields of an image are read: up to the first that is not whole or not right.
use Rattle.std.specs.Prelude.{IsErrAnd, Result, Ok, Err}
use Rattle.std.proofs.lemmas.Result.{err_from_is_err_and}
use Prim.Native.Nat.{ℕ, ◌+◌, ◌-◌, ◌≤◌, ◌<◌}
use native.Mathlib.Omega.{arith}
use mathlib.Core.Path.{◌≡◌, refl, sym, ap, subst, ◌∙◌}
use mathlib.Core.Bool.{Bool, true, false}
use mathlib.Core.Option.{Option, some}
use lib.ListN.{length, drop, take, length-drop}
use lib.Seq.{drop-drop}
use borrow.Author.Tests.{lt-leb}
use Rattle.model.specs.declared.ImageFault.{ImageFault}
use Rattle.model.specs.declared.ImageFault.TheVariants.{BadField, BadLength}
use Rattle.model.specs.declared.Version.{Version}
use Rattle.model.specs.Octets.{Octets}
use Rattle.model.specs.Image.{name_read, name_right, name_size}
use Rattle.model.specs.Reading as Reading
use Rattle.model.specs.Reading.{Reader, Reading, ◌>>=◌, fault_at, field, give, go_on, name_field, not_whole, right, short, spoilt, wrong}
use Rattle.model.proofs.Model.Fields.{both_right, leb_of}
use Rattle.octets.specs.Parts.{part}
use Rattle.fields.specs.Places.{fixed_end, short_place}
use Rattle.fields.specs.declared.FaultAt.{FaultAt}
use Rattle.fields.specs.Reads.{Begins, Reads, fault_of, told}
use Rattle.fields.proofs.Checks.{size_some}
use Rattle.fields.proofs.Says.{field_past}

-- 0. A fault that is handed on --------------------------------------------------------------------------------------------------------------

-- what `?` hands on is what was found
pub handed_on : {A : Type 0} (P : Result A FaultAt → Type 0) (r : Result A FaultAt) (x y : FaultAt) → IsErrAnd r (λ e. e ≡ x) → x ≡ y → P (Err y) → P r
handed_on P r x y h e g = let p = err_from_is_err_and r h in rw (p.1, p.2, e) g

-- 1. One reader after another -----------------------------------------------------------------------------------------------------------------

-- behind something wrong the fault stays
spoilt_fault : {A : Type 0} (x : Reading.Fault) (r : Reading A) → fault_of (spoilt x r) ≡ some x
unfolding fault_of spoilt
spoilt_fault x (right a o) = refl
spoilt_fault x (wrong y a o) = refl
spoilt_fault x (short y) = refl

-- the first fault is the first reader's, if that has one
first_fault_lem : {A B : Type 0} (r : Reading A) (f : A → Reader B) (y : Reading.Fault) → fault_of r ≡ some y → fault_of (go_on r f) ≡ some y
unfolding fault_of go_on
first_fault_lem (right a o) f y e = let z : ◌≡◌ {A = ℕ} 0 1 = cc in absurd (omega arith)
first_fault_lem (wrong x a o) f y e = spoilt_fault x (f a o) ∙ e
first_fault_lem (short x) f y e = e

-- where the first reader has a fault, that is the fault of both
pub reads_stop : {A B : Type 0} (image : Octets) (r : Reading A) (f : A → Reader B) (x : FaultAt) → Reads image r (Err x)
    → Reads image (go_on r f) (Err x)
reads_stop image r f x (y, e, s, l) = (y, first_fault_lem r f y e, s, l)

-- where the first reader comes to a place, the second goes on from there
pub reads_on : {A B : Type 0} (image : Octets) (m : Reading A) (f : A → Reader B) (p : ℕ) (r : Result ℕ FaultAt) → Reads image m (Ok p)
    → ((a : A) → Reads image (f a (drop p image)) r)
    → Reads image (go_on m f) r
unfolding go_on
reads_on image m f p r (l, a, e) h = subst (λ (x : Reading _). Reads image (go_on x f) r) (sym e) (h a)

-- the first fault of two readers, whatever is made of what they read
two_fault : {A B C : Type 0} (m : Reading A) (f : Reader B) (g : A → B → C) (y : Reading.Fault) → fault_of (go_on m (λ a. f)) ≡ some y
    → fault_of (go_on m (λ a. f >>= (λ b. give (g a b)))) ≡ some y
unfolding go_on ◌>>=◌ fault_of
two_fault (right a o) f g y e = first_fault_lem (f o) (λ b. give (g a b)) y e
two_fault (wrong x a o) f g y e = spoilt_fault x (go_on (f o) (λ b. give (g a b))) ∙ sym (spoilt_fault x (f o)) ∙ e
two_fault (short x) f g y e = e

-- and what they leave
two_right : {A B C : Type 0} (m : Reading A) (f : Reader B) (g : A → B → C) (b : B) (o : Octets) → go_on m (λ a. f) ≡ right b o
    → (c : C) × (go_on m (λ a. f >>= (λ b. give (g a b))) ≡ right c o)
unfolding go_on ◌>>=◌ give
two_right {A} {B} {C} m f g b o e = let h = both_right m (λ a. f) b o e in on h.0 h.1 h.2 h.3
  where
    on : (a : A) (x : Octets) → m ≡ right a x → f x ≡ right b o → (c : C) × (go_on m (λ a. f >>= (λ b. give (g a b))) ≡ right c o)
    on a x u z = (g a b, rw (u, z))

-- how far two readers come, whatever is made of what they read
pub reads_two : {A B C : Type 0} (image : Octets) (m : Reading A) (f : Reader B) (g : A → B → C) (r : Result ℕ FaultAt) → Reads image (go_on m (λ a. f)) r
    → Reads image (go_on m (λ a. f >>= (λ b. give (g a b)))) r
reads_two image m f g (Ok p) (l, b, e) = let h = two_right m f g b (drop p image) e in (l, h.0, h.1)
reads_two image m f g (Err x) (y, e, s, l) = (y, two_fault m f g y e, s, l)

-- 2. Fields at their places -------------------------------------------------------------------------------------------------------------------

-- a field that is not whole
short_field : (n : ℕ) (k : ImageFault) (ok : Octets → Bool) (o : Octets) → length o < n → field n k ok o ≡ short not_whole
unfolding field
short_field n k ok o h = rw (lt-leb n (length o) h, field)

-- a field that is whole and wrong
wrong_field : (n : ℕ) (k : ImageFault) (ok : Octets → Bool) (o : Octets) → n ≤ length o → ok (take n o) ≡ false
    → field n k ok o ≡ wrong (fault_at k o) (take n o) (drop n o)
unfolding field
wrong_field n k ok o h e = rw (leb_of n (length o) h, field, e)

-- a field that is not whole, whatever is behind it
pub short_then : {B : Type 0} (n : ℕ) (k : ImageFault) (ok : Octets → Bool) (f : Octets → Reader B) (o : Octets) → length o < n
    → fault_of ((field n k ok >>= f) o) ≡ some not_whole
unfolding ◌>>=◌ fault_of
short_then n k ok f o h = first_fault_lem (field n k ok o) f not_whole (ap fault_of (short_field n k ok o h))

-- octets that are not whole: the fault is told at the end of the image
pub short_begins : (image : Octets) (x : Option Reading.Fault) → x ≡ some not_whole → Begins image x BadLength (length image)
unfolding not_whole fault_at
short_begins image x e = (not_whole, e, refl, omega arith)

-- a wrong field: the fault is told at its place
pub wrong_begins : (image : Octets) (x : Option Reading.Fault) (k : ImageFault) (p : ℕ) → p ≤ length image → x ≡ some (fault_at k (drop p image))
    → Begins image x k p
unfolding fault_at
wrong_begins image x k p h e = (fault_at k (drop p image), e, refl, omega (arith, length-drop p image))

-- a field at a place is not whole
pub short_at : {B : Type 0} (n : ℕ) (k : ImageFault) (ok : Octets → Bool) (f : Octets → Reader B) (image : Octets) (p : ℕ) → length image < p + n
    → p ≤ length image
    → Reads image (go_on (field n k ok (drop p image)) f) (told BadLength (length image))
unfolding fault_of
short_at n k ok f image p h l =
    let e : length (drop p image) < n = omega (arith, length-drop p image) in
    short_begins image _ (first_fault_lem (field n k ok (drop p image)) f not_whole (ap fault_of (short_field n k ok (drop p image) e)))

-- a field at a place is whole and wrong
pub wrong_at : {B : Type 0} (n : ℕ) (k : ImageFault) (ok : Octets → Bool) (f : Octets → Reader B) (image : Octets) (p : ℕ) → p + n ≤ length image
    → ok (part image p n) ≡ false
    → Reads image (go_on (field n k ok (drop p image)) f) (told k p)
unfolding part fault_of
wrong_at n k ok f image p h e =
    let l : n ≤ length (drop p image) = omega (arith, length-drop p image) in
    wrong_begins image _ k p (omega arith)
    (first_fault_lem (field n k ok (drop p image)) f (fault_at k (drop p image)) (ap fault_of (wrong_field n k ok (drop p image) l e)))

-- 3. Names ------------------------------------------------------------------------------------------------------------------------------------

-- a name's field is not whole
pub name_short : (v : Version) (room : ℕ) (image : Octets) (at size : ℕ) → at ≤ length image → size ≡ name_size v room (drop at image) → length image - at < size
    → Reads image (name_field v room (drop at image)) (told BadLength (length image))
unfolding name_field
name_short v room image at size h e l =
    short_at (name_size v room (drop at image)) BadField (name_right v room) (λ x. give (name_read v room x)) image at (omega arith) h

-- no octet of it is there
pub name_none : (v : Version) (room : ℕ) (image : Octets) (at : ℕ) → 0 < room → at ≤ length image → length image ≤ at
    → Reads image (name_field v room (drop at image)) (told BadLength (length image))
name_none v room image at r h l = name_short v room image at (name_size v room (drop at image)) h refl (omega (arith, size_some v room (drop at image) r))

-- it is whole and wrong
pub name_wrong : (v : Version) (room : ℕ) (image : Octets) (at size : ℕ) (b : Bool) → at ≤ length image → size ≡ name_size v room (drop at image)
    → size ≤ length image - at
    → b ≡ name_right v room (part image at (name_size v room (drop at image))) → b ≡ false → Reads image (name_field v room (drop at image)) (told BadField at)
unfolding name_field
name_wrong v room image at size b h e l q t =
    wrong_at (name_size v room (drop at image)) BadField (name_right v room) (λ x. give (name_read v room x)) image at (omega arith) (sym q ∙ t)

-- it is whole and right
pub name_good : (v : Version) (room : ℕ) (image : Octets) (at size : ℕ) (b : Bool) → at ≤ length image → size ≡ name_size v room (drop at image)
    → size ≤ length image - at
    → b ≡ name_right v room (part image at (name_size v room (drop at image))) → b ≡ true → Reads image (name_field v room (drop at image)) (Ok (at + size))
unfolding name_field ◌>>=◌ give
name_good v room image at size b h e l q t = (
  omega arith,
  name_read v room (part image at (name_size v room (drop at image))),
  rw e (field_past (name_size v room (drop at image)) BadField (name_right v room) (λ x. give (name_read v room x)) image at (omega arith) (sym q ∙ t)),
)

-- 4. Where the fixed part ends ----------------------------------------------------------------------------------------------------------------

-- by the sizes of the names
pub end_is : (v : Version) (image : Octets) (at n m : ℕ) → n ≡ name_size v 249 (drop (at + 24) image) → m ≡ name_size v 11 (drop (at + 24 + n) image)
    → at + 24 + n + m ≡ at + fixed_end v (drop at image)
unfolding fixed_end short_place
end_is v image at n m e q =
    let d : drop 24 (drop at image) ≡ drop (at + 24) image = drop-drop 24 at image in
    let k : at + (24 + n) ≡ at + 24 + n = omega arith in
    let s : drop (24 + n) (drop at image) ≡ drop (at + 24 + n) image = drop-drop (24 + n) at image ∙ ap (λ (i : ℕ). drop i image) k in
    rw (d, ← e, s, ← q) (omega arith)

-- the place of the short name is within an image that has the whole
pub end_short : (v : Version) (image : Octets) (at n : ℕ) → n ≡ name_size v 249 (drop (at + 24) image) → at + fixed_end v (drop at image) ≤ length image
    → at + 24 + n < length image
end_short v image at n e h =
    let m : ℕ = name_size v 11 (drop (at + 24 + n) image) in
    omega (arith, end_is v image at n m e refl, size_some v 11 (drop (at + 24 + n) image) (omega arith))

-- so is that of the name
pub end_name : (v : Version) (image : Octets) (at : ℕ) → at + fixed_end v (drop at image) ≤ length image → at + 24 < length image
end_name v image at h = omega (arith, end_short v image at (name_size v 249 (drop (at + 24) image)) refl h)
