-- What a fixed part says that was read and is right: by the places of its fields, each whole, each with its rule.
use Prim.Native.Nat.{ℕ, ◌+◌, ◌≤◌}
use native.Mathlib.Omega.{arith}
use mathlib.Core.Path.{◌≡◌, sym, ap, ◌∙◌}
use mathlib.Core.Bool.{Bool, true}
use mathlib.Core.List.{◌++◌}
use lib.ListN.{length, drop, take, length-append, length-drop}
use lib.Seq.{drop_at, drop-drop, get_or-take, take_at}
use lib.Dec.{leb, lit<}
use Rattle.model.specs.declared.ImageFault.{ImageFault}
use Rattle.model.specs.declared.ImageFault.TheVariants.{BadField, BadIndex}
use Rattle.model.specs.declared.Version.{Version}
use Rattle.model.specs.Octets.{Octets, octet}
use Rattle.model.specs.State.{hardware_ok}
use Rattle.model.specs.Image.{name_read, name_right, name_size, static_fits}
use Rattle.model.specs.Reading.{Fixed, Reader, Reading, ◌>>=◌, field, fixed_part, flags_right, give, go_on, index_right, name_field, right}
use Rattle.model.proofs.Model.Fields.{both_right, field_right, leb_of}
use Rattle.model.proofs.Model.Tests.{and_true, both}
use Rattle.octets.specs.Parts.{part}
use Rattle.fields.specs.Places.{fixed_end, fixed_in, flags_in, hardware_in, names_in, short_place, static_in}

-- 1. Fields at their places -------------------------------------------------------------------------------------------------------------------

-- a field that was right: it is whole, it says its octets, and it leaves those behind them
field_cut : (n : ℕ) (k : ImageFault) (ok : Octets → Bool) (o a x : Octets) → field n k ok o ≡ right a x
    → (n ≤ length o) × (a ≡ take n o) × (x ≡ drop n o) × (ok a ≡ true)
field_cut n k ok o a x e =
    let d = field_right n k ok o a x e in
    let l : length (a ++ x) ≡ length a + length x = length-append a x in
    let w : length o ≡ length (a ++ x) = ap length (sym d.parts) in
    (omega (arith, d.size), sym (rw (← d.parts) (take_at a x n d.size)), sym (rw (← d.parts) (drop_at a x n d.size)), d.rule)

-- a place behind another that is within the octets
behind : (o : Octets) (p n : ℕ) → p ≤ length o → n ≤ length (drop p o) → p + n ≤ length o
behind o p n h l = omega (arith, length-drop p o)

-- a field at a place, and all right behind it: it is whole, it keeps its rule, and what is behind it begins where it ends
pub field_at : {B P : Type 0} (n : ℕ) (k : ImageFault) (ok : Octets → Bool) (f : Octets → Reader B) (o : Octets) (p : ℕ) (b : B) (y : Octets) → p ≤ length o
    → (field n k ok >>= f) (drop p o) ≡ right b y → (p + n ≤ length o → ok (part o p n) ≡ true → f (part o p n) (drop (p + n) o) ≡ right b y → P) → P
unfolding ◌>>=◌ part
field_at {P = P} n k ok f o p b y h e go =
    let r = both_right (field n k ok (drop p o)) f b y e in
    on r.0 r.1 r.2 r.3
  where
    on : (a x : Octets) → field n k ok (drop p o) ≡ right a x → f a x ≡ right b y → P
    on a x u z =
        let d = field_cut n k ok (drop p o) a x u in
        go (behind o p n h d.0) (rw (← d.1) d.3) (rw (← drop-drop n p o, ← d.1, ← d.2) z)

-- a name's field at a place, and all right behind it
pub name_at : {B P : Type 0} (v : Version) (room : ℕ) (f : Octets → Reader B) (o : Octets) (p : ℕ) (b : B) (y : Octets) → p ≤ length o
    → (name_field v room >>= f) (drop p o) ≡ right b y
    → (p + name_size v room (drop p o) ≤ length o → name_right v room (part o p (name_size v room (drop p o))) ≡ true
    → f (name_read v room (part o p (name_size v room (drop p o)))) (drop (p + name_size v room (drop p o)) o) ≡ right b y → P) → P
unfolding ◌>>=◌ name_field give part
name_at {P = P} v room f o p b y h e go =
    let r = both_right (name_field v room (drop p o)) f b y e in
    on r.0 r.1 r.2 r.3
  where
    s : ℕ
    s = name_size v room (drop p o)

    on2 : (a x c z : Octets) → field s BadField (name_right v room) (drop p o) ≡ right a x → ◌≡◌ {A = Reading Octets} (right (name_read v room a) x) (right c z)
        → f c z ≡ right b y → P
    on2 a x c z u q w =
        let d = field_cut s BadField (name_right v room) (drop p o) a x u in
        let m : name_read v room a ≡ c = cc in
        let i : x ≡ z = cc in
        go (behind o p s h d.0) (rw (← d.1) d.3) (rw (← drop-drop s p o, ← d.1, ← d.2, m, i) w)

    on : (c z : Octets) → name_field v room (drop p o) ≡ right c z → f c z ≡ right b y → P
    on c z u w =
        let r = both_right (field s BadField (name_right v room) (drop p o)) (λ x. give (name_read v room x)) c z u in
        on2 r.0 r.1 c z r.2 r.3 w

-- 2. The fixed part ---------------------------------------------------------------------------------------------------------------------------

-- the rules that the fields of a fixed part keep, each at its place
pub record FieldsRight (v : Version) (o : Octets) : Type 0 where
  pub hardware : hardware_ok (hardware_in o) ≡ true
  pub flags : flags_right v (hardware_in o) (flags_in o) ≡ true
  pub static : static_fits (hardware_in o) (static_in o) ≡ true
  pub name : name_right v 249 (part o 24 (name_size v 249 (drop 24 o))) ≡ true
  pub short : name_right v 11 (part o (short_place v o) (name_size v 11 (drop (short_place v o) o))) ≡ true

-- all that is known of a fixed part that was right
record Known (v : Version) (low : ℕ) (o : Octets) (c : Fixed) (x : Octets) : Type 0 where
  says : c ≡ fixed_in v o
  leaves : x ≡ drop (fixed_end v o) o
  within : fixed_end v o ≤ length o
  index : index_right low (octet o 0) ≡ true
  rules : FieldsRight v o

-- the first octet, as a field of one
first : (o : Octets) → octet (part o 0 1) 0 ≡ octet o 0
unfolding octet part
first o = get_or-take 1 o 0 0 (lit< tt)

-- what a reading that was right says
said : {A : Type 0} {a b : A} {o x : Octets} → ◌≡◌ {A = Reading A} (right a o) (right b x) → a ≡ b
said e = cc

-- what it leaves
left : {A : Type 0} {a b : A} {o x : Octets} → ◌≡◌ {A = Reading A} (right a o) (right b x) → o ≡ x
left e = cc

-- field by field
known : (v : Version) (low : ℕ) (o : Octets) (c : Fixed) (x : Octets) → fixed_part v low o ≡ right c x → Known v low o c x
unfolding fixed_part give fixed_in hardware_in flags_in static_in names_in fixed_end short_place
known v low o c x z =
    field_at 1 BadIndex _ _ o 0 c x (omega arith) z λ l1 i z1.
    field_at 6 BadField _ _ o 1 c x l1 z1 λ l2 _ z2.
    field_at 1 BadField _ _ o 7 c x l2 z2 λ l3 _ z3.
    field_at 2 BadField _ _ o 8 c x l3 z3 λ l4 _ z4.
    field_at 4 BadField _ _ o 10 c x l4 z4 λ l5 s z5.
    field_at 4 BadField _ _ o 14 c x l5 z5 λ l6 g z6.
    field_at 6 BadField _ _ o 18 c x l6 z6 λ l7 t z7.
    name_at v 249 _ o 24 c x l7 z7 λ l8 n z8.
    name_at v 11 _ o (24 + name_size v 249 (drop 24 o)) c x l8 z8 λ l9 k z9.
    let p : fixed_in v o ≡ c = rw (← first o) (said z9) in
    let q : drop (fixed_end v o) o ≡ x = left z9 in
    record {
      says = sym p;
      leaves = sym q;
      within = l9;
      index = rw (← first o) i;
      rules = record { hardware = s; flags = g; static = t; name = n; short = k };
    }

-- A FIXED PART THAT WAS RIGHT: what it says, what it leaves, that it is within the octets, and its index
pub fixed_says : (v : Version) (low : ℕ) (o : Octets) (c : Fixed) (x : Octets) → fixed_part v low o ≡ right c x
    → (c ≡ fixed_in v o) × (x ≡ drop (fixed_end v o) o) × (fixed_end v o ≤ length o) × (24 ≤ fixed_end v o) × (index_right low (octet o 0) ≡ true)
unfolding fixed_end short_place
fixed_says v low o c x z =
    let h = known v low o c x z in
    (h.says, h.leaves, h.within, omega arith, h.index)

-- and the rules that its fields keep
pub fixed_rules : (v : Version) (low : ℕ) (o : Octets) (c : Fixed) (x : Octets) → fixed_part v low o ≡ right c x → FieldsRight v o
fixed_rules v low o c x z = (known v low o c x z).rules

-- 3. Whatever the index -----------------------------------------------------------------------------------------------------------------------

-- a field at a place that is whole and keeps its rule is passed
pub field_past : {B : Type 0} (n : ℕ) (k : ImageFault) (ok : Octets → Bool) (f : Octets → Reader B) (o : Octets) (p : ℕ) → p + n ≤ length o
    → ok (part o p n) ≡ true
    → (field n k ok >>= f) (drop p o) ≡ f (part o p n) (drop (p + n) o)
unfolding ◌>>=◌ go_on field part
field_past n k ok f o p h e =
    let t : leb n (length (drop p o)) ≡ true = leb_of n (length (drop p o)) (omega (arith, length-drop p o)) in
    rw (t, field, e, drop-drop n p o)

-- an index from `low` on is one from 0 on
index_low : (low i : ℕ) → index_right low i ≡ true → index_right 0 i ≡ true
unfolding index_right
index_low low i e = both (leb_of 0 i (omega arith)) (and_true (leb low i) (leb i 3) e).1

-- what is right where the index is from `low` on is right where it is any
pub fixed_low : (v : Version) (low : ℕ) (o : Octets) (c : Fixed) (x : Octets) → fixed_part v low o ≡ right c x → fixed_part v 0 o ≡ right c x
unfolding fixed_part
fixed_low v low o c x z =
    field_at 1 BadIndex _ _ o 0 c x (omega arith) z λ l i e.
    field_past 1 BadIndex _ _ o 0 l (index_low low _ i) ∙ e
