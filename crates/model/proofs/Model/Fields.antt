-- What reading fields comes to where all is right: each field has its size and keeps its rule, and the octets are those of the fields and of
-- what is behind them. And the other way: fields that are written so are read.
use Rattle.std.specs.Prelude.{ℕ, zero, suc, ◌+◌, ◌-◌, ◌<◌, ◌≤◌, ◌≡◌, refl, Bool, true, false, not, [], ◌∷◌, ◌++◌, length, get_or, take, drop, replicate, eqb, leb, ltb, T}
use Rattle.std.proofs.Common.{arith, ◌∙◌, append_assoc, length-append, take-append-drop, take_at, drop_at, length-take-le, le→leb, leb→le, ltb→lt}
use Rattle.std.proofs.lemmas.List.{length-replicate}
use Rattle.model.specs.Octets.{Octets, bytes, octet, used_part}
use Rattle.model.specs.Image.{Version, name_back, name_read, name_image, name_right, name_size, no_zero, One, padded, Two}
use Rattle.model.specs.Reading.{Fault, ImageFault, Reader, Reading, ◌>>=◌, BadField, field, give, go_on, name_field, right, short, spoilt, wrong}
use Rattle.model.proofs.Model.Tables.{lt_true}
use Rattle.model.proofs.Model.Tests.{and_true, both, either, equal, not-true}

-- 1. Orders and octets ------------------------------------------------------------------------------------------------------------------------

-- a test on order, as a fact
pub le_of : (m n : ℕ) → leb m n ≡ true → m ≤ n
le_of m n e = leb→le m n (rw e tt)

-- an order, as a test
pub leb_of : (m n : ℕ) → m ≤ n → leb m n ≡ true
leb_of m n h = go (leb m n) (le→leb m n h)
  where
    go : (b : Bool) → T b → b ≡ true
    go true t = refl
    go false t = absurd t

-- octets in two parts
pub bytes_parts : (a x : Octets) → bytes (a ++ x) ≡ true → (bytes a ≡ true) × (bytes x ≡ true)
unfolding bytes
bytes_parts [] x e = (refl, e)
bytes_parts (y ∷ a) x e = let h = and_true (ltb y 256) _ e in let r = bytes_parts a x h.1 in (both h.0 r.0, r.1)

-- two parts of octets
pub bytes_both : (a x : Octets) → bytes a ≡ true → bytes x ≡ true → bytes (a ++ x) ≡ true
unfolding bytes
bytes_both [] x e f = f
bytes_both (y ∷ a) x e f = let h = and_true (ltb y 256) _ e in both h.0 (bytes_both a x h.1 f)

-- zeros are octets
pub bytes_zeros : (n : ℕ) → bytes (replicate n 0) ≡ true
unfolding bytes
bytes_zeros zero = refl
bytes_zeros (suc n) = bytes_zeros n

-- 2. One reader after another -----------------------------------------------------------------------------------------------------------------

-- behind something wrong nothing is right
never_right : {A B : Type 0} (x : Fault) (r : Reading A) (a : A) (o : Octets) → spoilt x r ≡ right a o → B
unfolding spoilt
never_right x (right b y) a o e = let z : ◌≡◌ {A = ℕ} 0 1 = cc in absurd (omega arith)
never_right x (wrong y b z) a o e = let z : ◌≡◌ {A = ℕ} 0 1 = cc in absurd (omega arith)
never_right x (short y) a o e = let z : ◌≡◌ {A = ℕ} 0 1 = cc in absurd (omega arith)

-- two readers that found all right: both did, the second behind the first
pub both_right : {A B : Type 0} (r : Reading A) (f : A → Reader B) (b : B) (y : Octets) → go_on r f ≡ right b y → (a : A) × (x : Octets) × (r ≡ right a x) × (f a x ≡ right b y)
unfolding go_on
both_right (right a x) f b y e = (a, x, refl, e)
both_right (wrong z a x) f b y e = never_right z (f a x) b y e
both_right (short z) f b y e = let z : ◌≡◌ {A = ℕ} 0 1 = cc in absurd (omega arith)

-- a field that was right: its size, its rule, and the octets that it was read from
pub record FieldRight (n : ℕ) (ok : Octets → Bool) (o a x : Octets) : Type 0 where
  pub size : length a ≡ n
  pub rule : ok a ≡ true
  pub parts : a ++ x ≡ o

-- what a field that was right says
pub field_right : (n : ℕ) (k : ImageFault) (ok : Octets → Bool) (o a x : Octets) → field n k ok o ≡ right a x → FieldRight n ok o a x
unfolding field
field_right n k ok o a x =
    either {A = Reading Octets} (λ r. r ≡ right a x → FieldRight n ok o a x) (leb n (length o))
    (λ t. either {A = Reading Octets} (λ r. r ≡ right a x → FieldRight n ok o a x) (ok (take n o))
    (λ d e. let p : take n o ≡ a = cc in let q : drop n o ≡ x = cc in
    rw (← p, ← q) (record { size = length-take-le n o (le_of n (length o) t); rule = d; parts = take-append-drop n o }))
    (λ d e. let z : ◌≡◌ {A = ℕ} 0 1 = cc in absurd (omega arith)))
    (λ t e. let z : ◌≡◌ {A = ℕ} 0 1 = cc in absurd (omega arith))

-- a field of that size that keeps the rule is read, whatever follows it
pub field_reads : (n : ℕ) (k : ImageFault) (ok : Octets → Bool) (a x : Octets) → length a ≡ n → ok a ≡ true → field n k ok (a ++ x) ≡ right a x
unfolding field
field_reads n k ok a x s e =
    let t : leb n (length (a ++ x)) ≡ true = leb_of n (length (a ++ x)) (omega (arith, length-append a x)) in
    let d : ok (take n (a ++ x)) ≡ true = rw (take_at a x n s) e in
    rw (t, field, d, take_at a x n s, drop_at a x n s)

-- octets of a field, and behind it
pub field_bytes : {n : ℕ} {ok : Octets → Bool} {o a x : Octets} → FieldRight n ok o a x → bytes o ≡ true → (bytes a ≡ true) × (bytes x ≡ true)
field_bytes {n} {ok} {o} {a} {x} h w = bytes_parts a x (rw h.parts w)

-- a field, and all right behind it: what follows from each
pub field_then_lem : {B P : Type 0} (n : ℕ) (k : ImageFault) (ok : Octets → Bool) (f : Octets → Reader B) (o : Octets) (b : B) (y : Octets) → bytes o ≡ true → (field n k ok >>= f) o ≡ right b y
    → ((a x : Octets) → FieldRight n ok o a x → bytes a ≡ true → bytes x ≡ true → f a x ≡ right b y → P) → P
unfolding ◌>>=◌
field_then_lem n k ok f o b y w e go =
    let r = both_right (field n k ok o) f b y e in
    let h = field_right n k ok o r.0 r.1 r.2 in
    let z = field_bytes h w in
    go r.0 r.1 h z.0 z.1 r.3

-- a field that is written so is read, and what is behind it
pub then_field : {B : Type 0} (n : ℕ) (k : ImageFault) (ok : Octets → Bool) (f : Octets → Reader B) (a x : Octets) → length a ≡ n → ok a ≡ true → (field n k ok >>= f) (a ++ x) ≡ f a x
unfolding ◌>>=◌ go_on
then_field n k ok f a x s e = rw (field_reads n k ok a x s e)

-- 3. Names --------------------------------------------------------------------------------------------------------------------------------------

-- zeros behind octets
zeros_at : (r : Octets) (m k : ℕ) → length r ≤ k → get_or (r ++ replicate m 0) k 0 ≡ 0
zeros_at [] zero k h = refl
zeros_at [] (suc m) zero h = refl
zeros_at [] (suc m) (suc k) h = zeros_at [] m k (omega arith)
zeros_at (x ∷ r) m zero h = absurd (omega arith)
zeros_at (x ∷ r) m (suc k) h = zeros_at r m k (omega arith)

-- octets without a zero are all used
used_all : (r : Octets) (m : ℕ) → no_zero r ≡ true → used_part (r ++ replicate m 0) ≡ r
unfolding used_part no_zero
used_all [] zero e = refl
used_all [] (suc m) e = refl
used_all (x ∷ r) m e = let h = and_true (not (eqb x 0)) _ e in rw (not-true (eqb x 0) h.0, used_part, used_all r m h.1)

-- the octets used have no zero
used_no_zero : (n : Octets) → no_zero (used_part n) ≡ true
unfolding used_part no_zero
used_no_zero [] = refl
used_no_zero (x ∷ n) = either (λ o. no_zero o ≡ true) (eqb x 0) (λ t. refl) (λ t. rw t (used_no_zero n))

-- a zero ends the octets used
pub used_most : (n : Octets) (k : ℕ) → get_or n k 0 ≡ 0 → length (used_part n) ≤ k
unfolding used_part
used_most [] k e = omega arith
used_most (x ∷ n) zero e = rw (e, used_part) (omega arith)
used_most (x ∷ n) (suc k) e = go (eqb x 0) (used_most n k e)
  where
    go : (b : Bool) → length (used_part n) ≤ k → length {A = ℕ} (elim b [ true ↦ [] | false ↦ x ∷ used_part n ]) ≤ suc k
    go true h = omega arith
    go false h = omega arith

-- the octets used are octets
pub used_bytes : (n : Octets) → bytes n ≡ true → bytes (used_part n) ≡ true
unfolding used_part bytes
used_bytes [] e = refl
used_bytes (x ∷ n) e = let h = and_true (ltb x 256) _ e in either (λ o. bytes o ≡ true) (eqb x 0) (λ t. refl) (λ t. both h.0 (used_bytes n h.1))

-- a name of this room, as the state has it: its length, its last octet, and that it is octets
pub record NameFit (room : ℕ) (n : Octets) : Type 0 where
  pub size : length n ≡ room
  pub ends : eqb (octet n (room - 1)) 0 ≡ true
  pub octets : bytes n ≡ true

-- octets that are fewer than the room, with zeros behind them
padded_fit : (room : ℕ) (r : Octets) → length r < room → bytes r ≡ true → NameFit room (padded room r)
unfolding padded octet
padded_fit room r h w = record {
  size = length-append r (replicate (room - length r) 0) ∙ omega (arith, length-replicate {A = ℕ} (room - length r) 0);
  ends = rw (zeros_at r (room - length r) (room - 1) (omega arith));
  octets = bytes_both r _ w (bytes_zeros (room - length r));
}

-- a name's field that was right: the name fits its room, and is written as it was read
pub record NameRight (v : Version) (room : ℕ) (o a x : Octets) : Type 0 where
  pub fit : NameFit room a
  pub parts : name_image v a ++ x ≡ o
  pub behind : bytes x ≡ true

-- the same by the field, in each version
name_by : (v : Version) (room : ℕ) (o a x : Octets) → bytes o ≡ true → FieldRight (name_size v room o) (name_right v room) o a x → NameRight v room o (name_read v room a) x
unfolding name_size name_right name_read name_image padded octet bytes
name_by One room o a x w h =
    let b = field_bytes h w in
    record { fit = record { size = h.size; ends = h.rule; octets = b.0 }; parts = h.parts; behind = b.1 }
name_by Two room o [] x w h = absurd (omega (arith, h.size))
name_by Two room o (n ∷ r) x w h =
    let b = field_bytes h w in
    let s : suc (length r) ≡ suc n = rw (← h.parts) at h.size in
    let e = and_true (ltb n room) _ h.rule in
    let lt : n < room = ltb→lt _ _ (rw e.0 tt) in
    let u : used_part (r ++ replicate (room - length r) 0) ≡ r = used_all r (room - length r) e.1 in
    let l : length r ≡ n = omega arith in
    record {
      fit = padded_fit room r (omega arith) (and_true (ltb n 256) _ b.0).1;
      parts = rw (u, l) h.parts;
      behind = b.1;
    }

-- what a name's field that was right says
pub name_right_lem : (v : Version) (room : ℕ) (o a x : Octets) → bytes o ≡ true → name_field v room o ≡ right a x → NameRight v room o a x
unfolding name_field give
name_right_lem v room o a x w e =
    let b = both_right _ (λ y. give (name_read v room y)) a x e in
    go b.0 b.1 b.2 b.3
  where
    go : (r y : Octets) → field (name_size v room o) BadField (name_right v room) o ≡ right r y → ◌≡◌ {A = Reading Octets} (right (name_read v room r) y) (right a x) → NameRight v room o a x
    go r y h e =
        let p : name_read v room r ≡ a = cc in
        let q : y ≡ x = cc in
        rw (← p, ← q) (name_by v room o r y w (field_right _ BadField _ o r y h))

-- a name, and all right behind it: what follows from each
pub name_then_lem : {B P : Type 0} (v : Version) (room : ℕ) (f : Octets → Reader B) (o : Octets) (b : B) (y : Octets) → bytes o ≡ true → (name_field v room >>= f) o ≡ right b y
    → ((a x : Octets) → NameRight v room o a x → f a x ≡ right b y → P) → P
unfolding ◌>>=◌
name_then_lem v room f o b y w e go =
    let r = both_right (name_field v room o) f b y e in
    go r.0 r.1 (name_right_lem v room o r.0 r.1 w r.2) r.3

-- a name is read back, in each version
name_reads : (v : Version) (room : ℕ) (n x : Octets) → 0 < room → length n ≡ room → eqb (octet n (room - 1)) 0 ≡ true → name_field v room (name_image v n ++ x) ≡ right (name_back v room n) x
unfolding name_field go_on give name_size name_right name_read name_image name_back octet
name_reads One room n x h s e = rw (field_reads room BadField (name_right One room) n x s e)
name_reads Two room n x h s e =
    let m : length (used_part n) ≤ room - 1 = used_most n (room - 1) (equal _ _ e) in
    let r : name_right Two room (length (used_part n) ∷ used_part n) ≡ true = both (lt_true (length (used_part n)) room (omega arith)) (used_no_zero n) in
    rw (field_reads (suc (length (used_part n))) BadField (name_right Two room) (length (used_part n) ∷ used_part n) x refl r)

-- a name that is written so is read, and what is behind it
pub then_name : {B : Type 0} (v : Version) (room : ℕ) (f : Octets → Reader B) (n x : Octets) → 0 < room → length n ≡ room → eqb (octet n (room - 1)) 0 ≡ true
    → (name_field v room >>= f) (name_image v n ++ x) ≡ f (name_back v room n) x
unfolding ◌>>=◌ go_on
then_name v room f n x h s e = rw (name_reads v room n x h s e)

-- 4. What is behind fields, right or wrong ----------------------------------------------------------------------------------------------------

-- these octets end those, behind at least k others
pub record Behind (k : ℕ) (o x : Octets) : Type 0 where
  pub front : Octets
  pub long : k ≤ length front
  pub parts : front ++ x ≡ o

-- what a reading leaves ends the octets that were read
unfoldable pub Leaves : {A : Type 0} → ℕ → Octets → Reading A → Type 0
Leaves k o (right a x) = Behind k o x
Leaves k o (wrong y a x) = Behind k o x
Leaves k o (short y) = Unit {0}

-- one part behind another
behind_on : (j k : ℕ) (o x y : Octets) → Behind j o x → Behind k x y → Behind (j + k) o y
behind_on j k o x y a b = record {
  front = a.front ++ b.front;
  long = omega (arith, length-append a.front b.front, a.long, b.long);
  parts = rw (append_assoc, b.parts) a.parts;
}

-- of two readings, one after the other
leaves_on : {A B : Type 0} (j k : ℕ) (o : Octets) (r : Reading A) (f : A → Reader B) → Leaves j o r → ((a : A) (x : Octets) → Leaves k x (f a x)) → Leaves (j + k) o (go_on r f)
unfolding Leaves go_on spoilt
leaves_on {B = B} j k o (right a x) f h g = on (f a x) (g a x)
  where
    on : (r : Reading B) → Leaves k x r → Leaves (j + k) o r
    on (right b y) l = behind_on j k o x y h l
    on (wrong z b y) l = behind_on j k o x y h l
    on (short z) l = tt
leaves_on {B = B} j k o (wrong z a x) f h g = on (f a x) (g a x)
  where
    on : (r : Reading B) → Leaves k x r → Leaves (j + k) o (spoilt z r)
    on (right b y) l = behind_on j k o x y h l
    on (wrong z b y) l = behind_on j k o x y h l
    on (short z) l = tt
leaves_on {B = B} j k o (short z) f h g = tt

-- of a field
field_leaves : (n : ℕ) (k : ImageFault) (ok : Octets → Bool) (o : Octets) → Leaves n o (field n k ok o)
unfolding field Leaves
field_leaves n k ok o =
    either {A = Reading Octets} (Leaves n o) (leb n (length o))
    (λ t. let b : Behind n o (drop n o) = record { front = take n o; long = omega (arith, length-take-le n o (le_of n (length o) t)); parts = take-append-drop n o } in
    either {A = Reading Octets} (Leaves n o) (ok (take n o)) (λ _. b) (λ _. b))
    (λ t. tt)

-- of a field and what follows
pub then_leaves : {B : Type 0} (j n : ℕ) (k : ImageFault) (ok : Octets → Bool) (f : Octets → Reader B) → ((a x : Octets) → Leaves j x (f a x)) → (o : Octets) → Leaves (n + j) o ((field n k ok >>= f) o)
unfolding ◌>>=◌
then_leaves j n k ok f h o = leaves_on n j o (field n k ok o) f (field_leaves n k ok o) h

-- where nothing more is read
pub give_leaves : {A : Type 0} (a : A) (o : Octets) → Leaves 0 o (give a o)
unfolding Leaves give
give_leaves a o = record { front = []; long = omega arith; parts = refl }

-- behind any number of octets
any_leaves : {A : Type 0} (k : ℕ) (o : Octets) (r : Reading A) → Leaves k o r → Leaves 0 o r
unfolding Leaves
any_leaves k o (right a x) h = record { front = h.front; long = omega arith; parts = h.parts }
any_leaves k o (wrong y a x) h = record { front = h.front; long = omega arith; parts = h.parts }
any_leaves k o (short y) h = tt

-- of a name and what follows
pub name_leaves : {B : Type 0} (v : Version) (room : ℕ) (f : Octets → Reader B) → ((a x : Octets) → Leaves 0 x (f a x)) → (o : Octets) → Leaves 0 o ((name_field v room >>= f) o)
unfolding ◌>>=◌ name_field
name_leaves v room f h o =
    let s : ℕ = name_size v room o in
    any_leaves (s + 0 + 0) o (go_on (name_field v room o) f)
    (leaves_on (s + 0) 0 o (name_field v room o) f (leaves_on s 0 o (field s BadField (name_right v room) o) (λ x. give (name_read v room x)) (field_leaves s BadField (name_right v room) o) (λ a. give_leaves (name_read v room a))) h)
