-- The names of a controller, read from their fields: in each version the octets of the field behind its length octet, with zeros behind them.
use mathlib.Core.Path.{◌≡◌, refl, ap, sym, ◌∙◌}
use Prim.Native.Nat.{ℕ, suc, ◌+◌, ◌-◌, ◌≤◌, ◌<◌}
use native.Mathlib.Omega.{arith}
use native.Mathlib.Nat.{add-zero, sub-zero}
use mathlib.Core.Bool.{true}
use mathlib.Core.List.{[], ◌∷◌, ◌++◌, append-nil}
use lib.ListN.{length, drop, get_or, replicate, take, length-drop, length-replicate, replicate-append-replicate}
use lib.Seq.{drop_at, drop-drop, get_or-take, take-nil}
use lib.Dec.{lit<, ltb, ltb→lt}
use Rattle.model.specs.declared.Version.{Version}
use Rattle.model.specs.declared.Version.TheVariants.{One, Two}
use Rattle.model.specs.Octets.{Octets, octet}
use Rattle.model.specs.Image.{name_read, name_right, name_size, padded}
use Rattle.model.specs.State.{with_host, with_name}
use Rattle.model.specs.Layout.{decode, encode}
use Rattle.model.proofs.Model.Tests.{and_true}
use Rattle.octets.specs.Parts.{part, write_at}
use Rattle.octets.proofs.Parts.{length_part, length_write_at, write_front, write_left, write_right}
use Rattle.layout.specs.Places.{controller_of, put_controller}
use Rattle.fields.specs.Places.{fixed_end, names_in, short_place}
use Rattle.fields.proofs.Says.{FieldsRight}
use Rattle.restore.specs.Filling.{NamesFit, length_octets}

-- 1. Two names, written into zeros ------------------------------------------------------------------------------------------------------------------

-- so many zeros
abbrev zeros : ℕ → Octets
zeros n = replicate n 0

-- octets written over the first of so many zeros
padded_written : (room : ℕ) (a : Octets) → length a ≤ room → write_at (zeros room) 0 a ≡ padded room a
unfolding padded
padded_written room a l =
    let n : length (zeros room) ≡ room = length-replicate room 0 in
    let e : length a + (room - length a) ≡ room = omega arith in
    let s : zeros (length a) ++ zeros (room - length a) ≡ zeros room = replicate-append-replicate (length a) (room - length a) 0 ∙ ap zeros e in
    let d : drop (length a) (zeros room) ≡ zeros (room - length a) = rw (← s)
    (drop_at (zeros (length a)) (zeros (room - length a)) (length a) (length-replicate (length a) 0)) in
    write_front (zeros room) a (omega arith) ∙ rw d

-- the name, then the short name behind its 249 octets
pub names_written : (d d1 d2 a b : Octets) → d ≡ replicate 260 0 → length a ≤ 249 → length b ≤ 11 → d1 ≡ write_at d 0 a → d2 ≡ write_at d1 249 b
    → d2 ≡ padded 249 a ++ padded 11 b
names_written d d1 d2 a b z la lb e f =
    let s : zeros 260 ≡ zeros 249 ++ zeros 11 = sym (replicate-append-replicate 249 11 0) in
    let n : length (zeros 249) ≡ 249 = length-replicate {A = ℕ} 249 0 in
    let x : Octets = write_at (zeros 249) 0 a in
    let p : length x ≡ 249 = length_write_at (zeros 249) 0 a ∙ n in
    let g : write_at (zeros 249 ++ zeros 11) 0 a ≡ x ++ zeros 11 = write_left (zeros 249) (zeros 11) 0 a (omega arith) in
    let h : write_at (x ++ zeros 11) 249 b ≡ x ++ write_at (zeros 11) 0 b = rw p at (write_right x (zeros 11) 0 b) in
    f ∙ rw (e, z) (ap (λ (q : Octets). write_at (write_at q 0 a) 249 b) s ∙ ap (λ (q : Octets). write_at q 249 b) g ∙ h
    ∙ rw (padded_written 249 a la, padded_written 11 b lb))

-- so the names are put into the state
pub names_put : (s t : Octets) (i : ℕ) (d d1 d2 a b : Octets) → length a ≤ 249 → length b ≤ 11 → d ≡ replicate 260 0 → d1 ≡ write_at d 0 a
    → d2 ≡ write_at d1 249 b → t ≡ encode (put_controller (decode s) i (with_host (controller_of s i) (with_name (controller_of s i).host d2)))
    → t ≡ encode (put_controller (decode s) i (with_host (controller_of s i) (with_name (controller_of s i).host (padded 249 a ++ padded 11 b))))
names_put s t i d d1 d2 a b la lb z e f g = g ∙ rw (names_written d d1 d2 a b z la lb e f)

-- 2. A name by its field -----------------------------------------------------------------------------------------------------------------------------

-- a field has its length octet at least
pub head_size : (v : Version) (room : ℕ) (o : Octets) → 0 < room → (length_octets v ≤ name_size v room o) × (0 < name_size v room o)
unfolding length_octets name_size
head_size One room o h = (omega arith, omega arith)
head_size Two room o h = (omega arith, omega arith)

-- octets behind the first of a part
tail_part : (s : ℕ) (xs : Octets) → drop 1 (take (suc s) xs) ≡ take s (drop 1 xs)
tail_part s [] = sym (take-nil s)
tail_part s (x ∷ xs) = refl

-- octets that fill their room have no zeros behind them
padded_full : (room : ℕ) (a : Octets) → length a ≡ room → padded room a ≡ a
unfolding padded
padded_full room a n = let z : room - length a ≡ 0 = omega arith in rw z (append-nil a)

-- what is behind the length octet
name_behind : (room k : ℕ) (o : Octets) (p : ℕ) → padded room (drop 1 (part o p (suc k))) ≡ padded room (part o (p + 1) (suc k - 1))
unfolding part
name_behind room k o p = let e : suc k - 1 ≡ k = omega arith in ap (padded room) (tail_part k (drop p o) ∙ rw (e, drop-drop 1 p o))

-- the name that a field gives: what is behind the length octet, and zeros
pub name_padded : (v : Version) (room : ℕ) (o : Octets) (p : ℕ) → p + name_size v room (drop p o) ≤ length o
    → name_read v room (part o p (name_size v room (drop p o))) ≡ padded room (part o (p + length_octets v) (name_size v room (drop p o) - length_octets v))
unfolding name_read name_size length_octets
name_padded One room o p l = rw (add-zero p, sub-zero room) (sym (padded_full room (part o p room) (length_part o p room l)))
name_padded Two room o p l = name_behind room (octet (drop p o) 0) o p

-- the same of a field at a place of the image, read from the octets behind another place
name_from : (v : Version) (image : Octets) (at room q p s head : ℕ) → at + q ≡ p → s ≡ name_size v room (drop p image) → head ≡ length_octets v
    → p + s ≤ length image
    → name_read v room (part (drop at image) q (name_size v room (drop q (drop at image)))) ≡ padded room (part image (p + head) (s - head))
unfolding part
name_from v image at room q p s head ep es eh l =
    rw (drop-drop q at image, ep, es, eh) (name_padded v room image p (rw es at l))

-- 3. The names of a fixed part -----------------------------------------------------------------------------------------------------------------------

-- a field that keeps its rule: the name is no longer than its room
size_fits : (v : Version) (room : ℕ) (o : Octets) (p : ℕ) → name_right v room (part o p (name_size v room (drop p o))) ≡ true
    → name_size v room (drop p o) ≤ room + length_octets v
unfolding name_right name_size length_octets octet part
size_fits One room o p e = omega arith
size_fits Two room o p e =
    let k : ℕ = get_or (drop p o) 0 0 in
    let f : get_or (take (suc k) (drop p o)) 0 0 ≡ k = get_or-take (suc k) (drop p o) 0 0 (omega arith) in
    let a = and_true (ltb (get_or (take (suc k) (drop p o)) 0 0) room) _ e in
    let l : get_or (take (suc k) (drop p o)) 0 0 < room = ltb→lt _ _ (rw a.0 tt) in
    omega arith

-- fields that keep their rules fit
pub names_fit : (v : Version) (o : Octets) → fixed_end v o ≤ length o → FieldsRight v o → NamesFit v o
names_fit v o l r = record { within = l; name = size_fits v 249 o 24 r.name; short = size_fits v 11 o (short_place v o) r.short }

-- the fields of the names at a place of the image, n and m octets, and where they end
pub record NamesAt (v : Version) (image : Octets) (at n m : ℕ) : Type 0 where
  pub within : at + 24 + n + m ≤ length image
  pub end : at + 24 + n + m ≡ at + fixed_end v (drop at image)
  pub some : (0 < n) × (0 < m)
  pub head : (length_octets v ≤ n) × (length_octets v ≤ m)
  pub room : (n ≤ 249 + length_octets v) × (m ≤ 11 + length_octets v)

module _ (v : Version) (image : Octets) (at : ℕ) (fit : NamesFit v (drop at image)) where
  -- by their sizes, as the code reads them
  pub names_at : (n m : ℕ) → n ≡ name_size v 249 (drop (at + 24) image) → m ≡ name_size v 11 (drop (at + 24 + n) image) → NamesAt v image at n m
  unfolding fixed_end short_place
  names_at n m en em =
      let o : Octets = drop at image in
      let d : drop 24 o ≡ drop (at + 24) image = drop-drop 24 at image in
      let a : name_size v 249 (drop 24 o) ≡ n = rw d (sym en) in
      let q : at + (24 + n) ≡ at + 24 + n = omega arith in
      let e : drop (24 + n) o ≡ drop (at + 24 + n) image = drop-drop (24 + n) at image ∙ rw q in
      let b : name_size v 11 (drop (24 + n) o) ≡ m = rw e (sym em) in
      let c : name_size v 11 (drop (24 + name_size v 249 (drop 24 o)) o) ≡ m = rw a b in
      let h = head_size v 249 (drop (at + 24) image) (lit< tt) in
      let k = head_size v 11 (drop (at + 24 + n) image) (lit< tt) in
      let w = fit.within in
      let x = fit.name in
      let y = fit.short in
      let z = length-drop at image in
      record {
        within = omega arith;
        end = omega arith;
        some = (omega (arith, h.1), omega (arith, k.1));
        head = (omega (arith, h.0), omega (arith, k.0));
        room = (omega arith, omega arith);
      }

  -- the name's field begins in the image
  pub name_begins : at + 24 < length image
  name_begins = let h = names_at _ _ refl refl in let a = h.within in let b = h.some.0 in omega arith

  -- so does the short name's
  pub short_begins : (n : ℕ) → n ≡ name_size v 249 (drop (at + 24) image) → at + 24 + n < length image
  short_begins n en = let h = names_at n _ en refl in let a = h.within in let b = h.some.1 in omega arith

  -- the names, as the code puts them, are those of the fixed part
  names_said : (n m head : ℕ) → n ≡ name_size v 249 (drop (at + 24) image) → m ≡ name_size v 11 (drop (at + 24 + n) image) → head ≡ length_octets v
      → padded 249 (part image (at + 24 + head) (n - head)) ++ padded 11 (part image (at + 24 + n + head) (m - head)) ≡ names_in v (drop at image)
  unfolding names_in short_place
  names_said n m head en em eh =
      let o : Octets = drop at image in
      let w = (names_at n m en em).within in
      let a : name_size v 249 (drop 24 o) ≡ n = rw (drop-drop 24 at image) (sym en) in
      let x = name_from v image at 249 24 (at + 24) n head refl en eh (omega arith) in
      let y = name_from v image at 11 (24 + n) (at + 24 + n) m head (omega arith) em eh (omega arith) in
      rw (← x, ← y, a)

  -- so they are put into the state
  pub names_filled : (s t : Octets) (i n m head : ℕ) → n ≡ name_size v 249 (drop (at + 24) image) → m ≡ name_size v 11 (drop (at + 24 + n) image)
      → head ≡ length_octets v
      → t ≡ encode (put_controller (decode s) i (with_host (controller_of s i) (with_name (controller_of s i).host
      (padded 249 (part image (at + 24 + head) (n - head)) ++ padded 11 (part image (at + 24 + n + head) (m - head))))))
      → t ≡ encode (put_controller (decode s) i (with_host (controller_of s i) (with_name (controller_of s i).host (names_in v (drop at image)))))
  names_filled s t i n m head en em eh e = rw (names_said n m head en em eh) at e

  -- the same of two slices of the image, by what they are
  pub names_lent : (s t x y : Octets) (i n m head : ℕ) → n ≡ name_size v 249 (drop (at + 24) image) → m ≡ name_size v 11 (drop (at + 24 + n) image)
      → head ≡ length_octets v
      → t ≡ encode (put_controller (decode s) i (with_host (controller_of s i) (with_name (controller_of s i).host (padded 249 x ++ padded 11 y))))
      → x ≡ part image (at + 24 + head) (n - head) → y ≡ part image (at + 24 + n + head) (m - head)
      → t ≡ encode (put_controller (decode s) i (with_host (controller_of s i) (with_name (controller_of s i).host (names_in v (drop at image)))))
  names_lent s t x y i n m head en em eh e ex ey = names_filled s t i n m head en em eh (rw (ex, ey) at e)

-- a slice is the part there, whatever its ends are reckoned from
pub slice_is : (o : Octets) (from n a b : ℕ) → a ≡ n → b ≡ from → take a (drop b o) ≡ part o from n
unfolding part
slice_is o from n a b e f = rw (e, f)
