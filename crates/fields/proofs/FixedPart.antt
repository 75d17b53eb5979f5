-- How far the fixed part of a controller at a place of an image is read: its fields one after the other, up to the first that is not whole or not right.
use Rattle.std.specs.Prelude.{Result}
use Prim.Native.Nat.{ℕ, ◌+◌, ◌-◌, ◌≤◌, ◌<◌}
use native.Mathlib.Omega.{arith}
use mathlib.Core.Path.{◌≡◌, refl, sym, subst, ◌∙◌}
use mathlib.Core.Bool.{Bool, true, false}
use mathlib.Core.Option.{some}
use mathlib.Core.List.{◌++◌}
use lib.ListN.{length, drop, take, get_or, length-drop}
use lib.Seq.{drop-drop}
use lib.Dec.{leb}
use Rattle.model.specs.declared.Hardware.{Hardware}
use Rattle.model.specs.declared.ImageFault.{ImageFault}
use Rattle.model.specs.declared.ImageFault.TheVariants.{BadField, BadIndex, BadLength}
use Rattle.model.specs.declared.Version.{Version}
use Rattle.model.specs.Octets.{Octets, number, octet}
use Rattle.model.specs.State.{hardware_ok}
use Rattle.model.specs.Image.{static_fits}
use Rattle.model.specs.Reading.{Fixed, Reader, Reading, ◌>>=◌, field, fixed_by, fixed_part}
use Rattle.model.specs.Reading.{flags_right, free, give, go_on, hardware_by, index_right, name_field, not_whole}
use Rattle.model.proofs.Model.Tests.{either}
use Rattle.octets.specs.Parts.{part}
use Rattle.fields.specs.Places.{flags_in, hardware_in, static_in}
use Rattle.fields.specs.declared.FaultAt.{FaultAt}
use Rattle.fields.specs.Reads.{Reads, fault_of, told}
use Rattle.fields.proofs.Places.{first_of}
use Rattle.fields.proofs.Reach.{reads_two, short_at, short_begins, short_then, wrong_at}
use Rattle.fields.proofs.Says.{field_past}

-- 1. What is read from a field on -------------------------------------------------------------------------------------------------------------

-- from the name on
unfoldable from_names : Version → (index : Octets) → Hardware → (flags static : Octets) → Reader Fixed
from_names v i f flags static = do
  name ← name_field v 249
  short_name ← name_field v 11
  give (fixed_by v (octet i 0) f (number 0 flags) static (name ++ short_name))

-- from the static address on
unfoldable from_static : Version → (index : Octets) → Hardware → (flags : Octets) → Reader Fixed
from_static v i f flags = field 6 BadField (λ x. static_fits f x) >>= from_names v i f flags

-- from the flags on
unfoldable from_flags : Version → (index : Octets) → Hardware → Reader Fixed
from_flags v i f = field 4 BadField (λ x. flags_right v f (number 0 x)) >>= from_static v i f

-- from the supported settings on
unfoldable from_supported : Version → (index address version manufacturer : Octets) → Reader Fixed
from_supported v i a e m = field 4 BadField (λ x. hardware_ok (hardware_by a e m x)) >>= (λ s. from_flags v i (hardware_by a e m s))

-- from the public address on
unfoldable from_address : Version → (index : Octets) → Reader Fixed
from_address v i = do
  a ← field 6 BadField free
  e ← field 1 BadField free
  m ← field 2 BadField free
  from_supported v i a e m

-- all of it
by_index : (v : Version) (low : ℕ) (o : Octets) → fixed_part v low o ≡ (field 1 BadIndex (λ x. index_right low (octet x 0)) >>= from_address v) o
unfolding fixed_part from_address from_supported from_flags from_static from_names
by_index v low o = refl

-- 2. Fields that are passed -------------------------------------------------------------------------------------------------------------------

-- a field that is passed, by the places of the fixed part
past : {B : Type 0} (n : ℕ) (k : ImageFault) (ok : Octets → Bool) (f : Octets → Reader B) (image : Octets) (at p q : ℕ) → at + q ≤ length image → p + n ≡ q
    → ok (part (drop at image) p n) ≡ true → (field n k ok >>= f) (drop (at + p) image) ≡ f (part (drop at image) p n) (drop (at + q) image)
unfolding part
past n k ok f image at p q h e t =
    let l : at + p + n ≡ at + q = omega arith in
    let d : drop p (drop at image) ≡ drop (at + p) image = drop-drop p at image in
    let u : ok (part image (at + p) n) ≡ true = rw (← d) t in
    rw (d, ← l) (field_past n k ok f image (at + p) (omega arith) u)

-- a field that is whole and wrong, by the places of the fixed part
stops : {B : Type 0} (n : ℕ) (k : ImageFault) (ok : Octets → Bool) (f : Octets → Reader B) (image : Octets) (at p q : ℕ) → at + q ≤ length image → p + n ≡ q
    → ok (part (drop at image) p n) ≡ false → Reads image ((field n k ok >>= f) (drop (at + p) image)) (told k (at + p))
unfolding part ◌>>=◌
stops n k ok f image at p q h e t =
    let u : ok (part image (at + p) n) ≡ false = rw (← drop-drop p at image) t in
    wrong_at n k ok f image (at + p) (omega arith) u

-- a field that is not whole
ends : {B : Type 0} (n : ℕ) (k : ImageFault) (ok : Octets → Bool) (f : Octets → Reader B) (image : Octets) (p : ℕ) → p ≤ length image → length image < p + n
    → Reads image ((field n k ok >>= f) (drop p image)) (told BadLength (length image))
unfolding ◌>>=◌
ends n k ok f image p h l = short_at n k ok f image p l h

-- a field without a rule, and what is behind it not whole: then the two are not
ends_on : {B : Type 0} (n : ℕ) (k : ImageFault) (f : Octets → Reader B) (o : Octets) → ((a : Octets) → fault_of (f a (drop n o)) ≡ some not_whole)
    → fault_of ((field n k free >>= f) o) ≡ some not_whole
unfolding ◌>>=◌ go_on field free fault_of
ends_on n k f o h = either {A = Reading Octets} (λ r. fault_of (go_on r f) ≡ some not_whole) (leb n (length o)) (λ _. h (take n o)) (λ _. refl)

-- the octets end before the supported settings are whole
ends_early : (v : Version) (i o : Octets) → length o < 13 → fault_of (from_address v i o) ≡ some not_whole
unfolding from_address from_supported
ends_early v i o h =
    ends_on 6 BadField _ o λ a.
    ends_on 1 BadField _ (drop 6 o) λ e.
    ends_on 2 BadField _ (drop 1 (drop 6 o)) λ m.
    short_then 4 BadField _ _ (drop 2 (drop 1 (drop 6 o)))
    (omega (arith, length-drop 6 o, length-drop 1 (drop 6 o), length-drop 2 (drop 1 (drop 6 o))))

-- 3. How far all is right ---------------------------------------------------------------------------------------------------------------------

-- the index is right
pub record IndexPast (v : Version) (low : ℕ) (image : Octets) (at : ℕ) : Type 0 where
  pub index : index_right low (get_or image at 0) ≡ true

-- and the hardware
pub record HardwarePast (v : Version) (low : ℕ) (image : Octets) (at : ℕ) : Type 0 where
  pub before : IndexPast v low image at
  pub hardware : hardware_ok (hardware_in (drop at image)) ≡ true

-- and the flags
pub record FlagsPast (v : Version) (low : ℕ) (image : Octets) (at : ℕ) : Type 0 where
  pub before : HardwarePast v low image at
  pub flags : flags_right v (hardware_in (drop at image)) (flags_in (drop at image)) ≡ true

-- and the static address: all but the names
pub record StaticPast (v : Version) (low : ℕ) (image : Octets) (at : ℕ) : Type 0 where
  pub before : FlagsPast v low image at
  pub static : static_fits (hardware_in (drop at image)) (static_in (drop at image)) ≡ true

-- what is read alike is reached alike
alike : {A : Type 0} (image : Octets) (x y : Reading A) (r : Result ℕ FaultAt) → x ≡ y → Reads image y r → Reads image x r
alike image x y r e h = subst (λ (z : Reading _). Reads image z r) (sym e) h

module _ (v : Version) (low : ℕ) (image : Octets) (at : ℕ) where
  -- behind the index
  past_index : IndexPast v low image at → at + 1 ≤ length image → fixed_part v low (drop at image) ≡ from_address v (part image at 1) (drop (at + 1) image)
  unfolding octet part
  past_index c l =
      let u : index_right low (get_or (take 1 (drop at image)) 0 0) ≡ true = rw (first_of image at) c.index in
      by_index v low (drop at image) ∙ field_past 1 BadIndex (λ x. index_right low (octet x 0)) (from_address v) image at l u

  -- at the supported settings
  at_supported : IndexPast v low image at → at + 10 ≤ length image
      → fixed_part v low (drop at image)
      ≡ from_supported v (part image at 1) (part (drop at image) 1 6) (part (drop at image) 7 1) (part (drop at image) 8 2) (drop (at + 10) image)
  unfolding from_address free
  at_supported c l =
      past_index c (omega arith)
      ∙ past 6 BadField _ _ image at 1 7 (omega arith) refl refl
      ∙ past 1 BadField _ _ image at 7 8 (omega arith) refl refl
      ∙ past 2 BadField _ _ image at 8 10 l refl refl

  -- behind them
  past_hardware : HardwarePast v low image at → at + 14 ≤ length image
      → fixed_part v low (drop at image) ≡ from_flags v (part image at 1) (hardware_in (drop at image)) (drop (at + 14) image)
  unfolding from_supported hardware_in
  past_hardware c l = at_supported c.before (omega arith) ∙ past 4 BadField _ _ image at 10 14 l refl c.hardware

  -- behind the flags
  past_flags : FlagsPast v low image at → at + 18 ≤ length image
      → fixed_part v low (drop at image) ≡ from_static v (part image at 1) (hardware_in (drop at image)) (part (drop at image) 14 4) (drop (at + 18) image)
  unfolding from_flags flags_in
  past_flags c l = past_hardware c.before (omega arith) ∙ past 4 BadField _ _ image at 14 18 l refl c.flags

  -- behind the static address
  past_static : StaticPast v low image at → at + 24 ≤ length image
      → fixed_part v low (drop at image)
      ≡ from_names v (part image at 1) (hardware_in (drop at image)) (part (drop at image) 14 4) (part (drop at image) 18 6) (drop (at + 24) image)
  unfolding from_static static_in
  past_static c l = past_flags c.before (omega arith) ∙ past 6 BadField _ _ image at 18 24 l refl c.static

  -- 4. What is tested ---------------------------------------------------------------------------------------------------------------------------

  -- the index
  told_index : (w : ℕ) (b t : Bool) → w ≡ get_or image at 0 → b ≡ index_right low w → b ≡ t → index_right low (get_or image at 0) ≡ t
  told_index w b t e q h = rw (← e, ← q) h

  -- the hardware
  told_hardware : (f : Hardware) (b t : Bool) → f ≡ hardware_in (drop at image) → b ≡ hardware_ok f → b ≡ t → hardware_ok (hardware_in (drop at image)) ≡ t
  told_hardware f b t e q h = rw (← e, ← q) h

  -- the flags
  told_flags : (f : Hardware) (n : ℕ) (b t : Bool) → f ≡ hardware_in (drop at image) → n ≡ number 0 (part image (at + 14) 4) → b ≡ flags_right v f n → b ≡ t
      → flags_right v (hardware_in (drop at image)) (flags_in (drop at image)) ≡ t
  unfolding flags_in part
  told_flags f n b t e d q h = rw (← e, drop-drop 14 at image, ← d, ← q) h

  -- the static address
  told_static : (f : Hardware) (s : Octets) (b t : Bool) → f ≡ hardware_in (drop at image) → s ≡ part image (at + 18) 6 → b ≡ static_fits f s → b ≡ t
      → static_fits (hardware_in (drop at image)) (static_in (drop at image)) ≡ t
  unfolding static_in part
  told_static f s b t e d q h = rw (← e, drop-drop 18 at image, ← d, ← q) h

  -- 5. THE WAYS OUT OF THE FIXED PART -----------------------------------------------------------------------------------------------------------

  -- no octet of it
  pub index_short : at ≤ length image → length image - at < 1 → Reads image (fixed_part v low (drop at image)) (told BadLength (length image))
  index_short l s = alike image _ _ (told BadLength (length image)) (by_index v low (drop at image)) (ends 1 BadIndex _ _ image at l (omega arith))

  -- a wrong index
  pub index_wrong : (w : ℕ) (b : Bool) → w ≡ get_or image at 0 → b ≡ index_right low w → b ≡ false → at + 1 ≤ length image
      → Reads image (fixed_part v low (drop at image)) (told BadIndex at)
  unfolding octet part ◌>>=◌
  index_wrong w b e q h l =
      let u : index_right low (get_or (take 1 (drop at image)) 0 0) ≡ false = rw (first_of image at) (told_index w b false e q h) in
      alike image _ _ (told BadIndex at) (by_index v low (drop at image))
      (wrong_at 1 BadIndex (λ x. index_right low (octet x 0)) (from_address v) image at l u)

  -- a right one
  pub index_good : (w : ℕ) (b : Bool) → w ≡ get_or image at 0 → b ≡ index_right low w → b ≡ true → IndexPast v low image at
  index_good w b e q h = record { index = told_index w b true e q h }

  -- the supported settings not whole, or what is before them
  pub hardware_short : IndexPast v low image at → at + 1 ≤ length image → length image - at < 14
      → Reads image (fixed_part v low (drop at image)) (told BadLength (length image))
  hardware_short c l s =
      alike image _ _ (told BadLength (length image)) (past_index c l)
      (short_begins image _ (ends_early v (part image at 1) (drop (at + 1) image) (omega (arith, length-drop (at + 1) image))))

  -- wrong ones
  pub hardware_wrong : (f : Hardware) (b : Bool) → IndexPast v low image at → f ≡ hardware_in (drop at image) → b ≡ hardware_ok f → b ≡ false
      → at + 14 ≤ length image
      → Reads image (fixed_part v low (drop at image)) (told BadField (at + 10))
  unfolding from_supported hardware_in
  hardware_wrong f b c e q h l =
      alike image _ _ (told BadField (at + 10)) (at_supported c (omega arith))
      (stops 4 BadField _ _ image at 10 14 l refl (told_hardware f b false e q h))

  -- right ones
  pub hardware_good : (f : Hardware) (b : Bool) → IndexPast v low image at → f ≡ hardware_in (drop at image) → b ≡ hardware_ok f → b ≡ true
      → HardwarePast v low image at
  hardware_good f b c e q h = record { before = c; hardware = told_hardware f b true e q h }

  -- the flags not whole
  pub flags_short : HardwarePast v low image at → at + 14 ≤ length image → length image - at < 18
      → Reads image (fixed_part v low (drop at image)) (told BadLength (length image))
  unfolding from_flags
  flags_short c l s = alike image _ _ (told BadLength (length image)) (past_hardware c l) (ends 4 BadField _ _ image (at + 14) l (omega arith))

  -- wrong flags
  pub flags_wrong : (f : Hardware) (n : ℕ) (b : Bool) → HardwarePast v low image at → f ≡ hardware_in (drop at image) → n ≡ number 0 (part image (at + 14) 4)
      → b ≡ flags_right v f n → b ≡ false → at + 18 ≤ length image → Reads image (fixed_part v low (drop at image)) (told BadField (at + 14))
  unfolding from_flags flags_in
  flags_wrong f n b c e d q h l =
      alike image _ _ (told BadField (at + 14)) (past_hardware c (omega arith))
      (stops 4 BadField _ _ image at 14 18 l refl (told_flags f n b false e d q h))

  -- right flags
  pub flags_good : (f : Hardware) (n : ℕ) (b : Bool) → HardwarePast v low image at → f ≡ hardware_in (drop at image) → n ≡ number 0 (part image (at + 14) 4)
      → b ≡ flags_right v f n → b ≡ true → FlagsPast v low image at
  flags_good f n b c e d q h = record { before = c; flags = told_flags f n b true e d q h }

  -- the static address not whole
  pub static_short : FlagsPast v low image at → at + 18 ≤ length image → length image - at < 24
      → Reads image (fixed_part v low (drop at image)) (told BadLength (length image))
  unfolding from_static
  static_short c l s = alike image _ _ (told BadLength (length image)) (past_flags c l) (ends 6 BadField _ _ image (at + 18) l (omega arith))

  -- a wrong one
  pub static_wrong : (f : Hardware) (s : Octets) (b : Bool) → FlagsPast v low image at → f ≡ hardware_in (drop at image) → s ≡ part image (at + 18) 6
      → b ≡ static_fits f s → b ≡ false → at + 24 ≤ length image → Reads image (fixed_part v low (drop at image)) (told BadField (at + 18))
  unfolding from_static static_in
  static_wrong f s b c e d q h l =
      alike image _ _ (told BadField (at + 18)) (past_flags c (omega arith))
      (stops 6 BadField _ _ image at 18 24 l refl (told_static f s b false e d q h))

  -- a right one
  pub static_good : (f : Hardware) (s : Octets) (b : Bool) → FlagsPast v low image at → f ≡ hardware_in (drop at image) → s ≡ part image (at + 18) 6
      → b ≡ static_fits f s → b ≡ true → StaticPast v low image at
  static_good f s b c e d q h = record { before = c; static = told_static f s b true e d q h }

  -- all right but for the names: these tell
  pub names_tell : (r : Result ℕ FaultAt) → StaticPast v low image at → at + 24 ≤ length image
      → Reads image (go_on (name_field v 249 (drop (at + 24) image)) (λ n. name_field v 11)) r → Reads image (fixed_part v low (drop at image)) r
  unfolding from_names ◌>>=◌
  names_tell r c l e =
      let f : Hardware = hardware_in (drop at image) in
      let flags : Octets = part (drop at image) 14 4 in
      alike image _ _ r (past_static c l)
      (reads_two image (name_field v 249 (drop (at + 24) image)) (name_field v 11)
      (λ n s. fixed_by v (octet (part image at 1) 0) f (number 0 flags) (part (drop at image) 18 6) (n ++ s)) r e)
