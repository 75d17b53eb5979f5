-- Laws of the waiting octets: what waits of octets is all of them or their head, and the head tells all that is needed to go on.
use Rattle.std.specs.Prelude.{ℕ, zero, suc, ◌+◌, ◌-◌, ◌<◌, ◌≤◌, min, ◌≡◌, refl, Bool, true, false, [], ◌∷◌, ◌++◌, length, get_or, take, drop, replicate, eqb, leb, ltb}
use Rattle.std.proofs.Common.{arith, sym, ap, ◌∙◌, append_assoc, length-append, length-take, length-drop, take-append-drop, take_all, take_at, take-take, length-take-le, get_or-take, le-ltb, ltb-true, ltb-false, leb-true, leb-false, lt-ltb, le-leb, eq-eqb}
use Rattle.std.proofs.lemmas.List.{length-replicate, take-append-le}
use Rattle.std.proofs.Math.ListN.{get_or-append}
use Rattle.model.specs.Lengths as Lengths
use Rattle.model.specs.Octets.{Octets, bytes, u16}
use Rattle.model.specs.State.{Waiting}
use Rattle.model.specs.Hub.{packet_ok}
use Rattle.model.specs.Stream.{grown, kept_count, length_said, packet_in, waiting_at}
use Rattle.model.specs.WellFormed.{waiting_ok}
use Rattle.model.proofs.Model.Tables.{byte_at, bytes_take}
use Rattle.model.proofs.Model.Tests.{and_true, both, either, equal}

-- what waits after these octets of a packet
unfoldable pub waiting_of : Octets → Waiting
waiting_of a = waiting_at (length a) a

-- 1. The length that the header says ------------------------------------------------------------------------------------------------------

-- what follows a whole header does not change it
pub said_append : (a b : Octets) → 6 ≤ length a → length_said (a ++ b) ≡ length_said a
unfolding length_said u16
said_append a b h = rw (get_or-append a b 0 4 (omega arith), get_or-append a b 0 5 (omega arith))

-- nor does a cut behind the header
pub said_take : (n : ℕ) (a : Octets) → 6 ≤ n → length_said (take n a) ≡ length_said a
unfolding length_said u16
said_take n a h = rw (get_or-take n a 4 0 (omega arith), get_or-take n a 5 0 (omega arith))

-- zeros behind octets read as nothing
zeros_at : (a : Octets) (n i : ℕ) → get_or (a ++ replicate n 0) i 0 ≡ get_or a i 0
zeros_at [] zero i = refl
zeros_at [] (suc n) zero = refl
zeros_at [] (suc n) (suc i) = zeros_at [] n i
zeros_at (x ∷ a) n zero = refl
zeros_at (x ∷ a) n (suc i) = zeros_at a n i

-- so the length said is the same
pub said_zeros : (a : Octets) (n : ℕ) → length_said (a ++ replicate n 0) ≡ length_said a
unfolding length_said u16
said_zeros a n = rw (zeros_at a n 4, zeros_at a n 5)

-- a packet has at most 65,541 octets
pub said_most : (a : Octets) → bytes a ≡ true → length_said a ≤ 65541
unfolding length_said u16
said_most a w = omega (arith, byte_at a 4 w, byte_at a 5 w)

-- the first of n zeros
take_zeros : (m n : ℕ) → m ≤ n → take m (replicate {A = ℕ} n 0) ≡ replicate m 0
take_zeros zero n h = refl
take_zeros (suc m) zero h = absurd (omega arith)
take_zeros (suc m) (suc n) h = ap {B = Octets} (λ (o : Octets). 0 ∷ o) (take_zeros m n (omega arith))

-- octets made m long by zeros
pub padded : (a : Octets) (m n : ℕ) → length a ≤ m → m ≤ length a + n → take m (a ++ replicate n 0) ≡ a ++ replicate (m - length a) 0
padded [] m n h k = let e : m ≡ m - 0 = omega arith in take_zeros m n (omega arith) ∙ ap (λ (i : ℕ). replicate {A = ℕ} i 0) e
padded (x ∷ a) zero n h k = absurd (omega arith)
padded (x ∷ a) (suc m) n h k =
    let e : m - length a ≡ suc m - suc (length a) = omega arith in
    ap {B = Octets} (λ (o : Octets). x ∷ o) (padded a m n (omega arith) (omega arith) ∙ ap (λ (i : ℕ). a ++ replicate {A = ℕ} i 0) e)

-- 2. How many are kept ----------------------------------------------------------------------------------------------------------------------

-- of a packet of at most 1,160 octets all that were taken, of a longer one at most ten
data Count (n : ℕ) (a : Octets) : ℕ → Type 0 where
  -- all of them
  whole : length_said a ≤ Lengths.longest_kept → Count n a n
  -- the head
  head : Lengths.longest_kept < length_said a → Count n a (min 10 n)

-- one or the other
count : (n : ℕ) (a : Octets) → Count n a (kept_count n a)
unfolding kept_count
count n a = either (λ k. Count n a k) (ltb Lengths.longest_kept (length_said a)) (λ t. head (ltb-true _ _ t)) (λ t. whole (ltb-false _ _ t))

-- a long packet keeps ten
pub count_head : (n : ℕ) (a : Octets) → Lengths.longest_kept < length_said a → kept_count n a ≡ min 10 n
unfolding kept_count
count_head n a h = rw (lt-ltb Lengths.longest_kept (length_said a) h, kept_count)

-- of a packet that is not long all are kept
pub count_whole : (n : ℕ) (a : Octets) → length_said a ≤ Lengths.longest_kept → kept_count n a ≡ n
unfolding kept_count
count_whole n a h = rw (le-ltb Lengths.longest_kept (length_said a) h, kept_count)

-- how many are kept goes by the length said
pub count_same : (n : ℕ) (a b : Octets) → length_said a ≡ length_said b → kept_count n a ≡ kept_count n b
unfolding kept_count
count_same n a b e = rw (kept_count, e)

-- up to the end of the packet, those kept have room in the state
pub count_room : (n : ℕ) (a : Octets) → n ≤ length_said a → kept_count n a ≤ Lengths.longest_kept
count_room n a h = go (kept_count n a) (count n a)
  where
    go : (k : ℕ) → Count n a k → k ≤ Lengths.longest_kept
    go k (whole l) = omega arith
    go k (head l) = omega arith

-- of so few octets all are kept
pub count_few : (n : ℕ) (a : Octets) → n ≤ Lengths.long_head → kept_count n a ≡ n
count_few n a h = go (kept_count n a) (count n a)
  where
    go : (k : ℕ) → Count n a k → k ≡ n
    go k (whole l) = refl
    go k (head l) = omega arith

-- with m octets more no fewer are kept, and at most m more
pub count_more : (n m : ℕ) (a : Octets) → (kept_count n a ≤ kept_count (n + m) a) × (kept_count (n + m) a ≤ kept_count n a + m)
count_more n m a = go (kept_count n a) (kept_count (n + m) a) (count n a) (count (n + m) a)
  where
    go : (k l : ℕ) → Count n a k → Count (n + m) a l → (k ≤ l) × (l ≤ k + m)
    go k l (whole h) (whole g) = (omega arith, omega arith)
    go k l (whole h) (head g) = absurd (omega arith)
    go k l (head h) (whole g) = absurd (omega arith)
    go k l (head h) (head g) = (omega arith, omega arith)

-- the octets kept of those taken: all, or ten of a long packet
pub data Kept (a : Octets) : Octets → Type 0 where
  -- all of them
  all : Kept a a
  -- the first ten
  ten : 10 ≤ length a → Lengths.longest_kept < length_said a → Kept a (take 10 a)

-- one or the other
pub kept_of_lem : (a : Octets) → Kept a (waiting_of a).kept
unfolding waiting_of waiting_at
kept_of_lem a = by (kept_count (length a) a) (count (length a) a)
  where
    few : (n : ℕ) → length a ≤ n → Kept a (take n a)
    few n h = rw (take_all n a h) all

    long : (b : Bool) → leb 10 (length a) ≡ b → Lengths.longest_kept < length_said a → Kept a (take (min 10 (length a)) a)
    long true t h = let le : 10 ≤ length a = leb-true _ _ t in let m : min 10 (length a) ≡ 10 = omega arith in rw m (ten le h)
    long false t h = let lt : length a < 10 = leb-false _ _ t in few (min 10 (length a)) (omega arith)

    by : (n : ℕ) → Count (length a) a n → Kept a (take n a)
    by n (whole h) = few (length a) (omega arith)
    by n (head h) = long (leb 10 (length a)) refl h

-- 3. Going on ---------------------------------------------------------------------------------------------------------------------------------

-- the length said by what is kept and what follows is that said by all and what follows
pub kept_said : (a b : Octets) → length_said ((waiting_of a).kept ++ b) ≡ length_said (a ++ b)
kept_said a b = go (waiting_of a).kept (kept_of_lem a)
  where
    go : (k : Octets) → Kept a k → length_said (k ++ b) ≡ length_said (a ++ b)
    go k all = refl
    go k (ten n h) =
        let l : length (take 10 a) ≡ 10 = length-take 10 a ∙ omega arith in
        said_append (take 10 a) b (omega arith) ∙ said_take 10 a (omega arith) ∙ sym (said_append a b (omega arith))

-- what is kept says the length that all say
pub said_kept : (a : Octets) → length_said (waiting_of a).kept ≡ length_said a
said_kept a = go (waiting_of a).kept (kept_of_lem a)
  where
    go : (k : Octets) → Kept a k → length_said k ≡ length_said a
    go k all = refl
    go k (ten n h) = said_take 10 a (omega arith)

-- what waits grows as if all had been kept
pub grown_is : (a b : Octets) → grown (waiting_of a) b ≡ waiting_of (a ++ b)
unfolding grown waiting_of waiting_at
grown_is a b = rw (length-append a b) (ap {B = Waiting} (λ (k : Octets). record { taken = length a + length b; kept = k }) (go (waiting_of a).kept (kept_of_lem a)))
  where
    n : ℕ
    n = length a + length b

    go : (k : Octets) → Kept a k → take (kept_count n (k ++ b)) (k ++ b) ≡ take (kept_count n (a ++ b)) (a ++ b)
    go k all = refl
    go k (ten t h) =
        let l : length (take 10 a) ≡ 10 = length-take-le 10 a t in
        let f : length_said (a ++ b) ≡ length_said a = said_append a b (omega arith) in
        let g : length_said (take 10 a ++ b) ≡ length_said a = said_append (take 10 a) b (omega arith) ∙ said_take 10 a (omega arith) in
        let m : min 10 n ≡ 10 = omega arith in
        rw (count_head n (take 10 a ++ b) (rw g h), count_head n (a ++ b) (rw f h), m, take_at (take 10 a) b 10 l, take-append-le 10 a b t)

-- 4. Well formed ------------------------------------------------------------------------------------------------------------------------------

-- well-formed waiting octets, taken apart
pub record WaitingFit (w : Waiting) : Type 0 where
  pub short : w.taken < length_said w.kept
  pub count : length w.kept ≡ kept_count w.taken w.kept
  pub octets : bytes w.kept ≡ true

-- the parts of well-formed waiting octets
pub waiting_fit : (w : Waiting) → waiting_ok w ≡ true → WaitingFit w
unfolding waiting_ok
waiting_fit w e =
    let a = and_true (ltb w.taken (length_said w.kept)) _ e in
    let b = and_true (eqb (length w.kept) (kept_count w.taken w.kept)) _ a.1 in
    record { short = ltb-true _ _ a.0; count = equal _ _ b.0; octets = b.1 }

-- no more are kept than were taken, and no more than have room in the state
pub kept_fits : (w : Waiting) → WaitingFit w → (length w.kept ≤ w.taken) × (length w.kept ≤ Lengths.longest_kept)
kept_fits w f = go (kept_count w.taken w.kept) (count w.taken w.kept) f.count
  where
    go : (n : ℕ) → Count w.taken w.kept n → length w.kept ≡ n → (length w.kept ≤ w.taken) × (length w.kept ≤ Lengths.longest_kept)
    go n (whole h) e = (omega arith, omega (arith, f.short))
    go n (head h) e = (omega arith, omega arith)

-- whatever comes behind them, as many are kept as there are
pub kept_count_lem : (w : Waiting) → WaitingFit w → (o : Octets) → kept_count w.taken (w.kept ++ o) ≡ length w.kept
kept_count_lem w f o = go (leb 6 (length w.kept)) refl (kept_count w.taken w.kept) (count w.taken w.kept) f.count
  where
    go : (b : Bool) → leb 6 (length w.kept) ≡ b → (n : ℕ) → Count w.taken w.kept n → length w.kept ≡ n
        → kept_count w.taken (w.kept ++ o) ≡ length w.kept
    go true t n c e = count_same w.taken (w.kept ++ o) w.kept (said_append w.kept o (leb-true 6 (length w.kept) t))
        ∙ sym f.count
    go false t n (whole h) e = count_few w.taken (w.kept ++ o) (omega (arith, leb-false 6 (length w.kept) t)) ∙ sym e
    go false t n (head h) e = count_few w.taken (w.kept ++ o) (omega (arith, leb-false 6 (length w.kept) t))
        ∙ omega (arith, leb-false 6 (length w.kept) t)

-- with zeros behind, those kept are found again by the number taken
pub kept_again : (w : Waiting) (m n : ℕ) → WaitingFit w → 6 ≤ m → length w.kept ≤ m → waiting_at w.taken (take m (w.kept ++ replicate n 0)) ≡ w
unfolding waiting_at
kept_again w m n f six le =
    let z : Octets = w.kept ++ replicate n 0 in
    let s : length_said (take m z) ≡ length_said w.kept = said_take m z six ∙ said_zeros w.kept n in
    let c : kept_count w.taken (take m z) ≡ length w.kept = count_same w.taken (take m z) w.kept s ∙ sym f.count in
    rw (c, take-take (length w.kept) m z le, take_at w.kept (replicate n 0) (length w.kept) refl)

-- they are what waits after the octets that `packet_in` gives
pub represented : (w : Waiting) → waiting_ok w ≡ true → w ≡ waiting_of (packet_in w)
unfolding waiting_of packet_in
represented w e =
    let f = waiting_fit w e in
    let p : Octets = w.kept ++ replicate (w.taken - length w.kept) 0 in
    let n : length p ≡ w.taken
    = length-append w.kept (replicate (w.taken - length w.kept) 0)
    ∙ omega (arith, length-replicate {A = ℕ} (w.taken - length w.kept) 0, (kept_fits w f).0) in
    let t : take (w.taken + 6) p ≡ p = take_all (w.taken + 6) p (omega arith) in
    rw n (sym (kept_again w (w.taken + 6) (w.taken - length w.kept) f (omega arith) (omega (arith, (kept_fits w f).0))) ∙ ap (λ (o : Octets). waiting_at w.taken o) t)

-- octets behind octets
pub bytes_append : (a b : Octets) → bytes a ≡ true → bytes b ≡ true → bytes (a ++ b) ≡ true
unfolding bytes
bytes_append [] b e f = f
bytes_append (x ∷ a) b e f = let h = and_true (ltb x 256) _ e in both h.0 (bytes_append a b h.1 f)

-- zeros are octets
pub bytes_zeros : (a : Octets) (n : ℕ) → bytes a ≡ true → bytes (a ++ replicate n 0) ≡ true
unfolding bytes
bytes_zeros [] zero e = refl
bytes_zeros [] (suc n) e = bytes_zeros [] n refl
bytes_zeros (x ∷ a) n e = let h = and_true (ltb x 256) _ e in both h.0 (bytes_zeros a n h.1)

-- these are octets
pub represented_octets : (w : Waiting) → waiting_ok w ≡ true → bytes (packet_in w) ≡ true
unfolding packet_in
represented_octets w e = bytes_zeros w.kept (w.taken - length w.kept) (waiting_fit w e).octets

-- octets short of a packet
abbrev pub Short : Octets → Type 0
Short a = length a < length_said a

-- they are short of a packet
pub represented_short : (w : Waiting) → waiting_ok w ≡ true → Short (packet_in w)
unfolding packet_in waiting_of waiting_at
represented_short w e =
    let f = waiting_fit w e in
    let n : w.taken ≡ length (packet_in w) = ap (λ (v : Waiting). v.taken) (represented w e) in
    rw (← n, said_zeros w.kept (w.taken - length w.kept)) f.short

-- such octets wait well formed
pub waiting_ok_lem : (a : Octets) → bytes a ≡ true → Short a → waiting_ok (waiting_of a) ≡ true
unfolding waiting_ok waiting_of waiting_at
waiting_ok_lem a w h = both (lt-ltb (length a) (length_said (waiting_of a).kept) (rw (said_kept a) h)) (both (eq-eqb _ _ (most (kept_count (length a) a) (count (length a) a) ∙ sym again)) (bytes_take (kept_count (length a) a) a w))
  where
    again : kept_count (length a) (waiting_of a).kept ≡ kept_count (length a) a
    again = count_same (length a) (waiting_of a).kept a (said_kept a)

    most : (n : ℕ) → Count (length a) a n → length (take n a) ≡ n
    most n (whole t) = length-take-le (length a) a (omega arith)
    most n (head t) = length-take-le (min 10 (length a)) a (omega arith)

-- 5. A lump -------------------------------------------------------------------------------------------------------------------------------------

-- a packet has a header
pub six_said : (a : Octets) → 6 ≤ length_said a
unfolding length_said
six_said a = omega arith

-- n octets of a lump are taken: all, or those up to the end of the packet
module _ (before o : Octets) (n : ℕ) (en : n ≡ min (length o) (length_said (before ++ o) - length before)) (short : Short before) where
  -- before and those taken
  long : length (before ++ take n o) ≡ length before + n
  long = length-append before (take n o) ∙ omega (arith, length-take-le n o (omega arith))

  -- with a whole header they say the length that the whole lump says
  same_said : 6 ≤ length (before ++ take n o) → length_said (before ++ take n o) ≡ length_said (before ++ o)
  same_said h =
      let e : (before ++ take n o) ++ drop n o ≡ before ++ o = append_assoc before (take n o) (drop n o)
      ∙ ap (λ (x : Octets). before ++ x) (take-append-drop n o) in
      sym (said_append (before ++ take n o) (drop n o) h) ∙ ap length_said e

  -- what stood before is short of that length
  still_short : length before < length_said (before ++ o)
  still_short = go (leb 6 (length before)) refl
    where
      go : (b : Bool) → leb 6 (length before) ≡ b → length before < length_said (before ++ o)
      go true t = rw (said_append before o (leb-true _ _ t)) short
      go false t = omega (arith, leb-false 6 (length before) t, six_said (before ++ o))

  -- where the length said is reached, it is reached exactly
  pub took_whole : length_said (before ++ take n o) ≤ length (before ++ take n o) → length (before ++ take n o) ≡ length_said (before ++ take n o)
  took_whole h =
      let s = same_said (omega (arith, six_said (before ++ take n o))) in
      omega (arith, long, still_short)

  -- and at least one octet was taken
  pub took_some : length_said (before ++ take n o) ≤ length (before ++ take n o) → 0 < n
  took_some h =
      let s = same_said (omega (arith, six_said (before ++ take n o))) in
      omega (arith, long, still_short)

  -- where it is not, the whole lump was taken
  pub took_all : Short (before ++ take n o) → n ≡ length o
  took_all h = go (leb 6 (length (before ++ take n o))) refl
    where
      go : (b : Bool) → leb 6 (length (before ++ take n o)) ≡ b → n ≡ length o
      go true t = let s = same_said (leb-true _ _ t) in omega (arith, long, still_short)
      go false t = omega (arith, leb-false 6 (length (before ++ take n o)) t, long, six_said (before ++ o))

-- octets of just the length that they say are a packet
pub whole_packet : (a : Octets) → length a ≡ length_said a → packet_ok a ≡ true
unfolding packet_ok length_said
whole_packet a e = both (le-leb 6 (length a) (omega arith)) (eq-eqb (u16 a 4) (length (drop 6 a)) (sym (length-drop 6 a ∙ omega arith)))

-- and a packet has that length
pub packet_said : (a : Octets) → packet_ok a ≡ true → length a ≡ length_said a
unfolding packet_ok length_said
packet_said a e =
    let b = and_true (leb 6 (length a)) _ e in
    omega (arith, leb-true 6 (length a) b.0, equal (u16 a 4) (length (drop 6 a)) b.1, length-drop 6 a)
