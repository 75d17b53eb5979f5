-- The waiting octets where they lie: what is read there is the model's word, and what is written there is another hub with other waiting octets.
use Prim.Native.Nat.{ℕ, zero, suc, ◌+◌, ◌-◌, ◌*◌, ◌≤◌, ◌<◌, min}
use native.Mathlib.Omega.{arith}
use native.Mathlib.Nat.{add-zero}
use mathlib.Core.Path.{◌≡◌, refl, sym, ap, ◌∙◌}
use mathlib.Core.Bool.{true}
use mathlib.Core.List.{[], ◌∷◌, ◌++◌, append_assoc, append-nil}
use lib.ListN.{length, get_or, take, drop, replicate, length-append, length-replicate, length-take, get_or-append, get_or-eq_default}
use lib.ListN.{drop_of_length-le}
use lib.Seq.{sets-eq, get_or-append-add, get_or-drop, get_or-take, length-take-le, take-add, take_at, drop_at, drop-drop}
use lib.Dec.{lit≤}
use Rattle.model.specs.Lengths as Lengths
use Rattle.model.specs.Octets.{Octets, le32, u16, u32}
use Rattle.model.specs.State.{Hub, Waiting, with_waiting}
use Rattle.model.specs.Stream.{grown, kept_count, length_said, waiting_at}
use Rattle.model.specs.Layout.{decode, encode, line_cleared, waiting_back, waiting_part}
use Rattle.model.specs.Meanings.{state_ok}
use Rattle.model.proofs.Model.Demand3.{state_back, state_well}
use Rattle.model.proofs.Model.Keeps.{well_fit}
use Rattle.model.proofs.Model.Layout.{before, encode_split, length_before}
use Rattle.model.proofs.Model.WaitingOctets.{WaitingFit, count_few, count_head, count_more, count_room, count_whole, kept_count_lem, kept_fits, padded, waiting_fit}
use Rattle.octets.specs.Parts.{part, write_at}
use Rattle.octets.proofs.Parts.{write_front, write_left, write_right, write_split, write_whole}

-- 1. Numbers ------------------------------------------------------------------------------------------------------------------------------------

-- the number taken
pub taken_is : (s : Octets) → u32 s Lengths.blocks_end ≡ (decode s).waiting.taken
unfolding decode waiting_back waiting_at u32 u16
taken_is s =
    rw (get_or-drop Lengths.blocks_end s 0 0, get_or-drop Lengths.blocks_end s 1 0, get_or-drop Lengths.blocks_end s 2 0, get_or-drop Lengths.blocks_end s 3 0)

-- the length of the packet, as the octets that lie there say it
pub said_is : (s : Octets) → 6 + u16 s 17500 ≡ length_said (drop 4 (drop Lengths.blocks_end s))
unfolding length_said u16
said_is s =
    rw (
      get_or-drop 4 (drop Lengths.blocks_end s) 4 0,
      get_or-drop 4 (drop Lengths.blocks_end s) 5 0,
      get_or-drop Lengths.blocks_end s 8 0,
      get_or-drop Lengths.blocks_end s 9 0,
    )

-- of a long packet at most ten are kept
pub kept_ten : (n said : ℕ) → Lengths.longest_kept < said → Lengths.long_head < n → (o : Octets) → length_said o ≡ said → Lengths.long_head ≡ kept_count n o
kept_ten n said h l o e = sym (count_head n o (rw e h) ∙ omega arith)

-- of few octets all
pub kept_few : (n : ℕ) → n ≤ Lengths.long_head → (o : Octets) → n ≡ kept_count n o
kept_few n h o = sym (count_few n o h)

-- and all of a packet that is not long
pub kept_all : (n said : ℕ) → said ≤ Lengths.longest_kept → (o : Octets) → length_said o ≡ said → n ≡ kept_count n o
kept_all n said h o e = sym (count_whole n o (rw e h))

-- 2. Those kept, and a lump behind them -------------------------------------------------------------------------------------------------------------

-- what waits in a well-formed state
pub waiting_well : (s : Octets) → state_ok s ≡ true → WaitingFit (decode s).waiting
waiting_well s ok = waiting_fit (decode s).waiting (well_fit (decode s) (state_well s ok)).waiting

module _ (s : Octets) (ok : state_ok s ≡ true) (o : Octets) (n k : ℕ) (en : n ≡ (decode s).waiting.taken) (six : k < 6) where
  -- as many are kept as were taken, if these are few
  few_kept : n ≤ k → length (decode s).waiting.kept ≡ n
  few_kept h =
      let w = (decode s).waiting in
      sym (kept_count_lem w (waiting_well s ok) []) ∙ count_few w.taken (w.kept ++ []) (omega arith) ∙ sym en

  -- an octet of the header that was taken is kept
  head_kept : k < n → k < length (decode s).waiting.kept
  head_kept h =
      let w = (decode s).waiting in
      let m : ℕ = n - (k + 1) in
      let e : k + 1 + m ≡ w.taken = omega arith in
      let c : kept_count (k + 1 + m) (w.kept ++ []) ≡ length w.kept = rw e (kept_count_lem w (waiting_well s ok) []) in
      omega (arith, (count_more (k + 1) m (w.kept ++ [])).0, count_few (k + 1) (w.kept ++ []) (omega arith))

  -- it is read where it lies
  pub octet_kept : k < n → get_or s (17496 + k) 0 ≡ get_or ((decode s).waiting.kept ++ o) k 0
  unfolding decode waiting_back waiting_at
  octet_kept h =
      let d : Octets = drop 4 (drop Lengths.blocks_end s) in
      let m : ℕ = kept_count (u32 (drop Lengths.blocks_end s) 0) d in
      let l : k < length (take m d) = head_kept h in
      sym (get_or-append (take m d) o 0 k l ∙ get_or-take m d k 0 (omega (arith, length-take m d)) ∙ get_or-drop 4 (drop Lengths.blocks_end s) k 0
      ∙ get_or-drop Lengths.blocks_end s (4 + k) 0 ∙ ap (λ (j : ℕ). get_or s j 0) at_kept)
    where
      at_kept : Lengths.blocks_end + (4 + k) ≡ 17496 + k
      at_kept = omega arith

  -- one that was not taken yet is read in the lump
  pub octet_lump : n ≤ k → get_or o (k - n) 0 ≡ get_or ((decode s).waiting.kept ++ o) k 0
  octet_lump h =
      let w = (decode s).waiting in
      let e : k ≡ length w.kept + (k - n) = omega (arith, few_kept h) in
      sym (ap (λ (j : ℕ). get_or (w.kept ++ o) j 0) e ∙ get_or-append-add w.kept o (k - n) 0)

  -- and one that is not there yet is 0
  pub octet_none : n ≤ k → length o ≤ k - n → 0 ≡ get_or ((decode s).waiting.kept ++ o) k 0
  octet_none h l = sym (get_or-eq_default o 0 l) ∙ octet_lump h

-- the length that the octets of the length field say
pub said_octets : (x : Octets) (a b : ℕ) → a ≡ get_or x 4 0 → b ≡ get_or x 5 0 → 6 + (a + 256 * b) ≡ length_said x
unfolding length_said u16
said_octets x a b ea eb = rw (ea, eb)

-- those kept before a lump, and with it: no fewer, at most as many more as the lump has, and there is room for them
pub lump_room : (n m said : ℕ) (x : Octets) (b a : ℕ) → said ≡ length_said x → n + m ≤ said → b ≡ kept_count n x → a ≡ kept_count (n + m) x
    → (b ≤ a) × (a ≤ b + m) × (a ≤ Lengths.longest_kept)
lump_room n m said x b a es le eb ea =
    let c = count_more n m x in rw (eb, ea) (c.0, c.1, count_room (n + m) x (omega arith))

-- 3. Writes -------------------------------------------------------------------------------------------------------------------------------------

-- zeros behind the first of them
drop_zeros : (m n : ℕ) → drop m (replicate {A = ℕ} n 0) ≡ replicate (n - m) 0
drop_zeros zero n = let e : n ≡ n - 0 = omega arith in ap (λ (k : ℕ). replicate {A = ℕ} k 0) e
drop_zeros (suc m) zero = let e : 0 ≡ 0 - suc m = omega arith in ap (λ (k : ℕ). replicate {A = ℕ} k 0) e
drop_zeros (suc m) (suc n) = let e : n - m ≡ suc n - suc m = omega arith in drop_zeros m n ∙ ap (λ (k : ℕ). replicate {A = ℕ} k 0) e

-- the number written anew
number_over : (n m : ℕ) (x : Octets) → write_at (le32 n ++ x) 0 (le32 m) ≡ le32 m ++ x
unfolding le32
number_over n m x = write_left (le32 n) x 0 (le32 m) (lit≤ tt) ∙ ap (λ (o : Octets). o ++ x) (write_whole (le32 n) (le32 m) refl)

-- behind the number
behind_number : (n k : ℕ) (x p : Octets) → write_at (le32 n ++ x) (4 + k) p ≡ le32 n ++ write_at x k p
unfolding le32
behind_number n k x p = write_right (le32 n) x k p

-- octets written behind others, over zeros
over_zeros : (a p : Octets) (m : ℕ) → length a + length p ≤ m
    → write_at (a ++ replicate (m - length a) 0) (length a) p ≡ (a ++ p) ++ replicate (m - length (a ++ p)) 0
over_zeros a p m h =
    let z : Octets = replicate (m - length a) 0 in
    let l : length z ≡ m - length a = length-replicate {A = ℕ} (m - length a) 0 in
    let e : m - length a - length p ≡ m - length (a ++ p) = omega (arith, length-append a p) in
    ap (λ (k : ℕ). write_at (a ++ z) k p) (sym (add-zero (length a)))
    ∙ write_right a z 0 p
    ∙ ap (λ (x : Octets). a ++ x) (write_front z p (omega arith) ∙ ap (λ (x : Octets). p ++ x) (drop_zeros (length p) (m - length a) ∙ ap (λ (k : ℕ). replicate {A = ℕ} k 0) e))
    ∙ sym (append_assoc a p (replicate (m - length (a ++ p)) 0))

-- the waiting octets, with as many zeros as there is room
part_is : (w : Waiting) → length w.kept ≤ Lengths.longest_kept
    → waiting_part w ≡ le32 w.taken ++ (w.kept ++ replicate (Lengths.longest_kept - length w.kept) 0)
unfolding waiting_part
part_is w h = ap (λ (x : Octets). le32 w.taken ++ x) (padded w.kept Lengths.longest_kept Lengths.longest_kept h (omega arith))

-- of those kept and a lump, those kept then
grown_kept : (w : Waiting) (f : WaitingFit w) (o : Octets)
    → (grown w o).kept ≡ w.kept ++ take (kept_count (w.taken + length o) (w.kept ++ o) - length w.kept) o
unfolding grown waiting_at
grown_kept w f o =
    let a : ℕ = kept_count (w.taken + length o) (w.kept ++ o) in
    let b : ℕ = length w.kept in
    let m = count_more w.taken (length o) (w.kept ++ o) in
    let c = kept_count_lem w f o in
    let e : b + (a - b) ≡ a = omega (arith, m.0) in
    ap (λ (n : ℕ). take n (w.kept ++ o)) (sym e) ∙ take-add b (a - b) (w.kept ++ o)
    ∙ rw (take_at w.kept o b refl, drop_at w.kept o b refl)

-- a write at the end of the first list
at_end : (x y p : Octets) → length x ≡ Lengths.blocks_end → write_at (x ++ y) Lengths.blocks_end p ≡ x ++ write_at y 0 p
at_end x y p l = ap (λ (k : ℕ). write_at (x ++ y) k p) (sym l ∙ sym (add-zero (length x))) ∙ write_right x y 0 p

-- one further behind
behind_end : (x y p : Octets) (b : ℕ) → length x ≡ Lengths.blocks_end → write_at (x ++ y) (17496 + b) p ≡ x ++ write_at y (4 + b) p
behind_end x y p b l = let e : 17496 + b ≡ length x + (4 + b) = omega arith in ap (λ (k : ℕ). write_at (x ++ y) k p) e ∙ write_right x y (4 + b) p

-- a write up to the end
write_end : (s p : Octets) (b : ℕ) → length s ≡ b + length p → write_at s b p ≡ take b s ++ p
unfolding write_at
write_end s p b l =
    let d : drop (b + length p) s ≡ [] = drop_of_length-le s {i = b + length p} (omega arith) in
    sets-eq p s b (omega arith) ∙ rw (d, append-nil)

-- the waiting octets when these are kept
grown_part : (w : Waiting) (o p : Octets) → (grown w o).kept ≡ w.kept ++ p → length (w.kept ++ p) ≤ Lengths.longest_kept
    → waiting_part (grown w o) ≡ le32 (w.taken + length o) ++ ((w.kept ++ p) ++ replicate (Lengths.longest_kept - length (w.kept ++ p)) 0)
unfolding grown waiting_at
grown_part w o p k l =
    part_is (grown w o) (rw k l)
    ∙ ap (λ (x : Octets). le32 (w.taken + length o) ++ (x ++ replicate (Lengths.longest_kept - length x) 0)) k

-- clock and blocks have nothing to do with the waiting octets
before_aside : (h : Hub) (v : Waiting) → before (with_waiting h v) ≡ before h
unfolding before with_waiting
before_aside h v = refl

-- THE WRITES OF A LUMP: its number, and those of its octets that are kept
pub lump_written : (s o : Octets) (b a said : ℕ) → state_ok s ≡ true → said ≡ length_said ((decode s).waiting.kept ++ o)
    → (decode s).waiting.taken + length o ≤ said
    → b ≡ kept_count (decode s).waiting.taken ((decode s).waiting.kept ++ o)
    → a ≡ kept_count ((decode s).waiting.taken + length o) ((decode s).waiting.kept ++ o)
    → write_at (write_at s Lengths.blocks_end (le32 ((decode s).waiting.taken + length o))) (17496 + b) (take (a - b) o)
    ≡ encode (with_waiting (decode s) (grown (decode s).waiting o))
unfolding with_waiting grown waiting_at
lump_written s o b a said ok es le kb ea =
    let h : Hub = decode s in
    let w : Waiting = h.waiting in
    let f : WaitingFit w = waiting_well s ok in
    let n : ℕ = w.taken + length o in
    let x : Octets = before h in
    let lx : length x ≡ Lengths.blocks_end = length_before h (well_fit h (state_well s ok)).plain in
    let p : Octets = take (a - b) o in
    let m = count_more w.taken (length o) (w.kept ++ o) in
    let c = kept_count_lem w f o in
    let eb : b ≡ length w.kept = kb ∙ c in
    let room : a ≤ Lengths.longest_kept = rw ea (count_room n (w.kept ++ o) (rw (← es) le)) in
    let lp : length p ≡ a - b = length-take-le (a - b) o (omega (arith, m.1)) in
    let k : (grown w o).kept ≡ w.kept ++ p = rw (eb, ea) (grown_kept w f o) in
    let z : Octets = w.kept ++ replicate (Lengths.longest_kept - length w.kept) 0 in
    let q : Octets = (w.kept ++ p) ++ replicate (Lengths.longest_kept - length (w.kept ++ p)) 0 in
    let now : s ≡ x ++ (le32 w.taken ++ z)
    = state_back s ok ∙ encode_split h ∙ ap (λ (y : Octets). x ++ y) (part_is w (kept_fits w f).1) in
    let one : write_at s Lengths.blocks_end (le32 n) ≡ x ++ (le32 n ++ z)
    = ap (λ (y : Octets). write_at y Lengths.blocks_end (le32 n)) now ∙ at_end x (le32 w.taken ++ z) (le32 n) lx
    ∙ ap (λ (y : Octets). x ++ y) (number_over w.taken n z) in
    let two : write_at (x ++ (le32 n ++ z)) (17496 + b) p ≡ x ++ (le32 n ++ q)
    = behind_end x (le32 n ++ z) p b lx ∙ ap (λ (y : Octets). x ++ y) (behind_number n b z p
    ∙ ap (λ (y : Octets). le32 n ++ y) (ap (λ (j : ℕ). write_at z j p) eb ∙ over_zeros w.kept p Lengths.longest_kept (omega (arith, lp)))) in
    let g : waiting_part (grown w o) ≡ le32 n ++ q = grown_part w o p k (omega (arith, lp, length-append w.kept p)) in
    ap (λ (y : Octets). write_at y (17496 + b) p) one ∙ two ∙ ap (λ (y : Octets). x ++ y) (sym g)
    ∙ ap (λ (y : Octets). y ++ waiting_part (grown w o)) (sym (before_aside h (grown w o)))
    ∙ sym (encode_split (with_waiting h (grown w o)))

-- those kept, where they lie
kept_part : (s : Octets) (b : ℕ) → state_ok s ≡ true → b ≡ length (decode s).waiting.kept → part s 17496 b ≡ (decode s).waiting.kept
unfolding decode waiting_back waiting_at part
kept_part s b ok e =
    let d : Octets = drop 4 (drop Lengths.blocks_end s) in
    let k : ℕ = kept_count (u32 (drop Lengths.blocks_end s) 0) d in
    let q : drop 17496 s ≡ d = sym (drop-drop 4 Lengths.blocks_end s) in
    rw (q, e, length-take k d) (take_min k d)
  where
    -- no more can be taken than there are
    take_min : (k : ℕ) (d : Octets) → take (min k (length d)) d ≡ take k d
    take_min zero d = let e : min 0 (length d) ≡ 0 = omega arith in rw e
    take_min (suc k) [] = let e : min (suc k) 0 ≡ 0 = omega arith in rw e
    take_min (suc k) (x ∷ d) =
        let e : min (suc k) (suc (length d)) ≡ suc (min k (length d)) = omega arith in
        rw e (ap {B = Octets} (λ (o : Octets). x ∷ o) (take_min k d))

-- THE KEPT OCTETS OF A PACKET, gathered
pub gathered : (s o out : Octets) (b a : ℕ) → state_ok s ≡ true
    → b ≡ kept_count (decode s).waiting.taken ((decode s).waiting.kept ++ o)
    → a ≡ kept_count ((decode s).waiting.taken + length o) ((decode s).waiting.kept ++ o)
    → write_at (write_at out 0 (part s 17496 b)) b (take (a - b) o) ≡ write_at out 0 (grown (decode s).waiting o).kept
gathered s o out b a ok kb ea =
    let w : Waiting = (decode s).waiting in
    let f : WaitingFit w = waiting_well s ok in
    let eb : b ≡ length w.kept = kb ∙ kept_count_lem w f o in
    let k : (grown w o).kept ≡ w.kept ++ take (a - b) o = rw (eb, ea) (grown_kept w f o) in
    let e : 0 + length w.kept ≡ b = omega arith in
    ap (λ (x : Octets). write_at (write_at out 0 x) b (take (a - b) o)) (kept_part s b ok eb)
    ∙ ap (λ (j : ℕ). write_at (write_at out 0 w.kept) j (take (a - b) o)) (sym e)
    ∙ sym (write_split out 0 w.kept (take (a - b) o))
    ∙ ap (λ (x : Octets). write_at out 0 x) (sym k)

-- THE WAITING OCTETS MADE ZERO
pub line_zeroed : (s : Octets) (n : ℕ) → n ≡ Lengths.waiting → length s ≡ Lengths.state → write_at s Lengths.blocks_end (replicate n 0) ≡ line_cleared s
unfolding line_cleared
line_zeroed s n e l =
    write_end s (replicate n 0) Lengths.blocks_end (rw (length-replicate {A = ℕ} n 0) (omega arith))
    ∙ ap (λ (k : ℕ). take Lengths.blocks_end s ++ replicate {A = ℕ} k 0) e
