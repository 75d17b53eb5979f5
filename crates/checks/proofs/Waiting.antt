-- The waiting octets: the test that the code makes is the model's.
use Prim.Native.Nat.{ℕ, zero, suc, ◌+◌, ◌-◌, ◌<◌, ◌≤◌}
use native.Mathlib.Omega.{arith}
use mathlib.Core.Path.{◌≡◌, refl, sym, ap, ◌∙◌}
use mathlib.Core.Bool.{true, false, ◌&&◌}
use mathlib.Core.List.{[], ◌∷◌, ◌++◌}
use lib.ListN.{length, take, drop, replicate, length-drop, take-append-drop}
use lib.Seq.{drop_at, drop-drop, length-take-le, take_all}
use lib.Dec.{eqb, ltb}
use borrow.Author.Tests.{le-ltb, eq-eqb, eqb-true, lt-ltb, ltb-true}
use Rattle.model.specs.Lengths as Lengths
use Rattle.model.specs.Octets.{Octets, all_zero, bytes, le32, u32}
use Rattle.model.specs.Stream.{kept_count, length_said, waiting_at}
use Rattle.model.specs.WellFormed.{waiting_ok}
use Rattle.model.specs.Layout.{decode, waiting_back, waiting_part}
use Rattle.model.proofs.Model.Tables.{bytes_drop, bytes_take, same_eq, same_refl}
use Rattle.model.proofs.Model.Tests.{and_true, both}
use Rattle.model.proofs.Model.WaitingOctets.{count_room, count_same, kept_fits, padded, said_zeros, waiting_fit}
use Rattle.octets.specs.Parts.{part}
use Rattle.checks.proofs.Tests.{le32_part, one_test}
use Rattle.checks.specs.Waiting.{waiting_octets_ok}

-- 1. Octets and zeros behind them ---------------------------------------------------------------------------------------------------------------

-- zeros are zero
zeros_zero : (n : ℕ) → all_zero (replicate n 0) ≡ true
unfolding all_zero
zeros_zero zero = refl
zeros_zero (suc n) = zeros_zero n

-- octets that are zero are zeros
zero_zeros : (o : Octets) → all_zero o ≡ true → o ≡ replicate (length o) 0
unfolding all_zero
zero_zeros [] e = refl
zero_zeros (x ∷ o) e =
    let a = and_true (eqb x 0) _ e in
    let z : x ≡ 0 = eqb-true x 0 a.0 in
    rw z (ap {B = Octets} (λ (l : Octets). 0 ∷ l) (zero_zeros o a.1))

-- 2. Those kept ------------------------------------------------------------------------------------------------------------------------------------

-- a number taken, and 1,160 octets
module _ (n : ℕ) (d : Octets) (w : bytes d ≡ true) (l : length d ≡ Lengths.longest_kept) where
  -- those kept, with zeros behind them
  kept_padded : Octets
  kept_padded = take Lengths.longest_kept (take (kept_count n d) d ++ replicate Lengths.longest_kept 0)

  -- as many as are kept
  kept_long : n < length_said d → length (take (kept_count n d) d) ≡ kept_count n d
  kept_long h = length-take-le (kept_count n d) d (omega (arith, count_room n d (omega arith)))

  -- where they are valid and zeros stand behind them, it is less than a packet, and what is not kept is zero
  kept_down : waiting_ok (waiting_at n d) ≡ true → d ≡ kept_padded → ltb n (length_said d) && all_zero (drop (kept_count n d) d) ≡ true
  unfolding waiting_at kept_padded
  kept_down e g =
      let f = waiting_fit (waiting_at n d) e in
      let q : Octets = take (kept_count n d) d in
      let m : length q ≤ Lengths.longest_kept = (kept_fits (waiting_at n d) f).1 in
      let z : Octets = replicate (Lengths.longest_kept - length q) 0 in
      let p : d ≡ q ++ z = g ∙ padded q Lengths.longest_kept Lengths.longest_kept m (omega arith) in
      let s : length_said d ≡ length_said q = ap length_said p ∙ said_zeros q (Lengths.longest_kept - length q) in
      let h : n < length_said d = rw s f.short in
      let c : kept_count n d ≡ length q = sym (kept_long h) in
      let r : drop (kept_count n d) d ≡ z = ap (λ (x : ℕ). drop x d) c ∙ ap (drop (length q)) p ∙ drop_at q z (length q) refl in
      both (lt-ltb n (length_said d) h) (rw r (zeros_zero (Lengths.longest_kept - length q)))

  -- and the other way round
  kept_up : n < length_said d → all_zero (drop (kept_count n d) d) ≡ true → (waiting_ok (waiting_at n d) ≡ true) × (d ≡ kept_padded)
  unfolding waiting_at waiting_ok kept_padded
  kept_up h e =
      let q : Octets = take (kept_count n d) d in
      let c : length q ≡ kept_count n d = kept_long h in
      let room = count_room n d (omega arith) in
      let m : length (drop (kept_count n d) d) ≡ Lengths.longest_kept - length q = length-drop (kept_count n d) d ∙ omega arith in
      let z : drop (kept_count n d) d ≡ replicate (Lengths.longest_kept - length q) 0 = zero_zeros _ e ∙ ap (λ (x : ℕ). replicate x 0) m in
      let p : d ≡ q ++ replicate (Lengths.longest_kept - length q) 0 = sym (take-append-drop (kept_count n d) d) ∙ ap (λ (x : Octets). q ++ x) z in
      let s : length_said q ≡ length_said d = sym (ap length_said p ∙ said_zeros q (Lengths.longest_kept - length q)) in (
        both (lt-ltb n (length_said q) (rw s h))
            (both (eq-eqb (length q) (kept_count n q) (c ∙ sym (count_same n q d s))) (bytes_take (kept_count n d) d w)),
        p ∙ sym (padded q Lengths.longest_kept Lengths.longest_kept (omega (arith, room)) (omega arith)),
      )

-- 3. The test -----------------------------------------------------------------------------------------------------------------------------------

-- number and octets behind it
number_first : (o : Octets) → bytes o ≡ true → 4 ≤ length o → o ≡ le32 (u32 o 0) ++ drop 4 o
unfolding part
number_first o w l = sym (take-append-drop 4 o) ∙ ap (λ (t : Octets). t ++ drop 4 o) (sym (le32_part o 0 w l))

-- of octets that begin with a number those behind it
behind_number : (n : ℕ) (x o : Octets) → o ≡ le32 n ++ x → drop 4 o ≡ x
unfolding le32
behind_number n x o e = ap (drop 4) e

module _ (o : Octets) (w : bytes o ≡ true) (l : length o ≡ Lengths.waiting) where
  -- 1,160 octets stand behind the number
  behind_long : length (drop 4 o) ≡ Lengths.longest_kept
  behind_long = length-drop 4 o ∙ omega arith

  -- octets that are well formed pass the test
  down : waiting_octets_ok o ≡ true → ltb (u32 o 0) (length_said (drop 4 o)) && all_zero (drop (kept_count (u32 o 0) (drop 4 o)) (drop 4 o)) ≡ true
  unfolding waiting_octets_ok waiting_back waiting_part waiting_at kept_padded
  down e =
      let d : Octets = drop 4 o in
      let a = and_true (waiting_ok (waiting_at (u32 o 0) d)) _ e in
      kept_down (u32 o 0) d (bytes_drop 4 o w) behind_long a.0 (behind_number (u32 o 0) _ o (same_eq o _ a.1))

  -- and those that pass it are well formed
  up : ltb (u32 o 0) (length_said (drop 4 o)) && all_zero (drop (kept_count (u32 o 0) (drop 4 o)) (drop 4 o)) ≡ true → waiting_octets_ok o ≡ true
  unfolding waiting_octets_ok waiting_back waiting_part waiting_at kept_padded
  up e =
      let d : Octets = drop 4 o in
      let a = and_true (ltb (u32 o 0) (length_said d)) _ e in
      let b = kept_up (u32 o 0) d (bytes_drop 4 o w) behind_long (ltb-true _ _ a.0) a.1 in
      let g : o ≡ le32 (u32 o 0) ++ kept_padded (u32 o 0) d (bytes_drop 4 o w) behind_long
      = number_first o w (omega arith) ∙ ap (λ (x : Octets). le32 (u32 o 0) ++ x) b.1 in
      both b.0 (rw (← g) (same_refl o))

  -- THE TEST OF THE WAITING OCTETS: less than a packet was taken, and zeros stand behind what is kept
  pub waiting_is : waiting_octets_ok o
      ≡ ltb (u32 o 0) (length_said (drop 4 o)) && all_zero (drop (kept_count (u32 o 0) (drop 4 o)) (drop 4 o))
  waiting_is = one_test _ _ down up

-- 4. Where they lie -------------------------------------------------------------------------------------------------------------------------------

module _ (s : Octets) (w : bytes s ≡ true) (l : length s ≡ Lengths.state) where
  -- the waiting octets of a state
  tail_long : length (drop Lengths.blocks_end s) ≡ Lengths.waiting
  tail_long = length-drop Lengths.blocks_end s ∙ omega arith

  -- those that are not kept, where they lie
  not_kept : (k : ℕ) → part s (17496 + k) (Lengths.longest_kept - k) ≡ drop k (drop 4 (drop Lengths.blocks_end s))
  unfolding part
  not_kept k =
      let e : Lengths.blocks_end + 4 + k ≡ 17496 + k = omega arith in
      let d : drop k (drop 4 (drop Lengths.blocks_end s)) ≡ drop (17496 + k) s
      = ap (drop k) (drop-drop 4 Lengths.blocks_end s) ∙ drop-drop k (Lengths.blocks_end + 4) s ∙ ap (λ (j : ℕ). drop j s) e in
      take_all (Lengths.longest_kept - k) (drop (17496 + k) s) (rw length-drop (omega arith)) ∙ sym d

  module _ (n said : ℕ) (en : n ≡ (decode s).waiting.taken) (es : said ≡ length_said (drop 4 (drop Lengths.blocks_end s))) where
    -- the test, with the numbers read
    test_is : waiting_octets_ok (drop Lengths.blocks_end s)
        ≡ ltb n said && all_zero (drop (kept_count n (drop 4 (drop Lengths.blocks_end s))) (drop 4 (drop Lengths.blocks_end s)))
    unfolding decode waiting_back waiting_at
    test_is = rw (en, es) (waiting_is (drop Lengths.blocks_end s) (bytes_drop Lengths.blocks_end s w) tail_long)

    -- less than a packet: zeros behind those kept decide
    pub waiting_short : (k : ℕ) → n < said → k ≡ kept_count n (drop 4 (drop Lengths.blocks_end s))
        → all_zero (part s (17496 + k) (Lengths.longest_kept - k)) ≡ waiting_octets_ok (drop Lengths.blocks_end s)
    waiting_short k h ek = rw (not_kept k) (ap (λ (j : ℕ). all_zero (drop j (drop 4 (drop Lengths.blocks_end s)))) ek ∙ sym (rw (lt-ltb n said h) at test_is))

    -- a whole packet does not wait
    pub waiting_whole : said ≤ n → false ≡ waiting_octets_ok (drop Lengths.blocks_end s)
    waiting_whole h = sym (rw (le-ltb n said h) at test_is)

-- those kept have room
pub kept_room : (n said k : ℕ) (o : Octets) → said ≡ length_said o → n < said → k ≡ kept_count n o → k ≤ Lengths.longest_kept
kept_room n said k o es h ek = rw ek (count_room n o (omega arith))
