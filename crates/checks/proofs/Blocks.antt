-- All four blocks and the waiting octets: the test over the octets is the model's.
use Prim.Native.Nat.{ℕ, zero, suc, ◌*◌, ◌^◌}
use native.Mathlib.Omega.{arith}
use mathlib.Core.Path.{◌≡◌, refl, sym, ap, ◌∙◌}
use mathlib.Core.Bool.{Bool, true, ◌&&◌}
use mathlib.Core.List.{[], ◌∷◌, ◌++◌, append_assoc}
use lib.ListN.{length, take, drop, length-drop, take-append-drop}
use lib.Seq.{take_at, drop_at, drop-drop, drop-append-le, length-take-le}
use lib.Dec.{eqb, ltb}
use borrow.Author.Tests.{eq-eqb, lt-ltb}
use Rattle.model.specs.Lengths as Lengths
use Rattle.model.specs.Octets.{Octets, bytes, le32, same, u32}
use Rattle.model.specs.WellFormed.{open_ok, opens_ok, plain_ok, slot_is_ok, slots_ok, waiting_ok, well_formed}
use Rattle.model.specs.Layout.{block, blocks, controller_in, controllers_in, decode, encode, open_in, opens_in, waiting_back, waiting_part}
use Rattle.model.specs.Meanings.{state_ok}
use Rattle.model.proofs.Model.Demand3.{state_back, state_long, state_well}
use Rattle.model.proofs.Model.Keeps.{well_fit}
use Rattle.model.proofs.Model.Layout.{length_block, waiting_tail}
use Rattle.model.proofs.Model.Stays.{plain_fit}
use Rattle.model.proofs.Model.Tables.{same_eq, same_refl}
use Rattle.model.proofs.Model.Tests.{and_true, both, equal}
use Rattle.octets.specs.Parts.{part}
use Rattle.checks.proofs.Tests.{le32_part, one_test, u32_lt}
use Rattle.checks.specs.Blocks.{block_ok}
use Rattle.checks.specs.Waiting.{waiting_octets_ok}

-- n blocks, one after the other
unfoldable pub blocks_ok : ℕ → Octets → Bool
blocks_ok zero o = true
blocks_ok (suc n) o = block_ok (take Lengths.block o) && blocks_ok n (drop Lengths.block o)

-- what n blocks hold is valid, and they are the one encoding of it, with octets z behind them
record Fine (n : ℕ) (o z : Octets) : Type 0 where
  slots : slots_ok (controllers_in n o) ≡ true
  opens : opens_ok (controllers_in n o) (opens_in n o) ≡ true
  whole : o ≡ blocks (controllers_in n o) (opens_in n o) ++ z

-- then each block is well formed
each_block : (n : ℕ) (o z : Octets) → Fine n o z → blocks_ok n o ≡ true
unfolding blocks_ok block_ok controllers_in opens_in blocks slots_ok opens_ok
each_block zero o z f = refl
each_block (suc n) o z f =
    let b : Octets = take Lengths.block o in
    let r : Octets = drop Lengths.block o in
    let a = and_true (slot_is_ok (controller_in b)) _ f.slots in
    let d = and_true (open_ok (controller_in b) (open_in b)) _ f.opens in
    let x : Octets = block (controller_in b) (open_in b) in
    let y : Octets = blocks (controllers_in n r) (opens_in n r) ++ z in
    let g : o ≡ x ++ y = f.whole ∙ append_assoc x (blocks (controllers_in n r) (opens_in n r)) z in
    let l : length x ≡ Lengths.block = length_block (controller_in b) (open_in b) a.0 in
    let p : b ≡ x = ap (take Lengths.block) g ∙ take_at x y Lengths.block l in
    let q : r ≡ y = ap (drop Lengths.block) g ∙ drop_at x y Lengths.block l in
    let k : same b x ≡ true = rw (← p) (same_refl b) in
    both (both a.0 (both d.0 k)) (each_block n r z (record { slots = a.1; opens = d.1; whole = q }))

-- and the other way round
all_blocks : (n : ℕ) (o z : Octets) → length o ≡ Lengths.block * n → blocks_ok n (o ++ z) ≡ true → Fine n (o ++ z) z
unfolding blocks_ok block_ok controllers_in opens_in blocks slots_ok opens_ok
all_blocks zero [] z l e = record { slots = refl; opens = refl; whole = refl }
all_blocks zero (x ∷ o) z l e = absurd (omega arith)
all_blocks (suc n) o z l e =
    let b : Octets = take Lengths.block (o ++ z) in
    let r : Octets = drop Lengths.block (o ++ z) in
    let a = and_true (block_ok b) _ e in
    let d = and_true (slot_is_ok (controller_in b)) _ a.0 in
    let g = and_true (open_ok (controller_in b) (open_in b)) _ d.1 in
    let m : length (drop Lengths.block o) ≡ Lengths.block * n = simp length-drop (omega arith) in
    let t : r ≡ drop Lengths.block o ++ z = drop-append-le Lengths.block o z (omega arith) in
    let i = all_blocks n (drop Lengths.block o) z m (rw t at a.1) in
    let p : b ≡ block (controller_in b) (open_in b) = same_eq b _ g.1 in
    record {
      slots = both d.0 (rw t i.slots);
      opens = both g.0 (rw t i.opens);
      whole = rest b r (block (controller_in b) (open_in b)) (take-append-drop Lengths.block (o ++ z)) p (rw t i.whole);
    }
  where
    -- a block and the blocks behind it
    rest : (b r x : Octets) → b ++ r ≡ o ++ z → b ≡ x → r ≡ blocks (controllers_in n r) (opens_in n r) ++ z
        → o ++ z ≡ x ++ blocks (controllers_in n r) (opens_in n r) ++ z
    rest b r x e p q =
        sym e ∙ ap (λ (t : Octets). t ++ r) p ∙ ap (λ (t : Octets). x ++ t) q ∙ sym (append_assoc x (blocks (controllers_in n r) (opens_in n r)) z)

-- the clock and the blocks behind it
clock_of : (s : Octets) → bytes s ≡ true → length s ≡ Lengths.state → take 4 s ≡ le32 (u32 s 0)
unfolding part
clock_of s w l = sym (le32_part s 0 w (omega arith))

-- dropping the four octets of the clock leaves the blocks
behind : (n : ℕ) (x s : Octets) → s ≡ le32 n ++ x → drop 4 s ≡ x
unfolding le32
behind n x s e = ap (drop 4) e

-- four blocks and the waiting octets
cut_behind : (s : Octets) → drop 4 s ≡ take (Lengths.block * 4) (drop 4 s) ++ drop Lengths.blocks_end s
cut_behind s =
    sym (take-append-drop (Lengths.block * 4) (drop 4 s)) ∙ ap (λ (t : Octets). take (Lengths.block * 4) (drop 4 s) ++ t) (drop-drop (Lengths.block * 4) 4 s)

-- the blocks are together as long as four
length_behind : (s : Octets) → length s ≡ Lengths.state → length (take (Lengths.block * 4) (drop 4 s)) ≡ Lengths.block * 4
length_behind s l = length-take-le (Lengths.block * 4) (drop 4 s) (simp length-drop (omega arith))

-- there are four of them
four : (o : Octets) → eqb (length (controllers_in 4 o)) 4 ≡ true
unfolding controllers_in
four o = refl

module _ (s : Octets) (w : bytes s ≡ true) where
  -- a well-formed state has the right length, four well-formed blocks and well-formed waiting octets
  down : state_ok s ≡ true → eqb (length s) Lengths.state && (blocks_ok 4 (drop 4 s) && waiting_octets_ok (drop Lengths.blocks_end s)) ≡ true
  unfolding decode encode waiting_octets_ok
  down e =
      let o : Octets = drop 4 s in
      let z : Octets = drop Lengths.blocks_end s in
      let a = well_fit (decode s) (state_well s e) in
      let t : z ≡ waiting_part (waiting_back z) = ap (drop Lengths.blocks_end) (state_back s e) ∙ waiting_tail (decode s) a.plain in
      let f : o ≡ blocks (controllers_in 4 o) (opens_in 4 o) ++ waiting_part (waiting_back z) = behind (u32 s 0) _ s (state_back s e) in
      let x : same z (waiting_part (waiting_back z)) ≡ true = rw (← t) (same_refl z) in
      both (eq-eqb (length s) Lengths.state (state_long s e))
      (both (each_block 4 o _ (record { slots = (plain_fit (decode s).plain a.plain).slots; opens = a.open_commands; whole = f }))
      (both a.waiting x))

  -- and such a state is well formed: the clock may be any four octets
  up : eqb (length s) Lengths.state && (blocks_ok 4 (drop 4 s) && waiting_octets_ok (drop Lengths.blocks_end s)) ≡ true → state_ok s ≡ true
  unfolding state_ok well_formed plain_ok decode encode waiting_octets_ok
  up e =
      let o : Octets = drop 4 s in
      let z : Octets = drop Lengths.blocks_end s in
      let a = and_true (eqb (length s) Lengths.state) _ e in
      let b = and_true (blocks_ok 4 o) _ a.1 in
      let v = and_true (waiting_ok (waiting_back z)) _ b.1 in
      let l : length s ≡ Lengths.state = equal _ _ a.0 in
      let q : Fine 4 o z = rw (← cut_behind s) at (all_blocks 4 (take (Lengths.block * 4) o) z (length_behind s l) (rw (← cut_behind s) b.0)) in
      let c : ltb (u32 s 0) (2 ^ 32) ≡ true = lt-ltb (u32 s 0) (2 ^ 32) (u32_lt s 0 w) in
      let t : z ≡ waiting_part (waiting_back z) = same_eq z _ v.1 in
      let f : o ≡ blocks (controllers_in 4 o) (opens_in 4 o) ++ waiting_part (waiting_back z)
      = q.whole ∙ ap (λ (x : Octets). blocks (controllers_in 4 o) (opens_in 4 o) ++ x) t in
      let g : s ≡ le32 (u32 s 0) ++ (blocks (controllers_in 4 o) (opens_in 4 o) ++ waiting_part (waiting_back z)) =
      sym (take-append-drop 4 s) ∙ ap (λ (t : Octets). t ++ o) (clock_of s w l) ∙ ap (λ (t : Octets). le32 (u32 s 0) ++ t) f in
      let y : same s (le32 (u32 s 0) ++ (blocks (controllers_in 4 o) (opens_in 4 o) ++ waiting_part (waiting_back z))) ≡ true = rw (← g) (same_refl s) in
      both a.0 (both (both (both (both (four o) c) q.slots) (both q.opens v.0)) y)

  -- the test of a state is the test of its blocks and of its waiting octets
  pub state_blocks : state_ok s ≡ eqb (length s) Lengths.state && (blocks_ok 4 (drop 4 s) && waiting_octets_ok (drop Lengths.blocks_end s))
  state_blocks = one_test (state_ok s) _ down up
