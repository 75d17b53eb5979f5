-- The advertising written part by part over plain octets: several writes behind one another are one.
use mathlib.Core.Path.{◌≡◌, refl, ap, sym, ◌∙◌}
use Prim.Native.Nat.{ℕ, zero, suc, ◌+◌, ◌-◌, ◌*◌, ◌≤◌, ◌<◌}
use Rattle.std.proofs.Common.{add-zero}
use native.Mathlib.Omega.{arith}
use mathlib.Core.List.{List, [], ◌∷◌, ◌++◌, append-nil}
use lib.ListN.{length, get_or, take, drop, replicate}
use borrow.Author.Tests.{eq-eqb, ne_eqb}
use Rattle.model.specs.declared.Schedule.{Schedule}
use Rattle.model.specs.declared.Settings.{Settings}
use Rattle.model.specs.Octets.{Octets, le16}
use Rattle.model.specs.Commands.{words}
use Rattle.model.specs.Layout.{data_back, data_part, schedule_part, settings_part}
use Rattle.model.proofs.Model.Layout.{length_words}
use Rattle.octets.specs.Parts.{part, write_at}
use Rattle.octets.proofs.Parts.{get_d_part, part_part, write_split}
use Rattle.layout.specs.Places.{settings_head}
use Rattle.layout.specs.Advertising.{cleared_slot, cleared_slots}

-- 1. Numbers and the schedule -----------------------------------------------------------------------------------------------------------------

-- a number, and what is written behind it
behind_number : (s : Octets) (at n : ℕ) (t : Octets) → write_at s at (le16 n ++ t) ≡ write_at (write_at s at (le16 n)) (at + 2) t
unfolding le16
behind_number s at n t = write_split s at (le16 n) t

-- one number more, behind those that are written
pub word_more : (s : Octets) (at : ℕ) (l : List ℕ) (k : ℕ) → k < length l
    → write_at (write_at s at (words (take k l))) (at + 2 * k) (le16 (get_or l k 0)) ≡ write_at s at (words (take (suc k) l))
unfolding words write_at
word_more s at [] k h = absurd (omega (arith, h))
word_more s at (x ∷ xs) zero h = rw (append-nil, add-zero)
word_more s at (x ∷ xs) (suc k) h =
    let e : at + 2 * suc k ≡ at + 2 + 2 * k = omega arith in
    rw (behind_number s at x (words (take k xs)), e, word_more (write_at s at (le16 x)) (at + 2) xs k (omega (arith, h)))
    (sym (behind_number s at x (words (take (suc k) xs))))

-- a schedule: durations, timeouts, the instance on air, the seconds left
pub schedule_put : (s : Octets) (at : ℕ) (t : Schedule) → length t.durations ≡ 5 → length t.timeouts ≡ 5
    → write_at (write_at (write_at (write_at s at (words t.durations)) (at + 10) (words t.timeouts)) (at + 20) (t.on_air ∷ [])) (at + 21) (le16 t.left)
    ≡ write_at s at (schedule_part t)
unfolding schedule_part
schedule_put s at t n m =
    let ds = words t.durations in
    let ts = words t.timeouts in
    let x : Octets = t.on_air ∷ le16 t.left in
    let p = write_at s at ds in
    let q = write_at p (at + 10) ts in
    let nd : length ds ≡ 10 = length_words t.durations ∙ omega arith in
    let nt : length ts ≡ 10 = length_words t.timeouts ∙ omega arith in
    let e20 : at + 20 ≡ at + 10 + 10 = omega arith in
    let e21 : at + 21 ≡ at + 10 + 10 + 1 = omega arith in
    let a : write_at s at (ds ++ (ts ++ x)) ≡ write_at p (at + 10) (ts ++ x) = rw nd at (write_split s at ds (ts ++ x)) in
    let b : write_at p (at + 10) (ts ++ x) ≡ write_at q (at + 10 + 10) x = rw nt at (write_split p (at + 10) ts x) in
    let c : write_at q (at + 10 + 10) x ≡ write_at (write_at q (at + 10 + 10) (t.on_air ∷ [])) (at + 10 + 10 + 1) (le16 t.left) =
    write_split q (at + 10 + 10) (t.on_air ∷ []) (le16 t.left) in
    rw (e21, e20) (sym (a ∙ b ∙ c))

-- settings: flags and timer, then the address
pub settings_written : (s : Octets) (at : ℕ) (m : Settings) → write_at (write_at s at (settings_head m)) (at + 8) m.radio.static_address
    ≡ write_at s at (settings_part m)
unfolding settings_head settings_part le16
settings_written s at m = sym (write_split s at (settings_head m) m.radio.static_address)

-- 2. Data -------------------------------------------------------------------------------------------------------------------------------------

-- octets with zeros behind them, up to a length
padded : (n : ℕ) (o : Octets) → length o ≤ n → take n (o ++ replicate n 0) ≡ o ++ replicate (n - length o) 0
padded n o l = go n n o l (omega arith)
  where
    zeros : (n m : ℕ) → n ≤ m → take n (replicate m 0) ≡ replicate {A = ℕ} n 0
    zeros zero m l = refl
    zeros (suc n) zero l = absurd (omega arith)
    zeros (suc n) (suc m) l = ap {B = Octets} (λ x. 0 ∷ x) (zeros n m (omega arith))

    go : (n m : ℕ) (o : Octets) → length o ≤ n → n ≤ m → take n (o ++ replicate m 0) ≡ o ++ replicate (n - length o) 0
    go n m [] l k = let e : n - 0 ≡ n = omega arith in rw e (zeros n m k)
    go zero m (x ∷ o) l k = absurd (omega arith)
    go (suc n) m (x ∷ o) l k =
        let e : suc n - suc (length o) ≡ n - length o = omega arith in
        rw e (ap {B = Octets} (λ y. x ∷ y) (go n m o (omega arith) (omega arith)))

-- data: their length, themselves, zeros
pub data_put : (s : Octets) (at : ℕ) (o : Octets) → length o ≤ 31
    → write_at (write_at (write_at s at (length o ∷ [])) (at + 1) o) (at + 1 + length o) (replicate (31 - length o) 0) ≡ write_at s at (data_part o)
unfolding data_part
data_put s at o l =
    let z = replicate {A = ℕ} (31 - length o) 0 in
    let p = write_at s at (length o ∷ []) in
    sym (write_split s at (length o ∷ []) (o ++ z) ∙ write_split p (at + 1) o z)
    ∙ ap (λ (x : Octets). write_at s at (length o ∷ x)) (sym (padded 31 o l))

-- data where they lie: as many octets behind the length as it says
pub data_read : (s : Octets) (at n : ℕ) → get_or s at 0 ≤ 31 → n ≡ get_or s at 0 → part s (at + 1) (at + 1 + n - (at + 1)) ≡ data_back (part s at 32)
unfolding data_back part
data_read s at n l e =
    let k : at + 1 + n - (at + 1) ≡ n = omega arith in
    let h : get_or (take 32 (drop at s)) 0 0 ≡ n = get_d_part s at 32 0 (omega arith) ∙ ap (λ (x : ℕ). get_or s x 0) (omega arith) ∙ sym e in
    rw (k, h) (sym (part_part s at 32 1 n (omega arith)))

-- 3. Data cleared -----------------------------------------------------------------------------------------------------------------------------

-- an instance that was there and no longer is
pub slot_cleared : (s : Octets) (at b d : ℕ) → (b ≡ 0 → ⊥) → d ≡ 0 → write_at s at (replicate 32 0) ≡ cleared_slot s at b d
unfolding cleared_slot
slot_cleared s at b d n e = rw (ne_eqb b 0 n, eq-eqb d 0 e, cleared_slot)

-- one that is there
pub slot_stays : (s : Octets) (at b d : ℕ) → (b ≡ 0 → ⊥) → (d ≡ 0 → ⊥) → s ≡ cleared_slot s at b d
unfolding cleared_slot
slot_stays s at b d n e = rw (ne_eqb b 0 n, ne_eqb d 0 e, cleared_slot)

-- one that was not there
pub slot_absent : (s : Octets) (at b d : ℕ) → b ≡ 0 → s ≡ cleared_slot s at b d
unfolding cleared_slot
slot_absent s at b d e = rw (eq-eqb b 0 e, cleared_slot)

-- one instance more is cleared, behind those before it
pub slot_more : (s : Octets) (at : ℕ) (bs ds : List ℕ) (k : ℕ) → k < length bs → k < length ds
    → cleared_slot (cleared_slots s at (take k bs) (take k ds)) (at + 32 * k) (get_or bs k 0) (get_or ds k 0) ≡ cleared_slots s at (take (suc k) bs) (take (suc k) ds)
unfolding cleared_slots
slot_more s at [] ds k h m = absurd (omega (arith, h))
slot_more s at (b ∷ bs) [] k h m = absurd (omega (arith, m))
slot_more s at (b ∷ bs) (d ∷ ds) zero h m = rw add-zero
slot_more s at (b ∷ bs) (d ∷ ds) (suc k) h m =
    let e : at + 32 * suc k ≡ at + 32 + 32 * k = omega arith in
    rw (e, slot_more (cleared_slot s at b d) (at + 32) bs ds k (omega (arith, h)) (omega (arith, m)))
