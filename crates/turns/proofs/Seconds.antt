-- Seconds on seconds: how many within one turn come to one change, what ends the turn, and that a schedule with none on air rests.
use mathlib.Core.Path.{◌≡◌, refl, sym, ap, ◌∙◌}
use mathlib.Core.Bool.{true, false}
use mathlib.Core.Logic.{inl, inr, ⊎_elim}
use Prim.Native.Nat.{ℕ, zero, suc, ◌+◌, ◌-◌, ◌≤◌, ◌<◌}
use native.Mathlib.Nat.{suc-add, zero-add}
use native.Mathlib.Omega.{arith}
use mathlib.Core.List.{List, [], ◌∷◌, ◌++◌}
use lib.ListN.{length, drop}
use borrow.Author.Tests.{eq-eqb, ne_eqb}
use Rattle.model.specs.declared.Schedule.{Schedule}
use Rattle.model.specs.Advertising.{counted, duration_of, first_present, following, on_air_second, passed_on, present, second, seconds, timeout_of, turn_to, value_of}
use Rattle.model.specs.Advertising.{with_instance, with_value, without}
use Rattle.model.proofs.Model.Schedule.{second_rests}
use Rattle.turns.specs.Ring.{next}
use Rattle.turns.specs.Walk.{Stays}
use Rattle.turns.proofs.Values.{value_with, with_same, with_twice, length_with}
use Rattle.turns.proofs.Ring.{ring, following_suc, first_here, first_past}

-- m seconds and n seconds
pub seconds_add : (m n : ℕ) (s : Schedule) → seconds (m + n) s ≡ seconds n (seconds m s)
unfolding seconds
seconds_add zero n s = rw zero-add
seconds_add (suc m) n s = rw suc-add (seconds_add m n (second s))

-- the last second
seconds_last : (n : ℕ) (s : Schedule) → seconds (suc n) s ≡ second (seconds n s)
unfolding seconds
seconds_last zero s = refl
seconds_last (suc n) s = seconds_last n (second s)

-- with none on air nothing changes
pub seconds_rest : (n : ℕ) (s : Schedule) → s.on_air ≡ 0 → seconds n s ≡ s
unfolding seconds
seconds_rest zero s e = refl
seconds_rest (suc n) s e = rw (second_rests s e) (seconds_rest n s e)

-- Where a turn begins -------------------------------------------------------------------------------------------------------------------------

-- a schedule by its parts
abbrev pub state : List ℕ → List ℕ → ℕ → ℕ → Schedule
state ds ts k l = record { durations = ds; timeouts = ts; on_air = k; left = l }

-- a turn begins, that of the first instance from place p on that is there
unfoldable pub begun : List ℕ → List ℕ → ℕ → Schedule
begun ds ts p = passed_on p (state ds ts 0 0)

-- which one is the first to be there does not hang on the turn or the timeouts
first_any : (s : Schedule) (ts : List ℕ) (ks : List ℕ) → first_present s ks ≡ first_present (state s.durations ts 0 0) ks
unfolding first_present present duration_of
first_any s ts [] = refl
first_any s ts (k ∷ ks) = ap (λ (x : ℕ). elim (present s k) [ true ↦ k | false ↦ x ]) (first_any s ts ks)

-- the turn passes on: another begins
pub passed_begun : (k : ℕ) (s : Schedule) → passed_on k s ≡ begun s.durations s.timeouts k
unfolding begun passed_on turn_to duration_of
passed_begun k s = rw (first_any s s.timeouts (following k))

-- behind instance p + 1 it begins from the next place on
pub begun_suc : (ds ts : List ℕ) (p : ℕ) → p < 5 → begun ds ts (suc p) ≡ begun ds ts (next p)
unfolding begun passed_on
begun_suc ds ts p h = rw (following_suc p h)

-- a schedule that begins so has those values
pub begun_next : (s : Schedule) (ds ts : List ℕ) (k p : ℕ) → p < 5 → k ≡ suc p → s ≡ begun ds ts k → s ≡ begun s.durations s.timeouts (next p)
unfolding begun passed_on turn_to
begun_next s ds ts k p h o e =
    let d : s.durations ≡ ds = ap (λ (x : Schedule). x.durations) e in
    let t : s.timeouts ≡ ts = ap (λ (x : Schedule). x.timeouts) e in
    let f : begun ds ts k ≡ begun ds ts (next p) = ap (begun ds ts) o ∙ begun_suc ds ts p h in
    (e ∙ f) ∙ ap (λ (x : List ℕ). begun x ts (next p)) (sym d) ∙ ap (λ (x : List ℕ). begun s.durations x (next p)) (sym t)

-- the first one of a list with an absent instance at its end
first_last : (s : Schedule) (k : ℕ) (ks : List ℕ) → value_of s.durations k ≡ 0 → first_present s (ks ++ (k ∷ [])) ≡ first_present s ks
unfolding first_present
first_last s k [] e = first_past s k [] e
first_last s k (x ∷ ks) e = ap (λ (y : ℕ). elim (present s x) [ true ↦ x | false ↦ y ]) (first_last s k ks e)

-- instance p + 1 is absent: the turn begins from the next place on
pub begun_past : (ds ts : List ℕ) (p : ℕ) → p < 5 → value_of ds (suc p) ≡ 0 → begun ds ts p ≡ begun ds ts (next p)
unfolding begun passed_on
begun_past ds ts p h e =
    let s : Schedule = state ds ts 0 0 in
    let f : first_present s (suc p ∷ drop 1 (following p)) ≡ first_present s (drop 1 (following p)) = first_past s (suc p) (drop 1 (following p)) e in
    let g : first_present s (following p) ≡ first_present s (following (next p)) =
    rw ((ring p h).0, (ring p h).1, f, first_last s (suc p) (drop 1 (following p)) e) in
    rw g

-- it is there: its turn begins
pub begun_here : (ds ts : List ℕ) (p : ℕ) → p < 5 → 0 < value_of ds (suc p) → begun ds ts p ≡ state ds ts (suc p) (value_of ds (suc p))
unfolding begun passed_on turn_to duration_of
begun_here ds ts p h d =
    let s : Schedule = state ds ts 0 0 in
    let f : first_present s (following p) ≡ suc p = rw (ring p h).0 (first_here s (suc p) (drop 1 (following p)) (λ e. omega arith)) in
    rw f

-- One second, by what it is for the instance on air --------------------------------------------------------------------------------------------

-- the last one of its timeout: it goes
second_goes : (ds ts : List ℕ) (k l : ℕ) → 0 < k → value_of ts k ≡ 1 → second (state ds ts k l) ≡ begun (with_value ds k 0) (with_value ts k 0) k
unfolding second on_air_second timeout_of without with_instance
second_goes ds ts k l h e =
    rw (ne_eqb k 0 (λ z. omega arith), second, eq-eqb (value_of ts k) 1 e, on_air_second) (passed_begun k (without k (state ds ts k l)))

-- the last one of its turn: the turn passes on
second_passes : (ds ts : List ℕ) (k : ℕ) → 0 < k → (value_of ts k ≡ 1 → ⊥) → second (state ds ts k 1) ≡ begun ds (with_value ts k (value_of ts k - 1)) k
unfolding second on_air_second timeout_of counted
second_passes ds ts k h n = rw (ne_eqb k 0 (λ z. omega arith), second, ne_eqb (value_of ts k) 1 n, on_air_second) (passed_begun k (counted (state ds ts k 1)))

-- any other
second_runs : (ds ts : List ℕ) (k l : ℕ) → 0 < k → (value_of ts k ≡ 1 → ⊥) → (l ≡ 1 → ⊥)
    → second (state ds ts k l) ≡ state ds (with_value ts k (value_of ts k - 1)) k (l - 1)
unfolding second on_air_second timeout_of counted
second_runs ds ts k l h n m = rw (ne_eqb k 0 (λ z. omega arith), second, ne_eqb (value_of ts k) 1 n, ne_eqb l 1 m, on_air_second)

-- Many ----------------------------------------------------------------------------------------------------------------------------------------

-- fewer seconds leave it there too
stays_less : (m n t : ℕ) → m ≤ n → Stays n t → Stays m t
stays_less m n t h s = ⊎_elim (λ e. inl e) (λ l. inr (omega arith)) s

-- one, and n more
less_one : (a n : ℕ) → a - 1 - n ≡ a - suc n
less_one a n = omega arith

-- the seconds end within the turn
pub runs : (n : ℕ) (ds ts : List ℕ) (k l : ℕ) → 0 < k → k ≤ length ts → n < l → Stays n (value_of ts k)
    → seconds n (state ds ts k l) ≡ state ds (with_value ts k (value_of ts k - n)) k (l - n)
unfolding seconds
runs zero ds ts k l a b h s =
    let e : value_of ts k - 0 ≡ value_of ts k = omega arith in
    let f : l - 0 ≡ l = omega arith in
    rw (e, f, with_same)
runs (suc n) ds ts k l a b h s =
    let t1 : value_of ts k ≡ 1 → ⊥ = λ e. ⊎_elim (λ z. omega arith) (λ q. omega arith) s in
    let l1 : l ≡ 1 → ⊥ = λ e. omega arith in
    let h1 : n < l - 1 = omega arith in
    let e : value_of (with_value ts k (value_of ts k - 1)) k ≡ value_of ts k - 1 = value_with ts k (value_of ts k - 1) a b in
    let s1 : Stays n (value_of (with_value ts k (value_of ts k - 1)) k) = rw e (⊎_elim (λ z. inl (omega arith)) (λ q. inr (omega arith)) s) in
    let b1 : k ≤ length (with_value ts k (value_of ts k - 1)) = rw length_with b in
    rw
    (second_runs ds ts k l a t1 l1, runs n ds (with_value ts k (value_of ts k - 1)) k (l - 1) a b1 h1 s1, e, with_twice, less_one (value_of ts k) n, less_one l n)

-- the timeout ends first, or with the turn: the instance goes
pub goes : (m : ℕ) (ds ts : List ℕ) (k l : ℕ) → 0 < k → k ≤ length ts → value_of ts k ≡ suc m → suc m ≤ l
    → seconds (suc m) (state ds ts k l) ≡ begun (with_value ds k 0) (with_value ts k 0) k
goes m ds ts k l a b e h =
    let one : value_of (with_value ts k (value_of ts k - m)) k ≡ 1 = rw (value_with ts k (value_of ts k - m) a b) (omega arith) in
    rw (seconds_last, runs m ds ts k l a b h (inr (omega arith)), second_goes ds (with_value ts k (value_of ts k - m)) k (l - m) a one, with_twice)

-- the turn ends first: it passes on
pub passes : (m : ℕ) (ds ts : List ℕ) (k : ℕ) → 0 < k → k ≤ length ts → Stays (suc m) (value_of ts k)
    → seconds (suc m) (state ds ts k (suc m)) ≡ begun ds (with_value ts k (value_of ts k - suc m)) k
passes m ds ts k a b s =
    let e : value_of (with_value ts k (value_of ts k - m)) k ≡ value_of ts k - m = value_with ts k (value_of ts k - m) a b in
    let n1 : value_of (with_value ts k (value_of ts k - m)) k ≡ 1 → ⊥ = rw e (λ y. ⊎_elim (λ z. omega arith) (λ q. omega arith) s) in
    let f : suc m - m ≡ 1 = omega arith in
    let g : value_of ts k - m - 1 ≡ value_of ts k - suc m = omega arith in
    rw (
      seconds_last,
      runs m ds ts k (suc m) a b (omega arith) (stays_less m (suc m) (value_of ts k) (omega arith) s),
      f,
      second_passes ds (with_value ts k (value_of ts k - m)) k a n1,
      e,
      with_twice,
      g,
    )
