-- Fairness of lists of calls and lumps: over the model's hubs from what each call and lump does (Fairness), and from there over the octets of the lent state by
-- decode and encode, since every call and lump keeps a state well formed.
use Rattle.std.specs.Prelude.{ℕ, ◌+◌, ◌<◌, ◌≤◌, ◌≡◌, refl, Bool, true, false, ◌&&◌, not, List, [], ◌∷◌, ◌++◌, eqb}
use Rattle.std.proofs.Common.{arith, ap, ◌∙◌}
use Rattle.model.specs.Octets.{Octets}
use Rattle.model.specs.Advertising.{Schedule, instances}
use Rattle.model.specs.State.{Hub, controller_at}
use Rattle.model.specs.Answers.{Done, number_of}
use Rattle.model.specs.Hub.{Result, call, clock, command, plug, report, save, step_of, unplug}
use Rattle.model.specs.Stream.{HostCall, Streamed, direct, stream, stream_out}
use Rattle.model.specs.WellFormed.{host_call_wide, host_calls_wide, well_formed}
use Rattle.model.specs.Layout.{decode, encode}
use Rattle.model.specs.Meanings.{laid_out, meaning, stream_laid_out, stream_meaning}
use Rattle.model.specs.Demand3.{host_next}
use Rattle.model.specs.Fairness.{Fairness, InTime, each, longest, moments, off_air, others, schedule_at, seconds_in, seconds_passed, steady, steady_in}
use Rattle.model.specs.Fairness.{sum_of}
use Rattle.model.proofs.Model.Decode.{decode_encode}
use Rattle.model.proofs.Model.Demand3.{meaning_is, state_back, state_well}
use Rattle.model.proofs.Model.Fairness.{itself, next, next_wait, passing, waits_in}
use Rattle.model.proofs.Model.Line.{stream_is}
use Rattle.model.proofs.Model.OneLump.{next_keeps}
use Rattle.model.proofs.Model.Tests.{and_true, both}
use Rattle.model.proofs.Model.Waiting.{AllUnder, Under, no_more, one_more, waiting, waits_least, waits_most}

-- 1. A list, over the model's hubs -------------------------------------------------------------------------------------------------------

-- moments in two parts, k off air at all
off_append : (k : ℕ) (xs ys : List Schedule) → off_air k (xs ++ ys) ≡ true → (off_air k xs ≡ true) × (off_air k ys ≡ true)
unfolding off_air
off_append k [] ys e = (refl, e)
off_append k (x ∷ xs) ys e = let a = and_true (not (eqb x.on_air k)) _ e in let b = off_append k xs ys a.1 in (both a.0 b.0, b.1)

-- moments in two parts, no duration longer in any
under_append : (m : ℕ → ℕ) (xs ys : List Schedule) → AllUnder m (xs ++ ys) → AllUnder m xs × AllUnder m ys
under_append m [] ys u = (no_more, u)
under_append m (x ∷ xs) ys (one_more u us) = let b = under_append m xs ys us in (one_more u b.0, b.1)

-- no duration is longer than the longest
longest_under : (m : ℕ → ℕ) (ss : List Schedule) → ((j : ℕ) → longest ss j ≤ m j) → AllUnder m ss
unfolding longest Under
longest_under m [] h = no_more
longest_under m (s ∷ ss) h = one_more {s = s} (λ j. omega (arith, h j)) (longest_under m ss (λ j. omega (arith, h j)))

-- the first moment is the start
record Begins (m : ℕ → ℕ) (i k : ℕ) (h : Hub) : Type 0 where
  steady : steady_in k (controller_at h.plain i) ≡ true
  off : not (eqb (schedule_at h i).on_air k) ≡ true
  under : Under m (schedule_at h i)

-- what is asked of all moments is asked of the start
begins : (m : ℕ → ℕ) (i k : ℕ) (h : Hub) (calls : List HostCall) → steady itself call stream_out i k h calls ≡ true
    → off_air k (moments itself call stream_out i h calls) ≡ true
    → AllUnder m (moments itself call stream_out i h calls) → Begins m i k h
unfolding steady moments off_air
begins m i k h [] e o (one_more u us) = record { steady = e; off = (and_true _ _ o).0; under = u }
begins m i k h (c ∷ cs) e o (one_more u us) = record
    { steady = (and_true (steady_in k (controller_at h.plain i)) _ e).0; off = (and_true (not (eqb (schedule_at h i).on_air k)) _ o).0; under = u }

-- the seconds that pass in a list while k waits are fewer than it waits for at the start
list_wait : (m : ℕ → ℕ) (i k : ℕ) (calls : List HostCall) (h : Hub) → well_formed h ≡ true → host_calls_wide calls ≡ true
    → steady itself call stream_out i k h calls ≡ true
    → off_air k (moments itself call stream_out i h calls) ≡ true
    → AllUnder m (moments itself call stream_out i h calls) → seconds_passed itself call stream_out h calls + 1 ≤ waiting m k (schedule_at h i)
unfolding seconds_passed host_calls_wide steady moments off_air schedule_at
list_wait m i k [] h w cw e o u =
    let b = begins m i k h [] e o u in
    omega (arith, waits_least m k (schedule_at h i) (waits_in k h i _ refl w b.steady b.off))
list_wait m i k (c ∷ cs) h w cw e o (one_more us ut) =
    let r : Hub = next h c in
    let s : Schedule = schedule_at h i in
    let a = and_true (host_call_wide c) _ cw in
    let e1 = and_true (steady_in k (controller_at h.plain i)) _ e in
    let o1 = and_true (not (eqb s.on_air k)) _ o in
    let o2 = off_append k (each (passing h c) s) (moments itself call stream_out i r cs) o1.1 in
    let u2 = under_append m (each (passing h c) s) (moments itself call stream_out i r cs) ut in
    let wr : well_formed r ≡ true = next_keeps h c w a.0 in
    let b = begins m i k r cs e1.1 o2.1 u2.1 in
    let step = next_wait m i k h c w a.0 (record {
      before = waits_in k h i _ refl w e1.0 o1.0;
      after = waits_in k r i _ refl wr b.steady b.off;
      steady_before = e1.0;
      steady_after = b.steady;
      off = o2.0;
      each_under = u2.0;
      under = b.under;
    }) in
    omega (arith, step, list_wait m i k cs r wr a.1 e1.1 o2.1 u2.1)

-- FAIRNESS, over the model's hubs
fair : (h : Hub) (i k : ℕ) (calls : List HostCall) → well_formed h ≡ true → host_calls_wide calls ≡ true → steady itself call stream_out i k h calls ≡ true
    → off_air k (moments itself call stream_out i h calls) ≡ true
    → seconds_passed itself call stream_out h calls < sum_of (longest (moments itself call stream_out i h calls)) (others k instances)
unfolding schedule_at
fair h i k calls w cw e o =
    let m : ℕ → ℕ = longest (moments itself call stream_out i h calls) in
    let u = longest_under m (moments itself call stream_out i h calls) (λ j. omega arith) in
    let b = begins m i k h calls e o u in
    omega (arith, list_wait m i k calls h w cw e o u, waits_most m k (schedule_at h i) (waits_in k h i _ refl w b.steady b.off) b.under)

-- 2. The same over the lent state --------------------------------------------------------------------------------------------------------------

-- a call or a lump on the state of a well-formed hub leaves the state of the hub that it leaves
next_is : (h : Hub) (c : HostCall) → well_formed h ≡ true → host_next meaning stream_meaning (encode h) c ≡ encode (next h c)
unfolding host_next laid_out stream_laid_out
next_is h (direct c) w = ap (λ (r : Result Octets). r.state) (meaning_is h c w)
next_is h (stream room o) w = ap (λ (r : Streamed Octets). r.result.state) (stream_is h room o w)

-- as many seconds pass in it as in the call on the hub
same_seconds : (h : Hub) (c : HostCall) → well_formed h ≡ true → seconds_in decode meaning stream_meaning (encode h) c ≡ passing h c
unfolding seconds_in laid_out
same_seconds h (direct (clock room reading)) w =
    ap (λ (r : Result Octets). passed r.answer (decode (encode h))) (meaning_is h (clock room reading) w)
    ∙ ap (passed (call h (clock room reading)).answer) (decode_encode h w)
  where
    passed : ℕ → Hub → ℕ
    passed a g = elim (eqb a (number_of (Done 0))) [ true ↦ step_of g.plain.clock reading | false ↦ 0 ]
same_seconds h (direct (command room packet)) w = refl
same_seconds h (direct (report room i status)) w = refl
same_seconds h (direct (plug room i f)) w = refl
same_seconds h (direct (unplug room i)) w = refl
same_seconds h (direct (save room)) w = refl
same_seconds h (stream room o) w = refl

-- the same of a list of calls and lumps
same_passed : (calls : List HostCall) (h : Hub) → well_formed h ≡ true → host_calls_wide calls ≡ true
    → seconds_passed decode meaning stream_meaning (encode h) calls ≡ seconds_passed itself call stream_out h calls
unfolding seconds_passed host_calls_wide
same_passed [] h w cw = refl
same_passed (c ∷ cs) h w cw =
    let a = and_true (host_call_wide c) _ cw in
    rw (same_seconds h c w, next_is h c w) (ap (λ n. passing h c + n) (same_passed cs (next h c) (next_keeps h c w a.0) a.1))

-- the schedules at every moment are the same
same_moments : (i : ℕ) (calls : List HostCall) (h : Hub) → well_formed h ≡ true → host_calls_wide calls ≡ true
    → moments decode meaning stream_meaning i (encode h) calls ≡ moments itself call stream_out i h calls
unfolding moments host_calls_wide
same_moments i [] h w cw = rw (decode_encode h w)
same_moments i (c ∷ cs) h w cw =
    let a = and_true (host_call_wide c) _ cw in
    rw (same_seconds h c w, decode_encode h w, next_is h c w)
    (ap {B = List Schedule} (λ (ss : List Schedule). schedule_at h i ∷ (each (passing h c) (schedule_at h i) ++ ss))
    (same_moments i cs (next h c) (next_keeps h c w a.0) a.1))

-- power, LE and the instance stay or do not stay alike
same_steady : (i k : ℕ) (calls : List HostCall) (h : Hub) → well_formed h ≡ true → host_calls_wide calls ≡ true
    → steady decode meaning stream_meaning i k (encode h) calls ≡ steady itself call stream_out i k h calls
unfolding steady host_calls_wide
same_steady i k [] h w cw = rw (decode_encode h w)
same_steady i k (c ∷ cs) h w cw =
    let a = and_true (host_call_wide c) _ cw in
    rw (decode_encode h w, next_is h c w)
    (ap {B = Bool} (λ (b : Bool). steady_in k (controller_at h.plain i) && b) (same_steady i k cs (next h c) (next_keeps h c w a.0) a.1))

-- 3. Fairness ----------------------------------------------------------------------------------------------------------------------------------

-- fairness over the state of a well-formed hub
encoded_fair : (h : Hub) (i k : ℕ) (calls : List HostCall) → well_formed h ≡ true → host_calls_wide calls ≡ true
    → steady decode meaning stream_meaning i k (encode h) calls ≡ true
    → off_air k (moments decode meaning stream_meaning i (encode h) calls) ≡ true
    → seconds_passed decode meaning stream_meaning (encode h) calls
    < sum_of (longest (moments decode meaning stream_meaning i (encode h) calls)) (others k instances)
encoded_fair h i k calls w cw = rw (same_steady i k calls h w cw, same_moments i calls h w cw, same_passed calls h w cw) (fair h i k calls w cw)

-- FAIRNESS
pub fairness : Fairness
fairness s i k calls e = rw (state_back s e) (encoded_fair (decode s) i k calls (state_well s e))

-- IN TIME
pub in_time : InTime
in_time s i k calls e cw st le = go (off_air k (moments decode meaning stream_meaning i s calls)) refl
  where
    go : (b : Bool) → off_air k (moments decode meaning stream_meaning i s calls) ≡ b → b ≡ false
    go false o = refl
    go true o = absurd (omega (arith, fairness s i k calls e cw st o, le))
