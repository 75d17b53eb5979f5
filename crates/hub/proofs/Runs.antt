-- Demand 3 of every run of the exported functions: what a host reads of numbers and buffers is what the model answers, so a run is the model's list.
-- Assumes nothing.
use Prim.Native.Nat.{ℕ, ◌+◌, ◌*◌, ◌^◌, ◌≤◌, ◌<◌}
use native.Mathlib.Omega.{arith}
use mathlib.Core.Path.{◌≡◌, refl, sym, ap, subst, ◌∙◌}
use mathlib.Core.Bool.{true}
use mathlib.Core.List.{List, [], ◌∷◌, ◌++◌, map}
use lib.ListN.{length, drop, take, replicate, length-replicate}
use lib.Seq.{take-append_seam}
use lib.Dec.{ltb}
use borrow.Author.Tests.{leb-true, lt-ltb, ltb-true}
use Rattle.model.specs.Octets.{Octets, bytes}
use Rattle.model.specs.Lengths as Lengths
use Rattle.model.specs.State.{PlainHub}
use Rattle.model.specs.Hub.{Call, Outcome, Result, call, call_plain, keep, save_out, state_of, within}
use Rattle.model.specs.Hub as Hub
use Rattle.model.specs.Layout.{decode, encode, line_cleared}
use Rattle.model.specs.Stream.{HostCall, Streamed, direct, stream}
use Rattle.model.specs.WellFormed.{call_wide, host_call_wide, host_calls_wide}
use Rattle.model.specs.Meanings.{hub_clock, hub_command, hub_load, hub_plug, hub_report, hub_save, hub_stream, hub_unplug, bad_state, laid_out, meaning}
use Rattle.model.specs.Meanings.{state_ok, stream_meaning}
use Rattle.model.specs.Demand3.{HostEntry, entry, host_after, host_next, host_trace, lump, made}
use Rattle.model.specs.Cutting.{LumpTold, coming_in, finishes_packet, not_well, takes_all, too_small}
use Rattle.model.proofs.Theorems.{answers_are_seven, count_fits, demand_3, lump_is_told, no_lump_reply_longer}
use Rattle.model.proofs.Model.Tests.{and_true, both, either}
use Rattle.model.proofs.Model.Demand3.{state_back}
use Rattle.hub.specs.Entries.{Returns, ReturnsTaken}
use Rattle.hub.specs.Runs.{asks, CountsTrue, Demand3OfRuns, EveryListRuns, Run, Seen, Step, answer_in, count_in, ends, entry_by, entry_of, looks, names}
use Rattle.hub.specs.Runs.{octets_in, on_air, step, taken_in}
use Rattle.hub.specs.Runs as Runs
use Rattle.hub.proofs.Images.{load_seen, read_back_third}

-- 1. What a number says -------------------------------------------------------------------------------------------------------------------------

-- an answer of 0 to 8 and a count of 24 bits are read back from the number as they were put in
pub read_back : (r a n : ℕ) → r ≡ a + 256 * n → a ≤ 8 → n < 2 ^ 24 → (answer_in r ≡ a) × (count_in r ≡ n)
unfolding answer_in count_in
read_back r a n e k l = rw e (omega arith, omega arith)

-- what a host reads of a call is what the model answers
pub seen_is : (s : Octets) (c : Call) (r : ℕ) (before reply left : Octets) → Returns (meaning s c) r before reply left
    → (answer_in r ≡ (meaning s c).answer) × (count_in r ≡ length (meaning s c).octets) × (octets_in r reply ≡ (meaning s c).octets)
unfolding octets_in
seen_is s c r before reply left k =
    let b = read_back r (meaning s c).answer (length (meaning s c).octets) k.number (omega (arith, answers_are_seven s c)) (count_fits s c) in
    (b.0, b.1, rw (b.1, k.reply) (take-append_seam (meaning s c).octets (drop (length (meaning s c).octets) before)))

-- a lump is answered 9 at most
lump_answer : (s o : Octets) (room : ℕ) → bytes o ≡ true → (hub_stream s o room).result.answer ≤ 9
lump_answer s o room w = by (hub_stream s o room) (lump_is_told s o room w)
  where
    by : (r : Streamed Octets) → LumpTold s o room r → r.result.answer ≤ 9
    by r (not_well e) = omega arith
    by r (too_small e t) = omega arith
    by r (takes_all k) = omega arith
    by r (finishes_packet n z m k l) =
        let q : (hub_command (line_cleared s) (coming_in s ++ take n o) room).answer ≤ 2 = leb-true _ 2 l in omega arith

-- what a host reads of a lump is what the model answers
lump_seen : (s o : Octets) (r : ℕ) (before reply left : Octets) → bytes o ≡ true → ReturnsTaken (hub_stream s o (length before)) r before reply left
    → (answer_in r ≡ (hub_stream s o (length before)).result.answer) × (count_in r ≡ length (hub_stream s o (length before)).result.octets)
    × (taken_in r ≡ (hub_stream s o (length before)).taken) × (octets_in r reply ≡ (hub_stream s o (length before)).result.octets)
unfolding octets_in taken_in
lump_seen s o r before reply left w k =
    let m = hub_stream s o (length before) in
    let b = read_back_third r m.result.answer (length m.result.octets) m.taken k.number (omega (arith, lump_answer s o (length before) w))
    (omega (arith, no_lump_reply_longer s o (length before) w)) in
    (b.0, b.1, b.2, rw (b.1, k.reply) (take-append_seam m.result.octets (drop (length m.result.octets) before)))

-- 2. A step is a call of the model ----------------------------------------------------------------------------------------------------------------

-- what our hub tells a call or a lump, as an entry of its list
told : Octets → HostCall → HostEntry
told s (direct c) = made (entry c (meaning s c).answer (meaning s c).octets)
told s (stream room o) =
    lump room o (stream_meaning s room o).taken (stream_meaning s room o).result.answer (stream_meaning s room o).result.octets

-- what is known of a step: its arguments are wide enough, what is seen of it is the model's entry, and the state left is the model's
record StepOf (s : Octets) (c : HostCall) (r : ℕ) (reply left : Octets) : Type 0 where
  wide : host_call_wide c ≡ true
  seen : entry_by c r reply ≡ told s c
  count : count_in r ≡ length (octets_in r reply)
  state : left ≡ host_next meaning stream_meaning s c

-- a contract is such a step
step_by : (s : Octets) (c : Call) (r : ℕ) (before reply left : Octets) → call_wide c ≡ true → Returns (meaning s c) r before reply left
    → StepOf s (direct c) r reply left
unfolding host_call_wide entry_by told host_next
step_by s c r before reply left w k =
    let b = seen_is s c r before reply left k in
    record { wide = w; seen = rw (b.0, b.2); count = b.1 ∙ sym (ap (λ (o : Octets). length o) b.2); state = k.state }

-- so is that of a lump
step_by_lump : (s o : Octets) (r : ℕ) (before reply left : Octets) → bytes o ≡ true → ReturnsTaken (hub_stream s o (length before)) r before reply left
    → StepOf s (stream (length before) o) r reply left
unfolding host_call_wide entry_by told host_next hub_stream
step_by_lump s o r before reply left w k =
    let b = lump_seen s o r before reply left w k in
    record { wide = w; seen = rw (b.0, b.2, b.3); count = b.1 ∙ sym (ap (λ (x : Octets). length x) b.3); state = k.state }

-- each of the seven
step_of : (s : Octets) (c : HostCall) (r : ℕ) (reply left : Octets) → Step s c r reply left → StepOf s c r reply left
unfolding call_wide hub_command hub_report hub_clock hub_plug hub_unplug hub_save
step_of s c r reply left (Runs.command {before = b} w k) = step_by s _ r b reply left w k
step_of s c r reply left (Runs.report {before = b} k) = step_by s _ r b reply left refl k
step_of s c r reply left (Runs.clock {reading = t} {before = b} w k) = step_by s _ r b reply left (lt-ltb t (2 ^ 32) w) k
step_of s c r reply left (Runs.plug {before = b} w k) = step_by s _ r b reply left w k
step_of s c r reply left (Runs.unplug {before = b} k) = step_by s _ r b reply left refl k
step_of s c r reply left (Runs.save {before = b} k) = step_by s _ r b reply left refl k
step_of s c r reply left (Runs.stream {octets = o} {before = b} w k) = step_by_lump s o r b reply left w k

-- 3. A run is a list of calls of the model ------------------------------------------------------------------------------------------------------

-- the calls of a run
calls_of : List Seen → List HostCall
calls_of xs = map (λ (x : Seen). x.call) xs

-- the trace of a list, call by call
trace_more : (s : Octets) (c : HostCall) (cs : List HostCall)
    → host_trace meaning stream_meaning s (c ∷ cs) ≡ told s c ∷ host_trace meaning stream_meaning (host_next meaning stream_meaning s c) cs
unfolding host_trace host_next told
trace_more s (direct c) cs = refl
trace_more s (stream room o) cs = refl

-- what is known of a run: its calls are wide enough, what is seen of it is the model's trace, and it ends in the model's state
record RunOf (s : Octets) (xs : List Seen) (end : Octets) : Type 0 where
  wide : host_calls_wide (calls_of xs) ≡ true
  seen : map entry_of xs ≡ host_trace meaning stream_meaning s (calls_of xs)
  counts : CountsTrue xs
  state : end ≡ host_after meaning stream_meaning s (calls_of xs)

-- a step before a run
run_more : (s next end : Octets) (x : Seen) (xs : List Seen) → StepOf s x.call x.returned x.reply next → RunOf next xs end → RunOf s (x ∷ xs) end
unfolding calls_of host_calls_wide host_after entry_of CountsTrue
run_more s next end x xs a b = record {
  wide = both a.wide b.wide;
  seen = rw (trace_more s x.call (calls_of xs), a.seen, b.seen, a.state) refl;
  counts = (a.count, b.counts);
  state = rw (b.state, a.state) refl;
}

-- every run
run_of : (s end : Octets) (xs : List Seen) → Run s xs end → RunOf s xs end
unfolding calls_of host_calls_wide host_trace host_after CountsTrue
run_of s end xs ends = record { wide = refl; seen = refl; counts = tt; state = refl }
run_of s end xs (names index which r k more) = run_of s end xs more
run_of s end xs (on_air index r k more) = run_of s end xs more
run_of s end xs (asks packet r k more) = run_of s end xs more
run_of s end xs (looks index table key r k more) = run_of s end xs more
run_of s end (x ∷ xs) (step {next = n} k more) = run_more s n end x xs (step_of s x.call x.returned x.reply n k) (run_of n end xs more)

-- 4. Demand 3 -----------------------------------------------------------------------------------------------------------------------------------

-- DEMAND 3 OF EVERY RUN of the exported functions from a state that hub_load made
pub demand_3_of_runs : Demand3OfRuns
demand_3_of_runs buffer image s end r xs b l z run =
    let k = run_of s end xs run in
    let a : (hub_load buffer image).answer ≡ 0 = sym (load_seen buffer image r s l).0 ∙ z in
    let d = demand_3 buffer image (calls_of xs) b k.wide a in
    (k.counts, rw (k.seen, k.state, l.state) d)

-- 5. Runs are there -----------------------------------------------------------------------------------------------------------------------------

-- what a host would see of a call on a state, with a reply buffer that held b
seen_made : Octets → Call → Octets → Seen
seen_made s c b = record {
  call = direct c;
  returned = (meaning s c).answer + 256 * length (meaning s c).octets;
  reply = (meaning s c).octets ++ drop (length (meaning s c).octets) b;
}

-- that is what the contract of a function says
returns_made : (o : Result Octets) (b : Octets) → Returns o (o.answer + 256 * length o.octets) b (o.octets ++ drop (length o.octets) b) o.state
returns_made o b = record { number = refl; reply = refl; state = refl }

-- a call on a state, and its step
Made : Octets → HostCall → Type 0
Made s c = (x : Seen) × (x.call ≡ c) × Step s x.call x.returned x.reply (host_next meaning stream_meaning s c)

-- what holds for the length of every buffer holds for every number
by_room : (Q : ℕ → Type 0) (room : ℕ) → ((b : Octets) → Q (length b)) → Q room
by_room Q room f =
    let b : Octets = replicate room 0 in
    let e : length b ≡ room = length-replicate room 0 in
    subst Q e (f b)

-- save leaves the plain hub as it was
plain_same : (p : PlainHub) (room : ℕ) → state_of p (within Lengths.largest_image room (save_out p)) ≡ p
unfolding within state_of save_out
plain_same p room = either {A = Outcome} (λ o. state_of p o ≡ p) (ltb room Lengths.largest_image) (λ _. refl) (λ _. refl)

-- and so the state
save_same : (s : Octets) (room : ℕ) → (meaning s (Hub.save room)).state ≡ s
unfolding meaning laid_out bad_state call keep call_plain
save_same s room =
    either {A = Result Octets} (λ r. r.state ≡ s) (state_ok s)
    (λ t. ap (λ (p : PlainHub). encode (record { plain = p; open_commands = (decode s).open_commands; waiting = (decode s).waiting })) (plain_same (decode s).plain room)
    ∙ sym (state_back s t))
    (λ _. refl)

-- a save's step
save_made : (s b : Octets) → Made s (direct (Hub.save (length b)))
unfolding Made host_next hub_save seen_made
save_made s b =
    rw (save_same s (length b)) (
      seen_made s (Hub.save (length b)) b,
      refl,
      Runs.save {before = b}
          (record { number = refl; reply = refl; state = sym (save_same s (length b)) }),
    )

-- the step of every call
step_made : (s : Octets) (c : Call) → call_wide c ≡ true → Made s (direct c)
unfolding Made host_next call_wide hub_command hub_report hub_clock hub_plug hub_unplug seen_made
step_made s (Hub.command room packet) w =
    by_room (λ n. Made s (direct (Hub.command n packet))) room
    (λ b. (seen_made s (Hub.command (length b) packet) b, refl, Runs.command {before = b} w (returns_made (meaning s (Hub.command (length b) packet)) b)))
step_made s (Hub.report room i status) w =
    by_room (λ n. Made s (direct (Hub.report n i status))) room
    (λ b. (seen_made s (Hub.report (length b) i status) b, refl, Runs.report {before = b} (returns_made (meaning s (Hub.report (length b) i status)) b)))
step_made s (Hub.clock room reading) w =
    by_room (λ n. Made s (direct (Hub.clock n reading))) room
    (λ b. (
      seen_made s (Hub.clock (length b) reading) b,
      refl,
      Runs.clock {before = b} (ltb-true reading (2 ^ 32) w)
          (returns_made (meaning s (Hub.clock (length b) reading)) b),
    ))
step_made s (Hub.plug room i f) w =
    by_room (λ n. Made s (direct (Hub.plug n i f))) room
    (λ b. (seen_made s (Hub.plug (length b) i f) b, refl, Runs.plug {before = b} w (returns_made (meaning s (Hub.plug (length b) i f)) b)))
step_made s (Hub.unplug room i) w =
    by_room (λ n. Made s (direct (Hub.unplug n i))) room
    (λ b. (seen_made s (Hub.unplug (length b) i) b, refl, Runs.unplug {before = b} (returns_made (meaning s (Hub.unplug (length b) i)) b)))
step_made s (Hub.save room) w = by_room (λ n. Made s (direct (Hub.save n))) room (λ b. save_made s b)

-- the step of a lump
lump_made : (s : Octets) (room : ℕ) (o : Octets) → bytes o ≡ true → Made s (stream room o)
unfolding Made host_next hub_stream
lump_made s room o w =
    by_room (λ n. Made s (stream n o)) room
    (λ b. let m = hub_stream s o (length b) in (
      record {
        call = stream (length b) o;
        returned = m.result.answer + 256 * length m.result.octets + 2 ^ 32 * m.taken;
        reply = m.result.octets ++ drop (length m.result.octets) b;
      },
      refl,
      Runs.stream {before = b} w (record { number = refl; reply = refl; state = refl }),
    ))

-- that of either
next_made : (s : Octets) (c : HostCall) → host_call_wide c ≡ true → Made s c
unfolding host_call_wide
next_made s (direct c) w = step_made s c w
next_made s (stream room o) w = lump_made s room o w

-- EVERY LIST OF CALLS AND LUMPS HAS A RUN, on any octets as state
pub every_list_runs : EveryListRuns
unfolding host_calls_wide host_after Made
every_list_runs s [] w = ([], refl, ends)
every_list_runs s (c ∷ cs) w =
    let h = and_true (host_call_wide c) (host_calls_wide cs) w in
    let m = next_made s c h.0 in
    let r = every_list_runs (host_next meaning stream_meaning s c) cs h.1 in
    (m.0 ∷ r.0, rw (m.1, r.1), step m.2 r.2)
