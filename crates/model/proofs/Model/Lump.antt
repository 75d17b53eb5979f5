-- A lump: no call looks at the waiting octets, and a lump comes to one of three things: no room, all of it waits, or a packet is complete and is the
-- command call of that packet.
use Rattle.std.specs.Prelude.{ℕ, ◌-◌, ◌<◌, ◌≤◌, min, ◌≡◌, Bool, [], ◌++◌, length, take, replicate, eqb, leb, ltb}
use Rattle.std.proofs.Common.{arith, ap, ◌∙◌, append-nil, length-append, take_all, take_at, length-take-le, leb-true, leb-false}
use Rattle.std.proofs.Math.Path.{refl}
use Rattle.std.proofs.Math.Bool.{true, false}
use Rattle.std.proofs.Math.Option.{Option, none, some}
use Rattle.std.proofs.lemmas.List.{length-replicate}
use Rattle.model.specs.Lengths as Lengths
use Rattle.model.specs.Statuses as Statuses
use Rattle.model.specs.Octets.{Octets, bytes}
use Rattle.model.specs.State.{Controller, Hub, OpenCommand, PlainHub, Waiting, controller_at, nothing_waits, with_waiting}
use Rattle.model.specs.Reasons.{Reason, first_of}
use Rattle.model.specs.Rules.{Immediate, RadioRule, Rule, act, done, general, immediate, radio, refuse}
use Rattle.model.specs.Commands.{rule}
use Rattle.model.specs.Hub.{Call, Outcome, Result, Verdict, acted, answer_of, anyway, bad_argument, bad_packet, busy_or, by_rule, call}
use Rattle.model.specs.Hub.{call_plain, clock, code_of, command, command_out}
use Rattle.model.specs.Hub.{finished, general_out, immediate_at, immediate_done, index_of, keep, no_room, octets_of, outcome, packet_ok, params_of}
use Rattle.model.specs.Hub.{plug, radio_after_busy, radio_at}
use Rattle.model.specs.Hub.{radio_before_busy, refused, report, report_out, save, state_of, under_way, unless_busy, unplug, unplugged, verdict, with_open}
use Rattle.model.specs.Stream.{Streamed, complete, length_said, packet_in, stream_out, taken_in, takes, waiting_at}
use Rattle.model.proofs.Model.Long.{long_call, verdict_rule}
use Rattle.model.proofs.Model.Tables.{bytes_take}
use Rattle.model.proofs.Model.WaitingOctets.{Kept, Short, all, bytes_append, bytes_zeros, grown_is, kept_of_lem, kept_said, said_kept, ten, took_all}
use Rattle.model.proofs.Model.WaitingOctets.{took_some, took_whole, waiting_of, whole_packet}
use Rattle.model.proofs.Model.Tests.{branch, either}

-- 1. Waiting octets lie aside ------------------------------------------------------------------------------------------------------------------

-- a result with other waiting octets
unfoldable pub waiting_in : Waiting → Result Hub → Result Hub
waiting_in w r = record { answer = r.answer; octets = r.octets; state = with_waiting r.state w }

module _ (h : Hub) (w : Waiting) where
  -- a settings command past the first checks
  busy_aside : (i code : ℕ) (ps : Octets) (o : Outcome) (b : Bool) (x : Option OpenCommand)
      → busy_or (with_waiting h w) i code ps o b x ≡ waiting_in w (busy_or h i code ps o b x)
  unfolding busy_or with_waiting waiting_in keep with_open
  busy_aside i code ps o b (some x) = refl
  busy_aside i code ps o true none = refl
  busy_aside i code ps o false none = refl

  -- a command
  command_aside : (i code : ℕ) (ps : Octets) (v : Verdict) (x : Option OpenCommand)
      → command_out (with_waiting h w) i code ps v x ≡ waiting_in w (command_out h i code ps v x)
  unfolding command_out with_waiting waiting_in keep
  command_aside i code ps (anyway o) x = refl
  command_aside i code ps (unless_busy o b) x = busy_aside i code ps o b x

  -- a report
  report_aside : (i s : ℕ) (x : Option OpenCommand) → report_out (with_waiting h w) i s x ≡ waiting_in w (report_out h i s x)
  unfolding report_out with_waiting waiting_in keep with_open
  report_aside i s none = refl
  report_aside i s (some o) = branch (waiting_in w) (ltb Statuses.highest s) refl (branch (waiting_in w) (eqb s 0) refl refl)

  -- an unplug
  unplug_aside : (i : ℕ) (o : Outcome) → unplugged (with_waiting h w) i o ≡ waiting_in w (unplugged h i o)
  unfolding unplugged with_waiting waiting_in keep under_way
  unplug_aside i (finished o p) = refl
  unplug_aside i (refused f r) = refl
  unplug_aside i bad_packet = refl
  unplug_aside i no_room = refl
  unplug_aside i bad_argument = refl

  -- NO CALL LOOKS AT THE WAITING OCTETS, and every call leaves them
  pub aside : (c : Call) → call (with_waiting h w) c ≡ waiting_in w (call h c)
  unfolding call with_waiting waiting_in keep under_way
  aside (command room packet) =
      command_aside (index_of packet) (code_of packet) (params_of packet) (verdict h.plain room packet) (under_way h (index_of packet))
  aside (report room i s) = branch (waiting_in w) (ltb room Lengths.reply_buffer) refl (report_aside i s (under_way h i))
  aside (clock room now) = refl
  aside (plug room i f) = refl
  aside (unplug room i) = unplug_aside i (call_plain h.plain (unplug room i))
  aside (save room) = refl

-- 2. A packet is answered 0, 1 or 2 -------------------------------------------------------------------------------------------------------------

-- done, or refused with a status
Small : Outcome → Type 0
Small o = leb (answer_of o) 2 ≡ true

-- a settings command past the checks before Busy
after_small : (p : PlainHub) (i code : ℕ) (ps : Octets) (r : RadioRule) (c : Controller) (x : Option Reason)
    → Small (outcome (radio_after_busy p i code ps r c x))
unfolding Small outcome radio_after_busy acted answer_of
after_small p i code ps r c (some x) = refl
after_small p i code ps r c none = refl

-- a settings command
before_small : (p : PlainHub) (i code : ℕ) (ps : Octets) (r : RadioRule) (c : Controller) (x : Option Reason)
    → Small (outcome (radio_before_busy p i code ps r c x))
unfolding Small outcome radio_before_busy answer_of
before_small p i code ps r c (some x) = refl
before_small p i code ps r c none = after_small p i code ps r c (first_of (r.after_busy c.radio ps))

-- a command that is never Busy
immediate_small : (p : PlainHub) (i code : ℕ) (ps : Octets) (a : Bool) (c : Controller) (q : Immediate) → Small (immediate_done p i code ps a c q)
unfolding Small immediate_done answer_of
immediate_small p i code ps a c (refuse r) = refl
immediate_small p i code ps a c (done out evs host) = refl

-- a command, by its rule and its controller
rule_small : (p : PlainHub) (i code : ℕ) (ps : Octets) (u : Option Rule) (s : Option Controller) → controller_at p i ≡ s → Small (outcome (by_rule p i code ps u))
unfolding Small outcome by_rule general_out immediate_at radio_at answer_of
rule_small p i code ps none s e = refl
rule_small p i code ps (some (general f)) s e = either Small (eqb i 0xFFFF) (λ _. either Small (eqb (length ps) 0) (λ _. refl) (λ _. refl)) (λ _. refl)
rule_small p i code ps (some (immediate q)) none e = rw e refl
rule_small p i code ps (some (immediate q)) (some c) e = rw e (either Small (q.size ps) (λ _. immediate_small p i code ps q.by_address c (act q i c ps)) (λ _. refl))
rule_small p i code ps (some (radio r)) none e = rw e refl
rule_small p i code ps (some (radio r)) (some c) e =
    rw e (either (λ v. Small (outcome v)) (eqb (length ps) r.size) (λ _. before_small p i code ps r c (first_of (r.before_busy c.radio ps))) (λ _. refl))

-- our hub, by the verdict
answer_small : (h : Hub) (i code : ℕ) (ps : Octets) (v : Verdict) (x : Option OpenCommand) → Small (outcome v)
    → leb (command_out h i code ps v x).answer 2 ≡ true
unfolding Small command_out outcome keep busy_or
answer_small h i code ps (anyway o) x e = e
answer_small h i code ps (unless_busy o b) (some x) e = refl
answer_small h i code ps (unless_busy o true) none e = refl
answer_small h i code ps (unless_busy o false) none e = e

-- with room, our hub answers a packet with 0, 1 or 2
pub packet_small : (h : Hub) (room : ℕ) (packet : Octets) → ltb room Lengths.reply_buffer ≡ false → packet_ok packet ≡ true
    → leb (call h (command room packet)).answer 2 ≡ true
unfolding call
packet_small h room packet r e =
    answer_small h (index_of packet) (code_of packet) (params_of packet) (verdict h.plain room packet) (under_way h (index_of packet))
    (rw (verdict_rule h.plain room packet r e)
    (rule_small h.plain (index_of packet) (code_of packet) (params_of packet) (rule (code_of packet)) (controller_at h.plain (index_of packet)) refl))

-- 3. What a lump comes to -----------------------------------------------------------------------------------------------------------------------

-- the packet that waited is told what the whole packet is told
pub packet_in_lem : (h : Hub) (room : ℕ) (a : Octets) → bytes a ≡ true → length a ≡ length_said a
    → call h (command room (packet_in (waiting_of a))) ≡ call h (command room a)
unfolding packet_in waiting_of waiting_at
packet_in_lem h room a w e = by (waiting_of a).kept (kept_of_lem a)
  where
    by : (k : Octets) → Kept a k → call h (command room (k ++ replicate (length a - length k) 0)) ≡ call h (command room a)
    by k all = let n : length a - length a ≡ 0 = omega arith in rw (n, append-nil)
    by k (ten m l) =
        let n : length (take 10 a) ≡ 10 = length-take-le 10 a m in
        let z : Octets = replicate (length a - length (take 10 a)) 0 in
        let f : length (take 10 a ++ z) ≡ length a = length-append (take 10 a) z ∙ omega (arith, length-replicate {A = ℕ} (length a - length (take 10 a)) 0) in
        long_call h room (take 10 a ++ z) a (record {
          long = omega arith;
          size = f;
          ten = take_at (take 10 a) z 10 n;
          octets = (bytes_zeros (take 10 a) (length a - length (take 10 a)) (bytes_take 10 a w), w);
        })

-- what a lump comes to where these octets were taken before
pub data Step (g : Hub) (room : ℕ) (before o : Octets) : Streamed Hub → Type 0 where
  -- answer 4: nothing is taken
  small : ltb room Lengths.reply_buffer ≡ true
      → Step g room before o (record { taken = 0; result = record { answer = 4; octets = []; state = with_waiting g (waiting_of before) } })
  -- answer 9: all of it waits
  waits : Short (before ++ o)
      → Step g room before o (record { taken = length o; result = record { answer = 9; octets = []; state = with_waiting g (waiting_of (before ++ o)) } })
  -- a packet is complete with n octets of the lump: it is told what our hub tells it, and nothing waits any more
  acts : (n : ℕ) → 0 < n → n ≤ length o → ltb room Lengths.reply_buffer ≡ false → packet_ok (before ++ take n o) ≡ true
      → Step g room before o (record { taken = n; result = waiting_in nothing_waits (call g (command room (before ++ take n o))) })

-- a lump that was taken whole and finishes nothing waits
all_waits : (g : Hub) (room : ℕ) (before o : Octets) (n : ℕ) (x : Octets) → n ≡ length o → x ≡ o → Short (before ++ x)
    → Step g room before o (record { taken = n; result = record { answer = 9; octets = []; state = with_waiting g (waiting_of (before ++ x)) } })
all_waits g room before o n x en ex h = rw (en, ex) (waits (rw ex at h))

-- with room, by the number of octets taken
step_taken : (g : Hub) (room : ℕ) (before o : Octets) (n : ℕ) → bytes (before ++ take n o) ≡ true
    → n ≡ min (length o) (length_said (before ++ o) - length before) → Short before → ltb room Lengths.reply_buffer ≡ false
    → Step g room before o (record { taken = n; result = taken_in (with_waiting g (waiting_of before)) room (waiting_of (before ++ take n o)) })
unfolding taken_in with_waiting complete waiting_of waiting_at
step_taken g room before o n w en short r =
    either {A = Result Hub} (λ x. Step g room before o (record { taken = n; result = x })) (complete (waiting_of a)) (λ t. done (length_is t)) (λ t. more (is_short t))
  where
    a : Octets
    a = before ++ take n o

    length_is : complete (waiting_of a) ≡ true → length a ≡ length_said a
    length_is t = took_whole before o n en short (rw (said_kept a) at (leb-true (length_said (waiting_of a).kept) (length a) t))

    is_short : complete (waiting_of a) ≡ false → Short a
    is_short t = rw (said_kept a) at (leb-false (length_said (waiting_of a).kept) (length a) t)

    done : length a ≡ length_said a
        → Step g room before o (record { taken = n; result = call (with_waiting g nothing_waits) (command room (packet_in (waiting_of a))) })
    done e = rw (packet_in_lem (with_waiting g nothing_waits) room a w e, aside g nothing_waits (command room a)) (acts n (took_some before o n en short (omega arith)) (omega arith) r (whole_packet a e))

    more : Short a → Step g room before o (record { taken = n; result = record { answer = 9; octets = []; state = with_waiting g (waiting_of a) } })
    more h = let e : n ≡ length o = took_all before o n en short h in all_waits g room before o n (take n o) e (take_all n o (omega arith)) h

-- how many octets are taken goes by all that were taken before
takes_is : (before o : Octets) → takes (waiting_of before) o ≡ min (length o) (length_said (before ++ o) - length before)
unfolding takes waiting_of waiting_at
takes_is before o = ap (λ (n : ℕ). min (length o) (n - length before)) (kept_said before o)

-- it is one of these
pub step : (g : Hub) (room : ℕ) (before o : Octets) → bytes before ≡ true → bytes o ≡ true → Short before
    → Step g room before o (stream_out (with_waiting g (waiting_of before)) room o)
unfolding stream_out with_waiting keep answer_of octets_of state_of
step g room before o wb wo short =
    let n : ℕ = min (length o) (length_said (before ++ o) - length before) in
    let w : bytes (before ++ take n o) ≡ true = bytes_append before (take n o) wb (bytes_take n o wo) in
    either {A = Streamed Hub} (Step g room before o) (ltb room Lengths.reply_buffer) (λ t. small t)
    (λ t. rw (takes_is before o, grown_is before (take n o)) (step_taken g room before o n w refl short t))
