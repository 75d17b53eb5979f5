-- A lump: the model's three ways in the form in which the code takes them, and the packet that the code puts together.
-- Assumes nothing.
use Prim.Native.Nat.{ℕ, ◌+◌, ◌-◌, ◌≤◌, ◌<◌, min}
use native.Mathlib.Omega.{arith}
use native.Mathlib.Nat.{add-zero}
use mathlib.Core.Path.{◌≡◌, refl, sym, ap, subst, ◌∙◌}
use mathlib.Core.Bool.{Bool, true, false}
use mathlib.Core.List.{[], ◌∷◌, ◌++◌, append_assoc, append-nil}
use lib.ListN.{length, get_or, take, drop, replicate, length-append, length-drop, length-replicate, take-append-drop, get_or-append}
use lib.Seq.{drop-append-le, length-take-le, take-append-le, take_at, take_all}
use lib.Dec.{leb, lit<, ltb}
use borrow.Author.Tests.{le-ltb, leb-false, leb-true, lt-ltb}
use Rattle.model.specs.Lengths as Lengths
use Rattle.model.specs.Octets.{Octets, bytes, u16}
use Rattle.model.specs.State.{Hub, Waiting, nothing_waits, with_waiting}
use Rattle.model.specs.Answers.{number_of}
use Rattle.model.specs.Hub.{Call, Result, call, command, code_of, index_of, packet_ok, answer_of, keep, no_room, octets_of, state_of}
use Rattle.model.specs.Stream.{Streamed, grown, kept_count, length_said, packet_in, stream_out, takes, waiting_at}
use Rattle.model.specs.Layout.{decode, encode, line_cleared}
use Rattle.model.specs.Meanings.{bad_state, hub_stream, laid_out, meaning, state_ok, stream_laid_out, stream_meaning}
use Rattle.model.proofs.Model.Demand3.{encode_ok, state_back, state_well}
use Rattle.model.proofs.Model.Keeps.{well_fit}
use Rattle.model.proofs.Model.Lump.{Step, acts, packet_in_lem, small, waiting_in, waits}
use Rattle.model.proofs.Model.OneLump.{cleared_call, line_cleared_lem, lump_step, taken_before, well_cleared}
use Rattle.model.proofs.Model.Tests.{either, no_way}
use Rattle.model.proofs.Model.WaitingOctets.{Short, bytes_append, count_head, count_whole, grown_is, kept_said, packet_said, represented, represented_octets, represented_short}
use Rattle.model.proofs.Model.WaitingOctets.{kept_count_lem, said_append, said_most, said_take, said_zeros, six_said, waiting_fit, waiting_of, whole_packet}
use Rattle.model.proofs.Model.Tables.{bytes_take}
use Rattle.model.specs.declared.Answer.{Answer}
use Rattle.model.specs.declared.Answer.TheVariants.{BadState, Incomplete, SmallBuffer}
use Rattle.octets.specs.Parts.{part, write_at}
use Rattle.octets.proofs.Parts.{length_write_at, write_front}
use Rattle.replies.specs.Answers.{Gives}
use Rattle.outcomes.specs.Outcomes.{any_command}
use Rattle.hub.specs.Entries.{LumpAnswer, Takes}
use Rattle.hub.proofs.Bridge.{command_done}

-- 1. What came in before ---------------------------------------------------------------------------------------------------------------------------

module _ (s : Octets) (ok : state_ok s ≡ true) where
  -- it is what waits
  waits_is : (decode s).waiting ≡ waiting_of (taken_before (decode s))
  waits_is = represented (decode s).waiting (well_fit (decode s) (state_well s ok)).waiting

  -- as many octets as were taken
  before_long : length (taken_before (decode s)) ≡ (decode s).waiting.taken
  unfolding waiting_of waiting_at
  before_long = sym (ap (λ (v : Waiting). v.taken) waits_is)

  -- they say the length that those kept say
  before_said : (p : Octets) → length_said ((decode s).waiting.kept ++ p) ≡ length_said (taken_before (decode s) ++ p)
  before_said p = ap (λ (v : Waiting). length_said (v.kept ++ p)) waits_is ∙ kept_said (taken_before (decode s)) p

  -- with more behind them they are what waits then
  before_grown : (p : Octets) → grown (decode s).waiting p ≡ waiting_of (taken_before (decode s) ++ p)
  before_grown p = ap (λ (v : Waiting). grown v p) waits_is ∙ grown_is (taken_before (decode s)) p

  -- less than a packet was taken
  pub still_short : (p : Octets) → (decode s).waiting.taken < length_said ((decode s).waiting.kept ++ p)
  still_short p = rw (before_said p, ← before_long) (go (leb 6 (length (taken_before (decode s)))) refl)
    where
      short : Short (taken_before (decode s))
      short = represented_short (decode s).waiting (well_fit (decode s) (state_well s ok)).waiting

      go : (b : Bool) → leb 6 (length (taken_before (decode s))) ≡ b → length (taken_before (decode s)) < length_said (taken_before (decode s) ++ p)
      go true t = rw (said_append (taken_before (decode s)) p (leb-true _ _ t)) short
      go false t = omega (arith, leb-false 6 (length (taken_before (decode s))) t, six_said (taken_before (decode s) ++ p))

-- a packet is as long as the octets behind it leave it said
packet_count : (a o : Octets) (n : ℕ) → n ≤ length o → packet_ok (a ++ take n o) ≡ true → length a + n ≡ length_said (a ++ o)
packet_count a o n m k =
    let e = packet_said (a ++ take n o) k in
    let l : length (a ++ take n o) ≡ length a + n = length-append a (take n o) ∙ omega (arith, length-take-le n o m) in
    let r : (a ++ take n o) ++ drop n o ≡ a ++ o = append_assoc a (take n o) (drop n o) ∙ ap (λ (x : Octets). a ++ x) (take-append-drop n o) in
    let q : length_said (a ++ o) ≡ length_said (a ++ take n o)
    = sym (ap length_said r) ∙ said_append (a ++ take n o) (drop n o) (omega (arith, six_said (a ++ take n o))) in
    omega arith

-- what a lump means on a well-formed state
stream_well : (s : Octets) → state_ok s ≡ true → (room : ℕ) (o : Octets) → hub_stream s o room ≡ stream_laid_out (stream_out (decode s) room o)
unfolding hub_stream stream_meaning
stream_well s ok room o = rw (ok, stream_meaning)

-- 2. The three ways ------------------------------------------------------------------------------------------------------------------------------------

module _ (s : Octets) (ok : state_ok s ≡ true) (room : ℕ) (big : Lengths.reply_buffer ≤ room) (o : Octets) (wo : bytes o ≡ true) where
  -- there is room
  no_small : {A : Type 0} → ltb room Lengths.reply_buffer ≡ true → A
  no_small t = no_way (sym t ∙ le-ltb room Lengths.reply_buffer big)

  -- short of the packet's end: all of it waits
  all_waits : (decode s).waiting.taken + length o < length_said ((decode s).waiting.kept ++ o)
      → hub_stream s o room ≡ record {
        taken = length o;
        result = record { answer = number_of Incomplete; octets = []; state = encode (with_waiting (decode s) (grown (decode s).waiting o)) };
      }
  unfolding stream_laid_out laid_out
  all_waits l = stream_well s ok room o ∙ by (stream_out (decode s) room o) (lump_step (decode s) (state_well s ok) room o wo)
    where
      by : (r : Streamed Hub) → Step (decode s) room (taken_before (decode s)) o r → stream_laid_out r ≡ record {
        taken = length o;
        result = record { answer = number_of Incomplete; octets = []; state = encode (with_waiting (decode s) (grown (decode s).waiting o)) };
      }
      by r (small t) = no_small t
      by r (waits k) = rw (before_grown s ok o) refl
      by r (acts n z m t k) =
          absurd (omega (arith, packet_count (taken_before (decode s)) o n m k, before_long s ok, before_said s ok o))

  -- up to its end: it is the command of what came in and these
  packet_done : (n : ℕ) → n ≤ length o → (decode s).waiting.taken + n ≡ length_said ((decode s).waiting.kept ++ o)
      → hub_stream s o room ≡ record { taken = n; result = meaning (line_cleared s) (command room (taken_before (decode s) ++ take n o)) }
  unfolding stream_laid_out
  packet_done n l e = stream_well s ok room o ∙ by (stream_out (decode s) room o) (lump_step (decode s) (state_well s ok) room o wo)
    where
      by : (r : Streamed Hub) → Step (decode s) room (taken_before (decode s)) o r
          → stream_laid_out r ≡ record { taken = n; result = meaning (line_cleared s) (command room (taken_before (decode s) ++ take n o)) }
      by r (small t) = no_small t
      by r (waits k) =
          absurd (omega (arith, l, e, before_long s ok, before_said s ok o, length-append (taken_before (decode s)) o))
      by r (acts m z h t k) =
          let q : m ≡ n = omega (arith, packet_count (taken_before (decode s)) o m h k, before_long s ok, before_said s ok o) in
          rw (cleared_call s (command room (taken_before (decode s) ++ take n o)) ok, q) refl

-- no octets
nothing : (x : Octets) → length x ≡ 0 → x ≡ []
nothing [] n = refl
nothing (y ∷ x) n = absurd (omega arith)

-- where none came in before, nothing waits
waiting_none : (s : Octets) → state_ok s ≡ true → taken_before (decode s) ≡ [] → nothing_waits ≡ (decode s).waiting
unfolding nothing_waits waiting_of waiting_at kept_count length_said u16
waiting_none s ok e = sym (waits_is s ok ∙ ap waiting_of e)

-- a hub with what waits in it
same_hub : (h : Hub) → encode (with_waiting h h.waiting) ≡ encode h
unfolding with_waiting
same_hub h = refl

-- the packet, with zeros for the octets that were not kept, is told what the packet is told
same_packet : (s : Octets) → state_ok s ≡ true → (room : ℕ) (o : Octets) → bytes o ≡ true → (n : ℕ) → n ≤ length o
    → (decode s).waiting.taken + n ≡ length_said ((decode s).waiting.kept ++ o)
    → meaning (line_cleared s) (command room (taken_before (decode s) ++ take n o))
    ≡ meaning (line_cleared s) (command room (packet_in (grown (decode s).waiting (take n o))))
same_packet s ok room o wo n l f =
    let a : Octets = taken_before (decode s) in
    let x : Octets = a ++ take n o in
    let w : bytes x ≡ true
    = bytes_append a (take n o) (represented_octets (decode s).waiting (well_fit (decode s) (state_well s ok)).waiting) (bytes_take n o wo) in
    let m : length x ≡ length a + n = length-append a (take n o) ∙ omega (arith, length-take-le n o l) in
    let r : x ++ drop n o ≡ a ++ o = append_assoc a (take n o) (drop n o) ∙ ap (λ (y : Octets). a ++ y) (take-append-drop n o) in
    let t : length x ≡ length_said (a ++ o) = omega (arith, before_long s ok, before_said s ok o) in
    let q : length_said (a ++ o) ≡ length_said x = sym (ap length_said r) ∙ said_append x (drop n o) (omega (arith, six_said (a ++ o))) in
    cleared_call s (command room x) ok
    ∙ ap (λ (v : Result Hub). laid_out (waiting_in nothing_waits v)) (sym (packet_in_lem (decode s) room x w (t ∙ q)))
    ∙ ap (λ (v : Waiting). laid_out (waiting_in nothing_waits (call (decode s) (command room (packet_in v))))) (sym (before_grown s ok (take n o)))
    ∙ sym (cleared_call s (command room (packet_in (grown (decode s).waiting (take n o)))) ok)

-- no more octets are taken than the longest packet has
out_most : (h : Hub) (room : ℕ) (o : Octets) → bytes h.waiting.kept ≡ true → bytes o ≡ true → (stream_out h room o).taken ≤ 65541
unfolding stream_out takes
out_most h room o wk wo =
    either {A = Streamed Hub} (λ r. r.taken ≤ 65541) (ltb room Lengths.reply_buffer) (λ _. omega arith)
    (λ _. omega (arith, said_most (h.waiting.kept ++ o) (bytes_append h.waiting.kept o wk wo)))

-- the same over the lent octets
pub lump_most : (s o : Octets) (room : ℕ) → bytes o ≡ true → (hub_stream s o room).taken ≤ 65541
unfolding hub_stream stream_meaning stream_laid_out
lump_most s o room wo =
    either {A = Streamed Octets} (λ r. r.taken ≤ 65541) (state_ok s)
    (λ ok. out_most (decode s) room o (waiting_fit (decode s).waiting (well_fit (decode s) (state_well s ok)).waiting).octets wo) (λ _. omega arith)

-- 3. What the code gives back ---------------------------------------------------------------------------------------------------------------------------

-- a state that is not well formed: 5, and nothing taken
pub takes_bad : (s o d : Octets) (room : ℕ) → state_ok s ≡ false → Takes (hub_stream s o room) (record { answer = BadState; taken = 0 }) d d s
unfolding hub_stream stream_meaning bad_state
takes_bad s o d room e = rw (e, stream_meaning) (record { taken = refl; gives = record { answer = refl; count = refl; reply = refl; state = refl } })

-- too short a reply buffer
small_out : (h : Hub) (room : ℕ) (o : Octets) → room < Lengths.reply_buffer → stream_out h room o ≡ record { taken = 0; result = keep h no_room }
unfolding stream_out
small_out h room o l = rw (lt-ltb room Lengths.reply_buffer l, stream_out)

-- it is 4, and nothing is taken
pub takes_small : (s o d : Octets) (room : ℕ) → state_ok s ≡ true → room < Lengths.reply_buffer
    → Takes (hub_stream s o room) (record { answer = SmallBuffer; taken = 0 }) d d s
unfolding stream_laid_out laid_out keep answer_of octets_of state_of
takes_small s o d room ok l =
    rw (stream_well s ok room o, small_out (decode s) room o l)
    (record { taken = refl; gives = record { answer = refl; count = refl; reply = refl; state = state_back s ok } })

module _ (s : Octets) (ok : state_ok s ≡ true) (room : ℕ) (big : Lengths.reply_buffer ≤ room) (o : Octets) (wo : bytes o ≡ true) (said : ℕ)
    (es : said ≡ length_said ((decode s).waiting.kept ++ o)) (t : ℕ) (et : t ≡ (decode s).waiting.taken) where
  -- no packet is finished: 9, and all taken
  pub takes_all_lem : (d s' : Octets) → length o < said - t
      → s' ≡ encode (with_waiting (decode s) (grown (decode s).waiting o))
      → Takes (hub_stream s o room) (record { answer = Incomplete; taken = length o }) d d s'
  takes_all_lem d s' l e =
      rw (all_waits s ok room big o wo (omega (arith, l, es, et)))
      (record { taken = refl; gives = record { answer = refl; count = refl; reply = refl; state = e } })

  -- a packet that lies whole in the lump
  pub takes_whole : (a : Answer) (d d' s' : Octets) → said - t ≤ length o → said - t ≡ said
      → Gives (meaning s (command room (take said o))) a d d' s' → Takes (hub_stream s o room) (record { answer = a; taken = said }) d d' s'
  takes_whole a d d' s' l e g =
      let z : (decode s).waiting.taken ≡ 0 = omega (arith, still_short s ok o, es, et) in
      let b : taken_before (decode s) ≡ [] = nothing (taken_before (decode s)) (before_long s ok ∙ z) in
      let c : line_cleared s ≡ s = line_cleared_lem s ok ∙ ap (λ (v : Waiting). encode (with_waiting (decode s) v)) (waiting_none s ok b) ∙ same_hub (decode s) ∙ sym (state_back s ok) in
      rw (packet_done s ok room big o wo said (omega arith) (omega (arith, es, z)), b, c) (record { taken = refl; gives = g })

  -- a packet whose last octets are in the lump
  pub takes_last : (n : ℕ) (a : Answer) (d d' s' : Octets) → n ≤ length o → n ≡ said - t
      → Gives (meaning (line_cleared s) (command room (packet_in (grown (decode s).waiting (take n o))))) a d d' s'
      → Takes (hub_stream s o room) (record { answer = a; taken = n }) d d' s'
  takes_last n a d d' s' l e g =
      let h = still_short s ok o in
      let f : (decode s).waiting.taken + n ≡ length_said ((decode s).waiting.kept ++ o) = omega (arith, es, et) in
      rw (packet_done s ok room big o wo n l f) (record { taken = refl; gives = rw (same_packet s ok room o wo n l f) g })

-- the octets up to the end of the packet say its length, and are as many as it wants
pub last_said : (s : Octets) → state_ok s ≡ true → (o : Octets) (said n : ℕ) → said ≡ length_said ((decode s).waiting.kept ++ o)
    → (decode s).waiting.taken + n ≡ said → n ≤ length o
    → (said ≡ length_said ((decode s).waiting.kept ++ take n o)) × ((decode s).waiting.taken + length (take n o) ≡ said)
last_said s ok o said n es en l =
    let a : Octets = taken_before (decode s) in
    let x : Octets = a ++ take n o in
    let k : length (take n o) ≡ n = length-take-le n o l in
    let r : x ++ drop n o ≡ a ++ o = append_assoc a (take n o) (drop n o) ∙ ap (λ (y : Octets). a ++ y) (take-append-drop n o) in
    let m : 6 ≤ length x = omega (arith, length-append a (take n o), before_long s ok, six_said ((decode s).waiting.kept ++ o)) in
    let q : length_said (a ++ o) ≡ length_said x = sym (ap length_said r) ∙ said_append x (drop n o) m in
    (es ∙ before_said s ok o ∙ q ∙ sym (before_said s ok (take n o)), omega arith)

-- a packet that lies whole in a lump, with nothing waiting, is one
pub whole_fine : (s : Octets) → state_ok s ≡ true → (o : Octets) (said : ℕ) → said ≡ length_said ((decode s).waiting.kept ++ o)
    → (decode s).waiting.taken ≡ 0 → said ≤ length o → packet_ok (take said o) ≡ true
whole_fine s ok o said es z l =
    let b : taken_before (decode s) ≡ [] = nothing (taken_before (decode s)) (before_long s ok ∙ z) in
    let e : length_said o ≡ said = sym (es ∙ before_said s ok o ∙ ap (λ (x : Octets). length_said (x ++ o)) b) in
    whole_packet (take said o) (length-take-le said o l ∙ sym (said_take said o (omega (arith, six_said o)) ∙ e))

-- 4. The packet that is put together ------------------------------------------------------------------------------------------------------------------------

-- a state with nothing waiting any more is well formed
pub cleared_ok : (s : Octets) → state_ok s ≡ true → state_ok (line_cleared s) ≡ true
cleared_ok s ok = rw (line_cleared_lem s ok) (encode_ok _ (well_cleared s ok))

-- the same of its octets under another name
pub cleared_is_ok : (s t : Octets) → state_ok s ≡ true → t ≡ line_cleared s → state_ok t ≡ true
cleared_is_ok s t ok e = rw e (cleared_ok s ok)

module _ (s : Octets) (ok : state_ok s ≡ true) (o : Octets) (said : ℕ) (es : said ≡ length_said ((decode s).waiting.kept ++ o))
    (et : (decode s).waiting.taken + length o ≡ said) where
  -- those kept and those of the lump
  all_octets : Octets
  all_octets = (decode s).waiting.kept ++ o

  -- what is kept of them
  pub kept_now : Octets
  kept_now = (grown (decode s).waiting o).kept

  -- as many as the length said tells
  now_is : kept_now ≡ take (kept_count said all_octets) all_octets
  unfolding kept_now all_octets grown waiting_at
  now_is = rw et refl

  -- how many were kept before
  then_long : kept_count (decode s).waiting.taken all_octets ≡ length (decode s).waiting.kept
  unfolding all_octets
  then_long = kept_count_lem (decode s).waiting (waiting_fit (decode s).waiting (well_fit (decode s) (state_well s ok)).waiting) o

  -- how many there are
  all_long : length all_octets ≡ length (decode s).waiting.kept + length o
  unfolding all_octets
  all_long = length-append (decode s).waiting.kept o

  -- of a packet that is not long all are kept
  whole_long : said ≤ Lengths.longest_kept → length kept_now ≡ said
  unfolding all_octets
  whole_long l =
      let c = count_whole said all_octets (rw (← es) l) in
      let b = count_whole (decode s).waiting.taken all_octets (rw (← es) l) in
      rw (now_is, c) (length-take-le said all_octets (omega (arith, all_long, then_long)))

  -- of a long one ten
  ten_long : Lengths.longest_kept < said → length kept_now ≡ Lengths.long_head
  unfolding all_octets
  ten_long l =
      let c = count_head said all_octets (rw (← es) l) in
      let b = count_head (decode s).waiting.taken all_octets (rw (← es) l) in
      let m : min 10 said ≡ 10 = omega arith in
      rw (now_is, c, m) (length-take-le 10 all_octets (omega (arith, all_long, then_long)))

  -- at least a header is kept, and no more than there is
  now_most : (6 ≤ kept_count said all_octets) × (length kept_now ≤ said)
  unfolding all_octets
  now_most = go (leb said Lengths.longest_kept) refl
    where
      go : (b : Bool) → leb said Lengths.longest_kept ≡ b → (6 ≤ kept_count said all_octets) × (length kept_now ≤ said)
      go true t =
          let l : said ≤ Lengths.longest_kept = leb-true said Lengths.longest_kept t in
          (omega (arith, count_whole said all_octets (rw (← es) l), six_said all_octets, es), omega (arith, whole_long l))
      go false t =
          let l : Lengths.longest_kept < said = leb-false said Lengths.longest_kept t in
          (omega (arith, count_head said all_octets (rw (← es) l)), omega (arith, ten_long l))

  -- the packet, with zeros for those that are not kept
  packet_is : packet_in (grown (decode s).waiting o) ≡ kept_now ++ replicate (said - length kept_now) 0
  unfolding packet_in grown waiting_at kept_now
  packet_is = rw et refl

  -- it is as long as it says
  pub packet_fine : packet_ok (packet_in (grown (decode s).waiting o)) ≡ true
  unfolding all_octets
  packet_fine =
      let z : Octets = replicate (said - length kept_now) 0 in
      let m : length (kept_now ++ z) ≡ said
      = length-append kept_now z ∙ omega (arith, length-replicate {A = ℕ} (said - length kept_now) 0, now_most.1) in
      let e : length_said (kept_now ++ z) ≡ said
      = said_zeros kept_now (said - length kept_now) ∙ ap length_said now_is ∙ said_take (kept_count said all_octets) all_octets now_most.0 ∙ sym es in
      rw packet_is (whole_packet (kept_now ++ z) (m ∙ sym e))

  -- a buffer of 1,160 octets with what is kept at its front
  module _ (z b : Octets) (eb : b ≡ write_at z 0 (grown (decode s).waiting o).kept) (lb : length b ≡ Lengths.longest_kept) where
    -- what is kept, and what the buffer held behind it
    buffer_is : length kept_now ≤ Lengths.longest_kept → b ≡ kept_now ++ drop (length kept_now) z
    unfolding kept_now
    buffer_is l =
        let n : length z ≡ Lengths.longest_kept = sym (length_write_at z 0 kept_now) ∙ sym (ap length eb) ∙ lb in
        eb ∙ write_front z kept_now (omega arith)

    -- THE PACKET, where all of it is kept: the front of the buffer
    pub packet_front : said ≤ Lengths.longest_kept → take said b ≡ packet_in (grown (decode s).waiting o)
    packet_front l =
        let n = whole_long l in
        let e : said - length kept_now ≡ 0 = omega arith in
        ap (take said) (buffer_is (omega arith)) ∙ take_at kept_now (drop (length kept_now) z) said n ∙ sym (packet_is ∙ rw (e, append-nil) refl)

    -- THE HEAD of a long packet: a number in it
    pub head_number : Lengths.longest_kept < said → (k : ℕ) → k + 1 < 10 → u16 b k ≡ u16 (packet_in (grown (decode s).waiting o)) k
    unfolding u16
    head_number l k h =
        let n = ten_long l in
        let a : (j : ℕ) → j < 10 → (y : Octets) → get_or (kept_now ++ y) j 0 ≡ get_or kept_now j 0 = λ j g y. get_or-append kept_now y 0 j (omega arith) in
        rw (
          buffer_is (omega arith),
          packet_is,
          a k (omega arith) (drop (length kept_now) z),
          a k (omega arith) (replicate (said - length kept_now) 0),
          a (k + 1) h (drop (length kept_now) z),
          a (k + 1) h (replicate (said - length kept_now) 0),
        ) refl

    -- the four octets of its parameters
    head_first : Lengths.longest_kept < said → take 4 (drop 6 b) ≡ drop 6 kept_now
    head_first l =
        let n = ten_long l in
        ap (λ (x : Octets). take 4 (drop 6 x)) (buffer_is (omega arith))
        ∙ ap (take 4) (drop-append-le 6 kept_now (drop (length kept_now) z) (omega arith))
        ∙ take_at (drop 6 kept_now) (drop (length kept_now) z) 4 (length-drop 6 kept_now ∙ omega arith)

    -- there are four
    pub head_four : Lengths.longest_kept < said → length (take 4 (drop 6 b)) ≡ 4
    head_four l = let n = ten_long l in ap length (head_first l) ∙ length-drop 6 kept_now ∙ omega arith

    -- and with zeros behind them they are the parameters
    pub head_params : Lengths.longest_kept < said
        → take 4 (drop 6 b) ++ replicate (said - 6 - 4) 0 ≡ drop 6 (packet_in (grown (decode s).waiting o))
    head_params l =
        let n = ten_long l in
        let e : said - 6 - 4 ≡ said - length kept_now = omega arith in
        rw (head_first l, e, packet_is) (sym (drop-append-le 6 kept_now (replicate (said - length kept_now) 0) (omega arith)))

    -- THE ANSWER to a packet that was kept
    pub kept_served : (t d d' s' : Octets) (room : ℕ) (a : Answer) → said ≤ Lengths.longest_kept → t ≡ line_cleared s
        → Gives (meaning t (command room (take said b))) a d d' s'
        → Gives (meaning (line_cleared s) (command room (packet_in (grown (decode s).waiting o)))) a d d' s'
    kept_served t d d' s' room a l et g = rw (et, packet_front l) at g

    -- it is a packet
    pub front_fine : said ≤ Lengths.longest_kept → packet_ok (take said b) ≡ true
    front_fine l = rw (packet_front l) packet_fine

    -- THE ANSWER to one that was too long to be kept
    pub long_served : (t d d' : Octets) (room index code : ℕ) (a : Answer) → Lengths.longest_kept < said → t ≡ line_cleared s
        → Lengths.reply_buffer ≤ room → code ≡ u16 b 0 → index ≡ u16 b 2
        → Gives (any_command t index code (take 4 (drop 6 b) ++ replicate (said - 6 - 4) 0)) a d d' t
        → Gives (meaning (line_cleared s) (command room (packet_in (grown (decode s).waiting o)))) a d d' t
    long_served t d d' room index code a l et big ec ei g =
        command_done (line_cleared s) (packet_in (grown (decode s).waiting o)) d d' t room index code a (cleared_ok s ok) big packet_fine
        (ec ∙ head_number l 0 (lit< tt)) (ei ∙ head_number l 2 (lit< tt)) (rw (head_params l) at (moved g))
      where
        moved : Gives (any_command t index code (take 4 (drop 6 b) ++ replicate (said - 6 - 4) 0)) a d d' t
            → Gives (any_command (line_cleared s) index code (take 4 (drop 6 b) ++ replicate (said - 6 - 4) 0)) a d d' t
        moved g = subst (λ (x : Octets). Gives (any_command x index code (take 4 (drop 6 b) ++ replicate (said - 6 - 4) 0)) a d d' t) et g
