-- One lump, to a hub and over the lent octets; and one call beside waiting octets.
use Rattle.std.specs.Prelude.{ℕ, ◌≤◌, ◌≡◌, refl, true, ◌++◌, length, drop, leb}
use Rattle.std.proofs.Math.Path.{sym, ap}
use Rattle.std.proofs.Common.{subst, ◌∙◌, lit≤}
use Rattle.std.proofs.Math.ListN.{take}
use Rattle.model.specs.Lengths as Lengths
use Rattle.model.specs.Octets.{Octets, bytes}
use Rattle.model.specs.State.{Hub, nothing_waits, with_waiting}
use Rattle.model.specs.Hub.{Call, Result, call, command}
use Rattle.model.specs.Stream.{HostCall, Streamed, direct, packet_in, stream, stream_out}
use Rattle.model.specs.WellFormed.{call_wide, host_call_wide, plain_ok, waiting_ok, well_formed}
use Rattle.model.specs.Layout.{decode, encode, line_cleared, waiting_part}
use Rattle.model.specs.Meanings.{bad_state, hub_command, hub_stream, laid_out, meaning, state_ok, stream_laid_out, stream_meaning}
use Rattle.model.specs.Demand3.{host_next}
use Rattle.model.specs.Cutting.{LeftAside, LumpTold, finishes_packet, not_well, takes_all, too_small}
use Rattle.model.proofs.Model.Demand3.{encode_ok, state_back, state_well}
use Rattle.model.proofs.Model.Keeps.{keeps_hub, same_hub, well_fit}
use Rattle.model.proofs.Model.Layout.{line_clears, waiting_tail}
use Rattle.model.proofs.Model.Line.{call_is, next_well, nothing_ok, well_waiting}
use Rattle.model.proofs.Model.Lump.{Step, acts, aside, packet_small, small, step, waiting_in, waits}
use Rattle.model.proofs.Model.Room.{not_save, room_state}
use Rattle.model.proofs.Model.Tables.{bytes_take}
use Rattle.model.proofs.Model.Tests.{either}
use Rattle.model.proofs.Model.WaitingOctets.{bytes_append, represented, represented_octets, represented_short, waiting_ok_lem, waiting_of}

-- 1. Calls beside waiting octets ------------------------------------------------------------------------------------------------------------------

-- a well-formed state with its waiting octets cleared
pub line_cleared_lem : (s : Octets) → state_ok s ≡ true → line_cleared s ≡ encode (with_waiting (decode s) nothing_waits)
line_cleared_lem s e = ap line_cleared (state_back s e) ∙ line_clears (decode s) (well_fit (decode s) (state_well s e)).plain

-- its hub is well formed without them
pub well_cleared : (s : Octets) → state_ok s ≡ true → well_formed (with_waiting (decode s) nothing_waits) ≡ true
well_cleared s e = well_waiting (decode s) nothing_waits (state_well s e) nothing_ok

-- a call with the waiting octets cleared
pub cleared_call : (s : Octets) (c : Call) → state_ok s ≡ true → meaning (line_cleared s) c ≡ laid_out (waiting_in nothing_waits (call (decode s) c))
cleared_call s c e = ap (λ (x : Octets). meaning x c) (line_cleared_lem s e) ∙ call_is (decode s) nothing_waits c (well_cleared s e)

-- the call itself
call_of : (s : Octets) (c : Call) → state_ok s ≡ true → meaning s c ≡ laid_out (call (decode s) c)
unfolding meaning
call_of s c e = rw (e, meaning)

-- a call leaves what waits
call_leaves : (h : Hub) (c : Call) → (call h c).state.waiting ≡ h.waiting
unfolding waiting_in with_waiting
call_leaves h c = ap (λ (r : Result Hub). r.state.waiting) (aside h h.waiting c)

-- WAITING OCTETS LIE ASIDE
pub left_aside : (s : Octets) (c : Call) → state_ok s ≡ true → call_wide c ≡ true → LeftAside s c
unfolding laid_out waiting_in
left_aside s c e w =
    let h : Hub = decode s in
    let p : plain_ok (call h c).state.plain ≡ true = (well_fit (call h c).state (keeps_hub h c (state_well s e) w)).plain in
    let t : drop Lengths.blocks_end (encode (call h c).state) ≡ drop Lengths.blocks_end (encode h)
    = waiting_tail (call h c).state p ∙ ap waiting_part (call_leaves h c) ∙ sym (waiting_tail h (well_fit h (state_well s e)).plain) in
    record {
      answer = rw (call_of s c e, cleared_call s c e);
      octets = rw (call_of s c e, cleared_call s c e);
      state = rw (call_of s c e, cleared_call s c e) (line_clears (call h c).state p);
      waiting = rw (call_of s c e) t ∙ ap (λ (o : Octets). drop Lengths.blocks_end o) (sym (state_back s e));
    }

-- a packet's reply has room
room_packet : (s packet : Octets) (room : ℕ) → length (hub_command s packet room).octets ≤ Lengths.reply_buffer
unfolding hub_command not_save
room_packet s packet room = room_state s (command room packet) refl

-- 2. One lump, to a hub -------------------------------------------------------------------------------------------------------------------------

-- octets that may have been taken before
abbrev pub taken_before : Hub → Octets
taken_before h = packet_in h.waiting

module _ (h : Hub) (e : well_formed h ≡ true) (room : ℕ) (o : Octets) (w : bytes o ≡ true) where
  -- what waits is well formed
  waits_well : waiting_ok h.waiting ≡ true
  waits_well = (well_fit h e).waiting

  -- it is what waits after those octets
  hub_is : with_waiting h (waiting_of (taken_before h)) ≡ h
  unfolding with_waiting
  hub_is = ap (with_waiting h) (sym (represented h.waiting waits_well))

  -- the lump comes to one of three things
  pub lump_step : Step h room (taken_before h) o (stream_out h room o)
  lump_step = subst (λ (g : Hub). Step h room (taken_before h) o (stream_out g room o)) hub_is
      (step h room (taken_before h) o (represented_octets h.waiting waits_well) w (represented_short h.waiting waits_well))

  -- a well-formed hub stays
  well_by : (r : Streamed Hub) → Step h room (taken_before h) o r → well_formed r.result.state ≡ true
  unfolding waiting_in call_wide
  well_by r (small t) = rw hub_is e
  well_by r (waits k) =
      well_waiting h _ e (waiting_ok_lem (taken_before h ++ o) (bytes_append (taken_before h) o (represented_octets h.waiting waits_well) w) k)
  well_by r (acts n z m t k) =
      next_well h (command room (taken_before h ++ take n o)) (well_waiting h nothing_waits e nothing_ok)
      (bytes_append (taken_before h) (take n o) (represented_octets h.waiting waits_well) (bytes_take n o w))

-- a call or a lump keeps a hub well formed
pub next_keeps : (h : Hub) (c : HostCall) → well_formed h ≡ true → host_call_wide c ≡ true → well_formed (host_next call stream_out h c) ≡ true
unfolding host_next host_call_wide
next_keeps h (direct c) e w = keeps_hub h c e w
next_keeps h (stream room o) e w = well_by h e room o w _ (lump_step h e room o w)

-- 3. One lump, to a lent state ------------------------------------------------------------------------------------------------------------------

module _ (s : Octets) (e : state_ok s ≡ true) (room : ℕ) (o : Octets) (w : bytes o ≡ true) where
  -- octets that may have been taken before
  abbrev before : Octets
  before = taken_before (decode s)

  -- the state as it was
  same_state : encode (with_waiting (decode s) (waiting_of before)) ≡ s
  same_state = ap encode (hub_is (decode s) (state_well s e) room o w) ∙ sym (state_back s e)

  -- by what it comes to: what is told
  told_by : (r : Streamed Hub) → Step (decode s) room before o r → LumpTold s o room (stream_laid_out r)
  unfolding stream_laid_out laid_out hub_command with_waiting waiting_in waiting_of
  told_by r (small t) = rw same_state (too_small e t)
  told_by r (waits k) = takes_all k
  told_by r (acts n z m t k) =
      let c = command room (before ++ take n o) in
      let q = cleared_call s c e in
      rw (← q) (finishes_packet n z m k (rw q (packet_small (decode s) room (before ++ take n o) t k)))

  -- refused or waiting, it changes the waiting octets alone
  refused_by : (r : Streamed Hub) → Step (decode s) room before o r → leb 2 r.result.answer ≡ true
      → line_cleared (encode r.result.state) ≡ line_cleared s
  unfolding waiting_in with_waiting
  refused_by r (small t) a = ap line_cleared same_state
  refused_by r (waits k) a =
      line_clears (with_waiting (decode s) (waiting_of (before ++ o))) (well_fit (decode s) (state_well s e)).plain ∙ sym (line_cleared_lem s e)
  refused_by r (acts n z m t k) a =
      let c : Call = command room (before ++ take n o) in
      let q : (call (decode s) c).state ≡ decode s = same_hub (decode s) c (state_well s e) a in
      rw q (line_clears (with_waiting (decode s) nothing_waits) (well_fit (decode s) (state_well s e)).plain ∙ sym (line_cleared_lem s e))

-- WHAT A LUMP IS TOLD, whatever is lent
pub lump_told : (s o : Octets) (room : ℕ) → bytes o ≡ true → LumpTold s o room (hub_stream s o room)
unfolding hub_stream stream_meaning bad_state
lump_told s o room w =
    either {A = Streamed Octets} (LumpTold s o room) (state_ok s)
    (λ e. told_by s e room o w _ (lump_step (decode s) (state_well s e) room o w)) (λ e. not_well e)

-- A LUMP KEEPS A WELL-FORMED STATE WELL FORMED
pub lump_keeps : (s o : Octets) (room : ℕ) → state_ok s ≡ true → bytes o ≡ true → state_ok (hub_stream s o room).result.state ≡ true
unfolding hub_stream stream_meaning stream_laid_out laid_out host_next host_call_wide
lump_keeps s o room e w = rw (e, stream_meaning) (encode_ok _ (next_keeps (decode s) (stream room o) (state_well s e) w))

-- A LUMP ANSWERED 2 OR MORE CHANGES THE WAITING OCTETS ALONE
pub lump_refused : (s o : Octets) (room : ℕ) → bytes o ≡ true → leb 2 (hub_stream s o room).result.answer ≡ true
    → line_cleared (hub_stream s o room).result.state ≡ line_cleared s
unfolding hub_stream stream_meaning stream_laid_out laid_out bad_state
lump_refused s o room w =
    either {A = Streamed Octets} (λ r. leb 2 r.result.answer ≡ true → line_cleared r.result.state ≡ line_cleared s) (state_ok s)
    (λ e. refused_by s e room o w _ (lump_step (decode s) (state_well s e) room o w)) (λ _ _. refl)

-- NO LUMP WRITES MORE THAN 1,024 OCTETS
pub lump_room : (s o : Octets) (room : ℕ) → bytes o ≡ true → length (hub_stream s o room).result.octets ≤ Lengths.reply_buffer
lump_room s o room w = by (hub_stream s o room) (lump_told s o room w)
  where
    by : (r : Streamed Octets) → LumpTold s o room r → length r.result.octets ≤ Lengths.reply_buffer
    by r (not_well e) = lit≤ tt
    by r (too_small e t) = lit≤ tt
    by r (takes_all k) = lit≤ tt
    by r (finishes_packet n z m k l) = room_packet (line_cleared s) _ room
