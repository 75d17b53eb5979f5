-- Demand 3 over the model's states. The proof opens the frame of a call, and no command's rule: rows may be added to the table with no change here.
use Rattle.std.specs.Prelude.{ℕ, Bool, set, eqb, ltb}
use Rattle.std.proofs.Common.{arith, ◌∙◌}
use Rattle.std.proofs.Math.Path.{◌≡◌, refl, sym, ap}
use Rattle.std.proofs.Math.Bool.{true, false}
use mathlib.Core.List.{List, [], ◌∷◌, ◌++◌}
use Rattle.std.proofs.Math.Option.{Option, none, some}
use Rattle.std.proofs.Math.ListN.{get_or}
use Rattle.model.specs.Lengths as Lengths
use Rattle.model.specs.Statuses as Statuses
use Rattle.model.specs.Events as Events
use Rattle.model.specs.Octets.{Octets, command_status, event, le16}
use Rattle.model.specs.State.{Controller, Hub, OpenCommand, PlainHub, controller_at, idle, with_controller}
use Rattle.model.specs.Hub.{Call, Outcome, Result, Verdict, answer_of, anyway, bad_argument, busy_or, call, call_plain, clock, clock_out, code_of}
use Rattle.model.specs.Hub.{command, command_out}
use Rattle.model.specs.Hub.{finish, index_of, keep, no_room, octets_of, outcome, owed_to, params_of, plain_call, plug, plug_out, report}
use Rattle.model.specs.Hub.{report_out, save, save_out, starts}
use Rattle.model.specs.Hub.{state_of, under_way, unless_busy, unplug, unplug_out, unplugged, verdict, with_open, within}
use Rattle.model.specs.Demand3.{Agrees, Left, Pending, Sorted, after, entry, kept, moved, no_pending, reduce, reply_owed, says_busy, sort, struck, trace}
use Rattle.model.proofs.Model.Tests.{either}
use Rattle.model.proofs.Model.Invariant.{Acted, Exclusive, Facts, Fits, Inv, Keeps, Ok, acts_now, clock_keeps, facts, held, inv_keep, inv_set}
use Rattle.model.proofs.Model.Invariant.{keeps_refl, open_of}
use Rattle.model.proofs.Model.Invariant.{moved_same, never_busy, never_one, plug_keeps, put_keeps_others, rests, start, waits}

-- 1. One call ---------------------------------------------------------------------------------------------------------------------------

-- a call is good if the at-once hub agrees on what is left of it, and the invariant holds afterwards
pub record Good (p : PlainHub) (r : (Result Hub)) (s : Sorted) : Type 0 where
  pub agrees : Agrees plain_call p s.left r.state.plain
  pub inv : Inv r.state s.pending

module _ (h : Hub) (k : Pending) (inv : Inv h k) where
  -- a call that leaves everything as it is, and is struck
  struck_good : (a : ℕ) (o : Octets) → Good h.plain (record { answer = a; octets = o; state = h }) (struck k)
  unfolding struck Agrees
  struck_good a o = record { agrees = refl; inv = inv }

  -- a call that both hubs answer alike
  kept_good : (c : Call) (o : Outcome) → call_plain h.plain c ≡ o
      → ((j : ℕ) (x : OpenCommand) → get_or h.open_commands j none ≡ some x → Keeps (controller_at h.plain j) (controller_at (state_of h.plain o) j))
      → Good h.plain (keep h o) (kept k c (answer_of o) (octets_of o))
  unfolding kept keep Agrees plain_call
  kept_good c o e keeps = record {
    agrees = (ap answer_of e, ap octets_of e, ap (state_of h.plain) e);
    inv = inv_keep h k (state_of h.plain o) inv keeps;
  }

  -- an outcome of the at-once hub is never struck as started or Busy
  sort_kept : (room : ℕ) (packet : Octets) (o : Outcome)
      → sort k (entry (command room packet) (answer_of o) (octets_of o)) ≡ kept k (command room packet) (answer_of o) (octets_of o)
  unfolding sort
  sort_kept room packet o = rw (never_one o, sort, never_busy o)

  -- a report of status 0 that was answered 0 brings the packet back
  sort_moved : (room i s : ℕ) (packet : Octets) (a : ℕ) (o : Octets) → a ≡ 0 → eqb s 0 ≡ true → get_or k i none ≡ some packet
      → sort k (entry (report room i s) a o) ≡ kept (set k i none) (command room packet) 0 o
  unfolding sort moved
  sort_moved room i s packet a o ea es ek = rw (ea, sort, es, ek)

  -- a settings command past the first checks
  busy_good : (room : ℕ) (packet : Octets) (o : Outcome) (w : Bool) → call_plain h.plain (command room packet) ≡ o → Exclusive h.plain packet o w
      → (x : Option OpenCommand) → get_or h.open_commands (index_of packet) none ≡ x
      → Good h.plain (busy_or h (index_of packet) (code_of packet) (params_of packet) o w x)
      (sort k (entry (command room packet) (busy_or h (index_of packet) (code_of packet) (params_of packet) o w x).answer
      (busy_or h (index_of packet) (code_of packet) (params_of packet) o w x).octets))
  unfolding busy_or open_of sort says_busy keep with_open command_status event le16 Agrees struck
  busy_good room packet o w e f (some x) ex = struck_good 2 (command_status (index_of packet) (code_of packet) Statuses.busy)
  busy_good room packet o true e f none ex = record {
    agrees = refl;
    inv = inv_set h k h.plain (index_of packet) (some (open_of packet)) (some packet) inv (held h.plain (index_of packet) f.controller f.here).four
        (rw f.here (waits (record { sized = f.sized; index = refl; fields = refl }) (f.waits refl)))
        (λ j ne. keeps_refl (controller_at h.plain j));
  }
  busy_good room packet o false e f none ex = rw (sort_kept room packet o) (kept_good (command room packet) o e keeps)
    where
      keeps : (j : ℕ) (x : OpenCommand) → get_or h.open_commands j none ≡ some x → Keeps (controller_at h.plain j) (controller_at (state_of h.plain o) j)
      keeps j x ej =
          f.others j (λ (s : j ≡ index_of packet). let e' : none ≡ some x = sym ex ∙ rw s at ej in let z : ◌≡◌ {A = ℕ} 0 1 = cc in absurd (omega arith))

  -- a command, by its verdict
  command_good : (room : ℕ) (packet : Octets) (v : Verdict) → verdict h.plain room packet ≡ v → Facts h.plain packet v
      → Good h.plain (command_out h (index_of packet) (code_of packet) (params_of packet) v (under_way h (index_of packet)))
      (sort k (entry (command room packet) (command_out h (index_of packet) (code_of packet) (params_of packet) v (under_way h (index_of packet))).answer
      (command_out h (index_of packet) (code_of packet) (params_of packet) v (under_way h (index_of packet))).octets))
  unfolding command_out Facts call_plain keep under_way outcome
  command_good room packet (anyway o) e f = rw (sort_kept room packet o) (kept_good (command room packet) o (ap outcome e) (λ j x _. f j))
  command_good room packet (unless_busy o w) e f = busy_good room packet o w (ap outcome e) f (get_or h.open_commands (index_of packet) none) refl

  -- a report that finishes the open command: the at-once hub does the moved command
  finish_good : (room i s : ℕ) (c : Controller) (o : OpenCommand) (packet : Octets) → ltb room Lengths.reply_buffer ≡ false → eqb s 0 ≡ true
      → controller_at h.plain i ≡ some c → get_or k i none ≡ some packet
      → Fits i o packet → starts c.radio o ≡ true
      → Good h.plain (keep (with_open h i none) (finish h.plain i o))
      (sort k (entry (report room i s) (answer_of (finish h.plain i o)) (octets_of (finish h.plain i o))))
  unfolding keep with_open kept Agrees plain_call
  finish_good room i s c o packet roomy es here ek f st = rw sorted (record {
    agrees = (ap answer_of alike ∙ done.zero, ap octets_of alike, ap (state_of h.plain) alike);
    inv = inv_set h k (state_of h.plain (finish h.plain i o)) i none none inv (held h.plain i c here).four rests done.others;
  })
    where
      done : Acted i h.plain (finish h.plain i o)
      done = acts_now h.plain i c o here st

      alike : call_plain h.plain (command room packet) ≡ finish h.plain i o
      alike = rw (f.index, f.fields) at (moved_same h.plain room packet c roomy f.sized (rw f.index here) (rw f.fields st))

      sorted : sort k (entry (report room i s) (answer_of (finish h.plain i o)) (octets_of (finish h.plain i o))) ≡ kept (set k i none)
          (command room packet) 0 (octets_of (finish h.plain i o))
      sorted = sort_moved room i s packet (answer_of (finish h.plain i o)) (octets_of (finish h.plain i o)) done.zero es ek

  -- a report that fails it
  fail_good : (room i s : ℕ) (c : Controller) (o : Octets) → eqb s 0 ≡ false → controller_at h.plain i ≡ some c
      → Good h.plain (record { answer = 0; octets = o; state = with_open h i none }) (sort k (entry (report room i s) 0 o))
  unfolding with_open struck Agrees sort
  fail_good room i s c o es here = rw (es, sort) (record {
    agrees = refl;
    inv = inv_set h k h.plain i none none inv (held h.plain i c here).four rests (λ j ne. keeps_refl (controller_at h.plain j));
  })

  -- a report, by what is under way
  report_good : (room i s : ℕ) → ltb room Lengths.reply_buffer ≡ false → (t : Option Controller) (x : Option OpenCommand) (y : Option Octets)
      → controller_at h.plain i ≡ t → get_or k i none ≡ y → Ok i t x y
      → Good h.plain (report_out h i s x) (sort k (entry (report room i s) (report_out h i s x).answer (report_out h i s x).octets))
  unfolding report_out keep sort struck state_of answer_of octets_of
  report_good room i s roomy t x y et ey rests = struck_good 6 []
  report_good room i s roomy t x y et ey (waits {c = c} {o = o} {packet = packet} f st) =
      either Fine (ltb Statuses.highest s) (λ _. struck_good 6 [])
      (λ _. either Fine (eqb s 0) (λ e. finish_good room i s c o packet roomy e et ey f st) (λ e. fail_good room i s c (command_status i o.code s) e et))
    where
      Fine : (Result Hub) → Type 0
      Fine r = Good h.plain r (sort k (entry (report room i s) r.answer r.octets))

  -- an unplug that cuts a command off writes the reply owed first
  owed_same : (i : ℕ) (t : Option Controller) (x : Option OpenCommand) (y : Option Octets) → Ok i t x y → reply_owed y ≡ owed_to i x
  unfolding reply_owed owed_to open_of
  owed_same i t x y rests = refl
  owed_same i t x y (waits {packet = packet} f st) = rw (f.index, ← f.fields)

  -- an unplug, by what is plugged in
  unplug_good : (room i : ℕ) (t : Option Controller) → controller_at h.plain i ≡ t → call_plain h.plain (unplug room i) ≡ unplug_out h.plain i t
      → Good h.plain (unplugged h i (unplug_out h.plain i t))
      (sort k (entry (unplug room i) (unplugged h i (unplug_out h.plain i t)).answer (unplugged h i (unplug_out h.plain i t)).octets))
  unfolding unplugged unplug_out sort keep answer_of octets_of state_of Agrees under_way plain_call
  unplug_good room i none et e = kept_good (unplug room i) bad_argument e (λ j x _. keeps_refl (controller_at h.plain j))
  unplug_good room i (some c) et e = record {
    agrees = (ap answer_of e, rw e (ap (λ (a : Octets). a ++ event Events.index_removed i []) (owed_same i _ _ _ (inv.ok i))), ap (state_of h.plain) e);
    inv = inv_set h k (with_controller h.plain i none) i none none inv (held h.plain i c et).four rests (put_keeps_others h.plain i none);
  }

  -- a call that ours answers as the at-once hub does
  alike_good : (c : Call) → ((j : ℕ) (x : OpenCommand) → get_or h.open_commands j none ≡ some x
      → Keeps (controller_at h.plain j) (controller_at (state_of h.plain (call_plain h.plain c)) j))
      → Good h.plain (keep h (call_plain h.plain c)) (kept k c (answer_of (call_plain h.plain c)) (octets_of (call_plain h.plain c)))
  alike_good c = kept_good c (call_plain h.plain c) refl

  -- an index with an open command holds a controller
  opened : (j : ℕ) (t : Option Controller) (x : Option OpenCommand) (y : Option Octets) → Ok j t x y → (o : OpenCommand) → x ≡ some o
      → (c : Controller) × (t ≡ some c)
  opened j t x y rests o e = let z : ◌≡◌ {A = ℕ} 0 1 = cc in absurd (omega arith)
  opened j t x y (waits {c = c} f st) o e = (c, refl)

  -- too small a reply buffer changes nothing
  within_keeps : (need room : ℕ) (o : Outcome) (j : ℕ) → Keeps (controller_at h.plain j) (controller_at (state_of h.plain o) j)
      → Keeps (controller_at h.plain j) (controller_at (state_of h.plain (within need room o)) j)
  unfolding within state_of
  within_keeps need room o j s =
      either (λ x. Keeps (controller_at h.plain j) (controller_at (state_of h.plain x) j)) (ltb room need)
      (λ _. keeps_refl (controller_at h.plain j)) (λ _. s)

  -- EVERY CALL IS GOOD
  pub step : (c : Call) → Good h.plain (call h c) (sort k (entry c (call h c).answer (call h c).octets))
  unfolding call call_plain sort keep struck under_way within unplugged answer_of octets_of state_of save_out
  step (command room packet) = command_good room packet (verdict h.plain room packet) refl (facts h.plain room packet)
  step (report room i s) =
      either (λ r. Good h.plain r (sort k (entry (report room i s) r.answer r.octets))) (ltb room Lengths.reply_buffer)
      (λ _. struck_good 4 [])
      (λ e. report_good room i s e (controller_at h.plain i) (get_or h.open_commands i none) (get_or k i none) refl refl (inv.ok i))
  step (clock room now) =
      alike_good (clock room now) (λ j x e. within_keeps Lengths.reply_buffer room (clock_out h.plain now) j (clock_keeps h.plain now j))
  step (plug room i f) =
      alike_good (plug room i f) (λ j x e.
      let o = opened j _ _ _ (inv.ok j) x e in
      within_keeps Lengths.reply_buffer room (plug_out h.plain i f (controller_at h.plain i)) j
      (plug_keeps h.plain i f (controller_at h.plain i) refl j o.0 o.1))
  step (unplug room i) =
      either (λ o. call_plain h.plain (unplug room i) ≡ o
      → Good h.plain (unplugged h i o) (sort k (entry (unplug room i) (unplugged h i o).answer (unplugged h i o).octets)))
      (ltb room Lengths.reply_buffer)
      (λ _ e. kept_good (unplug room i) no_room e (λ j x _. keeps_refl (controller_at h.plain j)))
      (λ _ e. unplug_good room i (controller_at h.plain i) refl e)
      refl
  step (save room) =
      alike_good (save room) (λ j x e. within_keeps Lengths.largest_image room (save_out h.plain) j
      (keeps_refl (controller_at h.plain j)))

-- 2. The list -----------------------------------------------------------------------------------------------------------------------------

-- agreement on one part of the list, then on the next
pub agrees_append : (p q r : PlainHub) (ls ms : List Left) → Agrees plain_call p ls q → Agrees plain_call q ms r → Agrees plain_call p (ls ++ ms) r
unfolding Agrees plain_call
agrees_append p q r [] ms a b = rw a b
agrees_append p q r (l ∷ ls) ms a b = (a.0, a.1, agrees_append (state_of p (call_plain p l.call)) q r ls ms a.2 b)

-- agreement on a whole list, from any hub with the invariant
pub run : (calls : List Call) (h : Hub) (k : Pending) → Inv h k → Agrees plain_call h.plain (reduce k (trace call h calls)) (after call h calls).plain
unfolding trace after reduce Agrees
run [] h k inv = refl
run (c ∷ cs) h k inv =
    let g = step h k inv c in
    let s = sort k (entry c (call h c).answer (call h c).octets) in
    agrees_append h.plain (call h c).state.plain (after call (call h c).state cs).plain s.left (reduce s.pending (trace call (call h c).state cs))
    g.agrees (run cs (call h c).state s.pending g.inv)

-- Demand 3 over the model's states, from every plain hub
pub demand3_model : (p : PlainHub) (calls : List Call) → Agrees plain_call p (reduce no_pending (trace call (idle p) calls)) (after call (idle p) calls).plain
unfolding idle
demand3_model p calls = run calls (idle p) no_pending (start p)
