-- The clock: from what its steps leave to what the model says of it, over plain values.
-- Assumes nothing.
use mathlib.Core.Path.{◌≡◌, refl, sym, ◌∙◌}
use Prim.Native.Nat.{ℕ, suc, ◌+◌, ◌-◌, ◌≤◌, ◌<◌}
use native.Mathlib.Omega.{arith}
use native.Mathlib.Nat.{zero-add}
use mathlib.Core.Bool.{Bool, true, false}
use mathlib.Core.List.{List, [], ◌∷◌, ◌++◌, map, append-nil, append_assoc}
use mathlib.Core.Option.{Option, none, some}
use lib.ListN.{length, get_or, length-append}
use lib.Seq.{set-get_or}
use borrow.Author.Tests.{le-leb, lt-leb}
use Rattle.model.specs.Events as Events
use Rattle.model.specs.Lengths as Lengths
use Rattle.model.specs.declared.Timer.{Timer}
use Rattle.model.specs.declared.Schedule.{Schedule}
use Rattle.model.specs.declared.Settings.{Settings}
use Rattle.model.specs.Advertising.{advertising_removed, instances, removed_of, rescheduled, seconds}
use Rattle.model.specs.Octets.{Octets, le32, event}
use Rattle.model.specs.State.{Controller, Hub, OpenCommand, PlainHub, current_settings, settings_of, with_advertising, with_controller, with_host, with_schedule, Waiting}
use Rattle.model.specs.State.{with_timer}
use Rattle.model.specs.Hub.{finished, bad_argument, clock_out, countdown, ends, step_of, tick, tick_events, tick_slot}
use Rattle.model.specs.Layout.{controllers_in, decode, encode}
use Rattle.model.specs.Meanings.{state_ok}
use Rattle.model.specs.WellFormed.{controller_ok, open_ok}
use Rattle.model.proofs.Model.Advertising.{advertising_fit, none_removed, rescheduled_same}
use Rattle.model.proofs.Model.Demand3.{state_long}
use Rattle.octets.specs.Parts.{write_at}
use Rattle.layout.specs.Places.{Ready, controller_of, open_at, present_at, put_controller, with_clock}
use Rattle.layout.proofs.Advertising.{advertising_fine}
use Rattle.layout.proofs.Reading.{absent_slot, present_slot}
use Rattle.layout.proofs.Change.{controller_fine}
use Rattle.layout.proofs.Kept.{controller_decoded, controller_ready, host_fine}
use Rattle.rules.specs.Effects.{settings_timer, with_settings, with_turns}
use Rattle.rules.proofs.Ties.{tick_only}
use Rattle.turns.specs.Walk.{Sound}
use Rattle.turns.proofs.Seconds.{seconds_rest}
use Rattle.turns.proofs.Sound.{sound_of}
use Rattle.replies.specs.Answers.{Gives}
use Rattle.model.specs.declared.Answer.{Answer}
use Rattle.model.specs.declared.Answer.TheVariants.{Done, BadArgument}
use Rattle.replies.proofs.Laws.{length_new_settings, then}
use Rattle.outcomes.specs.Outcomes.{ended}
use Rattle.outcomes.proofs.Endings.{ends_done}
use Rattle.calls.specs.Ticks.{Ticked, end_event, tick_event, ticked_at}
use Rattle.calls.proofs.Plugs.{bad_argument_lem}
use Rattle.model.proofs.Model.Stays.{tick_ok}

-- 1. One index ------------------------------------------------------------------------------------------------------------------------------------

-- a write of no octets leaves the reply as it was
nothing_written : (d : Octets) (at : ℕ) → d ≡ write_at d at []
unfolding write_at
nothing_written d at = refl

-- a schedule that stays tells of no instance
none_gone : (i : ℕ) (t : Schedule) → removed_of i t t instances ≡ []
unfolding advertising_removed
none_gone i t = none_removed i (record { schedule = t; adv_data = []; scan_rsp = [] })

-- nothing stands there
pub tick_absent : (s : Octets) (step i place : ℕ) (d : Octets) → state_ok s ≡ true → i < 4 → present_at s i ≡ false → Ticked s step i place place d d s
unfolding ticked_at tick_slot tick_event with_controller
tick_absent s step i place d ok l e =
    let a : get_or (decode s).plain.controllers i none ≡ none = absent_slot s i l e in
    record {
      hub = rw (a, tick_slot) (rw (← a, set-get_or));
      ok = ok;
      long = state_long s ok;
      far = omega arith;
      count = rw (a, tick_event) (omega arith);
      reply = rw (a, tick_event) (nothing_written d place);
    }

-- the schedule at a present index keeps its rules
pub sound : (s : Octets) (i : ℕ) → Ready s i → (was : Schedule) → was ≡ (controller_of s i).host.advertising.schedule → Sound was
sound s i g was es = rw es (sound_of _ _ (controller_of s i).host.advertising.schedule (advertising_fit _ _ _ (advertising_fine s i g)).schedule)

-- New Settings is 10 octets long
pub end_told : (i : ℕ) (m : Settings) (b : Bool) (w place : ℕ) (d d' : Octets) → b ≡ true → w ≡ current_settings m
    → d' ≡ write_at d place (event Events.new_settings i (le32 w))
    → (place + 10 ≤ place + 10) × (place + 10 ≡ place + length (end_event b i m)) × (d' ≡ write_at d place (end_event b i m))
unfolding end_event
end_told i m b w place d d' e ew wr =
    let l = length_new_settings i (current_settings m) in
    rw e (omega arith, omega arith, rw (← ew) wr)

-- a timer that runs on, or none, is not told
pub end_untold : (i : ℕ) (m : Settings) (b : Bool) (place : ℕ) (d : Octets) → b ≡ false
    → (place ≤ place + 10) × (place ≡ place + length (end_event b i m)) × (d ≡ write_at d place (end_event b i m))
unfolding end_event
end_untold i m b place d e = rw e (omega arith, omega arith, nothing_written d place)

-- a timer that does not run is left as it is
still : (step : ℕ) (t : Timer) → t.seconds ≡ 0 → countdown step t ≡ t
unfolding countdown ends
still step t e =
    let n : t.seconds - step ≡ t.seconds = omega arith in
    rw (e, countdown, ← e, n)

-- and ends with no step
no_end : (step : ℕ) (t : Timer) → t.seconds ≡ 0 → ends step t ≡ false
unfolding ends
no_end step t e = rw e

-- a controller that no timer runs for, and that the step leaves as it is, owes no event
nothing_due : (step i : ℕ) (c : Controller) → c.host.settings.timer.seconds ≡ 0 → tick step c ≡ c → tick_event step i (some c) ≡ []
unfolding tick_event end_event
nothing_due step i c n x = rw (no_end step c.host.settings.timer n, end_event, x, none_removed i c.host.advertising)

-- the settings that are there anyway
settings_same : (c : Controller) → with_settings c (settings_timer (settings_of c) c.host.settings.timer) ≡ c
unfolding with_settings settings_timer settings_of
settings_same c = refl

module _ (s : Octets) (step i place : ℕ) (g : Ready s i) (m : Settings) (em : m ≡ settings_of (controller_of s i)) where
  -- the timer that was read is the controller's
  timer_is : m.host.timer ≡ (controller_of s i).host.settings.timer
  unfolding settings_of
  timer_is = rw em

  -- where none is on air, only the timer is counted down
  rests : (controller_of s i).host.advertising.schedule.on_air ≡ 0
      → with_settings (controller_of s i) (settings_timer (settings_of (controller_of s i)) (countdown step (controller_of s i).host.settings.timer))
      ≡ tick step (controller_of s i)
  unfolding with_turns with_settings with_host with_schedule with_advertising
  rests z =
      let a = (controller_of s i).host.advertising in
      let q : rescheduled a (seconds step a.schedule) ≡ a = rw (seconds_rest step a.schedule z) (rescheduled_same _ _ a (advertising_fine s i g)) in
      sym (tick_only step (controller_of s i) ∙ rw q)

  -- none is on air and no timer runs: nothing changes, and nothing is due
  pub tick_still : (d : Octets) → (controller_of s i).host.advertising.schedule.on_air ≡ 0 → m.host.timer.seconds ≡ 0 → Ticked s step i place place d d s
  unfolding ticked_at tick_slot with_controller
  tick_still d z e =
      let c = controller_of s i in
      let n : c.host.settings.timer.seconds ≡ 0 = rw (← timer_is) e in
      let x : tick step c ≡ c = sym (rests z) ∙ rw (still step c.host.settings.timer n) (settings_same c) in
      let a : get_or (decode s).plain.controllers i none ≡ some c = present_slot s i g.here in
      record {
        hub = rw (a, tick_slot, x) (rw (← a, set-get_or));
        ok = g.ok;
        long = g.long;
        far = omega arith;
        count = rw (a, nothing_due step i c n x) (omega arith);
        reply = rw (a, nothing_due step i c n x) (nothing_written d place);
      }

module _ (s : Octets) (step i place : ℕ) (g : Ready s i) (m k : Settings)
    (em : m ≡ settings_of (controller_of s i)) (ek : k ≡ settings_timer m (countdown step m.host.timer)) where
  -- the settings with the timer counted down are those of the controller ticked
  settings_are : k ≡ settings_of (tick step (controller_of s i))
  unfolding settings_of settings_timer tick with_host with_timer with_schedule with_advertising
  settings_are = ek ∙ rw em

  -- what is due, of what was read
  event_is : (was : Schedule) → was ≡ (controller_of s i).host.advertising.schedule
      → tick_event step i (some (controller_of s i)) ≡ end_event (ends step m.host.timer) i k ++ removed_of i was (seconds step was) instances
  unfolding tick_event tick with_host with_schedule with_advertising rescheduled advertising_removed
  event_is was es = rw (timer_is s step i place g m em, settings_are, es)

  -- the controller ticked, of what was read
  ticked_is : (was : Schedule) → was ≡ (controller_of s i).host.advertising.schedule
      → with_turns (with_settings (controller_of s i) k) (seconds step was) ≡ tick step (controller_of s i)
  unfolding settings_of
  ticked_is was es = rw (ek, em, es, tick_only step (controller_of s i))

  -- the ticked controller is valid
  fine : controller_ok (tick step (controller_of s i)) ≡ true
  fine = tick_ok step (controller_of s i) (controller_fine s i g)

  -- and the open command at its index, if there is one, would still be started
  beside : open_ok (some (tick step (controller_of s i))) (open_at s i) ≡ true
  unfolding tick
  beside = host_fine s i g _

  module _ (s' : Octets) (put : s' ≡ encode (put_controller (decode s) i (tick step (controller_of s i)))) where
    -- the state written means the hub with the controller at index i ticked
    hub_is : decode s' ≡ ticked_at step i (decode s)
    unfolding ticked_at tick_slot put_controller
    hub_is = rw (put, controller_decoded s i g (tick step (controller_of s i)) fine beside, present_slot s i g.here)

    -- it is well formed, and index i is present in it
    well : Ready s' i
    well = rw put (controller_ready s i g (tick step (controller_of s i)) fine beside)

    -- with what is due written
    ticked : (r : ℕ) (o d d' : Octets) → tick_event step i (some (controller_of s i)) ≡ o → r ≡ place + length o → r ≤ place + 45 → d' ≡ write_at d place o
        → Ticked s step i place r d d' s'
    ticked r o d d' x n f w = record {
      hub = hub_is;
      ok = well.ok;
      long = well.long;
      far = f;
      count = rw (present_slot s i g.here, x) n;
      reply = rw (present_slot s i g.here, x) w;
    }

  -- none is on air: only the timer may end
  pub tick_rests : (s' d d' : Octets) (r : ℕ) → (controller_of s i).host.advertising.schedule.on_air ≡ 0
      → s' ≡ encode (put_controller (decode s) i (with_settings (controller_of s i) k))
      → (r ≤ place + 10) × (r ≡ place + length (end_event (ends step m.host.timer) i k))
      × (d' ≡ write_at d place (end_event (ends step m.host.timer) i k)) → Ticked s step i place r d d' s'
  unfolding settings_of
  tick_rests s' d d' r z put w =
      let t = (controller_of s i).host.advertising.schedule in
      let o = end_event (ends step m.host.timer) i k in
      let x : o ++ removed_of i t (seconds step t) instances ≡ o = rw (seconds_rest step t z, none_gone i t, append-nil) in
      let y : with_settings (controller_of s i) k ≡ tick step (controller_of s i) = rw (ek, em) (rests s step i place g m em z) in
      let l = w.0 in
      ticked s' (put ∙ rw y) r o d d' (event_is t refl ∙ x) w.1 (omega arith) w.2

  -- one is on air: the seconds pass, and instances may go
  pub tick_turned : (was : Schedule) (s' d d₁ d' : Octets) (next : Schedule) (q r : ℕ) → was ≡ (controller_of s i).host.advertising.schedule
      → next ≡ seconds step was → s' ≡ encode (put_controller (decode s) i (with_turns (with_settings (controller_of s i) k) next))
      → (q ≤ place + 10) × (q ≡ place + length (end_event (ends step m.host.timer) i k))
      × (d₁ ≡ write_at d place (end_event (ends step m.host.timer) i k))
      → (length (removed_of i was next instances) ≤ 35) × (r ≡ q + length (removed_of i was next instances))
      × (d' ≡ write_at d₁ q (removed_of i was next instances))
      → Ticked s step i place r d d' s'
  tick_turned was s' d d₁ d' next q r es en put w v =
      let o = end_event (ends step m.host.timer) i k in
      let p = removed_of i was next instances in
      let f = w.0 in
      let n = w.1 in
      let h = v.0 in
      let e = v.1 in
      let l = length-append o p in
      let x : d' ≡ write_at d place (o ++ p) = v.2 ∙ rw w.2 (then d place o p q (sym n)) in
      ticked s' (put ∙ rw (en, ticked_is was es)) r (o ++ p) d d' (event_is was es ∙ rw en) (omega arith) (omega arith) x

-- 2. All four -------------------------------------------------------------------------------------------------------------------------------------

-- the model answers 6 where the step is at least half the clock's range (01, What a call answers)
out_late : (p : PlainHub) (reading : ℕ) → 2147483648 ≤ step_of p.clock reading → clock_out p reading ≡ bad_argument
unfolding clock_out
out_late p reading h = rw (le-leb 2147483648 (step_of p.clock reading) h, clock_out)

-- a smaller step is done: the events that are due, every timer counted down, and the new reading
out_done : (p : PlainHub) (reading : ℕ) → step_of p.clock reading < 2147483648
    → clock_out p reading ≡ finished (tick_events (step_of p.clock reading) 0 p.controllers)
    (record { clock = reading; controllers = map (tick_slot (step_of p.clock reading)) p.controllers })
unfolding clock_out
out_done p reading h = rw (lt-leb 2147483648 (step_of p.clock reading) h, clock_out)

-- over the lent state: a step so long is refused
pub clock_late : (s : Octets) (last step reading : ℕ) (d : Octets) (r : Answer) → state_ok s ≡ true → last ≡ (decode s).plain.clock
    → step ≡ step_of last reading → 2147483648 ≤ step → r ≡ BadArgument
    → Gives (ended s (clock_out (decode s).plain reading)) r d d s
clock_late s last step reading d r ok el es h n =
    let e : step ≡ step_of (decode s).plain.clock reading = es ∙ rw el in
    bad_argument_lem s d (clock_out (decode s).plain reading) r ok (out_late (decode s).plain reading (omega arith)) n

-- the events, index after index
events_step : (step i : ℕ) (x : Option Controller) (cs : List (Option Controller))
    → tick_events step i (x ∷ cs) ≡ tick_event step i x ++ tick_events step (suc i) cs
unfolding tick_events tick_event end_event
events_step step i none cs = refl
events_step step i (some c) cs =
    sym
    (append_assoc (end_event (ends step c.host.settings.timer) i (settings_of (tick step c)))
    (advertising_removed i c.host.advertising (tick step c).host.advertising) (tick_events step (suc i) cs))

-- so those of four indexes stand one behind the other, ascending
events_four : (step : ℕ) (w x y z : Option Controller)
    → tick_events step 0 (w ∷ x ∷ y ∷ z ∷ []) ≡ ((tick_event step 0 w ++ tick_event step 1 x) ++ tick_event step 2 y) ++ tick_event step 3 z
unfolding tick_events
events_four step w x y z =
    rw (events_step step 0 w (x ∷ y ∷ z ∷ []), events_step step 1 x (y ∷ z ∷ []), events_step step 2 y (z ∷ []), events_step step 3 z [], append-nil)
    (simp append_assoc)

-- a hub by its parts
abbrev hub_of : ℕ → List (Option Controller) → List (Option OpenCommand) → Waiting → Hub
hub_of v cs os q = record { plain = record { clock = v; controllers = cs }; open_commands = os; waiting = q }

-- over any hub of four
module _ (step v : ℕ) (u : ℕ) (w x y z : Option Controller) (os : List (Option OpenCommand)) (q : Waiting) (s s₁ s₂ s₃ s₄ s₅ d d₁ d₂ d₃ d₄ : Octets) (a b c e : ℕ)
    (h : decode s ≡ hub_of u (w ∷ x ∷ y ∷ z ∷ []) os q)
    (t₀ : Ticked s step 0 0 a d d₁ s₁) (t₁ : Ticked s₁ step 1 a b d₁ d₂ s₂) (t₂ : Ticked s₂ step 2 b c d₂ d₃ s₃) (t₃ : Ticked s₃ step 3 c e d₃ d₄ s₄)
    (put : s₅ ≡ encode (with_clock (decode s₄) v)) where
  -- the hub when index 0 is counted down
  h₁ : decode s₁ ≡ hub_of u (tick_slot step w ∷ x ∷ y ∷ z ∷ []) os q
  unfolding ticked_at with_controller
  h₁ = t₀.hub ∙ rw h

  -- the same, and index 1
  h₂ : decode s₂ ≡ hub_of u (tick_slot step w ∷ tick_slot step x ∷ y ∷ z ∷ []) os q
  unfolding ticked_at with_controller
  h₂ = t₁.hub ∙ rw h₁

  -- the same, and index 2
  h₃ : decode s₃ ≡ hub_of u (tick_slot step w ∷ tick_slot step x ∷ tick_slot step y ∷ z ∷ []) os q
  unfolding ticked_at with_controller
  h₃ = t₂.hub ∙ rw h₂

  -- the same, and index 3: all four slots are ticked
  h₄ : decode s₄ ≡ hub_of u (map (tick_slot step) (w ∷ x ∷ y ∷ z ∷ [])) os q
  unfolding ticked_at with_controller
  h₄ = t₃.hub ∙ rw h₃

  -- with the new reading put in, the state is that of the model's hub
  pub state_four : s₅ ≡ encode (hub_of v (map (tick_slot step) (w ∷ x ∷ y ∷ z ∷ [])) os q)
  unfolding with_clock
  state_four = put ∙ rw h₄

  -- the place in the reply behind the event of index 0
  ea : a ≡ length (tick_event step 0 w)
  ea = (rw h at t₀.count) ∙ rw zero-add

  -- the same, behind that of index 1
  eb : b ≡ length (tick_event step 0 w ++ tick_event step 1 x)
  eb = (rw h₁ at t₁.count) ∙ rw (ea, length-append)

  -- the same, behind that of index 2
  ec : c ≡ length ((tick_event step 0 w ++ tick_event step 1 x) ++ tick_event step 2 y)
  ec = (rw h₂ at t₂.count) ∙ rw (eb, length-append (tick_event step 0 w ++ tick_event step 1 x) (tick_event step 2 y))

  -- the place behind the last event is the count of octets of all of them
  pub count_four : e ≡ length (tick_events step 0 (w ∷ x ∷ y ∷ z ∷ []))
  count_four =
      (rw h₃ at t₃.count) ∙ rw (
        ec,
        events_four step w x y z,
        length-append ((tick_event step 0 w ++ tick_event step 1 x) ++ tick_event step 2 y)
            (tick_event step 3 z),
      )

  -- the reply begins with the events of all four indexes, ascending
  pub reply_four : d₄ ≡ write_at d 0 (tick_events step 0 (w ∷ x ∷ y ∷ z ∷ []))
  reply_four =
      let x₁ : d₁ ≡ write_at d 0 (tick_event step 0 w) = rw h at t₀.reply in
      let x₂ : d₂ ≡ write_at d 0 (tick_event step 0 w ++ tick_event step 1 x) = (rw h₁ at t₁.reply)
      ∙ rw x₁ (then d 0 (tick_event step 0 w) (tick_event step 1 x) a (rw (zero-add, ea))) in
      let x₃ : d₃ ≡ write_at d 0 ((tick_event step 0 w ++ tick_event step 1 x) ++ tick_event step 2 y) =
      (rw h₂ at t₂.reply) ∙ rw x₂ (then d 0 (tick_event step 0 w ++ tick_event step 1 x) (tick_event step 2 y) b (rw (zero-add, eb))) in
      let x₄ : d₄ ≡ write_at d 0 (((tick_event step 0 w ++ tick_event step 1 x) ++ tick_event step 2 y) ++ tick_event step 3 z) =
      (rw h₃ at t₃.reply) ∙ rw x₃ (then d 0 ((tick_event step 0 w ++ tick_event step 1 x) ++ tick_event step 2 y) (tick_event step 3 z) c (rw (zero-add, ec))) in
      rw (events_four step w x y z) x₄

-- a decoded state has four slots
pub clock_done : (s s₁ s₂ s₃ s₄ s₅ d d₁ d₂ d₃ d₄ : Octets) (last step reading a b c e : ℕ) (r : Answer) → Lengths.reply_buffer ≤ length d
    → last ≡ (decode s).plain.clock → step ≡ step_of last reading → step < 2147483648
    → Ticked s step 0 0 a d d₁ s₁ → Ticked s₁ step 1 a b d₁ d₂ s₂ → Ticked s₂ step 2 b c d₂ d₃ s₃ → Ticked s₃ step 3 c e d₃ d₄ s₄
    → s₅ ≡ encode (with_clock (decode s₄) reading) → r ≡ Done e
    → Gives (ended s (clock_out (decode s).plain reading)) r d d₄ s₅
unfolding decode controllers_in
clock_done s s₁ s₂ s₃ s₄ s₅ d d₁ d₂ d₃ d₄ last step reading a b c e r big el es l t₀ t₁ t₂ t₃ put n =
    let q : step ≡ step_of (decode s).plain.clock reading = es ∙ rw el in
    let f₀ = t₀.far in
    let f₁ = t₁.far in
    let f₂ = t₂.far in
    let f₃ = t₃.far in
    let o = out_done (decode s).plain reading (rw (← q) l) in
    rw (o, ← q)
    (ends_done s (tick_events step 0 (decode s).plain.controllers)
    (record { clock = reading; controllers = map (tick_slot step) (decode s).plain.controllers }) e d d₄ s₅ r n
    (sym (count_four step reading _ _ _ _ _ _ _ s s₁ s₂ s₃ s₄ s₅ d d₁ d₂ d₃ d₄ a b c e refl t₀ t₁ t₂ t₃ put)) (omega arith)
    (reply_four step reading _ _ _ _ _ _ _ s s₁ s₂ s₃ s₄ s₅ d d₁ d₂ d₃ d₄ a b c e refl t₀ t₁ t₂ t₃ put)
    (state_four step reading _ _ _ _ _ _ _ s s₁ s₂ s₃ s₄ s₅ d d₁ d₂ d₃ d₄ a b c e refl t₀ t₁ t₂ t₃ put))
