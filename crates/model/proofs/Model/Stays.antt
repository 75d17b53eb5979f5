-- Well formed stays well formed: after any list of calls from a well-formed state with nothing under way.
use Prim.Native.Nat.{ℕ, zero, suc, ◌-◌, ◌^◌, ◌<◌}
use Rattle.std.proofs.Common.{arith, sym, ◌∙◌, length-set, ltb→lt}
use Rattle.std.specs.Prelude.{◌≡◌, Bool, ◌&&◌, ◌||◌, not, length, get_or, drop, set, leb, ltb}
use Rattle.std.proofs.Math.Path.{refl}
use Rattle.std.proofs.Math.Bool.{true, false}
use mathlib.Core.List.{List, [], ◌∷◌, ◌++◌, map}
use Rattle.std.proofs.Math.Option.{Option, none, some}
use Rattle.std.proofs.lemmas.List.{length-map}
use Rattle.std.proofs.Math.Dec.{eqb}
use Rattle.model.specs.Lengths as Lengths
use Rattle.model.specs.Statuses as Statuses
use Rattle.model.specs.Octets.{Octets, all_zero, bytes, octet}
use Rattle.model.specs.Advertising.{seconds}
use Rattle.model.specs.State.{Controller, Hardware, Hub, OpenCommand, PlainHub, Timer, bredr_supported, controller_at, hardware_ok, idle}
use Rattle.model.specs.State.{no_tables, no_timer, plugged, short_name_ends, static_address_ok, with_advertising, with_controller, with_host}
use Rattle.model.specs.State.{le_supported, name_ends, with_schedule, with_timer}
use Rattle.model.specs.Reasons.{Reason, first_of, passes}
use Rattle.model.specs.Tables.{distinct, empty, entries, every, records_ok, support_ok, table_rules}
use Rattle.model.specs.Rules.{Immediate, Rule, done, general, immediate, radio, refuse, act}
use Rattle.model.specs.Commands.{rule}
use Rattle.model.specs.Image.{name_ok}
use Rattle.model.specs.Hub.{Call, Outcome, Result, Verdict, acted, anyway, bad_argument, bad_packet, busy_or, by_rule, call, call_plain, clock}
use Rattle.model.specs.Hub.{clock_out, code_of, keep, no_room, starts, starts_by, state_of}
use Rattle.model.specs.Hub.{command, command_out, countdown, ends, finish, finish_by, finished, general_out, immediate_at, immediate_done, index_of}
use Rattle.model.specs.Hub.{outcome, packet_ok, plug, plug_out, radio_after_busy, radio_at, radio_before_busy, refused, report, report_out, save, save_out}
use Rattle.model.specs.Hub.{step_of, tick, tick_slot, under_way, unless_busy, unplug, unplug_out, unplugged, verdict, with_open, within}
use Rattle.model.specs.WellFormed.{addressed, call_wide, calls_wide, controller_ok, hardware_wide, open_ok, opens_ok, plain_ok, settings_fit, slot_is_ok}
use Rattle.model.specs.WellFormed.{slots_ok, table_ok, tables_ok, timer_ok, well_formed}
use Rattle.model.specs.Demand3.{Left, Pending, Sorted, after, entry, kept, moved, no_pending, reduce, says_busy, sort, struck, trace}
use Rattle.model.proofs.Model.Advertising.{advertising_fit, no_advertising_ok, rescheduled_ok}
use Rattle.model.proofs.Model.Schedule.{seconds_ok}
use Rattle.model.proofs.Model.Commute.{step}
use Rattle.model.proofs.Model.Invariant.{Fits, Inv, Ok, nothing_none, open_of, rests, start, waits}
use Rattle.model.proofs.Model.Parts.{ControllerFit, Widths, controller_fit, fit_controller, fit_radio, fit_widths, widths_fit}
use Rattle.model.proofs.Model.Rows.{ImmediateOk, Keeps, KeepsImmediate, rule_keeps}
use Rattle.model.proofs.Model.SettingsRows.{KeepsRadio}
use Rattle.model.proofs.Model.Tables.{bytes_drop, lt_true}
use Rattle.model.proofs.Model.Tests.{and_true, both, either, equal, not_or, or_not, or_true}

-- 1. The controllers ------------------------------------------------------------------------------------------------------------------------------

-- a well-formed controller, or none, put at an index
pub slots_set : (l : List (Option Controller)) (i : ℕ) (x : Option Controller) → slots_ok l ≡ true → slot_is_ok x ≡ true → slots_ok (set l i x) ≡ true
unfolding slots_ok
slots_set [] i x e n = refl
slots_set (s ∷ l) zero x e n = both n (and_true (slot_is_ok s) _ e).1
slots_set (s ∷ l) (suc i) x e n = let h = and_true (slot_is_ok s) _ e in both h.0 (slots_set l i x h.1 n)

-- what stands at an index is well formed
slots_at : (l : List (Option Controller)) (i : ℕ) → slots_ok l ≡ true → slot_is_ok (get_or l i none) ≡ true
unfolding slots_ok slot_is_ok
slots_at [] i e = refl
slots_at (s ∷ l) zero e = (and_true (slot_is_ok s) _ e).0
slots_at (s ∷ l) (suc i) e = slots_at l i (and_true (slot_is_ok s) _ e).1

-- a well-formed plain hub, taken apart
pub record PlainFit (p : PlainHub) : Type 0 where
  pub four : eqb (length p.controllers) 4 ≡ true
  pub clock : ltb p.clock (2 ^ 32) ≡ true
  pub slots : slots_ok p.controllers ≡ true

-- the parts of a well-formed plain hub
pub plain_fit : (p : PlainHub) → plain_ok p ≡ true → PlainFit p
unfolding plain_ok
plain_fit p e =
    let a = and_true (eqb (length p.controllers) 4 && ltb p.clock (2 ^ 32)) _ e in
    let b = and_true (eqb (length p.controllers) 4) _ a.0 in
    record { four = b.0; clock = b.1; slots = a.1 }

-- a plain hub with these parts is well formed
pub fit_plain : (p : PlainHub) → PlainFit p → plain_ok p ≡ true
unfolding plain_ok
fit_plain p h = both (both h.four h.clock) h.slots

-- a hub with something well formed put at an index
put_ok : (p : PlainHub) (i : ℕ) (x : Option Controller) → plain_ok p ≡ true → slot_is_ok x ≡ true → plain_ok (with_controller p i x) ≡ true
unfolding with_controller
put_ok p i x e n =
    let h = plain_fit p e in
    fit_plain (with_controller p i x) (record {
      four = rw (length-set p.controllers i x) h.four;
      clock = h.clock;
      slots = slots_set
          p.controllers i x h.slots n;
    })

-- what is found at an index is well formed
slot_ok : (p : PlainHub) (i : ℕ) → plain_ok p ≡ true → slot_is_ok (controller_at p i) ≡ true
unfolding plain_ok controller_at slot_is_ok
slot_ok p i e = either (λ s. slot_is_ok s ≡ true) (ltb i 4) (λ _. slots_at p.controllers i (plain_fit p e).slots) (λ _. refl)

-- a controller that is found is well formed
pub controller_ok_lem : (p : PlainHub) (i : ℕ) (c : Controller) → plain_ok p ≡ true → controller_at p i ≡ some c → controller_ok c ≡ true
unfolding slot_is_ok
controller_ok_lem p i c e es = let h : slot_is_ok (some c) ≡ true = rw es at (slot_ok p i e) in h

-- the rules on settings, with fewer seconds on the timer
fit_tick : (d k z y w a : Bool) → settings_fit d k z w a ≡ true → (z ≡ true → y ≡ true) → settings_fit d k y w a ≡ true
unfolding settings_fit
fit_tick d k true y w a h f = let b = and_true (not d || k) _ h in rw (f refl) (both b.0 b.1)
fit_tick d k false y w a h f =
    let b = and_true (not d || k) _ h in
    let t = and_true (w && d) _ b.1 in
    let u : y || (w && d) ≡ true = rw t.0 (or_true y) in
    both b.0 (both u t.1)

-- the rules on settings, with discoverable and timer ended
fit_over : (d l z w a : Bool) → settings_fit d l z w a ≡ true → settings_fit false l true w a ≡ true
unfolding settings_fit
fit_over d l z w a e = (and_true (z || (w && d)) _ (and_true (not d || l) _ e).1).1

-- a timer counted down fits the settings, and its two octets
timer_counted : (step : ℕ) (c : Controller) → timer_ok c ≡ true
    → settings_fit (countdown step c.host.settings.timer).discoverable (c.radio.connectable && c.radio.bredr)
    (eqb (countdown step c.host.settings.timer).seconds 0)
    c.radio.powered (addressed c.radio) ≡ true
unfolding countdown no_timer timer_ok
timer_counted step c e =
    let t : Timer = c.host.settings.timer in
    either {A = Timer} (λ s. settings_fit s.discoverable (c.radio.connectable && c.radio.bredr) (eqb s.seconds 0) c.radio.powered
    (addressed c.radio) ≡ true) (ends step t)
    (λ _. fit_over t.discoverable (c.radio.connectable && c.radio.bredr) (eqb t.seconds 0) c.radio.powered (addressed c.radio) e)
    (λ _. fit_tick t.discoverable (c.radio.connectable && c.radio.bredr) (eqb t.seconds 0) (eqb (t.seconds - step) 0) c.radio.powered
    (addressed c.radio) e
    (λ z. let n : t.seconds - step ≡ 0 = omega (arith, equal t.seconds 0 z) in rw n))

-- a timer counted down still has two octets
seconds_counted : (step : ℕ) (t : Timer) → ltb t.seconds 65536 ≡ true → ltb (countdown step t).seconds 65536 ≡ true
unfolding countdown no_timer
seconds_counted step t e =
    either {A = Timer} (λ s. ltb s.seconds 65536 ≡ true) (ends step t) (λ _. refl)
    (λ _. let lt : t.seconds < 65536 = ltb→lt _ _ (rw e tt) in lt_true (t.seconds - step) 65536 (omega arith))

-- a controller whose timer is counted down and whose advertising has seconds passed
pub tick_ok : (step : ℕ) (c : Controller) → controller_ok c ≡ true → controller_ok (tick step c) ≡ true
unfolding tick with_timer with_schedule with_advertising with_host timer_ok
tick_ok step c k = fit_controller (tick step c) (record {
  radio = h.radio;
  static_address = h.static_address;
  name = h.name;
  tables = h.tables;
  timer = timer_counted step c h.timer;
  advertising = rescheduled_ok c.radio.low_energy c.radio.powered _ _ c.host.advertising (seconds step c.host.advertising.schedule)
      h.advertising
      (seconds_ok _ _ step _ (advertising_fit _ _ _ h.advertising).schedule);
  widths = fit_widths (tick step c) (record {
    version = x.version;
    manufacturer = x.manufacturer;
    public_address = x.public_address;
    static_address = x.static_address;
    name = x.name;
    seconds = seconds_counted step c.host.settings.timer x.seconds;
  });
})
  where
    x : Widths c
    x = widths_fit c k

    h : ControllerFit c
    h = controller_fit c k

-- the timers at every index counted down
slots_tick : (step : ℕ) (l : List (Option Controller)) → slots_ok l ≡ true → slots_ok (map (tick_slot step) l) ≡ true
unfolding slots_ok slot_is_ok tick_slot
slots_tick step [] e = refl
slots_tick step (none ∷ l) e = slots_tick step l e
slots_tick step (some c ∷ l) e = let h = and_true (controller_ok c) _ e in both (tick_ok step c h.0) (slots_tick step l h.1)

-- what plug takes supports BR/EDR or LE
one_of : (f : Hardware) → hardware_ok f ≡ true → bredr_supported f || le_supported f ≡ true
unfolding hardware_ok
one_of f k =
    let a = and_true (eqb (length f.public_address) 6) _ k in
    let b = and_true (ltb f.supported 65536) _ a.1 in
    (and_true (bredr_supported f || le_supported f) _ b.1).0

-- what plug makes is well formed
pub plugged_ok : (f : Hardware) → hardware_ok f ≡ true → hardware_wide f ≡ true → controller_ok (plugged f) ≡ true
unfolding plugged static_address_ok all_zero name_ok name_ends short_name_ends octet tables_ok table_rules no_tables no_timer table_ok entries records_ok
    support_ok every distinct empty timer_ok settings_fit bytes hardware_wide
plugged_ok f k w = fit_controller (plugged f) (record {
  radio = fit_radio (plugged f).radio (record {
    hardware = k;
    bredr = not_or (bredr_supported f);
    one = one_of f k;
    low = or_not (le_supported f);
    support = or_true (le_supported f);
    static_address = refl;
  });
  static_address = refl;
  name = refl;
  tables = refl;
  timer = refl;
  advertising = no_advertising_ok (le_supported f) false;
  widths = let a = and_true (ltb f.version 256 && ltb f.manufacturer 65536) _ w in let b = and_true (ltb f.version 256) _ a.0 in
      fit_widths (plugged f) (record { version = b.0; manufacturer = b.1; public_address = a.1; static_address = refl; name = refl; seconds = refl });
})

-- 2. Commands -----------------------------------------------------------------------------------------------------------------------------

module _ (p : PlainHub) (e : plain_ok p ≡ true) where
  -- the state that an outcome leaves is well formed
  abbrev Stays : Outcome → Type 0
  Stays o = plain_ok (state_of p o) ≡ true

  -- a command that is never Busy
  immediate_stays : (i code : ℕ) (ps : Octets) (a : Bool) (c : Controller) (q : Immediate) → ImmediateOk c q → Stays (immediate_done p i code ps a c q)
  unfolding immediate_done state_of ImmediateOk with_host slot_is_ok
  immediate_stays i code ps a c (refuse r) h = e
  immediate_stays i code ps a c (done out evs host) h = put_ok p i (some (with_host c host)) e h

  -- a command, by its rule
  rule_stays : (i code : ℕ) (ps : Octets) → bytes ps ≡ true → (u : Option Rule) → rule code ≡ u → (s : Option Controller) → controller_at p i ≡ s
      → Stays (outcome (by_rule p i code ps u))
  unfolding outcome by_rule state_of general_out immediate_at radio_at radio_before_busy radio_after_busy acted Keeps KeepsImmediate KeepsRadio slot_is_ok
  rule_stays i code ps w none eu s es = e
  rule_stays i code ps w (some (general f)) eu s es =
      either Stays (eqb i 0xFFFF) (λ _. either Stays (eqb (length ps) 0) (λ _. e) (λ _. e)) (λ _. e)
  rule_stays i code ps w (some (immediate q)) eu none es = rw es e
  rule_stays i code ps w (some (immediate q)) eu (some c) es =
      rw es (either Stays (q.size ps) (λ z. immediate_stays i code ps q.by_address c (act q i c ps)
      (rule_keeps code (immediate q) eu i c ps (controller_ok_lem p i c e es) w z)) (λ _. e))
  rule_stays i code ps w (some (radio r)) eu none es = rw es e
  rule_stays i code ps w (some (radio r)) eu (some c) es =
      rw es (either (λ v. Stays (outcome v)) (eqb (length ps) r.size) (λ z. before_busy z (first_of (r.before_busy c.radio ps)) refl) (λ _. e))
    where
      after_busy : eqb (length ps) r.size ≡ true → first_of (r.before_busy c.radio ps) ≡ none → (x : Option Reason)
          → first_of (r.after_busy c.radio ps) ≡ x
          → Stays (outcome (radio_after_busy p i code ps r c x))
      after_busy z ee (some x) el = e
      after_busy z ee none el = put_ok p i (some (r.effect c ps)) e (rule_keeps code (radio r) eu c ps (controller_ok_lem p i c e es) w z ee el)

      before_busy : eqb (length ps) r.size ≡ true → (x : Option Reason) → first_of (r.before_busy c.radio ps) ≡ x
          → Stays (outcome (radio_before_busy p i code ps r c x))
      before_busy z (some x) ee = e
      before_busy z none ee = after_busy z ee (first_of (r.after_busy c.radio ps)) refl

  -- a command
  command_stays : (room : ℕ) (packet : Octets) → bytes packet ≡ true → Stays (outcome (verdict p room packet))
  unfolding outcome verdict state_of
  command_stays room packet w =
      either (λ v. Stays (outcome v)) (ltb room Lengths.reply_buffer) (λ _. e)
      (λ _. either (λ v. Stays (outcome v)) (packet_ok packet)
      (λ _. rule_stays (index_of packet) (code_of packet) (drop 6 packet) (bytes_drop 6 packet w) (rule (code_of packet)) refl
      (controller_at p (index_of packet)) refl)
      (λ _. e))

  -- a report that finishes a command that would now be started
  finish_by_lem : (i : ℕ) (c : Controller) (o : OpenCommand) → bytes o.params ≡ true → (u : Option Rule) → rule o.code ≡ u → controller_ok c ≡ true
      → starts_by c.radio o.params u ≡ true → Stays (finish_by p i o u (some c))
  unfolding finish_by starts_by passes state_of acted Keeps KeepsRadio slot_is_ok
  finish_by_lem i c o w none eu k s = e
  finish_by_lem i c o w (some (general f)) eu k s = e
  finish_by_lem i c o w (some (immediate q)) eu k s = e
  finish_by_lem i c o w (some (radio r)) eu k s =
      let a = and_true (eqb (length o.params) r.size) _ s in
      let b = and_true (passes (r.before_busy c.radio o.params)) _ a.1 in
      let d = and_true (passes (r.after_busy c.radio o.params)) _ b.1 in
      put_ok p i (some (r.effect c o.params)) e
      (rule_keeps o.code (radio r) eu c o.params k w a.0 (nothing_none _ b.0) (nothing_none _ d.0))

  -- the same, with its rule and its controller looked up
  finish_stays : (i : ℕ) (c : Controller) (o : OpenCommand) → bytes o.params ≡ true → controller_at p i ≡ some c → starts c.radio o ≡ true
      → Stays (finish p i o)
  unfolding finish starts
  finish_stays i c o w es s = rw es (finish_by_lem i c o w (rule o.code) refl (controller_ok_lem p i c e es) s)

  -- a clock reading
  clock_stays : (now : ℕ) → ltb now (2 ^ 32) ≡ true → Stays (clock_out p now)
  unfolding clock_out state_of
  clock_stays now w =
      let step : ℕ = step_of p.clock now in
      let h = plain_fit p e in
      let q : PlainHub = record { clock = now; controllers = map (tick_slot step) p.controllers } in
      either Stays (leb (2 ^ 31) step) (λ _. e)
      (λ _. fit_plain q (record {
        four = rw (length-map p.controllers (tick_slot step)) h.four;
        clock = w;
        slots = slots_tick step
            p.controllers h.slots;
      }))

  -- a plug
  plug_stays : (i : ℕ) (f : Hardware) → hardware_wide f ≡ true → (s : Option Controller) → Stays (plug_out p i f s)
  unfolding plug_out state_of slot_is_ok
  plug_stays i f w (some c) = e
  plug_stays i f w none = either Stays (ltb i 4 && hardware_ok f) (λ t. put_ok p i (some (plugged f)) e (plugged_ok f (and_true (ltb i 4) _ t).1 w)) (λ _. e)

  -- an unplug
  unplug_stays : (i : ℕ) (s : Option Controller) → Stays (unplug_out p i s)
  unfolding unplug_out state_of slot_is_ok
  unplug_stays i none = e
  unplug_stays i (some c) = put_ok p i none e refl

  -- too small a reply buffer changes nothing
  within_stays : (need room : ℕ) (o : Outcome) → Stays o → Stays (within need room o)
  unfolding within state_of
  within_stays need room o s = either Stays (ltb room need) (λ _. e) (λ _. s)

  -- THE AT-ONCE HUB stays well formed
  pub plain_stays : (c : Call) → call_wide c ≡ true → Stays (call_plain p c)
  unfolding call_plain state_of call_wide save_out
  plain_stays (command room packet) w = command_stays room packet w
  plain_stays (report room i s) w = within_stays Lengths.reply_buffer room bad_argument e
  plain_stays (clock room now) w = within_stays Lengths.reply_buffer room (clock_out p now) (clock_stays now w)
  plain_stays (plug room i f) w = within_stays Lengths.reply_buffer room (plug_out p i f (controller_at p i)) (plug_stays i f w (controller_at p i))
  plain_stays (unplug room i) w = within_stays Lengths.reply_buffer room (unplug_out p i (controller_at p i)) (unplug_stays i (controller_at p i))
  plain_stays (save room) w = within_stays Lengths.largest_image room (save_out p) e

-- 3. The packets remembered, and the calls left, are as wide as they came -----------------------------------------------------------------

-- a packet remembered is octets
unfoldable pub pending_packet_ok : Option Octets → Bool
pending_packet_ok none = true
pending_packet_ok (some packet) = bytes packet

-- all packets remembered are
unfoldable pub pending_ok : Pending → Bool
pending_ok [] = true
pending_ok (x ∷ k) = pending_packet_ok x && pending_ok k

-- the calls left are as wide as their types
unfoldable pub left_ok : List Left → Bool
left_ok [] = true
left_ok (l ∷ ls) = call_wide l.call && left_ok ls

-- one more packet remembered, or one forgotten
pending_set : (k : Pending) (i : ℕ) (x : Option Octets) → pending_ok k ≡ true → pending_packet_ok x ≡ true → pending_ok (set k i x) ≡ true
unfolding pending_ok
pending_set [] i x e n = refl
pending_set (y ∷ k) zero x e n = both n (and_true (pending_packet_ok y) _ e).1
pending_set (y ∷ k) (suc i) x e n = let h = and_true (pending_packet_ok y) _ e in both h.0 (pending_set k i x h.1 n)

-- the packet of an index
pending_at : (k : Pending) (i : ℕ) → pending_ok k ≡ true → pending_packet_ok (get_or k i none) ≡ true
unfolding pending_ok pending_packet_ok
pending_at [] i e = refl
pending_at (y ∷ k) zero e = (and_true (pending_packet_ok y) _ e).0
pending_at (y ∷ k) (suc i) e = pending_at k i (and_true (pending_packet_ok y) _ e).1

-- what is remembered and what is left of an entry
record Wide (s : Sorted) : Type 0 where
  pending : pending_ok s.pending ≡ true
  left : left_ok s.left ≡ true

-- an entry that leaves nothing
struck_wide : (k : Pending) → pending_ok k ≡ true → Wide (struck k)
unfolding struck left_ok
struck_wide k e = record { pending = e; left = refl }

-- an entry that leaves its call
kept_wide : (k : Pending) (c : Call) (a : ℕ) (o : Octets) → pending_ok k ≡ true → call_wide c ≡ true → Wide (kept k c a o)
unfolding kept left_ok
kept_wide k c a o e w = record { pending = e; left = both w refl }

-- a command moved to its report
moved_wide : (k : Pending) (room i : ℕ) (o : Octets) (x : Option Octets) → pending_ok k ≡ true → pending_packet_ok x ≡ true → Wide (moved k room i o x)
unfolding moved pending_packet_ok call_wide
moved_wide k room i o none e w = struck_wide k e
moved_wide k room i o (some packet) e w = kept_wide (set k i none) (command room packet) 0 o (pending_set k i none e refl) w

-- every entry
sort_wide : (k : Pending) (c : Call) (a : ℕ) (o : Octets) → pending_ok k ≡ true → call_wide c ≡ true → Wide (sort k (entry c a o))
unfolding sort call_wide pending_packet_ok left_ok
sort_wide k (command room packet) a o e w =
    either Wide (eqb a 1) (λ _. struck_wide _ (pending_set k (index_of packet) (some packet) e w))
    (λ _. either Wide (says_busy a o) (λ _. struck_wide k e) (λ _. kept_wide k (command room packet) a o e w))
sort_wide k (report room i s) a o e w =
    either Wide (eqb a 0) (λ _. either Wide (eqb s 0) (λ _. moved_wide k room i o (get_or k i none) e (pending_at k i e))
    (λ _. struck_wide _ (pending_set k i none e refl)))
    (λ _. struck_wide k e)
sort_wide k (unplug room i) a o e w =
    either Wide (eqb a 0) (λ _. record { pending = pending_set k i none e refl; left = refl }) (λ _. kept_wide k (unplug room i) a o e refl)
sort_wide k (clock room t) a o e w = kept_wide k (clock room t) a o e w
sort_wide k (plug room i f) a o e w = kept_wide k (plug room i f) a o e w
sort_wide k (save room) a o e w = kept_wide k (save room) a o e w

-- calls left of two parts of a list
left_append : (ls ms : List Left) → left_ok ls ≡ true → left_ok ms ≡ true → left_ok (ls ++ ms) ≡ true
unfolding left_ok
left_append [] ms a b = b
left_append (l ∷ ls) ms a b = let h = and_true (call_wide l.call) _ a in both h.0 (left_append ls ms h.1 b)

-- calls left of a whole list
pub reduce_wide : (calls : List Call) (h : Hub) (k : Pending) → pending_ok k ≡ true → calls_wide calls ≡ true → left_ok (reduce k (trace call h calls)) ≡ true
unfolding trace reduce left_ok calls_wide
reduce_wide [] h k e w = refl
reduce_wide (c ∷ cs) h k e w =
    let a = and_true (call_wide c) _ w in
    let t = sort k (entry c (call h c).answer (call h c).octets) in
    let s = sort_wide k c (call h c).answer (call h c).octets e a.0 in
    left_append t.left (reduce t.pending (trace call (call h c).state cs)) s.left
    (reduce_wide cs (call h c).state t.pending s.pending a.1)

-- packets remembered after a call
pub next_wide : (h : Hub) (k : Pending) (c : Call) → pending_ok k ≡ true → call_wide c ≡ true
    → pending_ok (sort k (entry c (call h c).answer (call h c).octets)).pending ≡ true
next_wide h k c e w = (sort_wide k c (call h c).answer (call h c).octets e w).pending

-- the open command's parameters are those of its packet
params_wide : {i : ℕ} {o : OpenCommand} {packet : Octets} → Fits i o packet → bytes packet ≡ true → bytes o.params ≡ true
unfolding open_of
params_wide {i} {o} {packet} f w = rw (← f.fields) (bytes_drop 6 packet w)

-- 4. Our hub --------------------------------------------------------------------------------------------------------------------------------

module _ (h : Hub) (e : plain_ok h.plain ≡ true) where
  -- a settings command past the checks before Busy
  busy_stays : (i code : ℕ) (ps : Octets) (o : Outcome) (w : Bool) (x : Option OpenCommand) → plain_ok (state_of h.plain o) ≡ true
      → plain_ok (busy_or h i code ps o w x).state.plain ≡ true
  unfolding busy_or keep with_open
  busy_stays i code ps o w (some x) s = e
  busy_stays i code ps o true none s = e
  busy_stays i code ps o false none s = s

  -- a command, by its verdict
  command_out_stays : (i code : ℕ) (ps : Octets) (v : Verdict) (x : Option OpenCommand) → plain_ok (state_of h.plain (outcome v)) ≡ true
      → plain_ok (command_out h i code ps v x).state.plain ≡ true
  unfolding command_out keep outcome
  command_out_stays i code ps (anyway o) x s = s
  command_out_stays i code ps (unless_busy o w) x s = busy_stays i code ps o w x s

  -- a report, by what is under way
  reported_stays : (i s : ℕ) (t : Option Controller) (x : Option OpenCommand) (y : Option Octets) → pending_packet_ok y ≡ true
      → controller_at h.plain i ≡ t → Ok i t x y
      → plain_ok (report_out h i s x).state.plain ≡ true
  unfolding report_out keep with_open state_of pending_packet_ok
  reported_stays i s t x y w et rests = e
  reported_stays i s t x y w et (waits {c = c} {o = o} f st) =
      either {A = Result Hub} (λ r. plain_ok r.state.plain ≡ true) (ltb Statuses.highest s) (λ _. e)
      (λ _. either {A = Result Hub} (λ r. plain_ok r.state.plain ≡ true) (eqb s 0) (λ _. finish_stays h.plain e i c o (params_wide f w) et st) (λ _. e))

  -- an unplug
  unplugged_stays : (i : ℕ) (o : Outcome) → plain_ok (state_of h.plain o) ≡ true → plain_ok (unplugged h i o).state.plain ≡ true
  unfolding unplugged keep state_of
  unplugged_stays i (finished o p) s = s
  unplugged_stays i (refused f r) s = s
  unplugged_stays i bad_packet s = s
  unplugged_stays i no_room s = s
  unplugged_stays i bad_argument s = s

  -- every call leaves a well-formed plain hub
  pub call_stays : (k : Pending) → Inv h k → pending_ok k ≡ true → (c : Call) → call_wide c ≡ true → plain_ok (call h c).state.plain ≡ true
  unfolding call keep state_of under_way call_wide
  call_stays k inv g (command room packet) w =
      command_out_stays _ _ _ (verdict h.plain room packet) (under_way h (index_of packet)) (command_stays h.plain e room packet w)
  call_stays k inv g (report room i s) w =
      either {A = Result Hub} (λ r. plain_ok r.state.plain ≡ true) (ltb room Lengths.reply_buffer) (λ _. e)
      (λ _. reported_stays i s (controller_at h.plain i) (get_or h.open_commands i none) (get_or k i none) (pending_at k i g) refl (inv.ok i))
  call_stays k inv g (clock room now) w = plain_stays h.plain e (clock room now) w
  call_stays k inv g (plug room i f) w = plain_stays h.plain e (plug room i f) w
  call_stays k inv g (unplug room i) w = unplugged_stays i (call_plain h.plain (unplug room i)) (plain_stays h.plain e (unplug room i) w)
  call_stays k inv g (save room) w = plain_stays h.plain e (save room) w

-- all open commands, from what holds at each index
opens_by : (ss : List (Option Controller)) (os : List (Option OpenCommand)) → length ss ≡ length os
    → ((i : ℕ) → open_ok (get_or ss i none) (get_or os i none) ≡ true) → opens_ok ss os ≡ true
unfolding opens_ok
opens_by [] [] n h = refl
opens_by [] (o ∷ os) n h = absurd (omega arith)
opens_by (s ∷ ss) [] n h = absurd (omega arith)
opens_by (s ∷ ss) (o ∷ os) n h = both (h 0) (opens_by ss os (omega arith) (λ i. h (suc i)))

-- the open command at an index, from the invariant of demand 3
open_at : (p : PlainHub) (i : ℕ) (t : Option Controller) (x : Option OpenCommand) (y : Option Octets) → pending_packet_ok y ≡ true
    → controller_at p i ≡ t → Ok i t x y
    → open_ok (get_or p.controllers i none) x ≡ true
unfolding open_ok controller_at pending_packet_ok
open_at p i t x y w et rests = idles (get_or p.controllers i none)
  where
    idles : (s : Option Controller) → open_ok s none ≡ true
    idles none = refl
    idles (some c) = refl
open_at p i t x y w et (waits {c = c} {o = o} f st) = go (ltb i 4) refl
  where
    go : (b : Bool) → ltb i 4 ≡ b → open_ok (get_or p.controllers i none) (some o) ≡ true
    go true z = let s : get_or p.controllers i none ≡ some c = rw (z, controller_at) at et in rw s (both st (params_wide f w))
    go false z = let s : none ≡ some c = rw (z, controller_at) at et in let z : ◌≡◌ {A = ℕ} 0 1 = cc in absurd (omega arith)

-- A HUB WITH THE INVARIANT IS WELL FORMED, if its plain hub is
pub well : (h : Hub) (k : Pending) → Inv h k → pending_ok k ≡ true → plain_ok h.plain ≡ true → well_formed h ≡ true
unfolding well_formed
well h k inv g e =
    let n : length h.plain.controllers ≡ 4 = equal _ _ (plain_fit h.plain e).four in
    both e (both (opens_by h.plain.controllers h.open_commands (n ∙ sym inv.four_opens) (λ i. open_at h.plain i _ _ _ (pending_at k i g) refl (inv.ok i))) inv.waiting)

-- after every list of calls, from a hub with the invariant
runs : (calls : List Call) (h : Hub) (k : Pending) → Inv h k → pending_ok k ≡ true → calls_wide calls ≡ true → plain_ok h.plain ≡ true
    → well_formed (after call h calls) ≡ true
unfolding after calls_wide
runs [] h k inv g w e = well h k inv g e
runs (c ∷ cs) h k inv g w e =
    let a = and_true (call_wide c) _ w in
    runs cs (call h c).state (sort k (entry c (call h c).answer (call h c).octets)).pending (step h k inv c).inv (next_wide h k c g a.0)
    a.1 (call_stays h e k inv g c a.0)

-- From a well-formed state with nothing under way, our hub is well formed after any list of calls: answer 5 never comes
pub stays : (p : PlainHub) (calls : List Call) → calls_wide calls ≡ true → plain_ok p ≡ true → well_formed (after call (idle p) calls) ≡ true
unfolding idle no_pending pending_ok pending_packet_ok
stays p calls w e = runs calls (idle p) no_pending (start p) refl w e
