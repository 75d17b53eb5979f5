-- What every call writes with its answer, from the rules up to the octets of the lent state.
use Rattle.std.specs.Prelude.{ℕ, ◌^◌, ◌≤◌, ◌≡◌, refl, Bool, ◌&&◌, not, List, [], ◌∷◌, length, eqb, leb, ltb}
use Rattle.std.proofs.Common.{arith, sym}
use Rattle.std.proofs.Math.Bool.{true, false}
use Rattle.std.proofs.Math.Option.{Option, none, some}
use Rattle.model.specs.Lengths as Lengths
use Rattle.model.specs.Statuses as Statuses
use Rattle.model.specs.Octets.{Octets}
use Rattle.model.specs.State.{Controller, Hardware, Hub, OpenCommand, PlainHub, controller_at, hardware_ok}
use Rattle.model.specs.Reasons.{Reason, status_of, first_of}
use Rattle.model.specs.Rules.{same_bool, Immediate, ImmediateRule, RadioRule, Rule, done, general, immediate, radio, refuse}
use Rattle.model.specs.Immediate.{add_device, add_uuid, block_device, load_keys, read_information, remove_device, remove_uuid, set_bondable}
use Rattle.model.specs.Immediate.{add_advertising, remove_advertising, set_local_name, unblock_device, unpair_device}
use Rattle.model.specs.Commands.{Row, find, rows, rule}
use Rattle.model.specs.Hub.{Call, Outcome, RefusalForm, Result, Verdict, acted, answer_of, anyway, bad_argument, bad_packet, busy_or, by_rule}
use Rattle.model.specs.Hub.{by_status, call, call_plain}
use Rattle.model.specs.Hub.{clock, clock_out, code_of, command, command_out, finish, finish_by, finished, general_out, immediate_at, immediate_done}
use Rattle.model.specs.Hub.{index_of, keep, no_room}
use Rattle.model.specs.Hub.{octets_of, packet_ok, params_of, plug, plug_out, radio_after_busy, radio_at, radio_before_busy, refusal_form}
use Rattle.model.specs.Hub.{refusal_octets, refused, report}
use Rattle.model.specs.Hub.{report_out, save, save_out, step_of, under_way, unless_busy, unplug, unplug_out, unplugged, verdict, within}
use Rattle.model.specs.Reading.{Judged, acceptable, either_version, faulty, judge}
use Rattle.model.specs.Layout.{decode}
use Rattle.model.specs.Meanings.{Loaded, bad_state, hub_load, laid_out, leaves, load_meaning, loaded_into, meaning, state_ok}
use Rattle.model.specs.Written.{OneReply, Written, address_command, busy, busy_command, by_command_complete, by_command_status, has_argument}
use Rattle.model.specs.Written.{LoadAnswer, of_command}
use Rattle.model.specs.Written.{UpToLength, no_controller, unknown_code, up_to_length, wrong_index, wrong_length}
use Rattle.model.specs.Written as WrittenCase
use Rattle.model.proofs.Model.Diagnosis.{Inside}
use Rattle.model.proofs.Model.Tests.{and_true, either, equal, no_way, not-true}

-- 1. How a refusal is written -------------------------------------------------------------------------------------------------------------------

-- a refusal of this call, by its form and reason: with the index and code of its packet, and with its address and type only of an address command
pub data FormOf : Call → RefusalForm → Reason → Type 0 where
  -- by Command Status
  plain : {room : ℕ} {packet : Octets} {r : Reason} → address_command (code_of packet) ≡ false
      → FormOf (command room packet) (by_status (index_of packet) (code_of packet)) r
  -- by Command Status, before anything else is looked at
  early : {room : ℕ} {packet : Octets} {r : Reason} → UpToLength r → FormOf (command room packet) (by_status (index_of packet) (code_of packet)) r
  -- by Command Complete
  addressed : {room : ℕ} {packet : Octets} {r : Reason} → address_command (code_of packet) ≡ true
      → FormOf (command room packet) (refusal_form true (index_of packet) (code_of packet) (params_of packet)) r

-- an outcome of this call: if it is a refusal, it has such a form; a bad packet is a command's, a wrong argument that of a call that has one,
-- and only a save finds no image
unfoldable pub Formed : Call → Outcome → Type 0
Formed c (finished o p) = Unit
Formed c (refused f r) = FormOf c f r
Formed c bad_packet = Written c 3 []
Formed c no_room = Unit
Formed c bad_argument = has_argument c ≡ true

-- a refusal of such a form is one status reply
form_written : (c : Call) (f : RefusalForm) (r : Reason) → FormOf c f r → Written c 2 (refusal_octets f.index f.code f.address (status_of r))
unfolding refusal_octets by_status refusal_form
form_written c f r (plain e) = WrittenCase.refused (by_command_status r e)
form_written c f r (early e) = WrittenCase.refused (up_to_length e)
form_written c f r (addressed a) = WrittenCase.refused (by_command_complete r a)

-- so what such an outcome writes is as its answer says
pub outcome_written : (c : Call) (o : Outcome) → Formed c o → Written c (answer_of o) (octets_of o)
unfolding Formed answer_of octets_of
outcome_written c (finished o p) f = WrittenCase.done
outcome_written c (refused g r) f = form_written c g r f
outcome_written c bad_packet f = f
outcome_written c no_room f = WrittenCase.small_buffer
outcome_written c bad_argument f = WrittenCase.bad_argument f

-- 2. Commands -----------------------------------------------------------------------------------------------------------------------------------

-- the rules that are refused by address are those of the five address commands, the rules that can be Busy those of the six settings commands
unfoldable pub kind_ok : ℕ → Rule → Bool
kind_ok code (general f) = not (address_command code)
kind_ok code (immediate q) = same_bool q.by_address (address_command code)
kind_ok code (radio r) = busy_command code && not (address_command code)

-- a test of the code and rule of every row in a list
unfoldable pub every_row : (ℕ → Rule → Bool) → List Row → Bool
every_row t [] = true
every_row t (r ∷ rs) = t r.0 r.1 && every_row t rs

-- what every row passes, the row that a code finds passes
row_test : (t : ℕ → Rule → Bool) (code : ℕ) (rs : List Row) (u : Rule) → every_row t rs ≡ true → find code rs ≡ some u → t code u ≡ true
unfolding every_row find
row_test t code [] u e f = let z : ◌≡◌ {A = ℕ} 0 1 = cc in absurd (omega arith)
row_test t code (r ∷ rs) u e f =
    let h = and_true (t r.0 r.1) (every_row t rs) e in
    go (eqb r.0 code) refl f h.0 (row_test t code rs u h.1)
  where
    go : (b : Bool) → eqb r.0 code ≡ b → ◌≡◌ {A = Option Rule} (elim b [ true ↦ some r.1 | false ↦ find code rs ]) (some u)
        → t r.0 r.1 ≡ true → (find code rs ≡ some u → t code u ≡ true) → t code u ≡ true
    go true q f here more = let x : r.1 ≡ u = cc in let c : r.0 ≡ code = equal r.0 code q in rw (c, x) at here
    go false q f here more = more f

-- every row of the table of commands passes
rows_kind : every_row kind_ok rows ≡ true
unfolding rows every_row kind_ok address_command busy_command same_bool read_information set_bondable set_local_name add_uuid remove_uuid load_keys unpair_device
    block_device unblock_device add_device remove_device add_advertising remove_advertising
rows_kind = refl

-- the rule of a code passes
rule_kind : (code : ℕ) (u : Rule) → rule code ≡ some u → kind_ok code u ≡ true
unfolding rule
rule_kind code u e = row_test kind_ok code rows u rows_kind e

-- a rule refused by address is an address command's, and no other is
kind_true : (code : ℕ) (a : Bool) → same_bool a (address_command code) ≡ true → a ≡ true → address_command code ≡ true
unfolding same_bool
kind_true code true e f = e
kind_true code false e f = no_way (sym f)

-- the same of one that is not
kind_false : (code : ℕ) (a : Bool) → same_bool a (address_command code) ≡ true → a ≡ false → address_command code ≡ false
unfolding same_bool
kind_false code true e f = no_way f
kind_false code false e f = not-true (address_command code) e

module _ (room : ℕ) (packet : Octets) where
  -- done or refused at once
  immediate_formed : (p : PlainHub) (a : Bool) (c : Controller) (q : Immediate) → same_bool a (address_command (code_of packet)) ≡ true
      → Formed (command room packet) (immediate_done p (index_of packet) (code_of packet) (params_of packet) a c q)
  unfolding Formed immediate_done refusal_form
  immediate_formed p true c (refuse r) f = addressed (kind_true (code_of packet) true f refl)
  immediate_formed p false c (refuse r) f = plain (kind_false (code_of packet) false f refl)
  immediate_formed p a c (done out evs h) f = tt

  -- a command that is never Busy
  at_formed : (p : PlainHub) (q : ImmediateRule) (s : Option Controller) → same_bool q.by_address (address_command (code_of packet)) ≡ true
      → Formed (command room packet) (immediate_at p (index_of packet) (code_of packet) (params_of packet) q s)
  unfolding Formed immediate_at
  at_formed p q none f = early no_controller
  at_formed p q (some c) f =
      either {A = Outcome} (λ o. Formed (command room packet) o) (q.size (params_of packet)) (λ _. immediate_formed p q.by_address c _ f)
      (λ _. early wrong_length)

  -- a general command
  general_formed : (p : PlainHub) (f : PlainHub → Octets) → Formed (command room packet) (general_out p (index_of packet) (code_of packet) (params_of packet) f)
  unfolding Formed general_out
  general_formed p f =
      either {A = Outcome} (λ o. Formed (command room packet) o) (eqb (index_of packet) 0xFFFF)
      (λ _. either {A = Outcome} (λ o. Formed (command room packet) o) (eqb (length (params_of packet)) 0) (λ _. tt) (λ _. early wrong_length))
      (λ _. early wrong_index)

  -- what a verdict comes to is formed so, and only a settings command that can be Busy has a verdict that looks at what is under way
  unfoldable VerdictFormed : Verdict → Type 0
  VerdictFormed (anyway o) = Formed (command room packet) o
  VerdictFormed (unless_busy o w) = Formed (command room packet) o × (busy_command (code_of packet) ≡ true)

  module _ (p : PlainHub) (r : RadioRule) (k : busy_command (code_of packet) ≡ true) (n : address_command (code_of packet) ≡ false) where
    -- a reason of a settings command
    settings_refused : (x : Reason) → FormOf (command room packet) (by_status (index_of packet) (code_of packet)) x
    settings_refused x = plain n

    -- past the checks before Busy
    after_formed : (c : Controller) (x : Option Reason) → VerdictFormed (radio_after_busy p (index_of packet) (code_of packet) (params_of packet) r c x)
    unfolding VerdictFormed Formed radio_after_busy acted
    after_formed c (some x) = (settings_refused x, k)
    after_formed c none = (tt, k)

    -- before them
    before_formed : (c : Controller) (x : Option Reason) → VerdictFormed (radio_before_busy p (index_of packet) (code_of packet) (params_of packet) r c x)
    unfolding VerdictFormed Formed radio_before_busy
    before_formed c (some x) = settings_refused x
    before_formed c none = after_formed c (first_of (r.after_busy c.radio (params_of packet)))

    -- with its index and its length
    radio_formed : (s : Option Controller) → VerdictFormed (radio_at p (index_of packet) (code_of packet) (params_of packet) r s)
    unfolding VerdictFormed Formed radio_at
    radio_formed none = early no_controller
    radio_formed (some c) =
        either {A = Verdict} (λ v. VerdictFormed v) (eqb (length (params_of packet)) r.size)
        (λ _. before_formed c (first_of (r.before_busy c.radio (params_of packet)))) (λ _. early wrong_length)

  -- any command, by the rule of its code
  rule_formed : (p : PlainHub) (u : Option Rule) → rule (code_of packet) ≡ u
      → VerdictFormed (by_rule p (index_of packet) (code_of packet) (params_of packet) u)
  unfolding VerdictFormed Formed by_rule kind_ok
  rule_formed p none e = early unknown_code
  rule_formed p (some (general f)) e = general_formed p f
  rule_formed p (some (immediate q)) e = at_formed p q (controller_at p (index_of packet)) (rule_kind (code_of packet) (immediate q) e)
  rule_formed p (some (radio r)) e =
      let h = and_true (busy_command (code_of packet)) (not (address_command (code_of packet))) (rule_kind (code_of packet) (radio r) e) in
      radio_formed p r h.0 (not-true (address_command (code_of packet)) h.1) (controller_at p (index_of packet))

  -- any packet
  verdict_formed : (p : PlainHub) → VerdictFormed (verdict p room packet)
  unfolding VerdictFormed Formed verdict
  verdict_formed p =
      either {A = Verdict} (λ v. VerdictFormed v) (ltb room Lengths.reply_buffer) (λ _. tt)
      (λ _. either {A = Verdict} (λ v. VerdictFormed v) (packet_ok packet)
      (λ _. rule_formed p (rule (code_of packet)) refl) (λ _. WrittenCase.bad_packet))

  -- Busy, started, or done at once
  busy_written : (h : Hub) (o : Outcome) (w : Bool) (x : Option OpenCommand) → Formed (command room packet) o → busy_command (code_of packet) ≡ true
      → Written (command room packet) (busy_or h (index_of packet) (code_of packet) (params_of packet) o w x).answer
      (busy_or h (index_of packet) (code_of packet) (params_of packet) o w x).octets
  unfolding busy_or keep
  busy_written h o w (some x) f k = WrittenCase.refused (busy k)
  busy_written h o true none f k = WrittenCase.started
  busy_written h o false none f k = outcome_written (command room packet) o f

  -- a command to our hub
  command_written : (h : Hub) (v : Verdict) (x : Option OpenCommand) → VerdictFormed v
      → Written (command room packet) (command_out h (index_of packet) (code_of packet) (params_of packet) v x).answer
      (command_out h (index_of packet) (code_of packet) (params_of packet) v x).octets
  unfolding command_out keep VerdictFormed
  command_written h (anyway o) x f = outcome_written (command room packet) o f
  command_written h (unless_busy o w) x f = busy_written h o w x f.0 f.1

-- 3. The other calls ----------------------------------------------------------------------------------------------------------------------------

-- an outcome behind the test of the room
within_formed : (c : Call) (need room : ℕ) (o : Outcome) → Formed c o → Formed c (within need room o)
unfolding within Formed
within_formed c need room o f = either {A = Outcome} (λ x. Formed c x) (ltb room need) (λ _. tt) (λ _. f)

-- a reading of the clock
clock_formed : (c : Call) (p : PlainHub) (reading : ℕ) → has_argument c ≡ true → Formed c (clock_out p reading)
unfolding Formed clock_out
clock_formed c p reading g = either {A = Outcome} (λ x. Formed c x) (leb (2 ^ 31) (step_of p.clock reading)) (λ _. g) (λ _. tt)

-- a plug
plug_formed : (c : Call) (p : PlainHub) (i : ℕ) (f : Hardware) (s : Option Controller) → has_argument c ≡ true → Formed c (plug_out p i f s)
unfolding Formed plug_out
plug_formed c p i f (some d) g = g
plug_formed c p i f none g = either {A = Outcome} (λ x. Formed c x) (ltb i 4 && hardware_ok f) (λ _. tt) (λ _. g)

-- an unplug, with the reply owed to a command that it cuts off
unplug_written : (c : Call) (h : Hub) (i : ℕ) (o : Outcome) → Formed c o → Written c (unplugged h i o).answer (unplugged h i o).octets
unfolding unplugged keep
unplug_written c h i (finished o p) f = WrittenCase.done
unplug_written c h i (refused g r) f = outcome_written c (refused g r) f
unplug_written c h i bad_packet f = outcome_written c bad_packet f
unplug_written c h i no_room f = outcome_written c no_room f
unplug_written c h i bad_argument f = outcome_written c bad_argument f

-- the outcome of an unplug
unplug_formed : (c : Call) (p : PlainHub) (i : ℕ) (s : Option Controller) → has_argument c ≡ true → Formed c (unplug_out p i s)
unfolding Formed unplug_out
unplug_formed c p i none g = g
unplug_formed c p i (some d) g = tt

-- a command that a report finishes
finish_formed : (c : Call) (p : PlainHub) (i : ℕ) (o : OpenCommand) (u : Option Rule) (s : Option Controller) → has_argument c ≡ true
    → Formed c (finish_by p i o u s)
unfolding Formed finish_by acted
finish_formed c p i o none s g = g
finish_formed c p i o (some (general f)) s g = g
finish_formed c p i o (some (immediate q)) s g = g
finish_formed c p i o (some (radio r)) none g = g
finish_formed c p i o (some (radio r)) (some d) g = tt

-- a wrong argument
bad_written : (c : Call) → has_argument c ≡ true → Written c (answer_of bad_argument) (octets_of bad_argument)
unfolding answer_of octets_of
bad_written c g = WrittenCase.bad_argument g

-- a report
report_written : (c : Call) (h : Hub) (i s : ℕ) (x : Option OpenCommand) → has_argument c ≡ true
    → Written c (report_out h i s x).answer (report_out h i s x).octets
unfolding report_out keep finish
report_written c h i s none g = bad_written c g
report_written c h i s (some o) g =
    either {A = Result Hub} (λ r. Written c r.answer r.octets) (ltb Statuses.highest s) (λ _. bad_written c g)
    (λ _. either {A = Result Hub} (λ r. Written c r.answer r.octets) (eqb s 0)
    (λ _. outcome_written c (finish h.plain i o) (finish_formed c h.plain i o (rule o.code) (controller_at h.plain i) g)) (λ _. WrittenCase.done))

-- 4. Every call -----------------------------------------------------------------------------------------------------------------------------------

-- any call to our hub
call_written : (h : Hub) (c : Call) → Written c (call h c).answer (call h c).octets
unfolding call call_plain keep Formed answer_of octets_of has_argument save_out
call_written h (command room packet) =
    command_written room packet h (verdict h.plain room packet) (under_way h (index_of packet)) (verdict_formed room packet h.plain)
call_written h (report room i s) =
    either {A = Result Hub} (λ r. Written (report room i s) r.answer r.octets) (ltb room Lengths.reply_buffer) (λ _. WrittenCase.small_buffer)
    (λ _. report_written (report room i s) h i s (under_way h i) refl)
call_written h (clock room reading) =
    let o = clock_out h.plain reading in
    outcome_written (clock room reading) (within Lengths.reply_buffer room o)
    (within_formed (clock room reading) Lengths.reply_buffer room o (clock_formed (clock room reading) h.plain reading refl))
call_written h (plug room i f) =
    let s = controller_at h.plain i in
    let o = plug_out h.plain i f s in
    outcome_written (plug room i f) (within Lengths.reply_buffer room o)
    (within_formed (plug room i f) Lengths.reply_buffer room o (plug_formed (plug room i f) h.plain i f s refl))
call_written h (unplug room i) =
    let s = controller_at h.plain i in
    let o = unplug_out h.plain i s in
    unplug_written (unplug room i) h i (within Lengths.reply_buffer room o)
    (within_formed (unplug room i) Lengths.reply_buffer room o (unplug_formed (unplug room i) h.plain i s refl))
call_written h (save room) =
    let o = save_out h.plain in
    outcome_written (save room) (within Lengths.largest_image room o)
    (within_formed (save room) Lengths.largest_image room o tt)

-- EVERY CALL WRITES WHAT ITS ANSWER LETS IT WRITE, whatever the lent octets hold
pub state_written : (s : Octets) (c : Call) → Written c (meaning s c).answer (meaning s c).octets
unfolding meaning laid_out bad_state
state_written s c = either {A = Result Octets} (λ r. Written c r.answer r.octets) (state_ok s) (λ _. call_written (decode s) c)
    (λ _. WrittenCase.bad_state)

-- 5. What follows for each number ---------------------------------------------------------------------------------------------------------------

-- neither done nor refused: nothing is written
pub silent : (c : Call) (n : ℕ) (o : Octets) → Written c n o → (n ≡ 0 → ⊥) → (n ≡ 2 → ⊥) → o ≡ []
silent c n o WrittenCase.done a b = absurd (a refl)
silent c n o WrittenCase.started a b = refl
silent c n o (WrittenCase.refused r) a b = absurd (b refl)
silent c n o WrittenCase.bad_packet a b = refl
silent c n o WrittenCase.small_buffer a b = refl
silent c n o WrittenCase.bad_state a b = refl
silent c n o (WrittenCase.bad_argument g) a b = refl

-- refused: one status reply
pub one_reply : (c : Call) (n : ℕ) (o : Octets) → Written c n o → n ≡ 2 → OneReply c o
one_reply c n o WrittenCase.done e = absurd (omega arith)
one_reply c n o WrittenCase.started e = absurd (omega arith)
one_reply c n o (WrittenCase.refused r) e = of_command r
one_reply c n o WrittenCase.bad_packet e = absurd (omega arith)
one_reply c n o WrittenCase.small_buffer e = absurd (omega arith)
one_reply c n o WrittenCase.bad_state e = absurd (omega arith)
one_reply c n o (WrittenCase.bad_argument g) e = absurd (omega arith)

-- the number is one of 0 to 6
pub to_six : (c : Call) (n : ℕ) (o : Octets) → Written c n o → n ≤ 6
to_six c n o WrittenCase.done = omega arith
to_six c n o WrittenCase.started = omega arith
to_six c n o (WrittenCase.refused r) = omega arith
to_six c n o WrittenCase.bad_packet = omega arith
to_six c n o WrittenCase.small_buffer = omega arith
to_six c n o WrittenCase.bad_state = omega arith
to_six c n o (WrittenCase.bad_argument g) = omega arith

-- a load, by what it read
load_answered_by : (n : ℕ) (s : Octets) (x : Judged) → Inside n x → LoadAnswer n (loaded_into s x).answer (loaded_into s x).offset
unfolding leaves loaded_into Inside
load_answered_by n s (faulty k at) h = WrittenCase.bad_image k at h
load_answered_by n s (acceptable p) h = WrittenCase.loaded

-- a load answers 0, 5 or 71 to 77, and only with those it tells an offset, one of a fault
pub load_answered : (n : ℕ) (s o : Octets) → Inside n (judge either_version o) → LoadAnswer n (hub_load s o).answer (hub_load s o).offset
unfolding hub_load load_meaning leaves
load_answered n s o h =
    either {A = Loaded} (λ r. LoadAnswer n r.answer r.offset) (eqb (length s) Lengths.state) (λ _. load_answered_by n s (judge either_version o) h)
    (λ _. WrittenCase.bad_state)

-- no offset is above that of a fault
pub load_offset : (n a at : ℕ) → LoadAnswer n a at → at ≤ n
load_offset n a at WrittenCase.loaded = omega arith
load_offset n a at WrittenCase.bad_state = omega arith
load_offset n a at (WrittenCase.bad_image k x h) = h
