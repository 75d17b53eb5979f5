-- From what the steps of a report leave to what the model says of it, over plain values.
-- Assumes nothing.
use mathlib.Core.Path.{◌≡◌, refl, ap, sym, ◌∙◌}
use Prim.Native.Nat.{ℕ, zero, suc, ◌+◌, ◌≤◌, ◌<◌}
use native.Mathlib.Omega.{arith}
use mathlib.Core.Bool.{Bool, true, false}
use mathlib.Core.List.{List, [], ◌∷◌, ◌++◌}
use mathlib.Core.Option.{Option, none, some}
use lib.ListN.{length, get_or}
use lib.Dec.{eqb, ltb}
use borrow.Author.Tests.{ne_eqb, lt-ltb, le-ltb, ltb-true, ltb-false}
use Rattle.model.specs.Statuses as Statuses
use Rattle.model.specs.Codes as Codes
use Rattle.model.specs.Lengths as Lengths
use Rattle.model.specs.declared.Settings.{Settings}
use Rattle.model.specs.declared.RadioSettings.{RadioSettings}
use Rattle.model.specs.Octets.{Octets, u16, le32, command_complete, command_status}
use Rattle.model.specs.Advertising.{advertising_removed}
use Rattle.model.specs.State.{Controller, Hub, OpenCommand, PlainHub, controller_at, current_settings, settings_of}
use Rattle.model.specs.Reasons.{passes}
use Rattle.model.specs.Rules.{Rule, general, immediate, radio, ImmediateRule, RadioRule, new_settings, set_bredr, set_static_address}
use Rattle.model.specs.Commands.{Row, rows, find, rule}
use Rattle.model.specs.Hub.{bad_argument, keep, with_open, answer_of, octets_of, state_of, acted, finish, finish_by, starts, starts_by, report_out}
use Rattle.model.specs.WellFormed.{controller_ok, open_ok}
use Rattle.model.specs.Layout.{encode, decode, opens_in, size_of}
use Rattle.model.specs.Meanings.{state_ok, laid_out}
use Rattle.model.proofs.Model.Tests.{and_true, equal, no_way}
use Rattle.octets.specs.Parts.{part, place_at, write_at}
use Rattle.layout.specs.Places.{Ready, controller_of, open_at, place_of, present_at, put_controller, sizes}
use Rattle.layout.proofs.Reading.{absent_open, present_controller}
use Rattle.layout.proofs.Change.{controller_fine}
use Rattle.layout.proofs.Open.{open_nothing, open_command}
use Rattle.layout.proofs.Kept.{open_fine, opened_ready, opened_controller, opened_decoded}
use Rattle.replies.specs.Answers.{Gives}
use Rattle.model.specs.declared.Answer.{Answer}
use Rattle.model.specs.declared.Answer.TheVariants.{Done, BadArgument}
use Rattle.replies.proofs.Laws.{gives_written}
use Rattle.rules.specs.Effects.{settings_effect}
use Rattle.outcomes.specs.Outcomes.{ended, reported}
use Rattle.outcomes.proofs.Endings.{ends_silent}
use Rattle.settings.specs.Opens.{Opens, opens_powered, opens_discoverable, opens_connectable, opens_low_energy, opens_bredr, Makes}
use Rattle.settings.specs.Turns.{acted_controller, acted_reply, schedule_of}
use Rattle.settings.proofs.Turns.{Acts, acted_short, powered_acts, discoverable_acts, connectable_acts, low_energy_acts, bredr_acts}
use Rattle.settings.proofs.Bridge.{acted_is}
use Rattle.model.proofs.Model.Room.{length_status}

-- 1. Which command can be under way ---------------------------------------------------------------------------------------------------------------

-- the rule of a command under way
pub record Opened (code : ℕ) (x : Rule) : Type 0 where
  pub by : RadioRule
  pub kind : x ≡ radio by
  pub opens : Opens code by

-- what is asked of each row: if its command would be started, it is one of the five
abbrev Held : ℕ → Rule → Type 0
Held code x = (r : RadioSettings) (ps : Octets) → starts_by r ps (some x) ≡ true → Opened code x

-- a general command is never started
held_general : (code : ℕ) (f : PlainHub → Octets) → Held code (general f)
unfolding starts_by
held_general code f r ps e = no_way (sym e)

-- nor is one that is never Busy
held_immediate : (code : ℕ) (q : ImmediateRule) → Held code (immediate q)
unfolding starts_by
held_immediate code q r ps e = no_way (sym e)

-- the five are as asked, whatever their parameters
held_radio : (code : ℕ) (u : RadioRule) → Opens code u → Held code (radio u)
held_radio code u o r ps e = record { by = u; kind = refl; opens = o }

-- Set Static Address can be Busy, but never waits itself
held_static : Held Codes.set_static_address (radio set_static_address)
unfolding starts_by set_static_address
held_static r ps e =
    let a = and_true (eqb (length ps) set_static_address.size) _ e in
    let b = and_true (passes (set_static_address.before_busy r ps)) _ a.1 in
    let d = and_true (passes (set_static_address.after_busy r ps)) _ b.1 in
    no_way (sym d.1)

-- the same is asked of each row of a list
unfoldable AllHeld : List Row → Type 0
AllHeld [] = Unit {0}
AllHeld (x ∷ xs) = Held x.0 x.1 × AllHeld xs

-- every row of the commands is as asked
all_held : AllHeld rows
unfolding AllHeld rows
all_held = (
  held_general _ _,
  (
    held_general _ _,
    (
      held_general _ _,
      (
        held_immediate _ _,
        (
          held_radio _ _ opens_powered,
          (
            held_radio _ _ opens_discoverable,
            (
              held_radio _ _ opens_connectable,
              (
                held_immediate _ _,
                (
                  held_radio _ _ opens_low_energy,
                  (
                    held_immediate _ _,
                    (
                      held_immediate _ _,
                      (
                        held_immediate _ _,
                        (
                          held_immediate _ _,
                          (
                            held_immediate _ _,
                            (
                              held_immediate _ _,
                              (
                                held_immediate _ _,
                                (
                                  held_immediate _ _,
                                  (
                                    held_radio _ _ opens_bredr,
                                    (
                                      held_static,
                                      (
                                        held_immediate _ _,
                                        (held_immediate _ _, (held_immediate _ _, (held_immediate _ _, (held_immediate _ _, tt)))),
                                      ),
                                    ),
                                  ),
                                ),
                              ),
                            ),
                          ),
                        ),
                      ),
                    ),
                  ),
                ),
              ),
            ),
          ),
        ),
      ),
    ),
  ),
)

-- so the rule found for a code is as asked
found : (code : ℕ) (xs : List Row) (x : Rule) → AllHeld xs → find code xs ≡ some x → Held code x
unfolding find AllHeld
found code [] x a e = let z : ◌≡◌ {A = ℕ} 0 1 = cc in absurd (omega arith)
found code (y ∷ ys) x a e = go (eqb y.0 code) refl e (found code ys x a.1)
  where
    go : (b : Bool) → eqb y.0 code ≡ b → ◌≡◌ {A = Option Rule} (elim b [ true ↦ some y.1 | false ↦ find code ys ]) (some x)
        → (find code ys ≡ some x → Held code x) → Held code x
    go true t f more = let p : y.1 ≡ x = cc in let q : y.0 ≡ code = equal y.0 code t in rw (p, q) at a.0
    go false t f more = more f

-- the rule of a command that would be started
pub record Waiting (code : ℕ) : Type 0 where
  pub by : RadioRule
  pub known : rule code ≡ some (radio by)
  pub opens : Opens code by

-- a code whose command would be started has the rule of one of the five
waiting_by : (r : RadioSettings) (code : ℕ) (ps : Octets) (x : Option Rule) → rule code ≡ x → starts_by r ps x ≡ true → Waiting code
unfolding starts_by rule
waiting_by r code ps none e s = no_way (sym s)
waiting_by r code ps (some x) e s =
    let h : Opened code x = found code rows x all_held e r ps s in
    record { by = h.by; known = e ∙ ap {B = Option Rule} (λ y. some y) h.kind; opens = h.opens }

-- a command under way is one of the five
waiting : (s : Octets) (i : ℕ) → Ready s i → (o : OpenCommand) → open_at s i ≡ some o → Waiting o.code
unfolding open_ok starts
waiting s i g o e =
    let a : open_ok (some (controller_of s i)) (some o) ≡ true = rw e at (open_fine s i g) in
    waiting_by (controller_of s i).radio o.code o.params (rule o.code) refl (and_true (starts (controller_of s i).radio o) _ a).0

-- it changes the settings, and the turns of the advertising as they tell
opens_acts : (code : ℕ) (u : RadioRule) (c : Controller) (ps : Octets) → controller_ok c ≡ true → Opens code u → Acts u c ps
opens_acts code u c ps e opens_powered = powered_acts c ps e
opens_acts code u c ps e opens_discoverable = discoverable_acts c ps e
opens_acts code u c ps e opens_connectable = connectable_acts c ps e
opens_acts code u c ps e opens_low_energy = low_energy_acts c ps e
opens_acts code u c ps e opens_bredr = bredr_acts c ps e

-- 2. What it makes of the settings ----------------------------------------------------------------------------------------------------------------

-- the rule of each is the one that its code finds
opens_rule : (code : ℕ) (u : RadioRule) → Opens code u → rule code ≡ some (radio u)
unfolding rule find rows
opens_rule code u opens_powered = refl
opens_rule code u opens_discoverable = refl
opens_rule code u opens_connectable = refl
opens_rule code u opens_low_energy = refl
opens_rule code u opens_bredr = refl

-- so one code has one rule
opens_one : (j k : ℕ) (u w : RadioRule) → Opens j u → Opens k w → j ≡ k → w ≡ u
opens_one j k u w o p e =
    let f : ◌≡◌ {A = Option Rule} (some (radio w)) (some (radio u)) = sym (opens_rule k w p) ∙ ap rule (sym e) ∙ opens_rule j u o in cc

-- the effect of the rule of one of the codes, on parameters lent from the state
pub makes_by : (code k : ℕ) (s : Octets) (at n : ℕ) (old new : Settings) (u : RadioRule) (ps : Octets) → Opens k u → code ≡ k → n ≡ u.size → ps ≡ part s at n
    → new ≡ settings_effect u old ps → Makes code s at old new
makes_by code k s at n old new u ps o e z l m w p = rw (opens_one k code u w o p (sym e)) (m ∙ rw (l, z))

-- the last of the five codes
pub makes_last : (code : ℕ) (s : Octets) (at n : ℕ) (old new : Settings) (ps : Octets) → (code ≡ Codes.set_powered → ⊥)
    → (code ≡ Codes.set_discoverable → ⊥) → (code ≡ Codes.set_connectable → ⊥) → (code ≡ Codes.set_low_energy → ⊥) → n ≡ set_bredr.size
    → ps ≡ part s at n → new ≡ settings_effect set_bredr old ps → Makes code s at old new
makes_last code s at n old new ps a b d e z l m w p = go code w p a b d e
  where
    go : (j : ℕ) (v : RadioRule) → Opens j v → (j ≡ Codes.set_powered → ⊥) → (j ≡ Codes.set_discoverable → ⊥) → (j ≡ Codes.set_connectable → ⊥)
        → (j ≡ Codes.set_low_energy → ⊥) → new ≡ settings_effect v old (part s at v.size)
    go j v opens_powered x y q r = absurd (x refl)
    go j v opens_discoverable x y q r = absurd (y refl)
    go j v opens_connectable x y q r = absurd (q refl)
    go j v opens_low_energy x y q r = absurd (r refl)
    go j v opens_bredr x y q r = m ∙ rw (l, z)

-- 3. The report -------------------------------------------------------------------------------------------------------------------------------------

-- nothing is under way at an absent index
past : (a b c d : Option OpenCommand) (i : ℕ) → (i < 4 → ⊥) → get_or (a ∷ b ∷ c ∷ d ∷ []) i none ≡ none
past a b c d zero n = absurd (n (omega arith))
past a b c d (suc zero) n = absurd (n (omega arith))
past a b c d (suc (suc zero)) n = absurd (n (omega arith))
past a b c d (suc (suc (suc zero))) n = absurd (n (omega arith))
past a b c d (suc (suc (suc (suc i)))) n = refl

-- an index above 3 has no block, and nothing is under way there
none_past : (s : Octets) (i : ℕ) → (i < 4 → ⊥) → open_at s i ≡ none
unfolding open_at decode opens_in
none_past s i n = past _ _ _ _ i n

-- nor is anything at any other absent index
none_absent : (s : Octets) (i : ℕ) → present_at s i ≡ false → open_at s i ≡ none
none_absent s i e = go (ltb i 4) refl
  where
    go : (b : Bool) → ltb i 4 ≡ b → open_at s i ≡ none
    go true t = absent_open s i (ltb-true i 4 t) e
    go false t = let n : 4 ≤ i = ltb-false i 4 t in none_past s i (λ l. omega arith)

-- what the model says, by what is under way and the status
report_none : (s : Octets) (i status : ℕ) → open_at s i ≡ none → reported s i status ≡ ended s bad_argument
unfolding reported report_out ended
report_none s i status e = rw e

-- a status above 0x14: answer 6, and the command stays under way
out_above : (h : Hub) (i status : ℕ) (o : OpenCommand) → Statuses.highest < status → report_out h i status (some o) ≡ keep h bad_argument
unfolding report_out
out_above h i status o l = rw (lt-ltb Statuses.highest status l, report_out)

-- status 0: the command is no longer under way, and acts
out_done : (h : Hub) (i status : ℕ) (o : OpenCommand) → status ≡ 0 → report_out h i status (some o) ≡ keep (with_open h i none) (finish h.plain i o)
unfolding report_out
out_done h i status o e = rw e

-- status 0x01 to 0x14: Command Status with it, and the command is dropped
out_failed : (h : Hub) (i status : ℕ) (o : OpenCommand) → status ≤ Statuses.highest → (status ≡ 0 → ⊥)
    → report_out h i status (some o) ≡ record { answer = 0; octets = command_status i o.code status; state = with_open h i none }
unfolding report_out
out_failed h i status o l n = rw (le-ltb Statuses.highest status l, report_out, ne_eqb status 0 n)

-- the model's acting command, by its rule
finish_is : (p : PlainHub) (i : ℕ) (o : OpenCommand) (u : RadioRule) (c : Controller) → rule o.code ≡ some (radio u) → controller_at p i ≡ some c
    → finish p i o ≡ acted p i o.code o.params u c
unfolding finish finish_by
finish_is p i o u c k e = rw (k, e)

-- an open command has as many parameter octets as its rule says
size_is : (code : ℕ) (u : RadioRule) → rule code ≡ some (radio u) → size_of (rule code) ≡ u.size
unfolding size_of
size_is code u e = rw e

-- once nothing is under way, the state is as a command needs it
nothing_fine : (c : Controller) → open_ok (some c) none ≡ true
unfolding open_ok
nothing_fine c = refl

-- a state whose open command is cleared is well formed, and the index is still present
pub cleared_ready : (s s₁ : Octets) (i : ℕ) → Ready s i → s₁ ≡ encode (with_open (decode s) i none) → Ready s₁ i
cleared_ready s s₁ i g e = rw e (opened_ready s i g none (nothing_fine (controller_of s i)))

-- the controller there is as it was
cleared_controller : (s s₁ : Octets) (i : ℕ) → Ready s i → s₁ ≡ encode (with_open (decode s) i none) → controller_of s₁ i ≡ controller_of s i
cleared_controller s s₁ i g e = rw e (opened_controller s i g none (nothing_fine (controller_of s i)))

-- so the settings that were read before are those that are there
pub cleared_settings : (s s₁ : Octets) (i : ℕ) (old : Settings) → Ready s i → s₁ ≡ encode (with_open (decode s) i none)
    → old ≡ settings_of (controller_of s i) → old ≡ settings_of (controller_of s₁ i)
cleared_settings s s₁ i old g e eo = eo ∙ rw (cleared_controller s s₁ i g e)

-- no controller is there, so nothing is under way: 6
pub report_absent : (s d : Octets) (i status : ℕ) → state_ok s ≡ true → present_at s i ≡ false → Gives (reported s i status) BadArgument d d s
unfolding answer_of octets_of state_of
report_absent s d i status ok e = rw (report_none s i status (none_absent s i e)) (ends_silent s d bad_argument BadArgument ok refl refl refl refl)

-- the same, of a present index with nothing under way
pub report_idle : (s d : Octets) (i status : ℕ) → Ready s i → u16 s (place_of i 1) ≡ 0 → Gives (reported s i status) BadArgument d d s
unfolding answer_of octets_of state_of
report_idle s d i status g e = rw (report_none s i status (open_nothing s i g e)) (ends_silent s d bad_argument BadArgument g.ok refl refl refl refl)

-- the same, of a command under way and a status above 0x14
pub report_above : (s d : Octets) (i status : ℕ) → Ready s i → (u16 s (place_of i 1) ≡ 0 → ⊥) → Statuses.highest < status
    → Gives (reported s i status) BadArgument d d s
unfolding reported ended answer_of octets_of state_of
report_above s d i status g e l =
    rw (open_command s i g e, out_above (decode s) i status _ l) (ends_silent s d bad_argument BadArgument g.ok refl refl refl refl)

-- the command failed
pub report_failed_lem : (s d d' s' : Octets) (i status code : ℕ) → Ready s i → Lengths.reply_buffer ≤ length d → code ≡ u16 s (place_of i 1)
    → (code ≡ 0 → ⊥) → status ≤ Statuses.highest → (status ≡ 0 → ⊥)
    → d' ≡ write_at d 0 (command_status i code status) → s' ≡ encode (with_open (decode s) i none) → Gives (reported s i status) (Done 9) d d' s'
unfolding reported laid_out
report_failed_lem s d d' s' i status code g big ec n l z w k =
    let m = length_status i (u16 s (place_of i 1)) status in
    rw (open_command s i g (λ q. n (ec ∙ q)), out_failed (decode s) i status _ l z)
    (gives_written _ (Done 9) d d' s' refl (sym m) (omega arith) (w ∙ rw ec) k)

-- the command under way, by its code and the place of its parameters
open_of : ℕ → Octets → OpenCommand
open_of code ps = record { code = code; params = ps }

-- it is read where it lies: its code, then as many octets as a command of that code has
open_read : (s : Octets) (i : ℕ) → Ready s i → (u16 s (place_of i 1) ≡ 0 → ⊥)
    → open_at s i ≡ some (open_of (u16 s (place_of i 1)) (part s (place_of i 1 + 2) (size_of (rule (u16 s (place_of i 1))))))
unfolding open_of
open_read s i g n = open_command s i g n

-- the same, of a code and a place that were read before
open_as : (s : Octets) (i at code : ℕ) → Ready s i → code ≡ u16 s (place_of i 1) → at ≡ place_of i 1 + 2 → (code ≡ 0 → ⊥)
    → open_at s i ≡ some (open_of code (part s at (size_of (rule code))))
open_as s i at code g ec ea n = rw (ec, ea) (open_read s i g (λ q. n (ec ∙ q)))

-- a report of status 0 where o is under way
acted_gives : (s : Octets) (i : ℕ) (o : OpenCommand) (u : RadioRule) (d d' s' : Octets) (r : Answer) → open_at s i ≡ some o → rule o.code ≡ some (radio u)
    → controller_at (decode s).plain i ≡ some (controller_of s i) → (out : Octets)
    → out ≡ command_complete i o.code 0 (le32 (current_settings (settings_of (u.effect (controller_of s i) o.params))))
    ++ (new_settings i (controller_of s i) (u.effect (controller_of s i) o.params)
    ++ advertising_removed i (controller_of s i).host.advertising (u.effect (controller_of s i) o.params).host.advertising)
    → r ≡ Done (length out) → length out ≤ 58 → Lengths.reply_buffer ≤ length d → d' ≡ write_at d 0 out
    → s' ≡ encode (put_controller (with_open (decode s) i none) i (u.effect (controller_of s i) o.params)) → Gives (reported s i 0) r d d' s'
unfolding reported laid_out keep acted answer_of octets_of state_of put_controller with_open
acted_gives s i o u d d' s' r eq known here out y er short big w k =
    let l : length out ≤ length d = omega arith in
    rw (eq, out_done (decode s) i 0 o refl, finish_is (decode s).plain i o u (controller_of s i) known here, er)
    (gives_written _ (Done (length out)) d d' s' refl (rw y) (rw y at l) (w ∙ rw y) k)

-- to clear the open command and then write the settings and turns is one change of the hub
state_of_lem : (s s₁ s' : Octets) (i : ℕ) → Ready s i → (e : Controller) (old new : Settings) → s₁ ≡ encode (with_open (decode s) i none)
    → s' ≡ encode (put_controller (decode s₁) i (acted_controller (controller_of s₁ i) old new)) → e ≡ acted_controller (controller_of s i) old new
    → s' ≡ encode (put_controller (with_open (decode s) i none) i e)
state_of_lem s s₁ s' i g e old new e₁ es ee =
    let fin = nothing_fine (controller_of s i) in
    es ∙ rw (e₁, opened_decoded s i g none fin, opened_controller s i g none fin, ee)

-- what it makes of the settings, in the words of its rule
makes_is : (code : ℕ) (s : Octets) (at : ℕ) (c : Controller) (old new : Settings) (u : RadioRule) (ps : Octets) → Makes code s at old new
    → Opens code u → old ≡ settings_of c → ps ≡ part s at u.size
    → settings_effect u (settings_of c) ps ≡ new
makes_is code s at c old new u ps all op eo ep = sym (all u op ∙ rw (eo, ep))

-- the command acts
pub report_acted : (s s₁ s' d d' : Octets) (i at code : ℕ) (r : Answer) (old new : Settings) → Ready s i → Lengths.reply_buffer ≤ length d
    → code ≡ u16 s (place_of i 1) → (code ≡ 0 → ⊥)
    → old ≡ settings_of (controller_of s i) → at ≡ place_of i 1 + 2 → Makes code s at old new → s₁ ≡ encode (with_open (decode s) i none)
    → r ≡ Done (length (acted_reply i code old new (schedule_of s₁ i))) → d' ≡ write_at d 0 (acted_reply i code old new (schedule_of s₁ i))
    → s' ≡ encode (put_controller (decode s₁) i (acted_controller (controller_of s₁ i) old new)) → Gives (reported s i 0) r d d' s'
unfolding open_of
report_acted s s₁ s' d d' i at code r old new g big ec n eo ea all e₁ er ed es =
    let c = controller_of s i in
    let t = schedule_of s i in
    let o = open_of code (part s at (size_of (rule code))) in
    let eq : open_at s i ≡ some o = open_as s i at code g ec ea n in
    let w : Waiting code = waiting s i g o eq in
    let acts = opens_acts code w.by c o.params (controller_fine s i g) w.opens in
    let m = makes_is code s at c old new w.by o.params all w.opens eo (ap (λ k. part s at k) (size_is code w.by w.known)) in
    let d₁ = w.by.effect c o.params in
    let es₁ : d₁ ≡ acted_controller c old new = acts.whole ∙ rw (m, eo) in
    let en : settings_of d₁ ≡ new = acts.settings ∙ m in
    let ct : schedule_of s₁ i ≡ t = ap (λ (k : Controller). k.host.advertising.schedule) (cleared_controller s s₁ i g e₁) in
    acted_gives s i o w.by d d' s' r eq w.known (present_controller s i g) (acted_reply i code old new t)
    (acted_is i code c d₁ old new eo en es₁) (er ∙ rw ct) (acted_short i code old new t) big (ed ∙ rw ct) (state_of_lem s s₁ s' i g d₁ old new e₁ es es₁)

-- the open command of an index lies within the state
pub open_within : (i at : ℕ) → i < 4 → at ≡ place_of i 1 → at + 5 ≤ Lengths.state
unfolding place_of place_at sizes
open_within i at l e = omega arith
