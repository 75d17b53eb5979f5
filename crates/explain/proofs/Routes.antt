-- From a code to its command's finding, each step as one law over plain variables; and what stands before a key list.
use Prim.Native.Nat.{ℕ, ◌+◌, ◌*◌, ◌≤◌, ◌<◌}
use mathlib.Core.Path.{◌≡◌, refl, sym, ap, ◌∙◌}
use mathlib.Core.Bool.{Bool, true, false, not}
use mathlib.Core.Logic.{◌⊎◌, inl, inr}
use native.Mathlib.Omega.{arith}
use mathlib.Core.Option.{Option, none, some}
use lib.ListN.{length}
use lib.Dec.{eqb}
use Rattle.std.specs.Prelude.{Err}
use Rattle.model.specs.Codes as Codes
use Rattle.model.specs.declared.Place.TheVariants.{AtOctet}
use Rattle.model.specs.declared.Reason.TheVariants.{CodeUnknown, ControllerAbsent, LengthWrong}
use Rattle.model.specs.Octets.{Octets, u16}
use Rattle.model.specs.declared.Settings.{Settings}
use Rattle.model.specs.State.{Controller, PlainHub, controller_at, settings_of}
use Rattle.model.specs.Rules.{ImmediateRule, RadioRule, Rule, immediate, radio}
use Rattle.model.specs.Rules.{general as general_rule}
use Rattle.model.specs.Immediate.{KeyList, length_field, list_checks, load_keys, records_of}
use Rattle.model.specs.Commands.{read_commands, read_indexes, read_version, rule}
use Rattle.model.specs.Hub.{under_way}
use Rattle.model.specs.Layout.{decode}
use Rattle.model.proofs.Model.Tests.{equal, no_way}
use Rattle.layout.specs.Places.{Ready, controller_of, open_at, place_of, present_at}
use Rattle.layout.proofs.Open.{open_command, open_nothing}
use Rattle.layout.proofs.Reading.{absent_controller, present_controller}
use Rattle.dispatch.specs.declared.command.HubCommand.{HubCommand}
use Rattle.dispatch.specs.declared.command.ControllerCommand.{ControllerCommand}
use Rattle.dispatch.specs.Commands.{controller_code, hub_code}
use Rattle.dispatch.proofs.Commands.{controller_rule, hub_rule, is_controllers}
use Rattle.why.specs.declared.Objection.TheVariants.{Wrong}
use Rattle.why.specs.Findings.{Finding, and_then, checked, first_wrong, in_packet, is_open, why_at, why_by, why_general, why_immediate, why_radio}
use Rattle.explain.specs.Counts.{count_octet}

-- 1. By the code ----------------------------------------------------------------------------------------------------------------------------------

module _ (s : Octets) (i code known : ℕ) (ps : Octets) (f : Finding) (ec : code ≡ known) where
  -- a command that is never Busy
  pub arm_immediate : (q : ImmediateRule) → rule known ≡ some (immediate q) → Ready s i → f ≡ why_immediate q (controller_of s i) ps
      → f ≡ why_by (decode s) i ps (rule code)
  unfolding why_by why_at
  arm_immediate q e g k = rw (ec, e, present_controller s i g) k

  -- a settings command
  pub arm_radio : (q : RadioRule) → rule known ≡ some (radio q) → Ready s i → f ≡ why_radio q (controller_of s i).radio (is_open (open_at s i)) ps
      → f ≡ why_by (decode s) i ps (rule code)
  unfolding why_by why_at under_way open_at
  arm_radio q e g k = rw (ec, e, present_controller s i g) k

  -- by the settings that were read, and by what was found under way
  pub arm_settings : (q : RadioRule) → rule known ≡ some (radio q) → Ready s i → (m : Settings) (b : Bool) → m ≡ settings_of (controller_of s i)
      → b ≡ is_open (open_at s i) → f ≡ why_radio q m.radio b ps → f ≡ why_by (decode s) i ps (rule code)
  unfolding settings_of
  arm_settings q e g m b em eb k = arm_radio q e g (k ∙ rw (em, eb))

module _ (s : Octets) (i code : ℕ) (ps : Octets) where
  -- whichever rule of a command to a controller it is
  absent_by : controller_at (decode s).plain i ≡ none → (u : Option Rule) → is_controllers u ≡ true
      → Err (Wrong ControllerAbsent (AtOctet 2)) ≡ why_by (decode s) i ps u
  unfolding is_controllers why_by why_at
  absent_by e none t = no_way (sym t)
  absent_by e (some (general_rule f)) t = no_way (sym t)
  absent_by e (some (immediate q)) t = rw e
  absent_by e (some (radio q)) t = rw e

  -- a command to the hub itself
  pub arm_hub : (k : HubCommand) → code ≡ hub_code k → (f : Finding) → f ≡ why_general i ps → f ≡ why_by (decode s) i ps (rule code)
  unfolding why_by
  arm_hub k ec f e = let g = hub_rule k in rw (ec, g.1) e

  -- a command to an absent controller
  pub arm_absent : (k : ControllerCommand) → code ≡ controller_code k → present_at s i ≡ false
      → Err (Wrong ControllerAbsent (AtOctet 2)) ≡ why_by (decode s) i ps (rule code)
  arm_absent k ec e = absent_by (absent_controller s i e) (rule code) (rw ec (controller_rule k))

  -- a code that is not known
  pub arm_unknown : rule code ≡ none → Err (Wrong CodeUnknown (AtOctet 0)) ≡ why_by (decode s) i ps (rule code)
  unfolding why_by
  arm_unknown e = rw e

-- 2. What is under way ------------------------------------------------------------------------------------------------------------------------------

-- nothing is where the code that is kept is 0
pub under_way_lem : (s : Octets) (i : ℕ) → Ready s i → (n : ℕ) → n ≡ u16 s (place_of i 1) → not (eqb n 0) ≡ is_open (open_at s i)
unfolding is_open
under_way_lem s i g n e = go (eqb n 0) refl
  where
    go : (b : Bool) → eqb n 0 ≡ b → not b ≡ is_open (open_at s i)
    go true t = rw (open_nothing s i g (sym e ∙ equal n 0 t))
    go false t = rw (open_command s i g (λ z. no_way (rw (e ∙ z) at t)))

-- the power that was read with the settings
pub powered_is : (c : Controller) (m : Settings) → m ≡ settings_of c → m.radio.powered ≡ c.radio.powered
unfolding settings_of
powered_is c m e = ap (λ (x : Settings). x.radio.powered) e

-- 3. A list of keys -----------------------------------------------------------------------------------------------------------------------------------

-- why a list is refused: its length, then its checks
pub list_why : (l : KeyList) (ps : Octets) (fits : Bool) → fits ≡ eqb (length ps) (l.count_at + 2 + l.rule.size * u16 ps l.count_at) → (n : ℕ)
    → n ≡ count_octet l.count_at ps → (c : Controller)
    → and_then (checked (not fits) LengthWrong (AtOctet n)) (first_wrong (in_packet (list_checks l c.radio.hardware ps (u16 ps l.count_at) (records_of l ps))))
    ≡ why_immediate (load_keys l) c ps
unfolding load_keys count_octet length_field why_immediate first_wrong
list_why l ps fits e n en c = rw (e, en)
