-- The ways out of the dispatch, each as one law over plain variables.
-- Assumes nothing.
use Prim.Native.Nat.{ℕ, ◌≤◌}
use mathlib.Core.Path.{◌≡◌, refl, sym}
use mathlib.Core.Bool.{true, false}
use mathlib.Core.Option.{Option, none, some}
use lib.ListN.{length}
use Rattle.model.specs.Statuses as Statuses
use Rattle.model.specs.Codes as Codes
use Rattle.model.specs.Lengths as Lengths
use Rattle.model.specs.Octets.{Octets, command_status}
use Rattle.model.specs.State.{PlainHub}
use Rattle.model.specs.Reasons.{status_of}
use Rattle.model.specs.declared.Reason.TheVariants.{CodeUnknown, ControllerAbsent}
use Rattle.model.specs.Rules.{Rule, immediate, radio, ImmediateRule, RadioRule, set_powered, set_discoverable, set_connectable, set_low_energy, set_bredr}
use Rattle.model.specs.Rules.{set_static_address}
use Rattle.model.specs.Rules.{general as general_rule}
use Rattle.model.specs.Immediate.{set_bondable, set_local_name, add_uuid, remove_uuid, load_keys, link_key_list, long_term_key_list, identity_key_list}
use Rattle.model.specs.Immediate.{add_advertising, remove_advertising}
use Rattle.model.specs.Immediate.{unpair_device, block_device, unblock_device, add_device, remove_device, read_information}
use Rattle.model.specs.Commands.{rows, find, rule, read_version, read_commands, read_indexes}
use Rattle.model.specs.Hub.{refused, by_status}
use Rattle.model.specs.Meanings.{state_ok}
use Rattle.model.proofs.Model.Tests.{no_way}
use Rattle.octets.specs.Parts.{write_at}
use Rattle.layout.specs.Places.{Ready, present_at}
use Rattle.replies.specs.Answers.{Gives}
use Rattle.model.specs.declared.Answer.{Answer}
use Rattle.model.specs.declared.Answer.TheVariants.{Refused}
use Rattle.outcomes.specs.Outcomes.{general_command, immediate_command, radio_command, any_command, ended}
use Rattle.outcomes.proofs.Endings.{ends_refused}
use Rattle.outcomes.proofs.Routes.{route_unknown, route_general, route_immediate, route_immediate_absent, route_radio, route_radio_absent}
use Rattle.dispatch.specs.declared.command.ControllerCommand.{ControllerCommand}
use Rattle.dispatch.specs.Commands.{controller_code}
use Rattle.dispatch.proofs.Commands.{controller_rule, is_controllers}

-- 1. A code's function --------------------------------------------------------------------------------------------------------------------------

module _ (s : Octets) (i code known : ℕ) (ps d d' s' : Octets) (r : Answer) (ec : code ≡ known) where
  -- a command that is never Busy
  pub arm_immediate : (q : ImmediateRule) → rule known ≡ some (immediate q) → Ready s i → Gives (immediate_command s i known ps q) r d d' s'
      → Gives (any_command s i code ps) r d d' s'
  arm_immediate q e g k = rw (ec, route_immediate s i known ps q e g) k

  -- a settings command that can be Busy
  pub arm_radio : (q : RadioRule) → rule known ≡ some (radio q) → Ready s i → Gives (radio_command s i known ps q) r d d' s'
      → Gives (any_command s i code ps) r d d' s'
  arm_radio q e g k = rw (ec, route_radio s i known ps q e g) k

  -- a general command
  pub arm_general : (f : PlainHub → Octets) → rule known ≡ some (general_rule f) → Gives (general_command s i known ps f) r d d' s'
      → Gives (any_command s i code ps) r d d' s'
  arm_general f e k = rw (ec, route_general s i known ps f e) k

-- 2. Refusals -----------------------------------------------------------------------------------------------------------------------------------

module _ (s : Octets) (i code : ℕ) (ps d d' : Octets) (r : Answer) (ok : state_ok s ≡ true) (big : Lengths.reply_buffer ≤ length d) where
  -- whichever rule of a command to a controller it is, an absent index is Invalid Index
  absent_by : present_at s i ≡ false → (u : Option Rule) → rule code ≡ u → is_controllers u ≡ true
      → any_command s i code ps ≡ ended s (refused (by_status i code) ControllerAbsent)
  unfolding is_controllers
  absent_by e none eu t = no_way (sym t)
  absent_by e (some (general_rule f)) eu t = no_way (sym t)
  absent_by e (some (immediate q)) eu t = route_immediate_absent s i code ps q eu e
  absent_by e (some (radio q)) eu t = route_radio_absent s i code ps q eu e

  -- a command to an absent index
  pub arm_absent : (k : ControllerCommand) → code ≡ controller_code k → present_at s i ≡ false → r ≡ Refused 9
      → d' ≡ write_at d 0 (command_status i code Statuses.invalid_index) → Gives (any_command s i code ps) r d d' s
  unfolding status_of
  arm_absent k ec e n w =
      rw (absent_by e (rule code) refl (rw ec (controller_rule k))) (ends_refused s i code ControllerAbsent d d' r ok big n w)

  -- a code that is not known
  pub arm_unknown : rule code ≡ none → r ≡ Refused 9 → d' ≡ write_at d 0 (command_status i code Statuses.unknown_command)
      → Gives (any_command s i code ps) r d d' s
  unfolding status_of
  arm_unknown e n w = rw (route_unknown s i code ps e) (ends_refused s i code CodeUnknown d d' r ok big n w)

-- 3. The rules by code --------------------------------------------------------------------------------------------------------------------------

-- Read Version is a general command
pub rule_01 : rule Codes.read_version ≡ some (general_rule read_version)
unfolding rule find rows
rule_01 = refl

-- the same, of Read Commands
pub rule_02 : rule Codes.read_commands ≡ some (general_rule read_commands)
unfolding rule find rows
rule_02 = refl

-- the same, of Read Indexes
pub rule_03 : rule Codes.read_indexes ≡ some (general_rule read_indexes)
unfolding rule find rows
rule_03 = refl

-- Read Controller Information is never Busy
pub rule_04 : rule Codes.read_information ≡ some (immediate read_information)
unfolding rule find rows
rule_04 = refl

-- Set Powered can be Busy
pub rule_05 : rule Codes.set_powered ≡ some (radio set_powered)
unfolding rule find rows
rule_05 = refl

-- the same, of Set Discoverable
pub rule_06 : rule Codes.set_discoverable ≡ some (radio set_discoverable)
unfolding rule find rows
rule_06 = refl

-- the same, of Set Connectable
pub rule_07 : rule Codes.set_connectable ≡ some (radio set_connectable)
unfolding rule find rows
rule_07 = refl

-- Set Bondable is never Busy: it waits for no radio (01, Commands, 0x0009)
pub rule_09 : rule Codes.set_bondable ≡ some (immediate set_bondable)
unfolding rule find rows
rule_09 = refl

-- Set Low Energy can be Busy
pub rule_0D : rule Codes.set_low_energy ≡ some (radio set_low_energy)
unfolding rule find rows
rule_0D = refl

-- Set Local Name is never Busy
pub rule_0F : rule Codes.set_local_name ≡ some (immediate set_local_name)
unfolding rule find rows
rule_0F = refl

-- the same, of Add UUID
pub rule_10 : rule Codes.add_uuid ≡ some (immediate add_uuid)
unfolding rule find rows
rule_10 = refl

-- the same, of Remove UUID
pub rule_11 : rule Codes.remove_uuid ≡ some (immediate remove_uuid)
unfolding rule find rows
rule_11 = refl

-- Load Link Keys is a key list, never Busy
pub rule_12 : rule Codes.load_link_keys ≡ some (immediate (load_keys link_key_list))
unfolding rule find rows
rule_12 = refl

-- the same, of Load Long Term Keys
pub rule_13 : rule Codes.load_long_term_keys ≡ some (immediate (load_keys long_term_key_list))
unfolding rule find rows
rule_13 = refl

-- Unpair Device is never Busy
pub rule_1B : rule Codes.unpair_device ≡ some (immediate unpair_device)
unfolding rule find rows
rule_1B = refl

-- the same, of Block Device
pub rule_26 : rule Codes.block_device ≡ some (immediate block_device)
unfolding rule find rows
rule_26 = refl

-- the same, of Unblock Device
pub rule_27 : rule Codes.unblock_device ≡ some (immediate unblock_device)
unfolding rule find rows
rule_27 = refl

-- Set BR/EDR can be Busy (02, E5)
pub rule_2A : rule Codes.set_bredr ≡ some (radio set_bredr)
unfolding rule find rows
rule_2A = refl

-- Set Static Address can be Busy, a rule of 01's own (01, Commands, paragraph on settings)
pub rule_2B : rule Codes.set_static_address ≡ some (radio set_static_address)
unfolding rule find rows
rule_2B = refl

-- Load Identity Resolving Keys is a key list, never Busy
pub rule_30 : rule Codes.load_identity_keys ≡ some (immediate (load_keys identity_key_list))
unfolding rule find rows
rule_30 = refl

-- Add Device is never Busy
pub rule_33 : rule Codes.add_device ≡ some (immediate add_device)
unfolding rule find rows
rule_33 = refl

-- the same, of Remove Device
pub rule_34 : rule Codes.remove_device ≡ some (immediate remove_device)
unfolding rule find rows
rule_34 = refl

-- the same, of Add Advertising
pub rule_3E : rule Codes.add_advertising ≡ some (immediate add_advertising)
unfolding rule find rows
rule_3E = refl

-- the same, of Remove Advertising
pub rule_3F : rule Codes.remove_advertising ≡ some (immediate remove_advertising)
unfolding rule find rows
rule_3F = refl
