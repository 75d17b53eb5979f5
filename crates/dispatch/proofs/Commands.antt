-- Laws of the commands by their codes: a code that no command has is in no row, and each command has the rule of its kind.
use Prim.Native.Nat.{ℕ}
use mathlib.Core.Path.{◌≡◌, refl, sym}
use mathlib.Core.Bool.{Bool, true, false}
use mathlib.Core.List.{List, [], ◌∷◌}
use mathlib.Core.Option.{Option, none, some}
use borrow.Author.Tests.{ne_eqb}
use Rattle.model.specs.Octets.{Octets}
use Rattle.model.specs.State.{PlainHub}
use Rattle.model.specs.Rules.{Rule, immediate, radio}
use Rattle.model.specs.Rules.{general as general_rule}
use Rattle.model.specs.Commands.{Row, rows, find, rule, read_version, read_commands, read_indexes}
use Rattle.dispatch.specs.declared.command.HubCommand.{HubCommand}
use Rattle.dispatch.specs.declared.command.HubCommand.TheVariants.{ReadVersion, ReadCommands, ReadIndexes}
use Rattle.dispatch.specs.declared.command.ControllerCommand.{ControllerCommand}
use Rattle.dispatch.specs.declared.command.ControllerCommand.TheVariants.{ReadInformation, SetPowered, SetDiscoverable, SetConnectable, SetBondable, SetLowEnergy, SetLocalName, AddUuid, RemoveUuid, LoadLinkKeys}
use Rattle.dispatch.specs.declared.command.ControllerCommand.TheVariants.{LoadLongTermKeys, UnpairDevice, BlockDevice, UnblockDevice, SetBredr, SetStaticAddress, LoadIdentityKeys, AddDevice, RemoveDevice, AddAdvertising, RemoveAdvertising}
use Rattle.dispatch.specs.Commands.{hub_code, controller_code}

-- the code is that of none of these rows
abbrev pub Apart : ℕ → List Row → Type 0
Apart code [] = Unit {0}
Apart code (r ∷ rs) = (code ≡ r.0 → ⊥) × Apart code rs

-- such a code has no rule in them
find_none : (code : ℕ) (rs : List Row) → Apart code rs → find code rs ≡ none
unfolding find
find_none code [] a = refl
find_none code (r ∷ rs) a = rw (ne_eqb r.0 code (λ e. a.0 (sym e)), find) (find_none code rs a.1)

-- nor in all 24
pub no_rule : (code : ℕ) → Apart code rows → rule code ≡ none
unfolding rule
no_rule code a = find_none code rows a

-- the rule of a command to a controller
unfoldable pub is_controllers : Option Rule → Bool
is_controllers none = false
is_controllers (some (general_rule f)) = false
is_controllers (some (immediate q)) = true
is_controllers (some (radio q)) = true

-- each command to a controller has one
pub controller_rule : (k : ControllerCommand) → is_controllers (rule (controller_code k)) ≡ true
unfolding is_controllers rule find rows
controller_rule ReadInformation = refl
controller_rule SetPowered = refl
controller_rule SetDiscoverable = refl
controller_rule SetConnectable = refl
controller_rule SetBondable = refl
controller_rule SetLowEnergy = refl
controller_rule SetLocalName = refl
controller_rule AddUuid = refl
controller_rule RemoveUuid = refl
controller_rule LoadLinkKeys = refl
controller_rule LoadLongTermKeys = refl
controller_rule UnpairDevice = refl
controller_rule BlockDevice = refl
controller_rule UnblockDevice = refl
controller_rule SetBredr = refl
controller_rule SetStaticAddress = refl
controller_rule LoadIdentityKeys = refl
controller_rule AddDevice = refl
controller_rule RemoveDevice = refl
controller_rule AddAdvertising = refl
controller_rule RemoveAdvertising = refl

-- each command to the hub has one that only tells of it
pub hub_rule : (k : HubCommand) → (f : PlainHub → Octets) × (rule (hub_code k) ≡ some (general_rule f))
unfolding rule find rows
hub_rule ReadVersion = (read_version, refl)
hub_rule ReadCommands = (read_commands, refl)
hub_rule ReadIndexes = (read_indexes, refl)
