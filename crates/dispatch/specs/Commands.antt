-- The commands by their codes.
use Rattle.std.specs.Prelude.{ℕ, ◌≡◌, Result, Ok, Err}
use Rattle.std.proofs.Math.Option.{none}
use Rattle.model.specs.Codes as Codes
use Rattle.model.specs.Commands.{rule}
use Rattle.dispatch.specs.declared.command.HubCommand.{HubCommand}
use Rattle.dispatch.specs.declared.command.HubCommand.TheVariants.{ReadVersion, ReadCommands, ReadIndexes}
use Rattle.dispatch.specs.declared.command.ControllerCommand.{ControllerCommand}
use Rattle.dispatch.specs.declared.command.ControllerCommand.TheVariants.{ReadInformation, SetPowered, SetDiscoverable, SetConnectable, SetBondable, SetLowEnergy, SetLocalName, AddUuid, RemoveUuid, LoadLinkKeys}
use Rattle.dispatch.specs.declared.command.ControllerCommand.TheVariants.{LoadLongTermKeys, UnpairDevice, BlockDevice, UnblockDevice, SetBredr, SetStaticAddress, LoadIdentityKeys, AddDevice, RemoveDevice, AddAdvertising, RemoveAdvertising}
use Rattle.dispatch.specs.declared.command.Command.{Command}
use Rattle.dispatch.specs.declared.command.Command.TheVariants.{ToHub, ToController}
use Rattle.dispatch.specs.declared.command.UnknownCode.{UnknownCode}

-- the code of a command to the hub (01, Commands)
abbrev pub hub_code : HubCommand → ℕ
hub_code ReadVersion = Codes.read_version
hub_code ReadCommands = Codes.read_commands
hub_code ReadIndexes = Codes.read_indexes

-- the code of a command to a controller (01, Commands; 02, E1, E5)
abbrev pub controller_code : ControllerCommand → ℕ
controller_code ReadInformation = Codes.read_information
controller_code SetPowered = Codes.set_powered
controller_code SetDiscoverable = Codes.set_discoverable
controller_code SetConnectable = Codes.set_connectable
controller_code SetBondable = Codes.set_bondable
controller_code SetLowEnergy = Codes.set_low_energy
controller_code SetLocalName = Codes.set_local_name
controller_code AddUuid = Codes.add_uuid
controller_code RemoveUuid = Codes.remove_uuid
controller_code LoadLinkKeys = Codes.load_link_keys
controller_code LoadLongTermKeys = Codes.load_long_term_keys
controller_code UnpairDevice = Codes.unpair_device
controller_code BlockDevice = Codes.block_device
controller_code UnblockDevice = Codes.unblock_device
controller_code SetBredr = Codes.set_bredr
controller_code SetStaticAddress = Codes.set_static_address
controller_code LoadIdentityKeys = Codes.load_identity_keys
controller_code AddDevice = Codes.add_device
controller_code RemoveDevice = Codes.remove_device
controller_code AddAdvertising = Codes.add_advertising
controller_code RemoveAdvertising = Codes.remove_advertising

-- the code of either
abbrev pub code_of : Command → ℕ
code_of (ToHub command) = hub_code command
code_of (ToController command) = controller_code command

-- what a code names: the command that has it, or none where the hub has no rule for it
abbrev pub Names : ℕ → Result Command UnknownCode → Type 0
Names code (Ok command) = code ≡ code_of command
Names code (Err unknown) = rule code ≡ none
