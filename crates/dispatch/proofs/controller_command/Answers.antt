-- `dispatch::controller_command` meets its contract: each command has its code, and the code its rule.
use Rattle.std.proofs.Common.{ap}
use Rattle.model.specs.Rules.{set_bredr, set_connectable, set_discoverable, set_low_energy, set_powered, set_static_address}
use Rattle.model.specs.Immediate.{load_keys, link_key_list, long_term_key_list, identity_key_list}
use Rattle.model.specs.Immediate.{add_advertising, add_device, add_uuid, block_device, read_information, remove_advertising, remove_device, remove_uuid, set_bondable, set_local_name, unblock_device, unpair_device}
use Rattle.dispatch.specs.Commands.{controller_code}
use Rattle.dispatch.proofs.Bridge.{arm_immediate, arm_radio, rule_04, rule_05, rule_06, rule_07, rule_09, rule_0D, rule_0F, rule_10, rule_11, rule_12, rule_13, rule_1B, rule_26, rule_27, rule_2A, rule_2B, rule_30, rule_33, rule_34, rule_3E, rule_3F}
use Rattle.dispatch.proofs.controller_command.Goals as goal

pub returns-in-ReadInformation : goal.returns-in-ReadInformation
returns-in-ReadInformation c = arm_immediate _ _ _ 4 _ _ _ _ _ (ap controller_code c.in-ReadInformation.is) read_information rule_04 c.requires.0 c.read_information.ensures

pub returns-in-SetPowered : goal.returns-in-SetPowered
returns-in-SetPowered c = arm_radio _ _ _ 5 _ _ _ _ _ (ap controller_code c.in-SetPowered.is) set_powered rule_05 c.requires.0 c.set_powered.ensures

pub returns-in-SetDiscoverable : goal.returns-in-SetDiscoverable
returns-in-SetDiscoverable c = arm_radio _ _ _ 6 _ _ _ _ _ (ap controller_code c.in-SetDiscoverable.is) set_discoverable rule_06 c.requires.0 c.set_discoverable.ensures

pub returns-in-SetConnectable : goal.returns-in-SetConnectable
returns-in-SetConnectable c = arm_radio _ _ _ 7 _ _ _ _ _ (ap controller_code c.in-SetConnectable.is) set_connectable rule_07 c.requires.0 c.set_connectable.ensures

pub returns-in-SetBondable : goal.returns-in-SetBondable
returns-in-SetBondable c = arm_immediate _ _ _ 9 _ _ _ _ _ (ap controller_code c.in-SetBondable.is) set_bondable rule_09 c.requires.0 c.set_bondable.ensures

pub returns-in-SetLowEnergy : goal.returns-in-SetLowEnergy
returns-in-SetLowEnergy c = arm_radio _ _ _ 13 _ _ _ _ _ (ap controller_code c.in-SetLowEnergy.is) set_low_energy rule_0D c.requires.0 c.set_low_energy.ensures

pub returns-in-SetLocalName : goal.returns-in-SetLocalName
returns-in-SetLocalName c = arm_immediate _ _ _ 15 _ _ _ _ _ (ap controller_code c.in-SetLocalName.is) set_local_name rule_0F c.requires.0 c.set_local_name.ensures

pub returns-in-AddUuid : goal.returns-in-AddUuid
returns-in-AddUuid c = arm_immediate _ _ _ 16 _ _ _ _ _ (ap controller_code c.in-AddUuid.is) add_uuid rule_10 c.requires.0 c.add_uuid.ensures

pub returns-in-RemoveUuid : goal.returns-in-RemoveUuid
returns-in-RemoveUuid c = arm_immediate _ _ _ 17 _ _ _ _ _ (ap controller_code c.in-RemoveUuid.is) remove_uuid rule_11 c.requires.0 c.remove_uuid.ensures

pub returns-in-LoadLinkKeys : goal.returns-in-LoadLinkKeys
returns-in-LoadLinkKeys c = arm_immediate _ _ _ 18 _ _ _ _ _ (ap controller_code c.in-LoadLinkKeys.is) (load_keys link_key_list) rule_12 c.requires.0 c.load_link_keys.ensures

pub returns-in-LoadLongTermKeys : goal.returns-in-LoadLongTermKeys
returns-in-LoadLongTermKeys c = arm_immediate _ _ _ 19 _ _ _ _ _ (ap controller_code c.in-LoadLongTermKeys.is) (load_keys long_term_key_list) rule_13 c.requires.0 c.load_long_term_keys.ensures

pub returns-in-UnpairDevice : goal.returns-in-UnpairDevice
returns-in-UnpairDevice c = arm_immediate _ _ _ 27 _ _ _ _ _ (ap controller_code c.in-UnpairDevice.is) unpair_device rule_1B c.requires.0 c.unpair_device.ensures

pub returns-in-BlockDevice : goal.returns-in-BlockDevice
returns-in-BlockDevice c = arm_immediate _ _ _ 38 _ _ _ _ _ (ap controller_code c.in-BlockDevice.is) block_device rule_26 c.requires.0 c.block_device.ensures

pub returns-in-UnblockDevice : goal.returns-in-UnblockDevice
returns-in-UnblockDevice c = arm_immediate _ _ _ 39 _ _ _ _ _ (ap controller_code c.in-UnblockDevice.is) unblock_device rule_27 c.requires.0 c.unblock_device.ensures

pub returns-in-SetBredr : goal.returns-in-SetBredr
returns-in-SetBredr c = arm_radio _ _ _ 42 _ _ _ _ _ (ap controller_code c.in-SetBredr.is) set_bredr rule_2A c.requires.0 c.set_bredr.ensures

pub returns-in-SetStaticAddress : goal.returns-in-SetStaticAddress
returns-in-SetStaticAddress c = arm_radio _ _ _ 43 _ _ _ _ _ (ap controller_code c.in-SetStaticAddress.is) set_static_address rule_2B c.requires.0 c.set_static_address.ensures

pub returns-in-LoadIdentityKeys : goal.returns-in-LoadIdentityKeys
returns-in-LoadIdentityKeys c = arm_immediate _ _ _ 48 _ _ _ _ _ (ap controller_code c.in-LoadIdentityKeys.is) (load_keys identity_key_list) rule_30 c.requires.0 c.load_identity_keys.ensures

pub returns-in-AddDevice : goal.returns-in-AddDevice
returns-in-AddDevice c = arm_immediate _ _ _ 51 _ _ _ _ _ (ap controller_code c.in-AddDevice.is) add_device rule_33 c.requires.0 c.add_device.ensures

pub returns-in-RemoveDevice : goal.returns-in-RemoveDevice
returns-in-RemoveDevice c = arm_immediate _ _ _ 52 _ _ _ _ _ (ap controller_code c.in-RemoveDevice.is) remove_device rule_34 c.requires.0 c.remove_device.ensures

pub returns-in-AddAdvertising : goal.returns-in-AddAdvertising
returns-in-AddAdvertising c = arm_immediate _ _ _ 62 _ _ _ _ _ (ap controller_code c.in-AddAdvertising.is) add_advertising rule_3E c.requires.0 c.add_advertising.ensures

pub returns-in-RemoveAdvertising : goal.returns-in-RemoveAdvertising
returns-in-RemoveAdvertising c = arm_immediate _ _ _ 63 _ _ _ _ _ (ap controller_code c.in-RemoveAdvertising.is) remove_advertising rule_3F c.requires.0 c.remove_advertising.ensures
