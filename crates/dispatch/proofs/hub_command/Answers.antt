-- `dispatch::hub_command` meets its contract: each command has its code, and the code its rule.
use Rattle.std.proofs.Common.{ap}
use Rattle.model.specs.Commands.{read_version, read_commands, read_indexes}
use Rattle.dispatch.specs.Commands.{hub_code}
use Rattle.dispatch.proofs.Bridge.{arm_general, rule_01, rule_02, rule_03}
use Rattle.dispatch.proofs.hub_command.Goals as goal

pub returns-in-ReadVersion : goal.returns-in-ReadVersion
returns-in-ReadVersion c = arm_general _ _ _ 1 _ _ _ _ _ (ap hub_code c.in-ReadVersion.is) read_version rule_01 c.read_version.ensures

pub returns-in-ReadCommands : goal.returns-in-ReadCommands
returns-in-ReadCommands c = arm_general _ _ _ 2 _ _ _ _ _ (ap hub_code c.in-ReadCommands.is) read_commands rule_02 c.read_commands.ensures

pub returns-in-ReadIndexes : goal.returns-in-ReadIndexes
returns-in-ReadIndexes c = arm_general _ _ _ 3 _ _ _ _ _ (ap hub_code c.in-ReadIndexes.is) read_indexes rule_03 c.read_indexes.ensures
