-- `information::read_commands` meets its contract.
use Rattle.information.proofs.General.{commands_is}
use Rattle.model.specs.Commands.{read_commands}
use borrow.Author.Rules.{rules}
use Rattle.information.proofs.read_commands.Goals as goal

pub returns : goal.returns
returns c = c.general_reply.ensures.gives _ read_commands (search rules) (commands_is _)
