-- `information::read_version` meets its contract.
use Rattle.information.proofs.General.{version_is}
use Rattle.model.specs.Commands.{read_version}
use borrow.Author.Rules.{rules}
use Rattle.information.proofs.read_version.Goals as goal

pub returns : goal.returns
returns c = c.general_reply.ensures.gives _ read_version (search rules) (version_is _)
