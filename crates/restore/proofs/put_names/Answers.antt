-- `restore::put_names` meets its contract: the names, written into zeros, are put into the state.
use Rattle.std.proofs.Common.{refl}
use Rattle.restore.proofs.Names.{names_put}
use Rattle.restore.proofs.put_names.Goals as goal

pub returns : goal.returns
returns c = names_put _ _ _ _ _ _ _ _ c.requires.1 c.requires.2 refl c.copy_into.ensures c.copy_into-2.ensures c.put_name.ensures
