-- `moves::upgrade` meets its contract.
use Rattle.model.specs.Moves.{hub_upgrade}
use Rattle.moves.specs.Moving.{other}
use Rattle.moves.proofs.upgrade.Goals as goal

pub returns : goal.returns
unfolding hub_upgrade other
returns c = c.move_to.ensures
