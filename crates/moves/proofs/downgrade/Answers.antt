-- `moves::downgrade` meets its contract.
use Rattle.model.specs.Moves.{hub_downgrade}
use Rattle.moves.specs.Moving.{other}
use Rattle.moves.proofs.downgrade.Goals as goal

pub returns : goal.returns
unfolding hub_downgrade other
returns c = c.move_to.ensures
