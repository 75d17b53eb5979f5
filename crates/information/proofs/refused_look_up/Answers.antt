-- `information::refused_look_up` meets its contract: the answer's number, and nothing told.
use Rattle.information.proofs.LookUp.{refused_told}
use Rattle.information.proofs.refused_look_up.Goals as goal

pub returns : goal.returns
returns c = refused_told _ _ c.number.ensures
