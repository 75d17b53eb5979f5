-- `fields::hardware_in` meets its contract: each part is read at its place.
use mathlib.Core.Path.{◌∙◌}
use Rattle.fields.proofs.Places.{hardware_from_lem, hardware_from}
use Rattle.fields.proofs.hardware_in.Goals as goal

pub returns : goal.returns
unfolding hardware_from
returns c = let a = c.args in (cc) ∙ hardware_from_lem a.image.now a.at
