-- `fields::settings_in` meets its contract: each part is read at its place.
use mathlib.Core.Path.{◌∙◌}
use Rattle.model.specs.State.{no_timer}
use Rattle.fields.proofs.Places.{settings_from_lem, settings_from}
use Rattle.fields.proofs.settings_in.Goals as goal

pub returns : goal.returns
unfolding settings_from no_timer
returns c =
    let a = c.args in
    (cc) ∙ settings_from_lem a.version _ a.image.now a.at c.hardware_in-hardware.ensures
