-- `settings::apply_settings` meets its contract.
use mathlib.Core.Path.{ap}
use Rattle.model.specs.declared.Answer.TheVariants.{Done}
use Rattle.settings.proofs.apply_settings.Goals as goal

pub returns : goal.returns
returns c = (
  ap Done c.tell-count.ensures.0,
  c.tell-count.ensures.1,
  c.put_settings.ensures,
)
