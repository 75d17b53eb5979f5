-- `octets::u16_at` meets its contract. The law `u16_is` says that the number of the two octets is the model's.
use mathlib.Core.Path.{◌∙◌}
use native.Mathlib.Omega.{arith}
use Rattle.octets.proofs.Laws.{u16_is}
use Rattle.octets.proofs.u16_at.Goals as goal

pub returns : goal.returns
returns c = ((cc) ∙ u16_is c.args.s.now c.args.at, omega arith)
