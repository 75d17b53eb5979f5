-- `octets::u32_at` meets its contract. The law `u32_is` says that the number of the four octets is the model's.
use mathlib.Core.Path.{◌∙◌}
use native.Mathlib.Omega.{arith}
use Rattle.octets.proofs.Laws.{u32_is}
use Rattle.octets.proofs.u32_at.Goals as goal

pub returns : goal.returns
returns c = ((cc) ∙ u32_is c.args.s.now c.args.at, omega arith)
