-- `layout::put_clock` meets its contract. Four octets at the start; the state is as long as a well-formed one.
use mathlib.Core.Path.{◌∙◌}
use native.Mathlib.Omega.{arith}
use Rattle.layout.proofs.Filled.{clock_changed}
use Rattle.model.proofs.Model.Demand3.{state_long}
use borrow.Author.Rules.{rules}
use Rattle.layout.proofs.put_clock.Goals as goal

pub put32-requires : goal.put32-requires
put32-requires c = omega (arith, state_long _ c.requires)

pub returns : goal.returns
returns c = (cc) ∙ clock_changed _ _ (search rules)
