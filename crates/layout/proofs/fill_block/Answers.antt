-- `layout::fill_block` meets its contract. Four writes into a block that is zero; the state is as long as a well-formed one.
use mathlib.Core.Path.{◌∙◌}
use native.Mathlib.Omega.{arith}
use Rattle.model.proofs.Model.Demand3.{state_long}
use Rattle.layout.proofs.Filled.{block_filled}
use Rattle.layout.proofs.fill_block.Goals as goal

pub put8-requires : goal.put8-requires
put8-requires c = omega (arith, state_long _ c.requires.0)

pub copy_into-requires : goal.copy_into-requires
copy_into-requires c = omega (arith, state_long _ c.requires.0)

pub copy_into-requires-2 : goal.copy_into-requires-2
copy_into-requires-2 c = omega (
  arith,
  state_long _ c.requires.0,
)

pub copy_into-requires-3 : goal.copy_into-requires-3
copy_into-requires-3 c = omega (
  arith,
  state_long _ c.requires.0,
)

pub returns : goal.returns
returns c =
    let p = c.requires in (cc) ∙ block_filled _ _ _ p.0 p.1 p.2 p.3
