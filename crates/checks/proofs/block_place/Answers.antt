-- `checks::block_place` meets its contract. The open command lies behind the first octet of its block.
use mathlib.Core.Path.{◌∙◌}
use native.Mathlib.Omega.{arith}
use Rattle.checks.proofs.Laws.{place_one}
use Rattle.checks.proofs.block_place.Goals as goal

pub overflow_sub-result : goal.overflow_sub-result
overflow_sub-result c = let e = c.open_place.ensures ∙ place_one _ in omega arith

pub returns : goal.returns
returns c = let e = c.open_place.ensures ∙ place_one _ in omega arith
