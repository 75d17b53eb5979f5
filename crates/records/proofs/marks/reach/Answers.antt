-- `records::marks::reach` meets its contract, of few marks and of many.
use mathlib.Core.Path.{◌∙◌}
use native.Mathlib.Omega.{arith}
use Rattle.records.proofs.Marking.{reach_min}
use Rattle.records.proofs.marks.reach.Goals as goal

pub returns : goal.returns
returns c = (c.min.ensures ∙ reach_min _, omega arith)
