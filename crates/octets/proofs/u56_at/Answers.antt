-- `octets::u56_at` meets its contract. Numbers of four octets, of two and of one are read, and the law `u56_is` says that they are one of seven.
use mathlib.Core.Path.{◌∙◌}
use native.Mathlib.Omega.{arith}
use Rattle.octets.proofs.Numbers.{u56_is}
use borrow.Author.Rules.{rules}
use Rattle.octets.proofs.u56_at.Goals as goal

pub returns : goal.returns
returns c = ((cc) ∙ u56_is _ _ (search rules), omega arith)
