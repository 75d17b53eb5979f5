-- `octets::u64_at` meets its contract. Two numbers of four octets are read, and the law `u64_is` says that they are one of eight.
use mathlib.Core.Path.{◌∙◌}
use Rattle.octets.proofs.Numbers.{u64_is}
use borrow.Author.Rules.{rules}
use Rattle.octets.proofs.u64_at.Goals as goal

pub returns : goal.returns
returns c = (cc) ∙ u64_is _ _ (search rules)
