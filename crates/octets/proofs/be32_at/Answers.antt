-- `octets::be32_at` meets its contract. The law `be32_is` says that the part there spells the number of the octets.
use mathlib.Core.Path.{◌≡◌, ◌∙◌}
use native.Mathlib.Omega.{arith}
use Rattle.octets.proofs.Laws.{be32_is}
use borrow.Author.Rules.{rules}
use Rattle.model.specs.Octets.{number}
use Rattle.octets.specs.Parts.{part}
use Rattle.octets.proofs.be32_at.Goals as goal

pub returns : goal.returns
returns c =
    let read : c.from.result ≡ number 0 (part c.args.s.now c.args.at 4) = (cc) ∙ be32_is c.args.s.now c.args.at (search rules) in
    (omega (arith, read), omega arith)
