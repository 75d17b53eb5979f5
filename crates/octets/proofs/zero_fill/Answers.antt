-- `octets::zero_fill` meets its contract. The zeros filled into the middle are one write.
use native.Mathlib.Omega.{arith}
use mathlib.Core.Path.{◌∙◌}
use borrow.Author.Rules.{rules}
use lib.ListN.{replicate, length-replicate}
use Rattle.octets.proofs.Laws.{mid_is, lent_part}
use Rattle.octets.proofs.Parts.{length_part}
use Rattle.octets.proofs.zero_fill.Goals as goal

pub returns : goal.returns
returns c =
    let s = c.args.s.now in
    let n = c.args.n in
    let z = rw (lent_part s c.args.at n, length_part s c.args.at n (search rules)) at c.fill.ensures.after (λ y h. h) in
    rw z (mid_is s (replicate n 0) c.args.at _ (length-replicate n 0 ∙ omega arith) (omega arith))
