-- `turns::skip` meets its contract. The skipped rounds fit into the seconds; the law of rounds does the rest.
use Rattle.std.proofs.Common.{◌*◌, ◌≤◌, arith}
use Rattle.turns.proofs.Skipping.{whole_some, rounds_fit, skipped}
use Rattle.turns.proofs.Sound.{facts}
use Rattle.turns.proofs.skip.Goals as goal

pub nonzero_div-w : goal.nonzero_div-w
nonzero_div-w c = rw c.whole-whole.ensures (whole_some c.args.w.schedule 0 0 c.requires.0 c.requires.1 c.requires.2)

pub rounds-r-requires : goal.rounds-r-requires
rounds-r-requires c = (facts _ c.requires.0).timed

pub falls-timeouts-requires : goal.falls-timeouts-requires
falls-timeouts-requires c = c.rounds-r.ensures.stays

pub overflow_mul-result : goal.overflow_mul-result
overflow_mul-result c =
    let h : c.rounds-r.result * c.whole-whole.result ≤ c.args.w.seconds = rw c.whole-whole.ensures
    (rounds_fit _ _ _ c.requires.0 c.requires.1 c.requires.2 (rw c.whole-whole.ensures at c.rounds-r.ensures.most)) in
    omega arith

pub overflow_sub-result : goal.overflow_sub-result
overflow_sub-result c =
    rw c.whole-whole.ensures
    (rounds_fit _ _ _ c.requires.0 c.requires.1 c.requires.2 (rw c.whole-whole.ensures at c.rounds-r.ensures.most))

pub returns : goal.returns
returns c =
    rw (c.falls-timeouts.ensures, c.whole-whole.ensures)
    (skipped _ _ _ c.requires.0 c.requires.1 c.requires.2 (rw c.whole-whole.ensures at c.rounds-r.ensures))
