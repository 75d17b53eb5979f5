-- `faults::long_term_key` meets its contract: the address's checks, then three more.
use native.Mathlib.Omega.{arith}
use Rattle.std.proofs.Common.{rules, ◌≡◌, ◌+◌, ◌||◌, get_or, ltb}
use Rattle.why.specs.Findings.{and_then, first_wrong}
use Rattle.faults.proofs.Records.{long_term_is}
use Rattle.faults.proofs.long_term_key.Goals as goal

pub returns-in_err-check_in : goal.returns-in_err-check_in
unfolding first_wrong and_then
returns-in_err-check_in c = rw (long_term_is _ _ _) (grind arith)

pub returns-in_err-check_in-2 : goal.returns-in_err-check_in-2
unfolding first_wrong and_then
returns-in_err-check_in-2 c = rw (long_term_is _ _ _) (grind arith)

pub returns : goal.returns
unfolding first_wrong and_then
returns c =
    let unfit : c.if-size-lt7.check_in ≡ (ltb (get_or c.args.ps.now (c.args.at + 9) 0) 7 || ltb 16 (get_or c.args.ps.now (c.args.at + 9) 0)) = grind arith in
    rw (long_term_is _ _ _, ← unfit) (search rules)
