-- `faults::in_records` meets its contract. The invariant `Rest`: what is wrong from the record reached on is what is wrong in all.
use native.Mathlib.Omega.{arith}
use Rattle.why.specs.Findings.{and_then}
use Rattle.faults.proofs.Records.{counted, rest_ends, rest_goes}
use Rattle.faults.proofs.in_records.Goals as goal

pub returns-in_err-in_record : goal.returns-in_err-in_record
unfolding and_then
returns-in_err-in_record c =
    let fault = counted _ _ _ _ c.loop-j.j _ (rw c.size_of-size.ensures at c.in_record.ensures) (omega arith) in
    rw (← rest_goes _ _ _ _ _ c.loop-j-test.true c.loop-j.invariant, ← fault) (grind arith)

pub loop-j-preserved : goal.loop-j-preserved
unfolding and_then
loop-j-preserved c =
    let fault = counted _ _ _ _ c.loop-j.j _ (rw c.size_of-size.ensures at c.in_record.ensures) (omega arith) in
    rw (← fault, c.in_ok-in_record.was) at (rest_goes _ _ _ _ _ c.loop-j-test.true c.loop-j.invariant)

pub returns : goal.returns
returns c = rest_ends _ _ _ _ _ c.loop-j-test.false c.loop-j.invariant
