-- `faults::le_address` meets its contract: its checks are the model's, one by one.
use native.Mathlib.Omega.{arith}
use Rattle.why.specs.Findings.{and_then, first_wrong}
use Rattle.faults.proofs.Records.{address_is}
use Rattle.faults.proofs.le_address.Goals as goal

pub returns-in_err-check_in : goal.returns-in_err-check_in
unfolding first_wrong and_then
returns-in_err-check_in c = rw (address_is _ _ _) (grind arith)
