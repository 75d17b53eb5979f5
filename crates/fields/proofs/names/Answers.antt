-- `fields::names` meets its contract: the short name is read where the name ends.
use Rattle.std.proofs.Common.{refl}
use Rattle.fields.specs.Reads.{Reads}
use Rattle.fields.proofs.Reach.{handed_on, reads_on, reads_stop}
use Rattle.fields.proofs.names.Goals as goal

pub returns-in_err-short : goal.returns-in_err-short
returns-in_err-short c = handed_on (Reads _ _) _ _ _ c.from_residual.ensures.1 refl (reads_stop _ _ _ _ c.in_err-short.ensures)

pub returns : goal.returns
returns c = reads_on _ _ _ _ _ c.in_ok-short.ensures (λ n. c.name-2.ensures)
