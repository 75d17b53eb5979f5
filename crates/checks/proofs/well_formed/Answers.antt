-- `checks::well_formed` meets its contract. Its length, and block by block.
use Rattle.std.proofs.Common.{arith}
use Rattle.std.proofs.lemmas.Grind.{common_steps}
use Rattle.model.proofs.Model.Tables.{slice_bytes}
use Rattle.checks.proofs.Present.{state_is}
use Rattle.checks.proofs.well_formed.Goals as goal

pub returns-then-block_ok-4 : goal.returns-then-block_ok-4
returns-then-block_ok-4 c = rw (state_is _ (slice_bytes c.args.state.now (λ k. omega (arith, c.type_inv.state k)))) (grind (arith, common_steps))

pub returns-else-block_ok-4 : goal.returns-else-block_ok-4
returns-else-block_ok-4 c = rw (state_is _ (slice_bytes c.args.state.now (λ k. omega (arith, c.type_inv.state k)))) (grind (arith, common_steps))
