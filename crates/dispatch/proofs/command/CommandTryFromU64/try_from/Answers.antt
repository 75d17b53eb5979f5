-- `Command::try_from` meets its contract: a code of none of the 24 has no rule.
use Rattle.std.proofs.Common.{arith}
use Rattle.model.specs.Commands.{rows}
use Rattle.dispatch.proofs.Commands.{no_rule}
use Rattle.dispatch.proofs.command.CommandTryFromU64.try_from.Goals as goal

pub returns-in_default : goal.returns-in_default
unfolding rows
returns-in_default c = no_rule c.args.code (λ e. omega (arith, e), (λ e. omega (arith, e), (λ e. omega (arith, e), (λ e. omega (arith, e), (λ e. omega (arith, e), (λ e. omega (arith, e), (λ e. omega (arith, e), (λ e. omega (arith, e), (λ e. omega (arith, e), (λ e. omega (arith, e), (λ e. omega (arith, e), (λ e. omega (arith, e), (λ e. omega (arith, e), (λ e. omega (arith, e), (λ e. omega (arith, e), (λ e. omega (arith, e), (λ e. omega (arith, e), (λ e. omega (arith, e), (λ e. omega (arith, e), (λ e. omega (arith, e), (λ e. omega (arith, e), (λ e. omega (arith, e), (λ e. omega (arith, e), (λ e. omega (arith, e), tt))))))))))))))))))))))))
