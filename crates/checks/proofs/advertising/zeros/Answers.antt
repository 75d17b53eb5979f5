-- `checks::advertising::zeros` meets its contract. The law `zeros_are` says what five numbers joined by or tell.
use Rattle.checks.proofs.AdvertisingLaws.{zeros_are}
use borrow.Author.Rules.{rules}
use Rattle.checks.proofs.advertising.zeros.Goals as goal

pub returns : goal.returns
returns c = zeros_are c.args.l (search rules)
