-- `devices::slot_for` meets its contract.
use borrow.Author.Rules.{rules}
use Rattle.table.proofs.Regions.{length_table}
use Rattle.devices.proofs.Laws.{slot_told}
use Rattle.devices.proofs.slot_for.Goals as goal

pub returns : goal.returns
returns c = slot_told _ _ _ _ (length_table c.args.state.now c.args.at c.args.size) c.find.ensures c.or_else.ensures (λ p. search rules)
