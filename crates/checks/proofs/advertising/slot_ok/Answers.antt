-- `checks::advertising::slot_ok` meets its contract.
use Rattle.std.proofs.Common.{◌+◌, ◌-◌, arith}
use Rattle.std.proofs.lemmas.Grind.{common_steps}
use Rattle.checks.proofs.AdvertisingLaws.{slot_by}
use Rattle.checks.proofs.Laws.{lent_zero}
use Rattle.checks.proofs.advertising.slot_ok.Goals as goal

pub returns-then-there_or_zero : goal.returns-then-there_or_zero
returns-then-there_or_zero c =
    rw (slot_by c.args.s.now c.args.at c.args.duration c.from-n.result c.from-n.ensures, ← lent_zero c.args.s.now (c.args.at + (1 + c.from-n.result)) (c.args.at + 32) (31 - c.from-n.result) (omega arith)) (grind (arith, common_steps))

pub returns-else-there_or_zero : goal.returns-else-there_or_zero
returns-else-there_or_zero c = rw (slot_by c.args.s.now c.args.at c.args.duration c.from-n.result c.from-n.ensures) (grind (arith, common_steps))
