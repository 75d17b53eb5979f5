-- `checks::controller_ok` meets its contract. Part by part.
use Rattle.std.proofs.Common.{arith, rules}
use Rattle.std.proofs.lemmas.Grind.{common_steps}
use Rattle.checks.proofs.Laws.{fine_by}
use Rattle.checks.proofs.AdvertisingParts.{schedule_first}
use Rattle.checks.proofs.controller_ok.Goals as goal

pub advertising_ok-requires : goal.advertising_ok-requires
advertising_ok-requires c = (search rules, schedule_first _ c.args.i _ _ c.block_place-b.ensures c.schedule_at.ensures)

pub returns-then-tables_ok : goal.returns-then-tables_ok
returns-then-tables_ok c = rw (fine_by c.args.s.now c.args.i c.block_place-b.result c.settings_at-m.result c.block_place-b.ensures c.settings_at-m.ensures) (grind (arith, common_steps))

pub returns-else-tables_ok : goal.returns-else-tables_ok
returns-else-tables_ok c = rw (fine_by c.args.s.now c.args.i c.block_place-b.result c.settings_at-m.result c.block_place-b.ensures c.settings_at-m.ensures) (grind (arith, common_steps))
