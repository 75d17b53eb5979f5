-- `checks::advertising::advertising_ok` meets its contract.
use Rattle.std.proofs.Common.{sym, ◌∙◌, arith}
use Rattle.std.proofs.lemmas.Grind.{common_steps}
use Rattle.checks.proofs.AdvertisingLaws.{advertising_by, none_there}
use Rattle.checks.proofs.Laws.{lent_zero}
use Rattle.checks.proofs.advertising.advertising_ok.Goals as goal

pub returns-then-zeros : goal.returns-then-zeros
returns-then-zeros c =
    c.blank.ensures ∙ lent_zero c.args.s.now _ _ 343 (omega arith)
    ∙ none_there _ _ c.args.s.now c.args.at _ c.requires.0 c.requires.1 (sym c.zeros.ensures ∙ c.if-zeros.true)

pub returns-then-data_ok : goal.returns-then-data_ok
returns-then-data_ok c = rw (advertising_by _ _ c.args.s.now c.args.at _ c.requires.1) (grind (arith, common_steps))

pub returns-else-data_ok : goal.returns-else-data_ok
returns-else-data_ok c = rw (advertising_by _ _ c.args.s.now c.args.at _ c.requires.1) (grind (arith, common_steps))
