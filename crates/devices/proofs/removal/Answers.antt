-- `devices::removal` meets its contract.
use mathlib.Core.Path.{sym, ◌∙◌}
use Rattle.octets.proofs.Laws.{lent_part}
use Rattle.devices.proofs.Walk.{removal_goes, removal_stays}
use borrow.Author.Rules.{rules}
use Rattle.devices.proofs.removal.Goals as goal

pub returns : goal.returns
returns c =
    removal_goes _ _ _ _ _ _ _ (search rules) (sym c.if-not-is_named.false
    ∙ c.is_named.ensures) (rw (lent_part c.args.state.now c.args.place 7) at c.event.ensures)

pub returns-then-not-is_named : goal.returns-then-not-is_named
returns-then-not-is_named c = removal_stays _ _ _ _ _ _ (sym c.if-not-is_named.true ∙ c.is_named.ensures)
