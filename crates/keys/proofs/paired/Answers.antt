-- `keys::paired` meets its contract. The three tables, one after the other.
use mathlib.Core.Path.{◌∙◌}
use Rattle.keys.proofs.Unpairs.{any_first, any_second, any_third}
use Rattle.keys.proofs.paired.Goals as goal

pub returns-then-holds_key : goal.returns-then-holds_key
returns-then-holds_key c = c.if-holds_key.true ∙ any_first _ _ _ c.holds_key.ensures c.if-holds_key.true

pub returns-then-holds_key-2 : goal.returns-then-holds_key-2
returns-then-holds_key-2 c =
    c.if-holds_key-2.true
    ∙ any_second _ _ _ _ c.holds_key.ensures c.if-holds_key.false c.holds_key-else-holds_key.ensures c.if-holds_key-2.true

pub returns-else-holds_key-2 : goal.returns-else-holds_key-2
returns-else-holds_key-2 c =
    any_third _ _ _ _ _ c.holds_key.ensures c.if-holds_key.false
    c.holds_key-else-holds_key.ensures c.if-holds_key-2.false c.holds_key-else-holds_key-2.ensures
