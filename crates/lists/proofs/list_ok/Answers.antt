-- `lists::list_ok` meets its contract: each record passes its checks, and then the identities tell.
use mathlib.Core.Path.{◌∙◌}
use native.Mathlib.Omega.{arith}
use Rattle.lists.proofs.Laws.{list_fails, list_tells}
use Rattle.lists.proofs.list_ok.Goals as goal

pub returns-then-read_keys : goal.returns-then-read_keys
returns-then-read_keys c =
    let a = c.args in
    list_tells a.k a.packet.now a.from a.n _ _ _ c.requires.0 c.requires.1 c.requires.3
    (λ j. omega (arith, c.type_inv.packet j))
    c.read_keys.ensures c.if-read_keys.true c.all_apart.ensures

pub returns-else-read_keys : goal.returns-else-read_keys
returns-else-read_keys c = c.if-read_keys.false ∙ list_fails c.args.k _ _ _ c.read_keys.ensures c.if-read_keys.false
