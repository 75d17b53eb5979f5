-- `explain::busy_at` meets its contract: a code is kept, or none.
use Rattle.explain.proofs.Routes.{under_way_lem}
use borrow.Author.Rules.{rules}
use Rattle.explain.proofs.busy_at.Goals as goal

pub returns : goal.returns
returns c = under_way_lem _ _ (search rules) _ c.open_code.ensures
