-- `checks::name_ok` meets its contract. The names lie in the block, and the law says which two octets end them.
use Rattle.std.proofs.Common.{◌∙◌, arith}
use Rattle.checks.proofs.Laws.{tests, name_is}
use Rattle.checks.proofs.Present.{place_name}
use Rattle.checks.proofs.name_ok.Goals as goal

pub overflow_add-at : goal.overflow_add-at
overflow_add-at c = let e = c.name_place-at.ensures ∙ place_name _ in omega arith

pub bounds-s-at : goal.bounds-s-at
bounds-s-at c = let e = c.name_place-at.ensures ∙ place_name _ in omega arith

pub overflow_add-result : goal.overflow_add-result
overflow_add-result c = let e = c.name_place-at.ensures ∙ place_name _ in omega arith

pub bounds-s-at-then-s-at-eq0 : goal.bounds-s-at-then-s-at-eq0
bounds-s-at-then-s-at-eq0 c = let e = c.name_place-at.ensures ∙ place_name _ in omega arith

pub returns-then-s-at-eq0 : goal.returns-then-s-at-eq0
returns-then-s-at-eq0 c = rw (name_is _ _ c.name_place-at.result c.name_place-at.ensures) (search tests)

pub returns-else-s-at-eq0 : goal.returns-else-s-at-eq0
returns-else-s-at-eq0 c = rw (name_is _ _ c.name_place-at.result c.name_place-at.ensures) (search tests)
