-- `layout::used_name` meets its contract. What is lent to `used_part` is the name or the short name, where it lies.
use borrow.Author.Rules.{rules}
use Rattle.octets.specs.Parts.{part, place_at}
use Rattle.layout.specs.Places.{place_of, sizes}
use Rattle.layout.proofs.Laws.{name_used, short_name_used}
use Rattle.layout.proofs.used_name.Goals as goal

pub overflow_add-at : goal.overflow_add-at
unfolding place_of place_at sizes
overflow_add-at c = search rules

pub slice_bounds-used_part-end : goal.slice_bounds-used_part-end
unfolding place_of place_at sizes
slice_bounds-used_part-end c = search rules

pub overflow_add-at-else-which-eq0 : goal.overflow_add-at-else-which-eq0
unfolding place_of place_at sizes
overflow_add-at-else-which-eq0 c = search rules

pub overflow_add-at-else-which-eq0-2 : goal.overflow_add-at-else-which-eq0-2
unfolding place_of place_at sizes
overflow_add-at-else-which-eq0-2 c = search rules

pub slice_bounds-used_part-end-else-which-eq0 : goal.slice_bounds-used_part-end-else-which-eq0
unfolding place_of place_at sizes
slice_bounds-used_part-end-else-which-eq0 c = search rules

pub returns-then-which-eq0 : goal.returns-then-which-eq0
unfolding part
returns-then-which-eq0 c = name_used _ _ _ _ _ c.if-which-eq0.true c.name_place-at.ensures c.used_part.ensures

pub returns-else-which-eq0 : goal.returns-else-which-eq0
unfolding part
returns-else-which-eq0 c = short_name_used _ _ _ _ _ c.if-which-eq0.false c.name_place-at.ensures c.used_part-else-which-eq0.ensures
