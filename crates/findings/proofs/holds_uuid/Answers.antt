-- `findings::holds_uuid` meets its contract: the record is found if the first that matches is one of the 32 slots.
use mathlib.Core.Path.{◌∙◌}
use Rattle.findings.proofs.Laws.{held, inside, uuid_size}
use borrow.Author.Rules.{rules}
use Rattle.findings.proofs.holds_uuid.Goals as goal

pub find-requires : goal.find-requires
find-requires c = (
  inside c.args.state.now c.args.index _ _ (search rules) (search rules)
      c.table_place-place.ensures _ c.size_of-size.ensures,
  rw c.size_of-size.ensures uuid_size,
  search rules,
)

pub returns : goal.returns
returns c =
    c.is_some.ensures
    ∙ held c.args.state.now _ _ _ (search rules) (search rules) c.table_place-place.ensures _
    c.size_of-size.ensures _ _ c.find.ensures
