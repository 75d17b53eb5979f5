-- `keys::holds_key` meets its contract. A record is found if the first that matches is one of the 32 slots.
use mathlib.Core.Path.{◌∙◌}
use Rattle.keys.proofs.Loads.{load_room}
use Rattle.keys.proofs.Unpairs.{seven_fit, key_found}
use Rattle.keys.proofs.holds_key.Goals as goal

pub find-requires : goal.find-requires
find-requires c = (
  load_room c.args.index c.args.k c.table_place-place.result
      c.size_of-size.result c.args.state.now c.requires.0.long
      c.requires.0.below c.requires.1 c.table_place-place.ensures
      c.size_of-size.ensures,
  seven_fit _ _ c.requires.1 c.size_of-size.ensures,
  c.requires.2,
)

pub returns : goal.returns
returns c =
    c.is_some.ensures
    ∙ key_found c.args.state.now c.args.index
    c.args.k c.args.ps.now
    c.table_place-place.result c.size_of-size.result c.requires.0
    c.requires.1 c.table_place-place.ensures c.size_of-size.ensures _ c.find.ensures
