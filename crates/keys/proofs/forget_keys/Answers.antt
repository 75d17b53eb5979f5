-- `keys::forget_keys` meets its contract. After the write the state is well formed again and the index present.
use Rattle.keys.proofs.Loads.{load_room}
use Rattle.keys.proofs.Unpairs.{seven_fit, table_canonical, keys_gone}
use Rattle.keys.proofs.forget_keys.Goals as goal

pub release_matching-requires : goal.release_matching-requires
release_matching-requires c = (
  load_room c.args.index c.args.k
      c.table_place-place.result c.size_of-size.result c.args.state.now
      c.requires.0.long c.requires.0.below
      c.requires.1 c.table_place-place.ensures c.size_of-size.ensures,
  table_canonical
      c.args.state.now c.args.index
      c.args.k c.args.ps.now
      c.table_place-place.result c.size_of-size.result c.requires.0
      c.requires.1 c.table_place-place.ensures c.size_of-size.ensures,
  seven_fit _ _
      c.requires.1 c.size_of-size.ensures,
  c.requires.2,
)

pub returns : goal.returns
returns c =
    keys_gone c.args.state.now
    c.args.index
    c.args.k
    c.args.ps.now
    c.table_place-place.result c.size_of-size.result
    c.requires.0
    c.requires.1 c.table_place-place.ensures
    c.size_of-size.ensures _ c.release_matching.ensures
