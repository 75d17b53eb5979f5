-- `information::look_up_in` meets its contract: the look_up of `table`, where the table lies.
use Rattle.information.proofs.LookUp.{look_up_fits, looks_up}
use Rattle.information.proofs.look_up_in.Goals as goal

pub look_up-requires : goal.look_up-requires
look_up-requires c =
    look_up_fits _ _ _ c.args.key.now _ _ c.requires.0 c.requires.1 c.requires.2 c.table_place.ensures c.size_of.ensures

pub returns : goal.returns
returns c =
    looks_up _ _ _ c.args.key.now _ _ c.requires.0 c.requires.1 c.requires.2 c.table_place.ensures c.size_of.ensures _
    c.look_up.ensures
