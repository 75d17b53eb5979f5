-- `table::release_all` meets its contract. An empty table is all zeros.
use Rattle.table.proofs.Regions.{region_nones}
use Rattle.table.proofs.release_all.Goals as goal

pub returns : goal.returns
returns c = rw (region_nones c.args.size) c.zero_fill.ensures
