-- `moves::move_name` meets its contract: a name to version 1 with zeros behind it, to version 2 its used part behind the length of that.
use Rattle.moves.proofs.Pieces.{one_written, two_written}
use Rattle.moves.proofs.move_name.Goals as goal

pub returns-in-One : goal.returns-in-One
returns-in-One c = one_written _ _ _ _ _ _ _ c.in-One.is c.requires.0 c.requires.1 c.copy_into.ensures c.zero_fill.ensures

pub returns-in-Two : goal.returns-in-Two
returns-in-Two c = two_written _ _ _ _ _ _ _ _ c.in-Two.is c.used_part-used.ensures c.put8.ensures c.copy_into-in-Two.ensures
