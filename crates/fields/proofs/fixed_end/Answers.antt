-- `fields::fixed_end` meets its contract: behind the name, and then behind the short name.
use Rattle.fields.proofs.Reach.{end_is, end_name, end_short}
use Rattle.fields.proofs.fixed_end.Goals as goal

pub name_size-requires : goal.name_size-requires
name_size-requires c = end_name _ _ _ c.requires

pub name_size-requires-2 : goal.name_size-requires-2
name_size-requires-2 c = end_short _ _ _ _ c.name_size.ensures.0 c.requires

pub returns : goal.returns
returns c = end_is _ _ _ _ _ c.name_size.ensures.0 c.name_size-2.ensures.0
