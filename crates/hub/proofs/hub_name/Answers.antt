-- `hub::hub_name` meets its contract.
use borrow.Author.Rules.{rules}
use Rattle.hub.proofs.Entries.{returns_packed}
use Rattle.hub.proofs.Bridge.{name_count}
use Rattle.hub.proofs.hub_name.Goals as goal

pub pack-requires : goal.pack-requires
pack-requires c = name_count _ _ _ _ _ _ _ _ c.name.ensures

pub returns : goal.returns
returns c = returns_packed _ _ _ _ _ _ c.name.ensures c.pack.ensures
