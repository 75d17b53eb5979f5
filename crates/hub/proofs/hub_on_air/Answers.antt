-- `hub::hub_on_air` meets its contract.
use borrow.Author.Rules.{rules}
use Rattle.hub.proofs.Entries.{returns_packed}
use Rattle.hub.proofs.Bridge.{on_air_count}
use Rattle.hub.proofs.hub_on_air.Goals as goal

pub pack-requires : goal.pack-requires
pack-requires c = on_air_count _ _ _ _ _ _ _ c.on_air.ensures

pub returns : goal.returns
returns c = returns_packed _ _ _ _ _ _ c.on_air.ensures c.pack.ensures
