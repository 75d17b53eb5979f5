-- `hub::hub_plug` meets its contract.
use mathlib.Core.Path.{refl}
use Prim.Native.Nat.{◌-◌}
use borrow.Author.Rules.{rules}
use Rattle.model.specs.Meanings.{hub_plug}
use Rattle.hub.proofs.Entries.{count_call, returns_packed}
use Rattle.hub.proofs.hub_plug.Goals as goal

pub pack-requires : goal.pack-requires
pack-requires c = count_call _ _ _ _ _ _ c.plug.ensures

pub returns : goal.returns
unfolding hub_plug
returns c = returns_packed _ _ _ _ _ _ c.plug.ensures c.pack.ensures
