-- `hub::hub_unplug` meets its contract.
use mathlib.Core.Path.{refl}
use Prim.Native.Nat.{◌-◌}
use borrow.Author.Rules.{rules}
use Rattle.model.specs.Meanings.{hub_unplug}
use Rattle.hub.proofs.Entries.{count_call, returns_packed}
use Rattle.hub.proofs.hub_unplug.Goals as goal

pub pack-requires : goal.pack-requires
pack-requires c = count_call _ _ _ _ _ _ c.unplug.ensures

pub returns : goal.returns
unfolding hub_unplug
returns c = returns_packed _ _ _ _ _ _ c.unplug.ensures c.pack.ensures
