-- `hub::hub_save` meets its contract.
use Prim.Native.Nat.{◌-◌}
use borrow.Author.Rules.{rules}
use Rattle.model.specs.Meanings.{hub_save}
use Rattle.hub.proofs.Entries.{count_call, returns_packed}
use Rattle.hub.proofs.hub_save.Goals as goal

pub pack-requires : goal.pack-requires
pack-requires c = count_call _ _ _ _ _ _ c.save.ensures

pub returns : goal.returns
unfolding hub_save
returns c = returns_packed _ _ _ _ _ _ c.save.ensures c.pack.ensures
