-- `hub::hub_command` meets its contract.
use mathlib.Core.Path.{refl}
use Prim.Native.Nat.{◌-◌}
use borrow.Author.Rules.{rules}
use Rattle.model.specs.Meanings.{hub_command}
use Rattle.hub.proofs.Entries.{count_call, returns_packed}
use Rattle.hub.proofs.hub_command.Goals as goal

pub pack-requires : goal.pack-requires
pack-requires c = count_call _ _ _ _ _ _ c.command.ensures

pub returns : goal.returns
unfolding hub_command
returns c = returns_packed _ _ _ _ _ _ c.command.ensures c.pack.ensures
