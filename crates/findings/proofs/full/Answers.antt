-- `findings::full` meets its contract: no slot is free if the lowest free one is none of the 32.
use mathlib.Core.Path.{refl}
use native.Mathlib.Omega.{arith}
use Rattle.findings.proofs.Laws.{filled, inside}
use borrow.Author.Rules.{rules}
use Rattle.findings.proofs.full.Goals as goal

pub free_slot-requires : goal.free_slot-requires
free_slot-requires c =
    let h = inside c.args.state.now _ _ _ (search rules) (search rules) c.table_place-place.ensures _ refl in omega arith

pub returns : goal.returns
returns c =
    filled c.args.state.now _ _ _ (search rules) (search rules) c.table_place-place.ensures _ _ c.is_none.ensures c.free_slot.ensures
