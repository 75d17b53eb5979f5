-- `hub::hub_downgrade` meets its contract.
use native.Mathlib.Omega.{arith}
use lib.ListN.{length}
use Rattle.model.proofs.Model.Tables.{slice_bytes}
use Rattle.model.proofs.FaultTheorems.{move_offsets_fit}
use Rattle.model.proofs.Theorems.{no_move_longer}
use borrow.Author.Rules.{rules}
use Rattle.hub.proofs.Entries.{count_moved, returns_moved}
use Rattle.hub.proofs.hub_downgrade.Goals as goal

pub pack_offset-requires : goal.pack_offset-requires
pack_offset-requires c =
    let a = c.args in
    let w = slice_bytes a.image.now (λ k. omega (arith, c.type_inv.image k)) in
    count_moved _ _ _ _ (no_move_longer a.image.now (length a.out.now) w).1 (move_offsets_fit a.image.now (length a.out.now) w).1
    c.downgrade.ensures

pub returns : goal.returns
returns c = returns_moved _ _ _ _ _ c.downgrade.ensures c.pack_offset.ensures
