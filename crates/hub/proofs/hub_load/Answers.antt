-- `hub::hub_load` meets its contract: the answer, and the offset of a fault, in one number.
use native.Mathlib.Omega.{arith}
use Rattle.model.proofs.Model.Tables.{slice_bytes}
use borrow.Author.Rules.{rules}
use Rattle.hub.proofs.Entries.{count_loaded, returns_loaded}
use Rattle.hub.proofs.hub_load.Goals as goal

pub pack_offset-requires : goal.pack_offset-requires
pack_offset-requires c =
    let a = c.args in
    let w = slice_bytes a.image.now (λ k. omega (arith, c.type_inv.image k)) in
    let e = c.load.ensures in
    count_loaded a.state.now a.image.now c.load.result w e.1 e.2

pub returns : goal.returns
returns c =
    let e = c.load.ensures in
    returns_loaded _ c.load.result _ _ e.0 e.1 e.2 e.3 c.pack_offset.ensures
