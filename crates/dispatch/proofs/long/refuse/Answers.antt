-- `dispatch::long::refuse` meets its contract.
use native.Mathlib.Omega.{arith}
use Rattle.model.proofs.Model.Tables.{slice_bytes}
use Rattle.dispatch.proofs.LongPackets.{refuse_long}
use Rattle.dispatch.proofs.long.refuse.Goals as goal

pub returns : goal.returns
returns c =
    let p = c.requires in
    refuse_long _ _ _ _ _ _ _ _ p.0 (slice_bytes c.args.first.now (λ k. omega (arith, c.type_inv.first k)))
    p.2 p.3 p.4 c.refuse.ensures.0
    (rw (c.status-s.ensures, c.list_fits-fits.ensures) at c.refuse.ensures.1)
