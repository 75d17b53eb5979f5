-- `information::list_indexes` meets its contract.
use Rattle.std.proofs.Common.{◌≡◌, arith, refl, add-one}
use Rattle.model.specs.Commands.{words}
use Rattle.octets.specs.Parts.{write_at}
use Rattle.information.proofs.General.{index_more_by, indexes_put}
use Rattle.information.proofs.list_indexes.Goals as goal

pub loop-i-init : goal.loop-i-init
unfolding words write_at
loop-i-init c = record { short = omega arith; place = refl; written = refl }

pub loop-i-preserved : goal.loop-i-preserved
loop-i-preserved c =
    let v = c.loop-i.invariant in
    let e = c.list_index-end.ensures in
    let m = index_more_by _ _ _ _ c.loop-i.i _ _ _ v.place v.written e.0 e.2 (omega arith) in
    record { short = omega (arith, v.short, e.1); place = rw add-one m.0; written = rw add-one m.1 }

pub returns : goal.returns
returns c =
    let v = c.loop-i.invariant in
    let four : c.loop-i.i ≡ 4 = omega arith in
    let q = indexes_put _ _ _ _ _ _ (omega arith) (rw four at v.place) (rw four at v.written) refl c.put16.ensures in (q.0, omega (arith, v.short), q.1)
