-- `replies::advertising_removed` meets its contract. What is told of each instance stands behind what is told of those before it.
use Rattle.std.proofs.Common.{arith, refl}
use Rattle.model.specs.Advertising.{removed_of}
use Rattle.octets.specs.Parts.{write_at}
use Rattle.replies.proofs.Advertising.{told_next}
use Rattle.replies.proofs.advertising_removed.Goals as goal

pub loop-k-init : goal.loop-k-init
unfolding removed_of write_at
loop-k-init c = record { short = omega arith; place = omega arith; written = refl }

pub loop-k-preserved : goal.loop-k-preserved
loop-k-preserved c =
    let p = c.loop-k.invariant in
    let e = c.instance_removed-end.ensures in
    let t = told_next _ _ _ _ _ _ _ _ _ _ c.loop-k-test.true p.short p.place p.written e.1 e.2 in
    record { short = t.0; place = t.1; written = t.2 }
