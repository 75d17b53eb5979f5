-- `moves::tables_end` meets its contract: table by table, by the count that each begins with.
use Rattle.std.specs.Prelude.{◌≡◌, ◌+◌, ◌*◌}
use Rattle.std.proofs.Common.{arith, refl, rules}
use Rattle.moves.proofs.Skipping.{left_first, left_here, left_next, left_none}
use Rattle.moves.proofs.tables_end.Goals as goal

pub loop-k-init : goal.loop-k-init
loop-k-init c =
    let f = left_first c.args.image.now c.args.at in
    let h = left_here c.args.image.now c.args.at c.args.at 0 _ c.requires (omega arith) refl f in
    (search rules, omega (arith, h.0), f)

pub bounds-image-p : goal.bounds-image-p
bounds-image-p c =
    let h = left_here c.args.image.now c.args.at c.loop-k.p c.loop-k.k _ c.requires c.loop-k-test.true c.size_of.ensures c.loop-k.invariant.2 in
    h.0

pub overflow_mul-p : goal.overflow_mul-p
overflow_mul-p c =
    let h = left_here c.args.image.now c.args.at c.loop-k.p c.loop-k.k _ c.requires c.loop-k-test.true c.size_of.ensures c.loop-k.invariant.2 in
    rw c.from.ensures (omega (arith, h.1))

pub overflow_add-p : goal.overflow_add-p
overflow_add-p c =
    let h = left_here c.args.image.now c.args.at c.loop-k.p c.loop-k.k _ c.requires c.loop-k-test.true c.size_of.ensures c.loop-k.invariant.2 in
    rw c.from.ensures (omega (arith, h.1))

pub overflow_add-p-in-loop-k : goal.overflow_add-p-in-loop-k
overflow_add-p-in-loop-k c =
    let h = left_here c.args.image.now c.args.at c.loop-k.p c.loop-k.k _ c.requires c.loop-k-test.true c.size_of.ensures c.loop-k.invariant.2 in
    rw c.from.ensures (omega (arith, h.1))

pub loop-k-preserved : goal.loop-k-preserved
loop-k-preserved c =
    let h = left_here c.args.image.now c.args.at c.loop-k.p c.loop-k.k _ c.requires c.loop-k-test.true c.size_of.ensures c.loop-k.invariant.2 in
    let e : c.loop-k.p + (1 + c.size_of.result * c.from.result) ≡ c.loop-k.p + 1 + c.size_of.result * c.from.result = omega arith in
    rw (e, c.from.ensures)
    (omega (arith, c.loop-k.invariant.0), h.1, left_next c.args.image.now c.args.at c.loop-k.p c.loop-k.k _ c.loop-k-test.true c.size_of.ensures c.loop-k.invariant.2)

pub returns : goal.returns
returns c = left_none c.args.image.now c.args.at c.loop-k.p c.loop-k.k (omega arith) c.loop-k.invariant.0 c.loop-k.invariant.1 c.loop-k.invariant.2
