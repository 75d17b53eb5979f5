-- `records::all_apart` meets its contract. The invariant: the identities from number i on tell what all tell.
use mathlib.Core.Path.{◌∙◌}
use Prim.Native.Nat.{◌+◌}
use native.Mathlib.Omega.{arith}
use Rattle.records.proofs.Walks.{apart_hit, apart_miss, apart_end, behind_at}
use Rattle.records.proofs.all_apart.Goals as goal

pub returns-then-contains : goal.returns-then-contains
returns-then-contains c =
    let ids = c.args.ids.now in
    let i = c.loop-i.i in
    apart_hit ids i _ _ (omega arith) (behind_at _ ids _ _ (i + 1) c.contains.ensures.value (omega arith)) c.if-contains.true ∙ c.loop-i.invariant

pub loop-i-preserved : goal.loop-i-preserved
loop-i-preserved c =
    let ids = c.args.ids.now in
    let i = c.loop-i.i in
    apart_miss ids i _ _ (omega arith) (behind_at _ ids _ _ (i + 1) c.contains.ensures.value (omega arith)) c.if-contains.false ∙ c.loop-i.invariant

pub returns : goal.returns
returns c = apart_end c.args.ids.now c.loop-i.i (omega arith) ∙ c.loop-i.invariant
