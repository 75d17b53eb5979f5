-- The last octets of a packet: it is put together beside the state, then served, or refused by its head.
use mathlib.Core.Path.{sym}
use Prim.Native.Nat.{◌-◌}
use native.Mathlib.Omega.{arith}
use lib.Seq.{length-take-le}
use borrow.Author.Rules.{rules}
use Rattle.model.proofs.Model.Demand3.{state_long}
use Rattle.hub.proofs.Lumps.{cleared_is_ok, front_fine, head_four, kept_served, long_served}
use Rattle.hub.proofs.finish.Goals as goal

pub gather-requires : goal.gather-requires
gather-requires c =
    let p = c.requires in (p.0, p.1, p.2, omega (arith, p.3), search rules)

pub slice_bounds-serve-end : goal.slice_bounds-serve-end
slice_bounds-serve-end c = sym (length-take-le _ c.gather.new.out (omega (arith, c.gather.auto.out, c.if-said-le-LONGEST_KEPT.true)))

pub serve-requires : goal.serve-requires
serve-requires c =
    let p = c.requires in
    let k = cleared_is_ok _ _ p.0 c.clear.ensures in
    (k, state_long _ k, front_fine _ p.0 _ _ p.2 p.3 _ _ c.gather.ensures c.gather.auto.out c.if-said-le-LONGEST_KEPT.true, search rules)

pub returns-then-said-le-LONGEST_KEPT : goal.returns-then-said-le-LONGEST_KEPT
returns-then-said-le-LONGEST_KEPT c =
    let p = c.requires in
    kept_served _ p.0 _ _ p.2 p.3 _ _ c.gather.ensures c.gather.auto.out _ _ _ _ _ _ c.if-said-le-LONGEST_KEPT.true c.clear.ensures c.serve.ensures

pub refuse-requires : goal.refuse-requires
refuse-requires c =
    let p = c.requires in
    let l = c.if-said-le-LONGEST_KEPT.false in
    let k = cleared_is_ok _ _ p.0 c.clear.ensures in
    (k, state_long _ k, omega arith, head_four _ p.0 _ _ p.2 p.3 _ _ c.gather.ensures c.gather.auto.out l, search rules)

pub returns : goal.returns
returns c =
    let p = c.requires in
    long_served _ p.0 _ _ p.2 p.3 _ _ c.gather.ensures c.gather.auto.out _ _ _ _ _ _ _ c.if-said-le-LONGEST_KEPT.false c.clear.ensures p.4
    c.u16_at-code.ensures.0 c.u16_at-index.ensures.0 c.refuse.ensures
