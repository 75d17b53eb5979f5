-- `hub::found` meets its contract: code, index and parameters lie where a packet has them.
use Prim.Native.Nat.{◌-◌}
use native.Mathlib.Omega.{arith}
use Rattle.model.specs.Hub.{code_of, index_of}
use Rattle.model.proofs.Model.Demand3.{state_long}
use Rattle.hub.proofs.Laws.{packet_long, params_all}
use Rattle.hub.proofs.Why.{found_is}
use borrow.Author.Rules.{rules}
use Rattle.hub.proofs.found.Goals as goal

pub u16_at-code-requires : goal.u16_at-code-requires
u16_at-code-requires c = omega (arith, packet_long _ c.requires.1)

pub u16_at-index-requires : goal.u16_at-index-requires
u16_at-index-requires c = omega (arith, packet_long _ c.requires.1)

pub slice_bounds-find-count : goal.slice_bounds-find-count
slice_bounds-find-count c = omega (arith, packet_long _ c.requires.1)

pub slice_bounds-find-start : goal.slice_bounds-find-start
slice_bounds-find-start c = omega (arith, packet_long _ c.requires.1)

pub find-requires : goal.find-requires
find-requires c = (c.requires.0, state_long _ c.requires.0)

pub returns : goal.returns
unfolding code_of index_of
returns c =
    found_is _ _ _ _ _ _ c.u16_at-code.ensures.0 c.u16_at-index.ensures.0
    (params_all c.args.packet.now) c.find.ensures
