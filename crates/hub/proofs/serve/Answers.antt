-- A whole packet: its code and index, then the function that serves it.
use Prim.Native.Nat.{◌-◌}
use native.Mathlib.Omega.{arith}
use borrow.Author.Rules.{rules}
use Rattle.hub.proofs.Laws.{packet_long, params_all}
use Rattle.hub.proofs.Bridge.{command_done}
use Rattle.hub.proofs.serve.Goals as goal

pub u16_at-code-requires : goal.u16_at-code-requires
u16_at-code-requires c = omega (arith, packet_long _ c.requires.2)

pub u16_at-index-requires : goal.u16_at-index-requires
u16_at-index-requires c = omega (arith, packet_long _ c.requires.2)

pub slice_bounds-dispatch-count : goal.slice_bounds-dispatch-count
slice_bounds-dispatch-count c = omega (arith, packet_long _ c.requires.2)

pub slice_bounds-dispatch-start : goal.slice_bounds-dispatch-start
slice_bounds-dispatch-start c = omega (arith, packet_long _ c.requires.2)

pub dispatch-requires : goal.dispatch-requires
dispatch-requires c = (c.requires.0, c.requires.1, search rules)

pub returns : goal.returns
returns c =
    let p = c.requires in
    command_done _ _ _ _ _ _ _ _ _ p.0 p.3 p.2 c.u16_at-code.ensures.0 c.u16_at-index.ensures.0
    (rw (params_all c.args.packet.now) at c.dispatch.ensures)
