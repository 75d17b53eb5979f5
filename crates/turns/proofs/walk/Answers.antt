-- `turns::walk` meets its contract. The invariant, `Walking`, says that an instance went or that what is left of the round is too much;
-- with nothing left of the round only the first can be.
use Rattle.std.proofs.Common.{◌≡◌, ◌-◌, ◌+◌, arith}
use Rattle.turns.proofs.Walks.{walk_starts, walk_goes_on, walk_ends}
use Rattle.turns.proofs.Turns.{reached_sound}
use Rattle.turns.proofs.walk.Goals as goal

pub loop-init : goal.loop-init
loop-init c = rw c.from-p.ensures (walk_starts _ c.requires.0 c.requires.1 c.requires.2 c.requires.3)

pub place-v-requires : goal.place-v-requires
place-v-requires c = (reached_sound _ _ c.requires.0 c.loop.invariant.reached, c.loop.invariant.place)

pub next-p-requires : goal.next-p-requires
next-p-requires c = c.loop.invariant.place

pub loop-preserved : goal.loop-preserved
loop-preserved c =
    let s = reached_sound _ _ c.requires.0 c.loop.invariant.reached in
    let e : 5 - (c.loop.counter + 1) ≡ 5 - c.loop.counter - 1 = omega arith in
    rw e (walk_goes_on _ _ _ _ _ _ s c.loop.invariant (omega arith) c.place-v.ensures c.next-p.ensures.0)

pub returns : goal.returns
returns c = walk_ends _ _ _ _ c.loop.invariant (omega arith)
