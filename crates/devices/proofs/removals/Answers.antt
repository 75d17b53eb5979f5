-- `devices::removals` meets its contract. The invariant: what was written, then the events of what is left, is the whole.
use native.Mathlib.Omega.{arith}
use Rattle.devices.proofs.Walk.{walk_turn, walk_last}
use Rattle.devices.proofs.removals.Goals as goal

pub loop-slot-preserved : goal.loop-slot-preserved
loop-slot-preserved c =
    let r = c.in-Some.ensures in
    record {
      most = let l = r.2 in omega arith;
      walked =
          walk_turn _ _ _ _ _ _ _ _ _ _ _ _ c.removal-end.auto.reply r.1 r.2 (r.0 8) c.removal-end.ensures.0 c.removal-end.ensures.1
          c.removal-end.ensures.2 c.loop-slot.invariant.walked;
    }

pub returns : goal.returns
returns c = walk_last _ _ _ _ _ _ _ _ _ (c.in_default.ensures 8) c.loop-slot.invariant.walked
