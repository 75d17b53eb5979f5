-- `image::save_records` meets its contract. The invariant: the records from the slot come to on are still to be written.
use Prim.Native.Nat.{◌+◌, ◌*◌}
use native.Mathlib.Omega.{arith}
use Rattle.octets.proofs.Laws.{lent_part}
use Rattle.table.proofs.Regions.{slot_room}
use Rattle.image.proofs.SaveLaws.{saving_first, saving_turn, saving_room, saving_last}
use borrow.Author.Rules.{rules}
use Rattle.image.proofs.save_records.Goals as goal

pub loop-slot-preserved : goal.loop-slot-preserved
loop-slot-preserved c =
    let r = c.in-Some.ensures in
    let w = rw (lent_part c.args.state.now (c.args.at + (4 + c.args.size * c.in-Some.slot)) c.args.size) at c.copy_into.ensures in
    record {
      most = let l = r.2 in omega arith;
      place = c.loop-slot.invariant.place;
      saving = saving_turn _ _ _ _ _ _ _ _ _ _ (search rules) r.1 r.2 (r.0 c.args.size) w c.loop-slot.invariant.saving;
    }

pub returns : goal.returns
returns c =
    saving_last _ _ _ _ _ _ _ _ _ _ _ (c.in_default.ensures c.args.size) (c.used.ensures.0 c.args.size)
    c.put8.ensures c.loop-slot.invariant.place c.loop-slot.invariant.saving
