-- `table::find` meets its contract: the slot that the look_up of the first n octets of the key tells.
use mathlib.Core.Path.{refl, sym}
use native.Mathlib.Omega.{arith}
use lib.Seq.{length-take-le}
use Rattle.table.proofs.LookUp.{slot_told}
use Rattle.table.proofs.find.Goals as goal

pub slice_bounds-look_up-end : goal.slice_bounds-look_up-end
slice_bounds-look_up-end c = sym (length-take-le c.args.n c.args.key.now c.requires.2)

pub look_up-slot-requires : goal.look_up-slot-requires
look_up-slot-requires c = (c.requires.0, omega (arith, length-take-le c.args.n c.args.key.now c.requires.2, c.requires.1))

pub returns-then-slot-lt32 : goal.returns-then-slot-lt32
returns-then-slot-lt32 c =
    let t = slot_told _ _ _ c.args.key.now _ c.args.n _ c.requires.2 refl c.look_up-slot.ensures in
    (t.0, c.if-slot-lt32.true)

pub returns-else-slot-lt32 : goal.returns-else-slot-lt32
returns-else-slot-lt32 c =
    let t = slot_told _ _ _ c.args.key.now _ c.args.n _ c.requires.2 refl c.look_up-slot.ensures in
    omega arith
