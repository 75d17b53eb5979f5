-- `moves::write` meets its contract: the controllers, then the head before them.
use Rattle.std.proofs.Common.{arith, ◌∙◌}
use Rattle.model.proofs.Model.Tables.{slice_bytes}
use Rattle.moves.specs.Moving.{other}
use Rattle.moves.proofs.Controllers.{whole}
use Rattle.moves.proofs.Writing.{all_written, image_room}
use Rattle.moves.proofs.write.Goals as goal

pub move_controllers-end-requires : goal.move_controllers-end-requires
move_controllers-end-requires c =
    let a = c.args in
    let p = c.requires in
    let r = image_room a.to (other a.to) a.image.now (slice_bytes a.image.now (λ k. omega (arith, c.type_inv.image k))) p.0 p.1 in
    (p.0, (whole (other a.to) a.to a.image.now p.0 p.1).lie, omega (arith, p.2))

pub returns : goal.returns
returns c =
    let a = c.args in
    let p = c.requires in
    let m = c.move_controllers-end.ensures in
    all_written a.to (other a.to) a.image.now a.out.now _ _ _ _ c.move_controllers-end.result p.0 p.1 (omega (arith, p.2)) m.0 m.1
    c.put_be32.ensures (c.put8.ensures ∙ rw c.version_octet.ensures) c.put8-2.ensures
