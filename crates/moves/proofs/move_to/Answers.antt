-- `moves::move_to` meets its contract: the room, the image, what the version can say; then it is written.
use Rattle.std.proofs.Common.{arith, sym, ◌∙◌}
use Rattle.model.proofs.Model.Tables.{slice_bytes}
use Rattle.moves.specs.Moving.{other}
use Rattle.moves.proofs.Controllers.{whole}
use Rattle.moves.proofs.Writing.{accepted_only, faulted, moved, small, unsaid}
use Rattle.moves.proofs.move_to.Goals as goal

pub returns-then-out-lt-LARGEST_IMAGE : goal.returns-then-out-lt-LARGEST_IMAGE
returns-then-out-lt-LARGEST_IMAGE c = let a = c.args in small a.to (other a.to) a.image.now a.out.now c.if-out-lt-LARGEST_IMAGE.true

pub all_said-requires : goal.all_said-requires
all_said-requires c =
    let a = c.args in
    let j = rw c.other.ensures at c.in-Ok.ensures in
    (j.0, (whole (other a.to) a.to a.image.now j.0 (accepted_only (other a.to) a.image.now _ j.3).0).lie)

pub write-requires : goal.write-requires
write-requires c =
    let a = c.args in
    let j = rw c.other.ensures at c.in-Ok.ensures in
    (j.0, (accepted_only (other a.to) a.image.now _ j.3).0, c.if-out-lt-LARGEST_IMAGE.false)

pub returns-then-all_said : goal.returns-then-all_said
returns-then-all_said c =
    let a = c.args in
    let j = rw c.other.ensures at c.in-Ok.ensures in
    moved a.to (other a.to) a.image.now a.out.now _ _ c.write.result
    (slice_bytes a.image.now (λ k. omega (arith, c.type_inv.image k))) c.if-out-lt-LARGEST_IMAGE.false j.0 j.3
    (sym c.if-all_said.true ∙ c.all_said.ensures) c.write.ensures.0 c.write.ensures.1

pub returns-else-all_said : goal.returns-else-all_said
returns-else-all_said c =
    let a = c.args in
    let j = rw c.other.ensures at c.in-Ok.ensures in
    unsaid a.to (other a.to) a.image.now a.out.now _ c.if-out-lt-LARGEST_IMAGE.false j.0 j.3 (sym c.if-all_said.false ∙ c.all_said.ensures)

pub returns-in-Err : goal.returns-in-Err
returns-in-Err c =
    let a = c.args in
    faulted a.to (other a.to) a.image.now a.out.now c.in-Err.f.fault c.in-Err.f.at c.if-out-lt-LARGEST_IMAGE.false (rw c.other.ensures at c.in-Err.ensures)
