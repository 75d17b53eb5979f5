-- `moves::move_controller` meets its contract: the octets before the names, the two names and the tables, one behind the other.
use Rattle.std.specs.Prelude.{◌≡◌, ◌+◌, ◌-◌, length}
use Rattle.std.proofs.Common.{arith, refl}
use Rattle.octets.specs.Parts.{part}
use Rattle.octets.proofs.Parts.{length_part}
use Rattle.model.proofs.Model.Tables.{slice_bytes}
use Rattle.moves.specs.Moving.{other}
use Rattle.moves.proofs.Pieces.{controller_written, finds, laid}
use Rattle.moves.proofs.move_controller.Goals as goal

pub overflow_add-name : goal.overflow_add-name
overflow_add-name c =
    let a = c.args in
    let q = c.requires in
    let r = finds a.to (other a.to) a.image.now a.at a.tables a.end _ a.place (length a.out.now) (slice_bytes _ (λ j. omega (arith, c.type_inv.image j)))
    q.0 q.1 q.2 q.3 refl refl in
    omega arith

pub name_size-requires : goal.name_size-requires
name_size-requires c =
    let a = c.args in
    let q = c.requires in
    let r = finds a.to (other a.to) a.image.now a.at a.tables a.end _ a.place (length a.out.now) (slice_bytes _ (λ j. omega (arith, c.type_inv.image j)))
    q.0 q.1 q.2 q.3 refl refl in
    omega arith

pub overflow_add-short : goal.overflow_add-short
overflow_add-short c =
    let a = c.args in
    let q = c.requires in
    let r = finds a.to _ a.image.now a.at a.tables a.end _ a.place (length a.out.now) (slice_bytes _ (λ j. omega (arith, c.type_inv.image j)))
    q.0 q.1 q.2 q.3 c.other.ensures c.name_size.ensures.0 in
    omega arith

pub move_fixed-requires : goal.move_fixed-requires
move_fixed-requires c =
    let a = c.args in
    let q = c.requires in
    let r = finds a.to _ a.image.now a.at a.tables a.end _ a.place (length a.out.now) (slice_bytes _ (λ j. omega (arith, c.type_inv.image j)))
    q.0 q.1 q.2 q.3 c.other.ensures c.name_size.ensures.0 in
    (omega arith, omega arith)

pub slice_bounds-move_name-end : goal.slice_bounds-move_name-end
slice_bounds-move_name-end c =
    let a = c.args in
    let q = c.requires in
    let r = finds a.to _ a.image.now a.at a.tables a.end _ a.place (length a.out.now) (slice_bytes _ (λ j. omega (arith, c.type_inv.image j)))
    q.0 q.1 q.2 q.3 c.other.ensures c.name_size.ensures.0 in
    omega arith

pub overflow_add-place : goal.overflow_add-place
overflow_add-place c =
    let a = c.args in
    let q = c.requires in
    let r = finds a.to _ a.image.now a.at a.tables a.end _ a.place (length a.out.now) (slice_bytes _ (λ j. omega (arith, c.type_inv.image j)))
    q.0 q.1 q.2 q.3 c.other.ensures c.name_size.ensures.0 in
    omega arith

pub move_name-second-requires : goal.move_name-second-requires
unfolding part
move_name-second-requires c =
    let a = c.args in
    let q = c.requires in
    let r = finds a.to _ a.image.now a.at a.tables a.end _ a.place (length a.out.now) (slice_bytes _ (λ j. omega (arith, c.type_inv.image j)))
    q.0 q.1 q.2 q.3 c.other.ensures c.name_size.ensures.0 in
    let n = c.name_size.result in
    let first : a.at + 24 + n - (a.at + 24) ≡ n = omega arith in
    let l = length_part a.image.now (a.at + 24) n (omega arith) in
    rw first (omega (arith, l), omega (arith, l), omega arith, omega (arith, c.move_fixed.auto))

pub slice_bounds-move_name-count-2 : goal.slice_bounds-move_name-count-2
slice_bounds-move_name-count-2 c =
    let a = c.args in
    let q = c.requires in
    let r = finds a.to _ a.image.now a.at a.tables a.end _ a.place (length a.out.now) (slice_bytes _ (λ j. omega (arith, c.type_inv.image j)))
    q.0 q.1 q.2 q.3 c.other.ensures c.name_size.ensures.0 in
    omega arith

pub slice_bounds-move_name-start-2 : goal.slice_bounds-move_name-start-2
slice_bounds-move_name-start-2 c =
    let a = c.args in
    let q = c.requires in
    let r = finds a.to _ a.image.now a.at a.tables a.end _ a.place (length a.out.now) (slice_bytes _ (λ j. omega (arith, c.type_inv.image j)))
    q.0 q.1 q.2 q.3 c.other.ensures c.name_size.ensures.0 in
    omega arith

pub slice_bounds-move_name-end-2 : goal.slice_bounds-move_name-end-2
slice_bounds-move_name-end-2 c =
    let a = c.args in
    let q = c.requires in
    let r = finds a.to _ a.image.now a.at a.tables a.end _ a.place (length a.out.now) (slice_bytes _ (λ j. omega (arith, c.type_inv.image j)))
    q.0 q.1 q.2 q.3 c.other.ensures c.name_size.ensures.0 in
    omega arith

pub move_name-p-requires : goal.move_name-p-requires
unfolding part
move_name-p-requires c =
    let a = c.args in
    let q = c.requires in
    let r = finds a.to _ a.image.now a.at a.tables a.end _ a.place (length a.out.now) (slice_bytes _ (λ j. omega (arith, c.type_inv.image j)))
    q.0 q.1 q.2 q.3 c.other.ensures c.name_size.ensures.0 in
    let n = c.name_size.result in
    let first : a.at + 24 + n - (a.at + 24) ≡ n = omega arith in
    let k = rw first at c.move_name-second.ensures in
    let l = length_part a.image.now (a.at + 24 + n) (a.tables - (a.at + 24 + n)) (omega arith) in
    (omega (arith, l), omega (arith, l), omega arith, omega (arith, k.0, c.move_name-second.auto, c.move_fixed.auto))

pub slice_bounds-copy_into-count : goal.slice_bounds-copy_into-count
slice_bounds-copy_into-count c =
    let a = c.args in
    let q = c.requires in
    let r = finds a.to _ a.image.now a.at a.tables a.end _ a.place (length a.out.now) (slice_bytes _ (λ j. omega (arith, c.type_inv.image j)))
    q.0 q.1 q.2 q.3 c.other.ensures c.name_size.ensures.0 in
    omega arith

pub slice_bounds-copy_into-start : goal.slice_bounds-copy_into-start
slice_bounds-copy_into-start c =
    let a = c.args in
    let q = c.requires in
    let r = finds a.to _ a.image.now a.at a.tables a.end _ a.place (length a.out.now) (slice_bytes _ (λ j. omega (arith, c.type_inv.image j)))
    q.0 q.1 q.2 q.3 c.other.ensures c.name_size.ensures.0 in
    omega arith

pub copy_into-requires : goal.copy_into-requires
unfolding part
copy_into-requires c =
    let a = c.args in
    let q = c.requires in
    let r = finds a.to _ a.image.now a.at a.tables a.end _ a.place (length a.out.now) (slice_bytes _ (λ j. omega (arith, c.type_inv.image j)))
    q.0 q.1 q.2 q.3 c.other.ensures c.name_size.ensures.0 in
    let n = c.name_size.result in
    let first : a.at + 24 + n - (a.at + 24) ≡ n = omega arith in
    let k = rw first at c.move_name-second.ensures in
    let l = length_part a.image.now a.tables (a.end - a.tables) (omega arith) in
    omega (arith, l, k.0, c.move_name-p.ensures.0, c.move_name-second.auto, c.move_name-p.auto, c.move_fixed.auto)

pub overflow_sub-result : goal.overflow_sub-result
overflow_sub-result c =
    let a = c.args in
    let q = c.requires in
    let r = finds a.to _ a.image.now a.at a.tables a.end _ a.place (length a.out.now) (slice_bytes _ (λ j. omega (arith, c.type_inv.image j)))
    q.0 q.1 q.2 q.3 c.other.ensures c.name_size.ensures.0 in
    omega arith

pub overflow_add-result : goal.overflow_add-result
unfolding part
overflow_add-result c =
    let a = c.args in
    let q = c.requires in
    let r = finds a.to _ a.image.now a.at a.tables a.end _ a.place (length a.out.now) (slice_bytes _ (λ j. omega (arith, c.type_inv.image j)))
    q.0 q.1 q.2 q.3 c.other.ensures c.name_size.ensures.0 in
    let n = c.name_size.result in
    let first : a.at + 24 + n - (a.at + 24) ≡ n = omega arith in
    let k = rw first at c.move_name-second.ensures in
    omega (arith, k.0, c.move_name-p.ensures.0)

pub returns : goal.returns
unfolding part
returns c g e =
    let a = c.args in
    let q = c.requires in
    let w = slice_bytes a.image.now (λ j. omega (arith, c.type_inv.image j)) in
    let l = laid a.to _ a.image.now a.at a.tables a.end c.name_size.result g w e q.1 q.2 (q.3 g e).0 c.other.ensures c.name_size.ensures.0 in
    let n = c.name_size.result in
    let first : a.at + 24 + n - (a.at + 24) ≡ n = omega arith in
    let k = rw first at c.move_name-second.ensures in
    controller_written _ _ _ _ _ _ g _ _ _ _ _ _ _ _ l c.move_fixed.ensures k.0 k.1 c.move_name-p.ensures.0 c.move_name-p.ensures.1 c.copy_into.ensures
