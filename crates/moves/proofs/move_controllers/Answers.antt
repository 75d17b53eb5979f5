-- `moves::move_controllers` meets its contract: to write what is left makes the output what all of it makes.
use Rattle.std.specs.Prelude.{◌≡◌, ◌+◌, ◌-◌, ◌≤◌, drop, get_or, length}
use Rattle.std.proofs.Common.{arith}
use native.Mathlib.Nat.{sub-zero}
use Rattle.model.proofs.Model.Tables.{slice_bytes}
use Rattle.reading.specs.Contents.{Parsed, Placed}
use Rattle.moves.specs.Moving.{other, written}
use Rattle.moves.proofs.Controllers.{here, of_any, room_for, write_first, write_next, write_none}
use Rattle.moves.proofs.move_controllers.Goals as goal

pub loop-init : goal.loop-init
loop-init c = let a = c.args in rw sub-zero (write_first a.to (other a.to) a.image.now a.out.now c.requires.0 c.requires.1)

pub fixed_end-tables-requires : goal.fixed_end-tables-requires
fixed_end-tables-requires c =
    let a = c.args in
    let l = c.loop in
    let h = here (other a.to) a.image.now (get_or a.image.now 5 0 - l.counter) l.at (slice_bytes a.image.now (λ k. omega (arith, c.type_inv.image k)))
    (omega arith) l.invariant.within l.invariant.lie in
    rw c.other-from.ensures h.place.end

pub tables_end-end-requires : goal.tables_end-end-requires
tables_end-end-requires c =
    let a = c.args in
    let l = c.loop in
    let h = here (other a.to) a.image.now (get_or a.image.now 5 0 - l.counter) l.at (slice_bytes a.image.now (λ k. omega (arith, c.type_inv.image k)))
    (omega arith) l.invariant.within l.invariant.lie in
    rw (c.fixed_end-tables.ensures, c.other-from.ensures) h.place.tables

pub move_controller-place-requires : goal.move_controller-place-requires
move_controller-place-requires c =
    let a = c.args in
    let l = c.loop in
    let h = here (other a.to) a.image.now (get_or a.image.now 5 0 - l.counter) l.at (slice_bytes a.image.now (λ k. omega (arith, c.type_inv.image k)))
    (omega arith) l.invariant.within l.invariant.lie in
    let e = h.place.behind c.tables_end-end.result (rw (← c.other-from.ensures, ← c.fixed_end-tables.ensures) c.tables_end-end.ensures) in
    let v = other a.to in (
      (h.one, h.found),
      rw c.other-from.ensures at c.fixed_end-tables.ensures,
      e.0,
      of_any (λ (g : Parsed Placed). (drop c.tables_end-end.result a.image.now ≡ g.behind) × (l.place + length (written a.to g.value) ≤ length l.out))
          v (drop l.at a.image.now) h.one h.found
          (e.1, room_for a.to v a.image.now a.out.now l.out (get_or a.image.now 5 0 - l.counter) l.at l.place h l.invariant c.requires.2),
    )

pub loop-preserved : goal.loop-preserved
loop-preserved c =
    let a = c.args in
    let l = c.loop in
    let h = here (other a.to) a.image.now (get_or a.image.now 5 0 - l.counter) l.at (slice_bytes a.image.now (λ k. omega (arith, c.type_inv.image k)))
    (omega arith) l.invariant.within l.invariant.lie in
    let e = h.place.behind c.tables_end-end.result (rw (← c.other-from.ensures, ← c.fixed_end-tables.ensures) c.tables_end-end.ensures) in
    let m = c.move_controller-place.ensures h.one h.found in
    let n : get_or a.image.now 5 0 - (l.counter + 1) ≡ get_or a.image.now 5 0 - l.counter - 1 = omega arith in
    rw n (write_next a.to (other a.to) a.image.now a.out.now l.out (get_or a.image.now 5 0 - l.counter) l.at l.place c.tables_end-end.result
    c.move_controller-place.result _ h l.invariant e m.0 m.1 c.move_controller-place.auto.out)

pub shape_of-out : goal.shape_of-out
shape_of-out c = c.loop.invariant.long

pub returns : goal.returns
returns c =
    let a = c.args in
    let l = c.loop in
    write_none a.to (other a.to) a.image.now a.out.now l.out (get_or a.image.now 5 0 - l.counter) l.at l.place (omega arith) l.invariant
