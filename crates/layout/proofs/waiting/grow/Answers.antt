-- `layout::waiting::grow` meets its contract.
use mathlib.Core.Path.{sym, ap, ◌∙◌}
use native.Mathlib.Omega.{arith}
use Prim.Native.Nat.{◌+◌}
use lib.ListN.{length}
use Rattle.std.proofs.lemmas.List.{length-take}
use Rattle.model.specs.Lengths as Lengths
use Rattle.model.specs.Octets.{le32}
use Rattle.octets.proofs.Parts.{length_write_at}
use Rattle.layout.proofs.WaitingOctets.{lump_room, lump_written}
use Rattle.layout.proofs.waiting.grow.Goals as goal

pub overflow_add-before : goal.overflow_add-before
overflow_add-before c =
    let r = lump_room _ _ _ _ _ _ c.requires.2
    (omega (arith, c.taken-n.ensures.0, c.requires.3))
    (c.kept_count-before.ensures _ (sym c.requires.2))
    (c.kept_count-after.ensures _ (sym c.requires.2)) in
    omega (arith, r.0, r.2)

pub slice_bounds-copy_into-count : goal.slice_bounds-copy_into-count
slice_bounds-copy_into-count c =
    let r = lump_room _ _ _ _ _ _ c.requires.2
    (omega (arith, c.taken-n.ensures.0, c.requires.3))
    (c.kept_count-before.ensures _ (sym c.requires.2))
    (c.kept_count-after.ensures _ (sym c.requires.2)) in
    r.0

pub slice_bounds-copy_into-length : goal.slice_bounds-copy_into-length
slice_bounds-copy_into-length c =
    let r = lump_room _ _ _ _ _ _ c.requires.2
    (omega (arith, c.taken-n.ensures.0, c.requires.3))
    (c.kept_count-before.ensures _ (sym c.requires.2))
    (c.kept_count-after.ensures _ (sym c.requires.2)) in
    simp length-take (omega (arith, r.0, r.1))

pub copy_into-requires : goal.copy_into-requires
copy_into-requires c =
    let r = lump_room _ _ _ _ _ _ c.requires.2
    (omega (arith, c.taken-n.ensures.0, c.requires.3))
    (c.kept_count-before.ensures _ (sym c.requires.2))
    (c.kept_count-after.ensures _ (sym c.requires.2)) in
    let n = ap length c.put32.ensures in
    simp length-take (omega (arith, r.0, r.1, r.2, n, length_write_at c.args.s.now Lengths.blocks_end (le32 (c.taken-n.result + length c.args.lump.now)), c.requires.1))

pub returns : goal.returns
returns c =
    let p = c.requires in
    let t = c.taken-n.ensures.0 in
    c.copy_into.ensures
    ∙ rw (c.put32.ensures, t)
    (lump_written _ _ _ _ _ p.0 p.2 p.3
    (rw t at (c.kept_count-before.ensures _ (sym p.2)))
    (rw t at (c.kept_count-after.ensures _ (sym p.2))))
