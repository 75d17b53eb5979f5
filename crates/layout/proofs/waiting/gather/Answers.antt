-- `layout::waiting::gather` meets its contract.
use mathlib.Core.Path.{◌≡◌, sym, ap, ◌∙◌}
use native.Mathlib.Omega.{arith}
use Prim.Native.Nat.{◌+◌, ◌-◌, ◌≤◌}
use lib.ListN.{length}
use Rattle.std.proofs.lemmas.List.{length-take, length-drop}
use borrow.Author.Rules.{rules}
use Rattle.octets.specs.Parts.{part}
use Rattle.octets.proofs.Parts.{length_write_at}
use Rattle.layout.proofs.WaitingOctets.{gathered, lump_room}
use Rattle.layout.proofs.waiting.gather.Goals as goal

pub overflow_add-before : goal.overflow_add-before
overflow_add-before c =
    let r = lump_room _ _ _ _ _ _ c.requires.2
    (omega (arith, c.taken-n.ensures.0, c.requires.3))
    (c.kept_count-before.ensures _ (sym c.requires.2))
    (c.kept_count-after.ensures _ (sym c.requires.2)) in
    omega (arith, r.0, r.2)

pub slice_bounds-copy_into-end : goal.slice_bounds-copy_into-end
slice_bounds-copy_into-end c =
    let r = lump_room _ _ _ _ _ _ c.requires.2
    (omega (arith, c.taken-n.ensures.0, c.requires.3))
    (c.kept_count-before.ensures _ (sym c.requires.2))
    (c.kept_count-after.ensures _ (sym c.requires.2)) in
    let h : 17496 + c.kept_count-before.result ≤ length c.args.s.now = omega (arith, r.0, r.2, c.requires.1) in
    search rules

pub copy_into-requires : goal.copy_into-requires
copy_into-requires c =
    let r = lump_room _ _ _ _ _ _ c.requires.2
    (omega (arith, c.taken-n.ensures.0, c.requires.3))
    (c.kept_count-before.ensures _ (sym c.requires.2))
    (c.kept_count-after.ensures _ (sym c.requires.2)) in
    simp (length-take, length-drop) (omega (arith, r.0, r.2, c.requires.4))

pub slice_bounds-copy_into-count-2 : goal.slice_bounds-copy_into-count-2
slice_bounds-copy_into-count-2 c =
    let r = lump_room _ _ _ _ _ _ c.requires.2
    (omega (arith, c.taken-n.ensures.0, c.requires.3))
    (c.kept_count-before.ensures _ (sym c.requires.2))
    (c.kept_count-after.ensures _ (sym c.requires.2)) in
    r.0

pub slice_bounds-copy_into-length-2 : goal.slice_bounds-copy_into-length-2
slice_bounds-copy_into-length-2 c =
    let r = lump_room _ _ _ _ _ _ c.requires.2
    (omega (arith, c.taken-n.ensures.0, c.requires.3))
    (c.kept_count-before.ensures _ (sym c.requires.2))
    (c.kept_count-after.ensures _ (sym c.requires.2)) in
    simp length-take (omega (arith, r.0, r.1))

pub copy_into-requires-2 : goal.copy_into-requires-2
copy_into-requires-2 c =
    let r = lump_room _ _ _ _ _ _ c.requires.2
    (omega (arith, c.taken-n.ensures.0, c.requires.3))
    (c.kept_count-before.ensures _ (sym c.requires.2))
    (c.kept_count-after.ensures _ (sym c.requires.2)) in
    let n = ap length c.copy_into.ensures in
    simp length-take (omega (arith, r.0, r.1, r.2, n, length_write_at c.args.out.now 0 (part c.args.s.now 17496 c.kept_count-before.result), c.requires.4))

pub returns : goal.returns
unfolding part
returns c =
    let p = c.requires in
    let t = c.taken-n.ensures.0 in
    let e : 17496 + c.kept_count-before.result - 17496 ≡ c.kept_count-before.result = omega arith in
    c.copy_into-2.ensures
    ∙ rw (c.copy_into.ensures, e)
    (gathered _ _ _ _ _ p.0 (rw t at (c.kept_count-before.ensures _ (sym p.2))) (rw t at (c.kept_count-after.ensures _ (sym p.2))))
