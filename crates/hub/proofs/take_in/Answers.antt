-- A lump with room for a reply: all of it waits, a packet lies whole in it, or the last octets of one do.
use mathlib.Core.Path.{refl, sym, ◌∙◌}
use native.Mathlib.Omega.{arith}
use lib.Seq.{length-take-le}
use borrow.Author.Rules.{rules}
use Rattle.model.proofs.Model.Tables.{slice_bytes}
use Rattle.hub.proofs.Lumps.{last_said, still_short, takes_all_lem, takes_last, takes_whole, whole_fine}
use Rattle.hub.proofs.take_in.Goals as goal

pub overflow_sub-left : goal.overflow_sub-left
overflow_sub-left c = omega (arith, still_short _ c.requires.0 c.args.lump.now, c.taken.ensures.0, c.length_said-said.ensures.0)

pub grow-requires : goal.grow-requires
grow-requires c =
    let p = c.requires in
    (p.0, p.1, c.length_said-said.ensures.0, omega (arith, c.if-lump-left.true, c.taken.ensures.0), c.length_said-said.ensures.1)

pub returns-then-lump-left : goal.returns-then-lump-left
returns-then-lump-left c =
    let p = c.requires in
    takes_all_lem _ p.0 _ p.2 _ (slice_bytes c.args.lump.now (λ k. omega (arith, c.type_inv.lump k))) _ c.length_said-said.ensures.0 _ c.taken.ensures.0 _ _
    c.if-lump-left.true c.grow.ensures

pub slice_bounds-serve-end : goal.slice_bounds-serve-end
slice_bounds-serve-end c = sym (length-take-le _ c.args.lump.now (omega (arith, c.if-left-said.true, c.if-lump-left.false)))

pub serve-answer-requires : goal.serve-answer-requires
serve-answer-requires c =
    let p = c.requires in
    let e = c.length_said-said.ensures.0 in
    let t = still_short _ p.0 c.args.lump.now in (
      p.0,
      p.1,
      whole_fine _ p.0 _ _ e (omega (arith, c.if-left-said.true, c.taken.ensures.0, t, e)) (omega (arith, c.if-left-said.true, c.if-lump-left.false)),
      search rules,
    )

pub returns-then-left-said : goal.returns-then-left-said
returns-then-left-said c =
    let p = c.requires in
    takes_whole _ p.0 _ p.2 _ (slice_bytes c.args.lump.now (λ k. omega (arith, c.type_inv.lump k))) _ c.length_said-said.ensures.0 _ c.taken.ensures.0 _ _ _ _
    c.if-lump-left.false c.if-left-said.true c.serve-answer.ensures

pub slice_bounds-finish-end : goal.slice_bounds-finish-end
slice_bounds-finish-end c = sym (length-take-le _ c.args.lump.now c.if-lump-left.false)

pub finish-answer-requires : goal.finish-answer-requires
finish-answer-requires c =
    let p = c.requires in
    let t = still_short _ p.0 c.args.lump.now in
    let q = last_said _ p.0 _ _ _ c.length_said-said.ensures.0
    (omega (arith, t, c.taken.ensures.0, c.length_said-said.ensures.0)) c.if-lump-left.false in
    (p.0, p.1, q.0, q.1, search rules)

pub returns : goal.returns
returns c =
    let p = c.requires in
    takes_last _ p.0 _ p.2 _ (slice_bytes c.args.lump.now (λ k. omega (arith, c.type_inv.lump k))) _ c.length_said-said.ensures.0 _ c.taken.ensures.0 _ _ _ _ _
    c.if-lump-left.false refl c.finish-answer.ensures
