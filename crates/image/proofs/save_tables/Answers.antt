-- `image::save_tables` meets its contract. The invariant: the images of the tables from k on are still to be written.
use native.Mathlib.Omega.{arith}
use Rattle.layout.proofs.Tables.{table_fits}
use Rattle.image.proofs.SaveLaws.{tables_first, tables_room, tables_turn, tables_last}
use borrow.Author.Rules.{rules}
use Rattle.image.proofs.save_tables.Goals as goal

pub loop-k-init : goal.loop-k-init
loop-k-init c = tables_first _ _ (search rules) _ _

pub save_records-p-requires : goal.save_records-p-requires
save_records-p-requires c =
    let r = c.requires.0 in
    let f = table_fits _ _ r.below c.loop-k-test.true in let a = c.table_place-at.ensures in
    let b = c.size_of.ensures in let g = tables_room _ _ r _ _ _ _ _ c.loop-k-test.true
    c.loop-k.invariant in let k = c.loop-k.invariant.long in let n = r.long in
    (omega arith, omega arith)

pub loop-k-preserved : goal.loop-k-preserved
loop-k-preserved c =
    tables_turn _ _ (search rules) _ _ _ _ _ _ _ _ _ c.loop-k-test.true
    c.table_place-at.ensures c.size_of.ensures
    c.save_records-p.ensures.0 c.save_records-p.ensures.1 c.save_records-p.ensures.2
    c.loop-k.invariant

pub shape_of-out : goal.shape_of-out
shape_of-out c = c.loop-k.invariant.long

pub returns : goal.returns
returns c = tables_last _ _ (search rules) _ _ _ _ _ (search rules) c.loop-k-test.false c.loop-k.invariant
