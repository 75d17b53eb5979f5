-- `reading::table` meets its contract: each test is one of the model's.
use Rattle.std.proofs.Common.{arith, rules, sym, ◌∙◌, drop}
use borrow.Author.Tests.{leb-false, leb-true}
use Rattle.model.specs.Tables.{rule_at}
use Rattle.model.specs.Reading.{goes_on, walk_table}
use Rattle.fields.proofs.Reach.{handed_on}
use Rattle.reading.specs.Comes.{Comes}
use Rattle.reading.proofs.OneTable.{size_room, table_many, table_reads, table_right, table_short}
use Rattle.reading.proofs.table.Goals as goal

pub returns-in_err-whole : goal.returns-in_err-whole
returns-in_err-whole c f e =
    let a = c.args in
    let x = c.in_err-whole.ensures in
    handed_on (λ r. Comes a.image.now (walk_table (rule_at a.k) f (goes_on (drop a.place a.image.now))) r) _ _ _ c.from_residual.ensures.1 x.1
    (table_short (rule_at a.k) f a.image.now a.place (omega (arith, x.0)))

pub returns-in_err-kept : goal.returns-in_err-kept
returns-in_err-kept c f e =
    let a = c.args in
    let x = c.in_err-kept.ensures in
    handed_on (λ r. Comes a.image.now (walk_table (rule_at a.k) f (goes_on (drop a.place a.image.now))) r) _ _ _ c.from_residual-in_err-kept.ensures.1 x.1
    (table_many (rule_at a.k) f a.image.now a.place (omega (arith, c.in_ok-whole.ensures)) (rw c.from-n.ensures at (leb-false _ _ x.0)))

pub overflow_mul-result : goal.overflow_mul-result
overflow_mul-result c =
    omega (arith, size_room c.args.k c.size_of.result c.from-n.result (search rules) c.size_of.ensures (leb-true _ _ c.in_ok-kept.ensures))

pub overflow_add-result-then-all_right : goal.overflow_add-result-then-all_right
overflow_add-result-then-all_right c =
    omega (arith, size_room c.args.k c.size_of.result c.from-n.result (search rules) c.size_of.ensures (leb-true _ _ c.in_ok-kept.ensures), c.in_ok-whole.ensures)

pub returns-then-all_right : goal.returns-then-all_right
returns-then-all_right c f e =
    let a = c.args in
    let few = rw c.from-n.ensures at (leb-true _ _ c.in_ok-kept.ensures) in
    let right = rw c.from-n.ensures at (sym (c.all_right.ensures f e) ∙ c.if-all_right.true) in
    rw c.from-n.ensures
    (table_right (rule_at a.k) f a.image.now a.place (omega (arith, c.in_ok-whole.ensures)) few right _ c.size_of.ensures)

pub returns : goal.returns
returns c f e =
    let a = c.args in
    let few = rw c.from-n.ensures at (leb-true _ _ c.in_ok-kept.ensures) in
    table_reads (rule_at a.k) f a.image.now a.place (omega (arith, c.in_ok-whole.ensures)) few
    c.first_fault.result (rw c.from-n.ensures at (c.first_fault.ensures f e))
