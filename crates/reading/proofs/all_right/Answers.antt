-- `reading::all_right` meets its contract: each test is one of the model's.
use Rattle.std.proofs.Common.{arith, rules, sym, ◌∙◌}
use borrow.Author.Tests.{eq-eqb}
use Rattle.model.specs.Tables.{rule_at}
use Rattle.reading.proofs.OneTable.{right_none, right_supported, right_unsupported, size_room}
use Rattle.reading.proofs.all_right.Goals as goal

pub overflow_mul-size_of : goal.overflow_mul-size_of
overflow_mul-size_of c =
    let a = c.args in
    omega (arith, size_room a.k c.size_of.result a.n (search rules) c.size_of.ensures (search rules))

pub returns-then-n-eq0 : goal.returns-then-n-eq0
returns-then-n-eq0 c f e =
    let a = c.args in
    let whole = rw c.size_of.ensures at c.if-size_of-n.true in
    eq-eqb _ _ c.if-n-eq0.true ∙ right_none (rule_at a.k) f a.image.now a.place a.n whole c.if-n-eq0.true

pub returns-then-supports : goal.returns-then-supports
returns-then-supports c f e =
    let a = c.args in
    let whole = rw c.size_of.ensures at c.if-size_of-n.true in
    right_supported (rule_at a.k) f a.image.now a.place a.n whole c.if-n-eq0.false (sym c.if-supports.true ∙ c.supports.ensures f e) _ _
    c.list_word.ensures c.keeps_rule.ensures

pub returns-else-supports : goal.returns-else-supports
returns-else-supports c f e =
    let a = c.args in
    let whole = rw c.size_of.ensures at c.if-size_of-n.true in
    c.if-supports.false
    ∙ right_unsupported (rule_at a.k) f a.image.now a.place a.n whole c.if-n-eq0.false (sym c.if-supports.false ∙ c.supports.ensures f e)
