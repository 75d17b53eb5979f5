-- `checks::tables_ok` meets its contract. What is left of the rules, from where their tables lie, is kept exactly if all are.
use Rattle.std.proofs.Common.{refl, sym, ◌∙◌, arith, rules}
use Rattle.checks.proofs.Laws.{tables_room, tables_turn, tables_fails, tables_end}
use Rattle.checks.proofs.Tables.{total_six}
use Rattle.checks.proofs.tables_ok.Goals as goal

pub loop-k-init : goal.loop-k-init
loop-k-init c = record { room = rw total_six (search rules); same = refl }

pub table_ok-requires : goal.table_ok-requires
table_ok-requires c =
    let r = tables_room c.args.s.now c.loop-k.at c.loop-k.k (omega arith) _ c.loop-k.invariant.room in
    (omega arith, omega arith)

pub returns-then-not-table_ok : goal.returns-then-not-table_ok
returns-then-not-table_ok c =
    tables_fails _ _ _ (omega arith) c.args.f (sym (c.table_ok.ensures c.args.f refl) ∙ c.if-not-table_ok.true) ∙ c.loop-k.invariant.same

pub overflow_mul-at : goal.overflow_mul-at
overflow_mul-at c =
    let r = tables_room c.args.s.now c.loop-k.at c.loop-k.k (omega arith) _ c.loop-k.invariant.room in
    omega (arith, c.size_of.ensures)

pub overflow_add-at : goal.overflow_add-at
overflow_add-at c =
    let r = tables_room c.args.s.now c.loop-k.at c.loop-k.k (omega arith) _ c.loop-k.invariant.room in
    omega (arith, c.size_of.ensures)

pub overflow_add-at-in-loop-k : goal.overflow_add-at-in-loop-k
overflow_add-at-in-loop-k c =
    let r = tables_room c.args.s.now c.loop-k.at c.loop-k.k (omega arith) _ c.loop-k.invariant.room in
    omega (arith, c.size_of.ensures)

pub loop-k-preserved : goal.loop-k-preserved
loop-k-preserved c =
    rw c.size_of.ensures (record {
      room = tables_room c.args.s.now c.loop-k.at c.loop-k.k (omega arith) _ c.loop-k.invariant.room;
      same = tables_turn _ _ _ (omega arith) c.args.f (sym (c.table_ok.ensures c.args.f refl) ∙ c.if-not-table_ok.false) ∙ c.loop-k.invariant.same;
    })

pub returns : goal.returns
returns c = tables_end c.args.f _ _ _ (omega arith) ∙ c.loop-k.invariant.same
