-- `checks::table_ok` meets its contract. Each way out is one law: no slot in use, no support, and else the slots tell.
use mathlib.Core.Path.{sym, ◌∙◌}
use Prim.Native.Nat.{◌*◌}
use native.Mathlib.Omega.{arith}
use Rattle.model.specs.Tables.{rule_at}
use Rattle.checks.proofs.Laws.{lent_zero, table_empty, table_told, table_unsupported}
use Rattle.checks.proofs.table_ok.Goals as goal

pub returns-then-w-eq0 : goal.returns-then-w-eq0
returns-then-w-eq0 c = λ f e.
    let a = c.args in
    let e = c.size_of.ensures in
    c.blank.ensures ∙ lent_zero a.s.now _ _ ((rule_at a.k).size * 32) (omega arith) ∙ table_empty (rule_at a.k) f a.s.now a.at _ c.u32_at-w.ensures.0 c.if-w-eq0.true

pub returns-then-supports : goal.returns-then-supports
returns-then-supports c = λ f e.
    let a = c.args in
    let supported = sym (c.supports.ensures f e) ∙ c.if-supports.true in
    c.slots_keep_rules.ensures ∙ table_told (rule_at a.k) f a.s.now a.at _ c.u32_at-w.ensures.0 supported

pub returns-else-supports : goal.returns-else-supports
returns-else-supports c = λ f e.
    let a = c.args in
    let word = c.u32_at-w.ensures in
    c.if-supports.false ∙ table_unsupported (rule_at a.k) f a.s.now a.at _ word.0 c.if-w-eq0.false word.1 (sym (c.supports.ensures f e) ∙ c.if-supports.false)
