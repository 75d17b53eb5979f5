-- `records::keeps_rule` meets its contract: of a list no slot is free, so that nothing else is to be zero, and no records break no rule.
use mathlib.Core.Path.{◌≡◌, sym, ◌∙◌}
use mathlib.Core.List.{[]}
use native.Mathlib.Omega.{arith}
use mathlib.Core.Bool.{true}
use Rattle.model.specs.Tables.{distinct, every, records_ok, rule_at}
use Rattle.records.specs.Slots.{free_zero, records_at}
use Rattle.records.proofs.Slots.{list_free, no_more}
use borrow.Author.Tests.{eq-eqb}
use Rattle.records.proofs.keeps_rule.Goals as goal

pub returns-then-n-eq0 : goal.returns-then-n-eq0
unfolding records_ok every distinct
returns-then-n-eq0 c =
    let a = c.args in
    let s = a.s.now in
    let none : records_at s (rule_at a.k).size a.place a.n a.w ≡ [] = no_more s (rule_at a.k).size a.place a.n a.w (omega arith) in
    eq-eqb _ _ c.if-n-eq0.true ∙ sym (rw none)

pub returns-else-n-eq0 : goal.returns-else-n-eq0
returns-else-n-eq0 c =
    let a = c.args in
    let s = a.s.now in
    let size = (rule_at a.k).size in
    let free : free_zero s size a.place a.n a.w ≡ true = rw c.requires.3 (list_free s size a.place a.n) in
    c.slots_keep_rules.ensures ∙ rw free
