-- `records::slots_keep_rules` meets its contract. Slots that are fine, with no two marks the same, repeat nothing; with two the same, the identities tell.
use mathlib.Core.Path.{sym, ◌∙◌}
use mathlib.Core.List.{map}
use native.Mathlib.Omega.{arith}
use Rattle.model.proofs.Model.Tables.{slice_bytes}
use Rattle.model.specs.Tables.{distinct, every, record_ok, records_ok, rule_at}
use Rattle.records.specs.Slots.{free_zero, records_at}
use Rattle.records.proofs.Identities.{slots_told}
use Rattle.records.proofs.Marking.{marks_apart}
use Rattle.records.proofs.Walks.{valid_fails, valid_goes}
use borrow.Author.Rules.{rules}
use Rattle.records.proofs.slots_keep_rules.Goals as goal

pub returns-in_default : goal.returns-in_default
unfolding records_ok
returns-in_default c =
    let a = c.args in
    let s = a.s.now in
    let free = free_zero s (rule_at a.k).size a.place a.n a.w in
    let rs = records_at s (rule_at a.k).size a.place a.n a.w in
    let each = every (record_ok (rule_at a.k)) rs in
    let apart = distinct (map (rule_at a.k).key rs) in
    valid_fails free each apart c.in_default.ensures

pub returns-then-not-meet : goal.returns-then-not-meet
unfolding records_ok
returns-then-not-meet c =
    let a = c.args in
    let s = a.s.now in
    let free = free_zero s (rule_at a.k).size a.place a.n a.w in
    let rs = records_at s (rule_at a.k).size a.place a.n a.w in
    let each = every (record_ok (rule_at a.k)) rs in
    let apart = distinct (map (rule_at a.k).key rs) in
    let wide = slice_bytes s (λ k. omega (arith, c.type_inv.s k)) in
    let told = slots_told a.k s a.place a.n a.w (search rules) (search rules) wide in
    let none = sym c.meet.ensures ∙ c.if-not-meet.true in
    let all = marks_apart _ _ _ c.in-Some.ensures.1 none in
    rw c.if-not-meet.true (sym all ∙ told ∙ valid_goes free each apart c.in-Some.ensures.0)

pub returns-else-not-meet : goal.returns-else-not-meet
unfolding records_ok
returns-else-not-meet c =
    let a = c.args in
    let s = a.s.now in
    let free = free_zero s (rule_at a.k).size a.place a.n a.w in
    let rs = records_at s (rule_at a.k).size a.place a.n a.w in
    let each = every (record_ok (rule_at a.k)) rs in
    let apart = distinct (map (rule_at a.k).key rs) in
    c.distinct.ensures ∙ valid_goes free each apart c.in-Some.ensures.0
