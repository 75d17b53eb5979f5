-- `checks::open_ok` meets its contract. One law for each code, and for what is none.
use Rattle.std.proofs.Common.{sym, ◌∙◌, arith}
use Rattle.checks.proofs.Laws.{opens_none, opens_discoverable, opens_powered, opens_connectable, opens_low_energy, opens_bredr, opens_other, opens_more, lent_zero}
use Rattle.checks.proofs.open_ok.Goals as goal

pub returns-then-code-eq0 : goal.returns-then-code-eq0
returns-then-code-eq0 c =
    c.all_zero.ensures ∙ lent_zero c.args.s.now _ _ 3 (omega arith) ∙ opens_none _ c.args.s.now c.args.at _ c.u16_at-code.ensures.0 c.if-code-eq0.true

pub returns-then-code-eq-SET_DISCOVERABLE : goal.returns-then-code-eq-SET_DISCOVERABLE
returns-then-code-eq-SET_DISCOVERABLE c =
    c.waits.ensures ∙ opens_discoverable _ c.args.s.now c.args.at _ c.u16_at-code.ensures.0 c.if-code-eq0.false (omega arith)
    c.if-code-eq-SET_DISCOVERABLE.true _ c.decide_discoverable.ensures

pub returns-then-not-all_zero : goal.returns-then-not-all_zero
returns-then-not-all_zero c =
    opens_more _ c.args.s.now c.args.at _ c.u16_at-code.ensures.0 c.if-code-eq0.false (omega arith) c.if-code-eq-SET_DISCOVERABLE.false
    (sym (lent_zero c.args.s.now _ _ 2 (omega arith)) ∙ sym c.all_zero-2.ensures ∙ c.if-not-all_zero.true)

pub returns-in-5 : goal.returns-in-5
returns-in-5 c =
    c.waits-in-5.ensures ∙ opens_powered _ c.args.s.now c.args.at _ c.u16_at-code.ensures.0 c.if-code-eq0.false (omega arith)
    (sym (lent_zero c.args.s.now _ _ 2 (omega arith)) ∙ sym c.all_zero-2.ensures ∙ c.if-not-all_zero.false) c.in-5.is _ c.decide_powered.ensures

pub returns-in-7 : goal.returns-in-7
returns-in-7 c =
    c.waits-in-7.ensures ∙ opens_connectable _ c.args.s.now c.args.at _ c.u16_at-code.ensures.0 c.if-code-eq0.false (omega arith)
    (sym (lent_zero c.args.s.now _ _ 2 (omega arith)) ∙ sym c.all_zero-2.ensures ∙ c.if-not-all_zero.false) c.in-7.is _ c.decide_connectable.ensures

pub returns-in-13 : goal.returns-in-13
returns-in-13 c =
    c.waits-in-13.ensures ∙ opens_low_energy _ c.args.s.now c.args.at _ c.u16_at-code.ensures.0 c.if-code-eq0.false (omega arith)
    (sym (lent_zero c.args.s.now _ _ 2 (omega arith)) ∙ sym c.all_zero-2.ensures ∙ c.if-not-all_zero.false) c.in-13.is _ c.decide_low_energy.ensures

pub returns-in-42 : goal.returns-in-42
returns-in-42 c =
    c.waits-in-42.ensures ∙ opens_bredr _ c.args.s.now c.args.at _ c.u16_at-code.ensures.0 c.if-code-eq0.false (omega arith)
    (sym (lent_zero c.args.s.now _ _ 2 (omega arith)) ∙ sym c.all_zero-2.ensures ∙ c.if-not-all_zero.false) c.in-42.is _ c.decide_bredr.ensures

pub returns-in_default : goal.returns-in_default
returns-in_default c =
    let d = c.in_default in
    opens_other _ c.args.s.now c.args.at _ c.u16_at-code.ensures.0 c.if-code-eq0.false (omega arith) c.if-code-eq-SET_DISCOVERABLE.false
    (λ e. omega arith) (λ e. omega arith) (λ e. omega arith) (λ e. omega arith)
