-- `reading::first_fault` meets its contract. The invariant `Goes`: the records so far are kept, and what is left gives what the whole gives.
use Rattle.std.proofs.Common.{arith, rules, sym, ◌∙◌}
use borrow.Author.Tests.{not-false, not-true}
use Rattle.fields.proofs.Reach.{handed_on}
use Rattle.reading.proofs.OneTable.{Records, goes_end, goes_first, goes_record_fault, goes_repeat_fault, goes_short, goes_support_fault, goes_turn}
use Rattle.reading.proofs.first_fault.Goals as goal

pub loop-j-init : goal.loop-j-init
loop-j-init c = goes_first _ _ _ _ _ _ c.size_of-size.ensures (search rules)

pub returns-in_err-whole : goal.returns-in_err-whole
returns-in_err-whole c f e =
    let x = c.in_err-whole.ensures in
    handed_on (Records c.args.k c.args.image.now f c.args.n c.args.place) _ _ _ c.from_residual.ensures.1 x.1 (goes_short _ _ _ _ _ _ _ _ c.loop-j.invariant c.loop-j-test.true f e x.0)

pub record_ok-requires : goal.record_ok-requires
record_ok-requires c =
    let v = c.loop-j.invariant in
    (search rules, rw (← v.sized) (omega (arith, v.within, c.in_ok-whole.ensures)))

pub returns-in_err-kept : goal.returns-in_err-kept
returns-in_err-kept c f e =
    let x = c.in_err-kept.ensures in
    handed_on (Records c.args.k c.args.image.now f c.args.n c.args.place) _ _ _ c.from_residual-in_err-kept.ensures.1 x.1
    (goes_record_fault _ _ _ _ _ _ _ _ c.loop-j.invariant c.loop-j-test.true f e c.in_ok-whole.ensures (sym x.0 ∙ c.record_ok.ensures))

pub returns-in_err-kept-2 : goal.returns-in_err-kept-2
returns-in_err-kept-2 c f e =
    let x = c.in_err-kept-2.ensures in
    handed_on (Records c.args.k c.args.image.now f c.args.n c.args.place) _ _ _ c.from_residual-in_err-kept-2.ensures.1 x.1
    (goes_support_fault _ _ _ _ _ _ _ _ c.loop-j.invariant c.loop-j-test.true f e c.in_ok-whole.ensures (sym c.in_ok-kept.ensures ∙ c.record_ok.ensures)
    (sym x.0 ∙ c.supports.ensures f e))

pub repeats-requires : goal.repeats-requires
repeats-requires c =
    let v = c.loop-j.invariant in
    rw (← v.sized) (search rules, omega (arith, v.here, v.within), omega (arith, v.within, c.in_ok-whole.ensures))

pub returns-in_err-kept-3 : goal.returns-in_err-kept-3
returns-in_err-kept-3 c f e =
    let x = c.in_err-kept-3.ensures in
    handed_on (Records c.args.k c.args.image.now f c.args.n c.args.place) _ _ _ c.from_residual-in_err-kept-3.ensures.1 x.1
    (goes_repeat_fault _ _ _ _ _ _ _ _ c.loop-j.invariant c.loop-j-test.true f e c.in_ok-whole.ensures (sym c.in_ok-kept.ensures ∙ c.record_ok.ensures)
    (sym c.in_ok-kept-2.ensures ∙ c.supports.ensures f e) (sym (not-false _ x.0) ∙ c.repeats.ensures))

pub loop-j-preserved : goal.loop-j-preserved
loop-j-preserved c =
    goes_turn _ _ _ _ _ _ _ _ c.loop-j.invariant c.loop-j-test.true c.in_ok-whole.ensures (sym c.in_ok-kept.ensures ∙ c.record_ok.ensures)
    (λ f e. sym c.in_ok-kept-2.ensures ∙ c.supports.ensures f e) (sym (not-true _ c.in_ok-kept-3.ensures) ∙ c.repeats.ensures)

pub returns : goal.returns
returns c f e = goes_end _ _ _ _ _ _ _ _ c.loop-j.invariant c.loop-j-test.false f e
