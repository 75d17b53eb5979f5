-- `checks::advertising::times_ok` meets its contract. The invariant: the instances that are left tell what all five tell.
use mathlib.Core.Path.{sym, ◌∙◌}
use Rattle.checks.proofs.AdvertisingLaws.{times_end, times_fails, times_first, times_turn}
use borrow.Author.Rules.{rules}
use Rattle.std.proofs.Common.{◌<◌, ◌^◌, get_or}
use Rattle.checks.proofs.advertising.times_ok.Goals as goal

pub loop-p-init : goal.loop-p-init
loop-p-init c = times_first _ _ (search rules) (search rules)

pub returns-then-not-there_or_zero : goal.returns-then-not-there_or_zero
returns-then-not-there_or_zero c =
    let d = c.args.durations in
    let t = c.args.timeouts in
    let k = c.loop-p.p in
    let h : get_or d k 0 < 2 ^ 16 = search rules in
    let i : get_or t k 0 < 2 ^ 16 = search rules in
    times_fails d t (search rules) (search rules) k c.loop-p-test.true h i
    (sym (rw c.from.ensures at c.there_or_zero.ensures) ∙ c.if-not-there_or_zero.true) ∙ c.loop-p.invariant

pub loop-p-preserved : goal.loop-p-preserved
loop-p-preserved c =
    let d = c.args.durations in
    let t = c.args.timeouts in
    let k = c.loop-p.p in
    let h : get_or d k 0 < 2 ^ 16 = search rules in
    let i : get_or t k 0 < 2 ^ 16 = search rules in
    times_turn d t (search rules) (search rules) k c.loop-p-test.true h i
    (sym (rw c.from.ensures at c.there_or_zero.ensures) ∙ c.if-not-there_or_zero.false) ∙ c.loop-p.invariant

pub returns : goal.returns
returns c = times_end _ _ (search rules) (search rules) _ c.loop-p-test.false ∙ c.loop-p.invariant
