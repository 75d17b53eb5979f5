-- `reading::tables` meets its contract: one table after the other, what is left gives what the whole gives.
use Rattle.std.proofs.Common.{arith, rules, refl, drop}
use Rattle.model.specs.Tables.{table_rules}
use Rattle.model.specs.Reading.{goes_on, walk_tables}
use Rattle.fields.proofs.Reach.{handed_on}
use Rattle.reading.specs.Comes.{Comes}
use Rattle.reading.proofs.Walks.{left_fault, left_first, left_next, left_none}
use Rattle.reading.proofs.tables.Goals as goal

pub loop-k-init : goal.loop-k-init
loop-k-init c = let a = c.args in (search rules, left_first a.image.now a.place a.supported)

pub loop-k-preserved : goal.loop-k-preserved
loop-k-preserved c =
    let a = c.args in
    let l = c.loop-k in
    left_next a.image.now a.place a.supported l.p l.k c.in_ok-p.p c.loop-k-test.true l.invariant.1 c.in_ok-p.ensures

pub returns-in_err-p : goal.returns-in_err-p
returns-in_err-p c f e =
    let a = c.args in
    let l = c.loop-k in
    handed_on (λ r. Comes a.image.now (walk_tables f table_rules (goes_on (drop a.place a.image.now))) r) _ _ _ c.from_residual.ensures.1 refl
    (left_fault a.image.now a.place a.supported l.p l.k c.in_err-p.field-0.0 c.loop-k-test.true l.invariant.1 c.in_err-p.ensures f e)

pub returns : goal.returns
returns c =
    let a = c.args in
    let l = c.loop-k in
    left_none a.image.now a.place a.supported l.p l.k (omega arith) l.invariant.0 l.invariant.1
