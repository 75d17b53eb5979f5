-- `reading::controller` meets its contract: a fixed part that is right, and then what the tables come to; or its fault.
use Rattle.std.proofs.Common.{arith, refl, sym, ◌∙◌}
use Rattle.fields.proofs.Reach.{handed_on}
use Rattle.reading.specs.Comes.{Continues}
use Rattle.reading.proofs.Walks.{controller_by_lem, controller_fault, fixed_within}
use Rattle.reading.proofs.controller.Goals as goal

pub returns-in_err-p : goal.returns-in_err-p
returns-in_err-p c =
    let a = c.args in
    handed_on (λ r. Continues a.image.now a.version a.low a.at r) _ _ _ c.from_residual.ensures.1 refl
    (controller_fault a.image.now a.version a.low a.at c.in_err-p.field-0.0 (rw c.from.ensures at c.in_err-p.ensures))

pub returns : goal.returns
returns c =
    let a = c.args in
    controller_by_lem a.image.now a.version a.low a.at c.in_ok-p.p c.requires (rw c.from.ensures at c.in_ok-p.ensures)
    c.tables.result (λ f e. c.tables.ensures f (e ∙ sym c.be32_at.ensures.0))

pub be32_at-requires : goal.be32_at-requires
be32_at-requires c =
    let a = c.args in
    omega (arith, (fixed_within a.image.now a.version c.from.result a.at c.in_ok-p.p c.requires c.in_ok-p.ensures).0)
