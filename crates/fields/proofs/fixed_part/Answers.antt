-- `fields::fixed_part` meets its contract: each field is whole, then right, in the order of the image.
use Rattle.std.proofs.Common.{arith, rules}
use Rattle.fields.specs.Reads.{Reads}
use Rattle.fields.proofs.FixedPart.{FlagsPast, StaticPast}
use Rattle.fields.proofs.FixedPart.{flags_good, flags_short, flags_wrong, hardware_good, hardware_short, hardware_wrong}
use Rattle.fields.proofs.FixedPart.{index_good, index_short, index_wrong, names_tell, static_good, static_short, static_wrong}
use Rattle.fields.proofs.Reach.{handed_on}
use Rattle.fields.proofs.fixed_part.Goals as goal

pub returns-in_err-whole : goal.returns-in_err-whole
returns-in_err-whole c =
    let e = c.in_err-whole.ensures in
    handed_on (Reads _ _) _ _ _ c.from_residual.ensures.1 e.1 (index_short _ _ _ _ c.requires e.0)

pub returns-in_err-kept : goal.returns-in_err-kept
returns-in_err-kept c =
    let a = c.args in
    let e = c.in_err-kept.ensures in
    handed_on (Reads _ _) _ _ _ c.from_residual-in_err-kept.ensures.1 e.1
    (index_wrong a.version a.low a.image.now a.at _ _ c.from-index.ensures c.index_right.ensures e.0 (omega (arith, c.in_ok-whole.ensures)))

pub returns-in_err-whole-2 : goal.returns-in_err-whole-2
returns-in_err-whole-2 c =
    let a = c.args in
    let e = c.in_err-whole-2.ensures in
    handed_on (Reads _ _) _ _ _ c.from_residual-in_err-whole-2.ensures.1 e.1 (hardware_short a.version a.low a.image.now a.at (search (rules, index_good)) (omega (arith, c.in_ok-whole.ensures)) e.0)

pub returns-in_err-kept-2 : goal.returns-in_err-kept-2
returns-in_err-kept-2 c =
    let a = c.args in
    let e = c.in_err-kept-2.ensures in
    handed_on (Reads _ _) _ _ _ c.from_residual-in_err-kept-2.ensures.1 e.1
    (hardware_wrong a.version a.low a.image.now a.at _ _ (search (rules, index_good)) c.hardware_in-f.ensures c.hardware_ok.ensures e.0 (omega (arith, c.in_ok-whole-2.ensures)))

pub returns-in_err-whole-3 : goal.returns-in_err-whole-3
returns-in_err-whole-3 c =
    let a = c.args in
    let e = c.in_err-whole-3.ensures in
    handed_on (Reads _ _) _ _ _ c.from_residual-in_err-whole-3.ensures.1 e.1 (flags_short a.version a.low a.image.now a.at (search (rules, index_good, hardware_good)) (omega (arith, c.in_ok-whole-2.ensures)) e.0)

pub returns-in_err-kept-3 : goal.returns-in_err-kept-3
returns-in_err-kept-3 c =
    let a = c.args in
    let e = c.in_err-kept-3.ensures in
    handed_on (Reads _ _) _ _ _ c.from_residual-in_err-kept-3.ensures.1 e.1
    (flags_wrong a.version a.low a.image.now a.at _ _ _ (search (rules, index_good, hardware_good)) c.hardware_in-f.ensures c.be32_at-flags.ensures.0 c.flags_right.ensures e.0 (omega (arith, c.in_ok-whole-3.ensures)))

pub returns-in_err-whole-4 : goal.returns-in_err-whole-4
returns-in_err-whole-4 c =
    let a = c.args in
    let e = c.in_err-whole-4.ensures in
    handed_on (Reads _ _) _ _ _ c.from_residual-in_err-whole-4.ensures.1 e.1 (static_short a.version a.low a.image.now a.at (search (rules, index_good, hardware_good, flags_good)) (omega (arith, c.in_ok-whole-3.ensures)) e.0)

pub returns-in_err-kept-4 : goal.returns-in_err-kept-4
returns-in_err-kept-4 c =
    let a = c.args in
    let e = c.in_err-kept-4.ensures in
    handed_on (Reads _ _) _ _ _ c.from_residual-in_err-kept-4.ensures.1 e.1
    (static_wrong a.version a.low a.image.now a.at _ _ _ (search (rules, index_good, hardware_good, flags_good)) c.hardware_in-f.ensures c.six-own.ensures c.static_fits.ensures e.0 (omega (arith, c.in_ok-whole-4.ensures)))

pub returns : goal.returns
returns c =
    let a = c.args in
    let flags : FlagsPast a.version a.low a.image.now a.at = search (rules, index_good, hardware_good, flags_good) in
    let static : StaticPast a.version a.low a.image.now a.at =
    static_good a.version a.low a.image.now a.at _ _ _ flags c.hardware_in-f.ensures c.six-own.ensures c.static_fits.ensures c.in_ok-kept-4.ensures in
    names_tell a.version a.low a.image.now a.at c.names.result static (omega (arith, c.in_ok-whole-4.ensures)) c.names.ensures
