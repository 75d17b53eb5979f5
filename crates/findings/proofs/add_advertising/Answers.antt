-- `findings::add_advertising` meets its contract: two lengths, the instance, the flags, the lengths of data, Low Energy, and power.
use native.Mathlib.Omega.{arith}
use mathlib.Core.Path.{sym, ◌∙◌}
use borrow.Author.Tests.{not-false}
use Rattle.std.proofs.Common.{rules, ◌≡◌, ◌+◌, ◌&&◌, true, leb, eqb, get_or, length}
use Rattle.model.specs.Octets.{octet}
use Rattle.model.specs.Reasons.{further, moved}
use Rattle.model.specs.Immediate.{add_advertising, advertising_checks, length_field}
use Rattle.why.specs.Findings.{and_then, checked, first_wrong, in_packet, why_immediate}
use Rattle.why.proofs.Orders.{met}
use Rattle.findings.proofs.add_advertising.Goals as goal

pub returns-in_err-check_at : goal.returns-in_err-check_at
unfolding checked why_immediate first_wrong and_then in_packet moved further octet length_field add_advertising advertising_checks
returns-in_err-check_at c = grind arith

pub returns-in_err-check_at-3 : goal.returns-in_err-check_at-3
unfolding why_immediate first_wrong and_then checked in_packet moved further octet length_field add_advertising advertising_checks
returns-in_err-check_at-3 c = λ k e.
    let fits : (leb 11 (length c.args.ps.now) && eqb (length c.args.ps.now) (11 + get_or c.args.ps.now 9 0 + get_or c.args.ps.now 10 0)) ≡ true =
    sym c.sized.ensures ∙ not-false _ (met _ _ _ c.in_ok-check_at-2.ensures) in
    let e : c.if-ps-ge1.check_at ≡ (leb 1 (get_or c.args.ps.now 0 0) && leb (get_or c.args.ps.now 0 0) 5) = grind arith in
    rw (fits, ← e) (search rules)
