-- `records::uuid_ok` meets its contract. One of the two words is not zero.
use Rattle.octets.specs.Parts.{part}
use Rattle.octets.proofs.Numbers.{little_zero, zero_goes, zero_stops}
use Rattle.records.proofs.Laws.{uuid_is}
use borrow.Author.Tests.{ne_eqb}
use Rattle.records.proofs.uuid_ok.Goals as goal

pub returns-then-u64_at-ne0 : goal.returns-then-u64_at-ne0
returns-then-u64_at-ne0 c =
    let s = c.args.s.now in
    let at = c.args.at in
    let first = zero_stops s at 8 8 c.u64_at.result (rw c.u64_at.ensures (little_zero (part s at 8))) c.if-u64_at-ne0.true in
    rw (uuid_is _ _, ← first, ne_eqb _ _ c.if-u64_at-ne0.true)

pub returns-else-u64_at-ne0 : goal.returns-else-u64_at-ne0
returns-else-u64_at-ne0 c =
    let s = c.args.s.now in
    let at = c.args.at in
    let low = c.u64_at in
    let first = zero_goes s at 8 8 low.result (rw low.ensures (little_zero (part s at 8))) c.if-u64_at-ne0.false in
    rw (uuid_is _ _, ← first, c.u64_at-else-u64_at-ne0.ensures, little_zero)
