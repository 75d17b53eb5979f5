-- `records::address_zero` meets its contract. Two numbers are zero exactly if all six octets are.
use mathlib.Core.Path.{◌≡◌, ◌∙◌}
use Prim.Native.Nat.{◌+◌}
use native.Mathlib.Omega.{arith}
use lib.Dec.{eqb}
use Rattle.model.specs.Octets.{all_zero}
use Rattle.octets.specs.Parts.{part}
use Rattle.octets.proofs.Numbers.{zero_four, zero_goes, zero_stops, zero_two}
use borrow.Author.Tests.{ne_eqb}
use Rattle.records.proofs.address_zero.Goals as goal

pub returns-then-u32_at-eq0 : goal.returns-then-u32_at-eq0
returns-then-u32_at-eq0 c =
    let s = c.args.s.now in
    let at = c.args.at in
    let first : eqb c.u32_at.result 0 ≡ all_zero (part s at 4) = rw c.u32_at.ensures.0 (zero_four s at (omega arith)) in
    rw c.u16_at.ensures.0 (zero_two s (at + 4) (omega arith) ∙ zero_goes s at 4 2 c.u32_at.result first c.if-u32_at-eq0.true)

pub returns-else-u32_at-eq0 : goal.returns-else-u32_at-eq0
returns-else-u32_at-eq0 c =
    let s = c.args.s.now in
    let at = c.args.at in
    ne_eqb _ _ c.if-u32_at-eq0.false ∙ zero_stops s at 4 2 _ (rw c.u32_at.ensures.0 (zero_four s at (omega arith))) c.if-u32_at-eq0.false
