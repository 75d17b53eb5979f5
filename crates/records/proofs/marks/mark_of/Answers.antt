-- `records::marks::mark_of` meets its contract: the code has the terms of `mark_of`, and their sum is one of 64 bits.
use mathlib.Core.Path.{refl}
use Prim.Native.Nat.{ℕ, ◌+◌, ◌*◌, ◌/◌, ◌%◌, ◌<◌}
use native.Mathlib.Omega.{arith}
use Rattle.records.specs.Marks.{mark_of}
use borrow.Author.Rules.{rules}
use Rattle.records.proofs.marks.mark_of.Goals as goal

-- four numbers of 32 bits times the factors
sum_fits : (a b c e : ℕ) → a < 4294967296 → b < 4294967296 → c < 4294967296 → e < 4294967296
    → a + b * 506952113 + c * 367774327 + e * 313699901 < 18446744073709551616
sum_fits a b c e ha hb hc he = omega arith

pub overflow_add-result-3 : goal.overflow_add-result-3
overflow_add-result-3 c =
    let d = c.args.d in
    let l : d.low / 4294967296 < 4294967296 = omega arith in
    let h : d.high / 4294967296 < 4294967296 = omega arith in
    let m : d.low % 4294967296 < 4294967296 = omega arith in
    let n : d.high % 4294967296 < 4294967296 = omega arith in
    let f = sum_fits (d.low % 4294967296) (d.low / 4294967296) (d.high % 4294967296) (d.high / 4294967296) m l n h in search rules

pub returns : goal.returns
unfolding mark_of
returns c = refl
