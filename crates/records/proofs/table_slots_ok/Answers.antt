-- `records::table_slots_ok` meets its contract. Each call has the number that the test found.
use mathlib.Core.Path.{◌≡◌}
use native.Mathlib.Omega.{arith}
use borrow.Author.Rules.{rules}
use Rattle.records.proofs.table_slots_ok.Goals as goal

pub slots_ok-requires : goal.slots_ok-requires
slots_ok-requires c = (omega arith, search rules, rw c.in-0.is at c.requires.2, search rules)

pub returns-in-0 : goal.returns-in-0
returns-in-0 c = rw c.in-0.is c.slots_ok.ensures

pub slots_ok-requires-in-1 : goal.slots_ok-requires-in-1
slots_ok-requires-in-1 c = (omega arith, search rules, rw c.in-1.is at c.requires.2, search rules)

pub returns-in-1 : goal.returns-in-1
returns-in-1 c = rw c.in-1.is c.slots_ok-in-1.ensures

pub slots_ok-requires-in-2 : goal.slots_ok-requires-in-2
slots_ok-requires-in-2 c = (omega arith, search rules, rw c.in-2.is at c.requires.2, search rules)

pub returns-in-2 : goal.returns-in-2
returns-in-2 c = rw c.in-2.is c.slots_ok-in-2.ensures

pub slots_ok-requires-in-3 : goal.slots_ok-requires-in-3
slots_ok-requires-in-3 c = (omega arith, search rules, rw c.in-3.is at c.requires.2, search rules)

pub returns-in-3 : goal.returns-in-3
returns-in-3 c = rw c.in-3.is c.slots_ok-in-3.ensures

pub slots_ok-requires-in-4 : goal.slots_ok-requires-in-4
slots_ok-requires-in-4 c =
    let fits = c.requires.2 in
    (omega arith, search rules, rw c.in-4.is at fits, search rules)

pub returns-in-4 : goal.returns-in-4
returns-in-4 c = rw c.in-4.is c.slots_ok-in-4.ensures

pub slots_ok-requires-in_default : goal.slots_ok-requires-in_default
slots_ok-requires-in_default c =
    let e : c.args.k ≡ 5 = omega arith in
    (omega arith, search rules, rw e at c.requires.2, search rules)

pub returns-in_default : goal.returns-in_default
returns-in_default c = let e : c.args.k ≡ 5 = omega arith in rw e c.slots_ok-in_default.ensures
