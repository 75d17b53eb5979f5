-- `records::supports` meets its contract. The table's number picks the support that its rule needs.
use native.Mathlib.Omega.{arith}
use Rattle.records.proofs.Laws.{needs_bredr_lem, needs_le_lem, needs_le_too, needs_none}
use borrow.Author.Rules.{rules}
use Rattle.records.proofs.supports.Goals as goal

pub returns-in-1 : goal.returns-in-1
returns-in-1 c = λ f e. needs_bredr_lem _ _ f e c.in-1.is

pub returns-in-2 : goal.returns-in-2
returns-in-2 c = λ f e. needs_le_lem _ _ f e c.in-2.is

pub returns-in-3 : goal.returns-in-3
returns-in-3 c = λ f e. needs_le_too _ _ f e c.in-3.is

pub returns-in_default : goal.returns-in_default
returns-in_default c = λ f e. needs_none _ _ f e (search rules) (λ z. omega arith) (λ z. omega arith) (λ z. omega arith)
