-- `records::identity_at` meets its contract. The words are read where the key of the table's records lies.
use native.Mathlib.Omega.{arith}
use Rattle.records.proofs.Laws.{size0, size2, size_least}
use Rattle.records.proofs.Identities.{identity_uuid, identity_master, identity_address}
use borrow.Author.Rules.{rules}
use Rattle.records.proofs.identity_at.Goals as goal

pub u64_at-requires : goal.u64_at-requires
u64_at-requires c = let z = size0 _ c.in-0.is in omega arith

pub u64_at-requires-in-0 : goal.u64_at-requires-in-0
u64_at-requires-in-0 c = let z = size0 _ c.in-0.is in omega arith

pub returns-in-0 : goal.returns-in-0
returns-in-0 c = rw (c.u64_at.ensures, c.u64_at-in-0.ensures) (identity_uuid _ _ _ c.in-0.is)

pub bounds-s-at : goal.bounds-s-at
bounds-s-at c = let z = size2 _ c.in-2.is in omega arith

pub u56_at-requires : goal.u56_at-requires
u56_at-requires c = let z = size2 _ c.in-2.is in omega arith

pub returns-in-2 : goal.returns-in-2
returns-in-2 c = rw (c.from.ensures, c.u56_at.ensures.0) (identity_master _ _ _ c.in-2.is)

pub u56_at-requires-in_default : goal.u56_at-requires-in_default
u56_at-requires-in_default c = let z = size_least c.args.k (search rules) in omega arith

pub returns-in_default : goal.returns-in_default
returns-in_default c = rw c.u56_at-in_default.ensures.0 (identity_address _ _ _ (search rules) (λ e. omega arith) (λ e. omega arith))
