-- `faults::first_pair` meets its contract. The invariants `Outer` and `Inner`: what is left to compare tells what the whole list tells.
use native.Mathlib.Omega.{arith}
use borrow.Author.Rules.{rules}
use Rattle.model.proofs.Model.Tables.{slice_bytes}
use Rattle.faults.proofs.Pairs.{ends, goes_in, goes_out, hits, misses}
use Rattle.faults.proofs.first_pair.Goals as goal

pub loop-b-init : goal.loop-b-init
loop-b-init c = goes_in _ _ _ _ _ c.loop-a-test.true c.loop-a.invariant

pub loop-b-preserved : goal.loop-b-preserved
loop-b-preserved c =
    misses _ _ _ _ _ _ (search rules) (slice_bytes _ (λ k. omega (arith, c.type_inv.ps k))) c.loop-a-test.true c.loop-b-test.true c.requires.1
    c.loop-b.invariant _ _ (rw c.size_of-size.ensures at c.identity_at-mine.ensures) (rw c.size_of-size.ensures at c.identity_at-other.ensures)
    _ c.same_identity.ensures c.if-same_identity.false

pub loop-a-preserved : goal.loop-a-preserved
loop-a-preserved c = goes_out _ _ _ _ _ _ c.loop-b-test.false c.loop-b.invariant

pub returns : goal.returns
returns c = ends _ _ _ _ _ c.loop-a-test.false c.loop-a.invariant

pub returns-then-same_identity : goal.returns-then-same_identity
returns-then-same_identity c =
    hits _ _ _ _ _ _ (search rules) (slice_bytes _ (λ k. omega (arith, c.type_inv.ps k))) c.loop-a-test.true c.loop-b-test.true c.requires.1
    c.loop-b.invariant _ _ (rw c.size_of-size.ensures at c.identity_at-mine.ensures) (rw c.size_of-size.ensures at c.identity_at-other.ensures)
    _ c.same_identity.ensures c.if-same_identity.true
