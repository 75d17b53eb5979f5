-- `octets::same_key` meets its contract. The invariant: what is left to compare tells what the whole tells.
use mathlib.Core.Path.{◌∙◌}
use native.Mathlib.Omega.{arith}
use Rattle.octets.proofs.Laws.{same_first}
use Rattle.octets.proofs.Same.{same_next, same_stops}
use borrow.Author.Rules.{rules}
use Rattle.octets.proofs.same_key.Goals as goal

pub loop-k-init : goal.loop-k-init
loop-k-init c = (omega arith, same_first _ _ _ _ _)

pub returns-then-u64_at : goal.returns-then-u64_at
returns-then-u64_at c =
    same_stops _ _ (λ k. omega (arith, c.type_inv.a k)) (λ k. omega (arith, c.type_inv.b k)) _ _ 8 _ _ _
    (search rules) (search rules) (search rules) c.u64_at.ensures c.u64_at-in-loop-k.ensures c.if-u64_at.true ∙ c.loop-k.invariant.1

pub loop-k-preserved : goal.loop-k-preserved
loop-k-preserved c = (
  search rules,
  same_next _ _ (λ k. omega (arith, c.type_inv.a k)) (λ k. omega (arith, c.type_inv.b k)) _ _ _ _ 8
      _ _ (search rules) (search rules) (search rules) (search rules) c.u64_at.ensures c.u64_at-in-loop-k.ensures c.if-u64_at.false
      ∙ c.loop-k.invariant.1,
)

pub returns : goal.returns
returns c = c.same_part.ensures ∙ c.loop-k.invariant.1
