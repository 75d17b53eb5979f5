-- A fact for every row of the table of commands: the facts stand one under the other, and a code finds that of its row.
use Rattle.std.specs.Prelude.{ℕ, ◌≡◌, refl, Bool, true, false, List, [], ◌∷◌, eqb}
use Rattle.std.proofs.Math.Option.{Option, some}
use Rattle.std.proofs.Common.{arith}
use Rattle.model.specs.Rules.{Rule}
use Rattle.model.specs.Commands.{Row, find}
use Rattle.model.proofs.Model.Tests.{equal}

infixr 5 ◌&◌
-- a fact of the code and the rule of each row in a list
pub data Each (P : ℕ → Rule → Type 0) : List Row → Type 0 where
  -- for no row there is nothing to show
  end : Each P []
  -- the fact of the first row, and those of the rows under it
  ◌&◌ : {r : Row} {rs : List Row} → P r.0 r.1 → Each P rs → Each P (r ∷ rs)

-- the fact of the row that a code finds
pub found : (P : ℕ → Rule → Type 0) (code : ℕ) (rs : List Row) (u : Rule) → Each P rs → find code rs ≡ some u → P code u
unfolding find
found P code [] u end e = let z : ◌≡◌ {A = ℕ} 0 1 = cc in absurd (omega arith)
found P code (r ∷ rs) u (p & ps) e = go (eqb r.0 code) refl e (found P code rs u ps)
  where
    go : (b : Bool) → eqb r.0 code ≡ b → ◌≡◌ {A = Option Rule} (elim b [ true ↦ some r.1 | false ↦ find code rs ]) (some u)
        → (find code rs ≡ some u → P code u) → P code u
    go true t f more = let q : r.1 ≡ u = cc in let c : r.0 ≡ code = equal r.0 code t in rw (c, q) at p
    go false t f more = more f
