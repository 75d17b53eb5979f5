-- The place of a check says nothing on whether it fails, nor why.
use Rattle.std.specs.Prelude.{◌≡◌, refl, Bool, true, false, List, [], ◌∷◌, ◌++◌}
use Rattle.std.proofs.Math.Option.{Option, none, some}
use Rattle.model.specs.Reasons.{Check, Place, Reason, first_of, moved}

-- checks with their places moved refuse for the same reason
pub first_moved : (f : Place → Place) (cs : List Check) → first_of (moved f cs) ≡ first_of cs
unfolding first_of moved
first_moved f [] = refl
first_moved f (c ∷ cs) = go c.fails (first_moved f cs)
  where
    go : (b : Bool) → first_of (moved f cs) ≡ first_of cs
        → ◌≡◌ {A = Option Reason} (elim b [ true ↦ some c.reason | false ↦ first_of (moved f cs) ])
        (elim b [ true ↦ some c.reason | false ↦ first_of cs ])
    go true e = refl
    go false e = e

-- the first of two reasons that there is
unfoldable pub or_else : Option Reason → Option Reason → Option Reason
or_else (some r) x = some r
or_else none x = x

-- checks in two parts: the first part tells, or else the second
pub first_then : (xs ys : List Check) → first_of (xs ++ ys) ≡ or_else (first_of xs) (first_of ys)
unfolding first_of or_else
first_then [] ys = refl
first_then (x ∷ xs) ys = go x.fails (first_then xs ys)
  where
    go : (b : Bool) → first_of (xs ++ ys) ≡ or_else (first_of xs) (first_of ys)
        → ◌≡◌ {A = Option Reason} (elim b [ true ↦ some x.reason | false ↦ first_of (xs ++ ys) ])
        (or_else (elim b [ true ↦ some x.reason | false ↦ first_of xs ]) (first_of ys))
    go true e = refl
    go false e = e

-- checks in two parts, each of which refuses for the same reason as another
pub first_both : (xs ys us vs : List Check) → first_of xs ≡ first_of us → first_of ys ≡ first_of vs → first_of (xs ++ ys) ≡ first_of (us ++ vs)
first_both xs ys us vs a b = rw (first_then xs ys, first_then us vs, a, b)
