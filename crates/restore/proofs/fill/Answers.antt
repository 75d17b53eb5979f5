-- `restore::fill` meets its contract. The invariant: so many controllers are left at that place of the image.
use Rattle.std.specs.Prelude.{◌≡◌, ◌+◌, ◌-◌, get_or}
use Rattle.std.proofs.Common.{arith, refl, rules, true, ◌∙◌}
use native.Mathlib.Nat.{sub-zero}
use Rattle.model.specs.Octets.{bytes}
use Rattle.model.proofs.Model.Tables.{slice_bytes}
use Rattle.layout.proofs.Filled.{state_cleared}
use Rattle.restore.proofs.Loading.{loading_first, loading_last, loading_ready, loading_turn}
use Rattle.restore.proofs.fill.Goals as goal

pub loop-init : goal.loop-init
loop-init c = (search rules, rw sub-zero (loading_first _ _ _ c.requires.2 (c.zero_fill.ensures ∙ state_cleared _ _ c.requires.0 refl)))

pub bounds-image-at : goal.bounds-image-at
bounds-image-at c =
    let w : bytes c.args.image.now ≡ true = slice_bytes _ (λ j. omega (arith, c.type_inv.image j)) in
    (loading_ready _ _ _ _ _ w c.requires.1 (omega arith) c.loop.invariant.1).0

pub fill_controller-at-requires : goal.fill_controller-at-requires
fill_controller-at-requires c =
    let w : bytes c.args.image.now ≡ true = slice_bytes _ (λ j. omega (arith, c.type_inv.image j)) in
    let g = loading_ready _ _ _ _ _ w c.requires.1 (omega arith) c.loop.invariant.1 in
    rw c.from.ensures (g.1, g.2, g.3, g.4)

pub loop-preserved : goal.loop-preserved
loop-preserved c =
    let w : bytes c.args.image.now ≡ true = slice_bytes _ (λ j. omega (arith, c.type_inv.image j)) in
    let n : get_or c.args.image.now 5 0 - (c.loop.counter + 1) ≡ get_or c.args.image.now 5 0 - c.loop.counter - 1 = omega arith in (
      search rules,
      rw n (loading_turn _ _ _ _ _ w c.requires.1 (omega arith) c.loop.invariant.1 _ _ (rw c.from.ensures at c.fill_controller-at.ensures)),
    )

pub returns : goal.returns
returns c = loading_last _ _ _ _ _ (omega arith) c.loop.invariant.1
