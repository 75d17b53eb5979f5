-- `restore::fill_tables` meets its contract. The invariant: the tables from k on are left at the place p.
use Rattle.std.specs.Prelude.{◌≡◌, ◌+◌, ◌*◌}
use Rattle.std.proofs.Common.{arith, rules, true}
use Rattle.model.specs.Octets.{bytes}
use Rattle.model.proofs.Model.Tables.{slice_bytes}
use Rattle.layout.proofs.Tables.{table_fits}
use Rattle.restore.proofs.Filling.{tables_first, tables_last, tables_room, tables_turn}
use Rattle.restore.proofs.fill_tables.Goals as goal

pub loop-k-init : goal.loop-k-init
loop-k-init c = (search rules, tables_first _ _ _ _ c.requires.0 c.requires.1)

pub bounds-image-p : goal.bounds-image-p
bounds-image-p c =
    let w : bytes c.args.image.now ≡ true = slice_bytes _ (λ j. omega (arith, c.type_inv.image j)) in
    let g = tables_room _ _ _ _ w c.requires.2 _ _ _ c.loop-k-test.true c.loop-k.invariant.1 in
    g.0

pub overflow_add-p : goal.overflow_add-p
overflow_add-p c =
    let w : bytes c.args.image.now ≡ true = slice_bytes _ (λ j. omega (arith, c.type_inv.image j)) in
    let g = tables_room _ _ _ _ w c.requires.2 _ _ _ c.loop-k-test.true c.loop-k.invariant.1 in
    omega (arith, g.0)

pub load-requires : goal.load-requires
load-requires c =
    let w : bytes c.args.image.now ≡ true = slice_bytes _ (λ j. omega (arith, c.type_inv.image j)) in
    let g = tables_room _ _ _ _ w c.requires.2 _ _ _ c.loop-k-test.true c.loop-k.invariant.1 in
    let f = table_fits _ _ c.requires.0.below c.loop-k-test.true in
    let a = c.table_place.ensures in
    let b = c.size_of-size.ensures in
    let n = c.loop-k.invariant.0 in
    rw c.from-n.ensures (omega arith, g.1, rw b g.2)

pub overflow_mul-p : goal.overflow_mul-p
overflow_mul-p c =
    let w : bytes c.args.image.now ≡ true = slice_bytes _ (λ j. omega (arith, c.type_inv.image j)) in
    let g = tables_room _ _ _ _ w c.requires.2 _ _ _ c.loop-k-test.true c.loop-k.invariant.1 in
    rw (c.size_of-size.ensures, c.from-n.ensures) (omega (arith, g.2))

pub overflow_add-p-in-loop-k : goal.overflow_add-p-in-loop-k
overflow_add-p-in-loop-k c =
    let w : bytes c.args.image.now ≡ true = slice_bytes _ (λ j. omega (arith, c.type_inv.image j)) in
    let g = tables_room _ _ _ _ w c.requires.2 _ _ _ c.loop-k-test.true c.loop-k.invariant.1 in
    rw (c.size_of-size.ensures, c.from-n.ensures) (omega (arith, g.2))

pub overflow_add-p-in-loop-k-2 : goal.overflow_add-p-in-loop-k-2
overflow_add-p-in-loop-k-2 c =
    let w : bytes c.args.image.now ≡ true = slice_bytes _ (λ j. omega (arith, c.type_inv.image j)) in
    let g = tables_room _ _ _ _ w c.requires.2 _ _ _ c.loop-k-test.true c.loop-k.invariant.1 in
    rw (c.size_of-size.ensures, c.from-n.ensures) (omega (arith, g.2))

pub loop-k-preserved : goal.loop-k-preserved
loop-k-preserved c =
    let w : bytes c.args.image.now ≡ true = slice_bytes _ (λ j. omega (arith, c.type_inv.image j)) in
    let p = c.loop-k.p in
    let e : p + (1 + c.size_of-size.result * c.from-n.result) ≡ p + 1 + c.size_of-size.result * c.from-n.result = omega arith in (
      search rules,
      rw e (tables_turn _ _ _ _ w c.requires.2 _ _ _ _ _ _ _ c.loop-k-test.true c.from-n.ensures c.size_of-size.ensures c.table_place.ensures
          c.load.ensures c.loop-k.invariant.1),
    )

pub returns : goal.returns
returns c = tables_last _ _ _ _ _ _ _ (search rules) c.loop-k.invariant.1
