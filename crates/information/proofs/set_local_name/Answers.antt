-- `information::set_local_name` meets its contract.
use mathlib.Core.Path.{refl}
use native.Mathlib.Omega.{arith}
use Rattle.information.proofs.Name.{name_length, name_open, short_open, name_kept, name_new, name_fits}
use borrow.Author.Rules.{rules}
use Rattle.information.proofs.set_local_name.Goals as goal
use Rattle.information.proofs.set_local_name.Goals.{then-ps-ne260-via-then-ps-ne260, then-ps-ne260-via-else-ps-ne260+then-ps-ne0}
use Rattle.information.proofs.set_local_name.Goals.{then-ps-ne260-via-else-ps-ne260+else-ps-ne0+then-ps-ne0-2}

pub returns-then-ps-ne260 : goal.returns-then-ps-ne260
returns-then-ps-ne260 c = elim c.then-ps-ne260.branch [
  | then-ps-ne260-via-then-ps-ne260 w ↦
      name_length _ _ _ _ _ _ (search rules) (search rules) w.if-ps-ne260.true c.refuse.ensures.0 c.refuse.ensures.1
  | then-ps-ne260-via-else-ps-ne260+then-ps-ne0 w ↦
      name_open _ _ _ _ _ _ (search rules) (search rules) w.if-ps-ne260.false w.if-ps-ne0.true c.refuse.ensures.0 c.refuse.ensures.1
  | then-ps-ne260-via-else-ps-ne260+else-ps-ne0+then-ps-ne0-2 w ↦
      short_open _ _ _ _ _ _ (search rules) (search rules) w.if-ps-ne260.false w.if-ps-ne0.false w.if-ps-ne0-2.true c.refuse.ensures.0 c.refuse.ensures.1
]

pub same_part-kept-requires : goal.same_part-kept-requires
same_part-kept-requires c =
    let f = name_fits _ _ c.requires.0.below c.name_place-place.ensures in
    let l = c.requires.0.long in
    let n = c.if-ps-ne260.false in (omega arith, omega arith)

pub returns-then-kept : goal.returns-then-kept
returns-then-kept c =
    name_kept _ _ _ _ _ _ (search rules) (search rules)
    c.if-ps-ne260.false
    c.if-ps-ne0.false
    c.if-ps-ne0-2.false _
    c.name_place-place.ensures _
    c.same_part-kept.ensures _
    c.put_name.ensures c.if-kept.true refl
    c.command_complete.ensures

pub returns : goal.returns
returns c =
    name_new _ _ _ _ _ _ (search rules) (search rules)
    c.if-ps-ne260.false
    c.if-ps-ne0.false
    c.if-ps-ne0-2.false _
    c.name_place-place.ensures _
    c.same_part-kept.ensures _
    c.put_name.ensures
    c.if-kept.false _ c.command_complete.ensures
    c.event.ensures refl
