-- `advertising::remove_advertising` meets its contract.
use mathlib.Core.Path.{refl, sym, ◌∙◌}
use native.Mathlib.Omega.{arith}
use Rattle.advertising.proofs.Removing.{remove_absent, remove_done, remove_length}
use Rattle.advertising.proofs.remove_advertising.Goals as goal

-- src/lib.rt:138:9
pub returns-then-ps-ne1 : goal.returns-then-ps-ne1
returns-then-ps-ne1 c =
    remove_length _ _ _ _ _ _ c.requires.0
    c.requires.1 c.if-ps-ne1.true
    c.refuse.ensures.0 c.refuse.ensures.1

-- src/lib.rt:148:13
pub remove-next-requires : goal.remove-next-requires
remove-next-requires c = c.removable.ensures.1 c.if-removable.true

-- src/lib.rt:149:9
pub put_turns-requires : goal.put_turns-requires
put_turns-requires c = (
  c.requires.0,
  c.schedule_at-old.ensures,
)

-- src/lib.rt:150:9
pub command_complete-requires : goal.command_complete-requires
command_complete-requires c = let l = c.if-ps-ne1.false in omega (
  arith,
  c.requires.1,
)

-- src/lib.rt:152:9
pub returns-then-removable : goal.returns-then-removable
returns-then-removable c =
    let v = c.advertising_removed-end.ensures in
    remove_done _ _ _ _ _ _ c.requires.0
    c.requires.1 _ _ _ _ _
    c.if-ps-ne1.false (sym
    c.removable.ensures.0 ∙ c.if-removable.true)
    c.settings_at-m.ensures
    c.schedule_at-old.ensures c.remove-next.ensures
    v.0 v.1 refl
    (v.2 ∙ rw c.command_complete.ensures)
    c.put_turns.ensures

-- src/lib.rt:130:1
pub returns : goal.returns
returns c =
    remove_absent _ _ _ _ _ _ c.requires.0
    c.requires.1 _
    c.if-ps-ne1.false
    c.schedule_at-old.ensures
    (sym c.removable.ensures.0 ∙ c.if-removable.false)
    c.refuse-2.ensures.0 c.refuse-2.ensures.1
