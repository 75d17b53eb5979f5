-- `wording::write_text` meets its contract: the pieces of each finding, one behind the other, and room for each.
use native.Mathlib.Omega.{arith}
use mathlib.Core.Path.{sym}
use Prim.Native.Nat.{◌+◌, ◌≤◌}
use Rattle.why.specs.Spelling.{spelled}
use Rattle.why.specs.Wording.{named, status_name, status_names, text_of}
use Rattle.why.proofs.Lengths.{condition_short, name_short}
use Rattle.wording.proofs.Writing.{ends_behind, room, text_behind}
use Rattle.wording.proofs.Names.{named_as}
use Rattle.wording.proofs.write_text.Goals as goal

pub put-from-requires : goal.put-from-requires
put-from-requires c =
    let h : c.put_status-name.result ≤ 18 = rw c.put_status-name.ensures.1 (name_short _) in
    omega arith

pub put_condition-next-requires : goal.put_condition-next-requires
put_condition-next-requires c =
    let h : c.put_status-name.result ≤ 18 = rw c.put_status-name.ensures.1 (name_short _) in
    omega arith

pub put_place-requires : goal.put_place-requires
put_place-requires c =
    let h : c.put_status-name.result ≤ 18 = rw c.put_status-name.ensures.1 (name_short _) in
    let i : c.put_condition-next.result ≤ c.put-from.result + 70 = rw c.put_condition-next.ensures.1 (room _ _ (condition_short _)) in
    omega arith

pub returns-in-Ok : goal.returns-in-Ok
unfolding text_of spelled
returns-in-Ok c = rw c.in-Ok.is c.put.ensures

pub returns-in-Err-Busy : goal.returns-in-Err-Busy
unfolding text_of spelled status_name status_names named
returns-in-Err-Busy c = rw (c.in-Err-Busy.is, rw c.in-Err-Busy.is at c.in-Err-Busy.field-0-is) c.put-in-Err-Busy.ensures

pub returns-in-Err-Wrong : goal.returns-in-Err-Wrong
unfolding text_of spelled
returns-in-Err-Wrong c =
    rw (c.in-Err-Wrong.is, rw c.in-Err-Wrong.is at c.in-Err-Wrong.field-0-is)
    (text_behind _ _ _ _ _ _ _
    (named_as _ _ _ _ _ (sym c.reason_status.ensures) c.put_status-name.ensures)
    (ends_behind _ _ _ _ _ _ _ _ c.put-from.ensures
    (ends_behind _ _ _ _ _ _ _ _ c.put_condition-next.ensures c.put_place.ensures)))
