-- `devices::add_device` meets its contract.
use mathlib.Core.Path.{sym, ◌∙◌}
use native.Mathlib.Omega.{arith}
use Rattle.devices.proofs.Bridge.{add_device_length, add_device_bad, add_device_full, add_device_done, size5}
use Rattle.devices.proofs.Laws.{record_room, fits, canonical}
use lib.Dec.{lit<}
use Rattle.model.specs.Tables.{rule_at}
use borrow.Author.Rules.{rules}
use Rattle.devices.proofs.add_device.Goals as goal

pub returns-then-ps-ne8 : goal.returns-then-ps-ne8
returns-then-ps-ne8 c =
    add_device_length _ _ _ _ _ _ (search rules) (search rules) c.if-ps-ne8.true
    c.refuse.ensures.0 c.refuse.ensures.1

pub record_ok-requires : goal.record_ok-requires
record_ok-requires c = (lit< tt, record_room (rule_at 5) 8 c.args.ps.now size5 c.if-ps-ne8.false)

pub slot_for-requires : goal.slot_for-requires
slot_for-requires c = (
  fits c.args.state.now
      c.args.index (search rules) 5 (lit< tt) _ 8 c.table_place-at.ensures
      size5,
  search rules,
  search rules,
)

pub store-requires : goal.store-requires
store-requires c = (
  fits c.args.state.now
      c.args.index (search rules) 5 (lit< tt) _ 8
      c.table_place-at.ensures size5,
  canonical
      c.args.state.now
      c.args.index (search rules) 5 (lit< tt) _ 8
      c.table_place-at.ensures
      size5,
  c.in-Some.ensures.1,
  c.if-ps-ne8.false,
)

pub returns : goal.returns
returns c =
    add_device_done _ _ _ _ _ _ (search rules) (search rules)
    c.if-ps-ne8.false
    (sym c.if-not-record_ok.false
    ∙ c.record_ok.ensures) _ _
    c.table_place-at.ensures
    c.in-Some.ensures.0 _
    c.in-Some.ensures.1
    c.store.ensures c.device_reply.ensures.0
    c.device_reply.ensures.1

pub returns-in_default : goal.returns-in_default
returns-in_default c =
    add_device_full _ _ _ _ _ _ (search rules) (search rules)
    c.if-ps-ne8.false
    (sym c.if-not-record_ok.false
    ∙ c.record_ok.ensures) _ _
    c.table_place-at.ensures
    (sym c.in_default.ensures) (omega arith)
    c.refuse_address-in_default.ensures.0 c.refuse_address-in_default.ensures.1

pub returns-then-not-record_ok : goal.returns-then-not-record_ok
returns-then-not-record_ok c =
    add_device_bad _ _ _ _ _ _ (search rules) (search rules) c.if-ps-ne8.false
    (sym c.if-not-record_ok.true ∙ c.record_ok.ensures)
    c.refuse_address.ensures.0 c.refuse_address.ensures.1
