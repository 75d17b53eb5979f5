-- `devices::block_device` meets its contract.
use mathlib.Core.Path.{refl, sym, ◌∙◌}
use native.Mathlib.Omega.{arith}
use Rattle.devices.proofs.Bridge.{block_length, block_bad, block_again, block_full, block_done, size4}
use Rattle.devices.proofs.Laws.{told_here, told_away, record_room, fits, canonical}
use lib.Dec.{lit<}
use Rattle.model.specs.Tables.{rule_at}
use borrow.Author.Rules.{rules}
use Rattle.devices.proofs.block_device.Goals as goal

pub returns-then-ps-ne7 : goal.returns-then-ps-ne7
returns-then-ps-ne7 c =
    block_length _ _ _ _ _ _ (search rules) (search rules) c.if-ps-ne7.true c.refuse.ensures.0
    c.refuse.ensures.1

pub record_ok-requires : goal.record_ok-requires
record_ok-requires c = (lit< tt, record_room (rule_at 4) 7 c.args.ps.now size4 c.if-ps-ne7.false)

pub find-requires : goal.find-requires
find-requires c = (
  fits c.args.state.now
      c.args.index (search rules) 4 (lit< tt) _ 7 c.table_place-at.ensures
      size4,
  search rules,
  search rules,
)

pub returns-then-is_some : goal.returns-then-is_some
returns-then-is_some c =
    block_again _ _ _ _ _ _ (search rules) (search rules)
    c.if-ps-ne7.false
    (sym c.if-not-record_ok.false
    ∙ c.record_ok.ensures) _ _
    c.table_place-at.ensures refl
    (told_here _ _ c.find.ensures (sym c.is_some.ensures ∙ c.if-is_some.true)) c.refuse_address-then-is_some.ensures.0 c.refuse_address-then-is_some.ensures.1

pub free_slot-requires : goal.free_slot-requires
free_slot-requires c =
    let f = fits c.args.state.now
    c.args.index (search rules) 4 (lit< tt) _ 7
    c.table_place-at.ensures size4 in omega arith

pub store-requires : goal.store-requires
store-requires c = (
  fits c.args.state.now
      c.args.index (search rules) 4
      (lit< tt) _ 7 c.table_place-at.ensures size4,
  canonical
      c.args.state.now
      c.args.index (search rules) 4
      (lit< tt) _ 7 c.table_place-at.ensures
      size4,
  (c.in-Some.ensures 7).1,
  c.if-ps-ne7.false,
)

pub returns : goal.returns
returns c =
    block_done _ _ _ _ _ _ (search rules) (search rules)
    c.if-ps-ne7.false
    (sym c.if-not-record_ok.false
    ∙ c.record_ok.ensures) _ _
    c.table_place-at.ensures
    refl _
    (told_away _ _ c.find.ensures (sym c.is_some.ensures ∙ c.if-is_some.false))
    (c.in-Some.ensures 7).0 _
    (c.in-Some.ensures 7).1
    c.store.ensures c.device_reply.ensures.0
    c.device_reply.ensures.1

pub returns-in_default : goal.returns-in_default
returns-in_default c =
    block_full _ _ _ _ _ _ (search rules) (search rules)
    c.if-ps-ne7.false
    (sym c.if-not-record_ok.false
    ∙ c.record_ok.ensures) _ _
    c.table_place-at.ensures
    refl _
    (told_away _ _ c.find.ensures (sym c.is_some.ensures ∙ c.if-is_some.false)) (sym (c.in_default.ensures 7))
    (omega arith) (omega arith)
    c.refuse_address-in_default.ensures.0 c.refuse_address-in_default.ensures.1

pub returns-then-not-record_ok : goal.returns-then-not-record_ok
returns-then-not-record_ok c =
    block_bad _ _ _ _ _ _ (search rules) (search rules) c.if-ps-ne7.false
    (sym c.if-not-record_ok.true ∙ c.record_ok.ensures)
    c.refuse_address.ensures.0 c.refuse_address.ensures.1
