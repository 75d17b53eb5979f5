-- `devices::unblock_device` meets its contract.
use mathlib.Core.Path.{refl, sym, ◌∙◌}
use Rattle.devices.proofs.Bridge.{unblock_length, unblock_bad, unblock_absent, unblock_done, size4}
use Rattle.devices.proofs.Laws.{told_here, told_away, record_room, fits, canonical}
use lib.Dec.{lit<}
use Rattle.model.specs.Tables.{rule_at}
use borrow.Author.Rules.{rules}
use Rattle.devices.proofs.unblock_device.Goals as goal

pub returns-then-ps-ne7 : goal.returns-then-ps-ne7
returns-then-ps-ne7 c =
    unblock_length _ _ _ _ _ _ (search rules) (search rules) c.if-ps-ne7.true c.refuse.ensures.0
    c.refuse.ensures.1

pub record_ok-requires : goal.record_ok-requires
record_ok-requires c = (lit< tt, record_room (rule_at 4) 7 c.args.ps.now size4 c.if-ps-ne7.false)

pub find-requires : goal.find-requires
find-requires c = (
  fits c.args.state.now
      c.args.index (search rules) 4 (lit< tt) _ 7 c.table_place-at.ensures
      size4,
  search rules,
  search rules,
)

pub release_matching-requires : goal.release_matching-requires
release_matching-requires c = (
  fits c.args.state.now
      c.args.index (search rules) 4 (lit< tt) _ 7
      c.table_place-at.ensures size4,
  canonical
      c.args.state.now
      c.args.index (search rules) 4 (lit< tt) _ 7
      c.table_place-at.ensures size4,
  search rules,
  search rules,
)

pub returns : goal.returns
returns c =
    unblock_done _ _ _ _ _ _ (search rules) (search rules)
    c.if-ps-ne7.false
    (sym c.if-not-record_ok.false
    ∙ c.record_ok.ensures) _ _
    c.table_place-at.ensures
    refl _
    (told_here _ _ c.find.ensures (rw c.if-is_none.false at c.is_none.ensures))
    c.release_matching.ensures c.device_reply.ensures.0
    c.device_reply.ensures.1

pub returns-then-is_none : goal.returns-then-is_none
returns-then-is_none c =
    unblock_absent _ _ _ _ _ _ (search rules) (search rules)
    c.if-ps-ne7.false
    (sym c.if-not-record_ok.false
    ∙ c.record_ok.ensures) _ _
    c.table_place-at.ensures refl
    (told_away _ _ c.find.ensures (rw c.if-is_none.true at c.is_none.ensures)) c.refuse_address-then-is_none.ensures.0 c.refuse_address-then-is_none.ensures.1

pub returns-then-not-record_ok : goal.returns-then-not-record_ok
returns-then-not-record_ok c =
    unblock_bad _ _ _ _ _ _ (search rules) (search rules) c.if-ps-ne7.false
    (sym c.if-not-record_ok.true ∙ c.record_ok.ensures)
    c.refuse_address.ensures.0 c.refuse_address.ensures.1
