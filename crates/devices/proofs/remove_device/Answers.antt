-- `devices::remove_device` meets its contract.
use mathlib.Core.Path.{refl, sym, ◌∙◌}
use Rattle.devices.proofs.Walk.{remove_device_length, remove_device_bad, remove_device_absent, remove_device_done}
use Rattle.devices.proofs.Bridge.{size5}
use Rattle.devices.proofs.Laws.{fits, canonical}
use lib.Dec.{lit<}
use borrow.Author.Rules.{rules}
use Rattle.devices.proofs.remove_device.Goals as goal

pub returns-then-ps-ne7 : goal.returns-then-ps-ne7
returns-then-ps-ne7 c =
    remove_device_length _ _ _ _ _ _ (search rules) (search rules) c.if-ps-ne7.true
    c.refuse.ensures.0 c.refuse.ensures.1

pub names_record-requires : goal.names_record-requires
names_record-requires c = (
  fits c.args.state.now
      c.args.index (search rules) 5 (lit< tt) _ 8
      c.table_place-at.ensures size5,
  search rules,
  search rules,
)

pub removed_reply-count-requires : goal.removed_reply-count-requires
removed_reply-count-requires c = (
  fits c.args.state.now
      c.args.index (search rules) 5
      (lit< tt) _ 8 c.table_place-at.ensures size5,
  search rules,
  search rules,
)

pub release_named-requires : goal.release_named-requires
release_named-requires c = (
  fits
      c.args.state.now
      c.args.index (search rules) 5 (lit< tt) _ 8 c.table_place-at.ensures size5,
  canonical
      c.args.state.now
      c.args.index (search rules) 5 (lit< tt) _ 8 c.table_place-at.ensures size5,
  search rules,
  search rules,
)

pub returns : goal.returns
returns c =
    remove_device_done _ _ _ _ _ _ (search rules) (search rules)
    c.if-ps-ne7.false
    (sym c.if-not-removal_ok.false
    ∙ c.removal_ok.ensures)
    _ c.table_place-at.ensures _
    c.all_zero-all.ensures _
    c.names_record.ensures _ _
    c.if-not-names_record.false
    c.removed_reply-count.ensures.0
    c.removed_reply-count.ensures.1 c.release_named.ensures refl

pub returns-then-not-names_record : goal.returns-then-not-names_record
returns-then-not-names_record c =
    remove_device_absent _ _ _ _ _ _ (search rules) (search rules)
    c.if-ps-ne7.false
    (sym c.if-not-removal_ok.false
    ∙ c.removal_ok.ensures) _
    c.table_place-at.ensures _
    c.all_zero-all.ensures _
    c.names_record.ensures c.if-not-names_record.true
    c.refuse_address-then-not-names_record.ensures.0 c.refuse_address-then-not-names_record.ensures.1

pub returns-then-not-removal_ok : goal.returns-then-not-removal_ok
returns-then-not-removal_ok c =
    remove_device_bad _ _ _ _ _ _ (search rules) (search rules) c.if-ps-ne7.false
    (sym c.if-not-removal_ok.true ∙ c.removal_ok.ensures)
    c.refuse_address.ensures.0 c.refuse_address.ensures.1
