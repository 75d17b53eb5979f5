-- `devices::remove_uuid` meets its contract.
use native.Mathlib.Omega.{arith}
use Rattle.devices.proofs.Uuids.{remove_uuid_length, remove_uuid_absent, remove_uuid_done, size0}
use Rattle.devices.proofs.Laws.{fits, canonical}
use lib.Dec.{lit<}
use borrow.Author.Rules.{rules}
use Rattle.devices.proofs.remove_uuid.Goals as goal

pub returns-then-ps-ne16 : goal.returns-then-ps-ne16
returns-then-ps-ne16 c =
    remove_uuid_length _ _ _ _ _ _ (search rules) (search rules) c.if-ps-ne16.true
    c.refuse.ensures.0 c.refuse.ensures.1

pub names_record-requires : goal.names_record-requires
names_record-requires c = (
  fits c.args.state.now
      c.args.index (search rules) 0 (lit< tt) _ 17 c.table_place-at.ensures
      size0,
  search rules,
  search rules,
)

pub or_octets-old-requires : goal.or_octets-old-requires
or_octets-old-requires c = (
  fits c.args.state.now
      c.args.index (search rules) 0 (lit< tt) _ 17
      c.table_place-at.ensures size0,
  search rules,
)

pub release_named-requires : goal.release_named-requires
release_named-requires c = (
  fits c.args.state.now
      c.args.index (search rules) 0 (lit< tt) _ 17
      c.table_place-at.ensures size0,
  canonical
      c.args.state.now
      c.args.index (search rules) 0 (lit< tt) _ 17
      c.table_place-at.ensures size0,
  search rules,
  search rules,
)

pub or_octets-new-requires : goal.or_octets-new-requires
or_octets-new-requires c =
    let f = fits
    c.args.state.now
    c.args.index
    (search rules) 0 (lit< tt) _ 17 c.table_place-at.ensures size0 in
    let k = c.release_named.auto.state in (omega arith, search rules)

pub returns : goal.returns
returns c =
    remove_uuid_done _ _ _ _ _ _ (search rules) (search rules)
    c.if-ps-ne16.false _
    c.table_place-at.ensures
    _
    c.all_zero-all.ensures _ c.names_record.ensures _ _
    _ c.if-not-names_record.false
    c.or_octets-old.ensures
    c.release_named.ensures
    c.or_octets-new.ensures c.class_reply.ensures.0 c.class_reply.ensures.1

pub returns-then-not-names_record : goal.returns-then-not-names_record
returns-then-not-names_record c =
    remove_uuid_absent _ _ _ _ _ _ (search rules) (search rules)
    c.if-ps-ne16.false _
    c.table_place-at.ensures _
    c.all_zero-all.ensures _
    c.names_record.ensures c.if-not-names_record.true
    c.refuse-then-not-names_record.ensures.0 c.refuse-then-not-names_record.ensures.1
