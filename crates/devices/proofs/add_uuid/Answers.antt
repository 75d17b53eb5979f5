-- `devices::add_uuid` meets its contract.
use mathlib.Core.Path.{sym, ◌∙◌}
use native.Mathlib.Omega.{arith}
use Rattle.devices.proofs.Uuids.{add_uuid_length, add_uuid_bad, add_uuid_full, add_uuid_done, size0}
use Rattle.devices.proofs.Laws.{record_room, fits, canonical}
use lib.Dec.{lit<}
use Rattle.model.specs.Tables.{rule_at}
use borrow.Author.Rules.{rules}
use Rattle.devices.proofs.add_uuid.Goals as goal

pub returns-then-ps-ne17 : goal.returns-then-ps-ne17
returns-then-ps-ne17 c =
    add_uuid_length _ _ _ _ _ _ (search rules) (search rules) c.if-ps-ne17.true c.refuse.ensures.0
    c.refuse.ensures.1

pub record_ok-requires : goal.record_ok-requires
record_ok-requires c = (lit< tt, record_room (rule_at 0) 17 c.args.ps.now size0 c.if-ps-ne17.false)

pub slot_for-requires : goal.slot_for-requires
slot_for-requires c = (
  fits c.args.state.now
      c.args.index (search rules) 0 (lit< tt) _ 17 c.table_place-at.ensures
      size0,
  search rules,
  search rules,
)

pub store_uuid-requires : goal.store_uuid-requires
store_uuid-requires c = (
  fits c.args.state.now
      c.args.index (search rules) 0 (lit< tt) _ 17
      c.table_place-at.ensures size0,
  canonical
      c.args.state.now
      c.args.index (search rules) 0 (lit< tt) _ 17
      c.table_place-at.ensures
      size0,
  c.in-Some.ensures.1,
  c.if-ps-ne17.false,
  search rules,
)

pub returns : goal.returns
returns c =
    add_uuid_done _ _ _ _ _ _ (search rules) (search rules)
    c.if-ps-ne17.false
    (sym c.if-not-record_ok.false
    ∙ c.record_ok.ensures) _ _
    c.table_place-at.ensures
    c.in-Some.ensures.0 _
    c.in-Some.ensures.1 c.store_uuid.ensures.0
    c.store_uuid.ensures.1 c.store_uuid.ensures.2

pub returns-in_default : goal.returns-in_default
returns-in_default c =
    add_uuid_full _ _ _ _ _ _ (search rules) (search rules)
    c.if-ps-ne17.false
    (sym c.if-not-record_ok.false
    ∙ c.record_ok.ensures) _ _
    c.table_place-at.ensures
    (sym c.in_default.ensures) (omega arith)
    c.refuse-in_default.ensures.0 c.refuse-in_default.ensures.1

pub returns-then-not-record_ok : goal.returns-then-not-record_ok
returns-then-not-record_ok c =
    add_uuid_bad _ _ _ _ _ _ (search rules) (search rules) c.if-ps-ne17.false
    (sym c.if-not-record_ok.true ∙ c.record_ok.ensures)
    c.refuse-then-not-record_ok.ensures.0 c.refuse-then-not-record_ok.ensures.1
