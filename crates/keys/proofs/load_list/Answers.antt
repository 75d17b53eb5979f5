-- `keys::load_list` meets its contract. Each way out is one law of Loads.
use mathlib.Core.Path.{refl}
use native.Mathlib.Omega.{arith}
use Rattle.keys.proofs.Loads.{list_inside, load_room, count_refuses, head_refuses, values_refuse, support_refuses, list_loads}
use Rattle.keys.proofs.load_list.Goals as goal

pub returns-then-n-gt32 : goal.returns-then-n-gt32
returns-then-n-gt32 c =
    count_refuses _ _ _ _ _ _ _ _ _ _ _ c.requires.0
    c.requires.1
    c.requires.2
    c.u16_at-n.ensures.0 c.if-n-gt32.true
    c.refuse.ensures.0 c.refuse.ensures.1

pub list_ok-requires : goal.list_ok-requires
list_ok-requires c = (
  omega arith,
  omega arith,
  omega arith,
  list_inside _ _ _ _ _ c.requires.2
      c.u16_at-n.ensures.0,
)

pub load-requires : goal.load-requires
load-requires c = (
  load_room
      c.args.index
      c.args.k
      c.table_place-place.result c.size_of.result
      c.args.state.now
      c.requires.0.long
      c.requires.0.below
      (omega arith) c.table_place-place.ensures c.size_of.ensures,
  omega arith,
  rw c.size_of.ensures
      (list_inside c.args.k
      c.args.at
      c.u16_at-n.result
      c.args.valid
      c.args.ps.now
      c.requires.2
      c.u16_at-n.ensures.0),
)

pub returns : goal.returns
returns c =
    list_loads _ _ _ _ _ _ _ _ _ _ _
    c.requires.0
    c.requires.1
    c.requires.2
    c.u16_at-n.ensures.0
    c.if-n-gt32.false
    c.if-not-valid.false _
    c.list_ok.ensures
    c.if-not-list_ok.false _
    c.hardware_at.ensures _
    c.supports.ensures
    c.if-not-supports.false _ _ _
    c.table_place-place.ensures
    c.size_of.ensures
    c.load.ensures refl c.command_complete.ensures

pub returns-then-not-supports : goal.returns-then-not-supports
returns-then-not-supports c =
    support_refuses _ _ _ _ _ _ _ _ _ _ _
    c.requires.0
    c.requires.1
    c.requires.2
    c.u16_at-n.ensures.0
    c.if-n-gt32.false
    c.if-not-valid.false _
    c.list_ok.ensures
    c.if-not-list_ok.false _
    c.hardware_at.ensures _ c.supports.ensures
    c.if-not-supports.true c.refuse-then-not-supports.ensures.0 c.refuse-then-not-supports.ensures.1

pub returns-then-not-list_ok : goal.returns-then-not-list_ok
returns-then-not-list_ok c =
    values_refuse _ _ _ _ _ _ _ _ _ _ _ c.requires.0
    c.requires.1
    c.requires.2
    c.u16_at-n.ensures.0
    c.if-n-gt32.false c.if-not-valid.false _
    c.list_ok.ensures c.if-not-list_ok.true
    c.refuse-then-not-list_ok.ensures.0 c.refuse-then-not-list_ok.ensures.1

pub returns-then-not-valid : goal.returns-then-not-valid
returns-then-not-valid c =
    head_refuses _ _ _ _ _ _ _ _ _ _ _ c.requires.0
    c.requires.1
    c.requires.2
    c.u16_at-n.ensures.0 c.if-n-gt32.false
    c.if-not-valid.true c.refuse-then-not-valid.ensures.0 c.refuse-then-not-valid.ensures.1
