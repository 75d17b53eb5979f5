-- `turns::turn` meets its contract. One law for each way out: the instance on air goes, the seconds are used up, the turn passes on.
use Rattle.std.proofs.Common.{arith}
use Rattle.turns.proofs.Turns.{turn_going, turn_running, turn_passing}
use Rattle.turns.proofs.Sound.{facts}
use Rattle.turns.proofs.turn.Goals as goal

pub value_of-t-requires : goal.value_of-t-requires
value_of-t-requires c = (facts _ c.requires.0).one

pub with_instance-requires : goal.with_instance-requires
with_instance-requires c = (c.requires.1, (facts _ c.requires.0).one)

pub pass_on-requires : goal.pass_on-requires
pass_on-requires c = (facts _ c.requires.0).one

pub returns-then-goes : goal.returns-then-goes
returns-then-goes c =
    rw c.from.ensures
    (turn_going _ _ _ _ _ _ c.requires.0 c.requires.1 c.value_of-t.ensures c.goes.ensures c.if-goes.true c.with_instance.ensures c.pass_on.ensures)

pub air-requires : goal.air-requires
air-requires c = (c.requires.1, (facts _ c.requires.0).one, omega arith)

pub returns-then-n-from : goal.returns-then-n-from
returns-then-n-from c =
    turn_running _ _ c.args.w.schedule _ _ _ c.requires.0 c.requires.1 c.value_of-t.ensures c.goes.ensures c.if-goes.false (omega arith) c.air.ensures

pub air-requires-2 : goal.air-requires-2
air-requires-2 c = (c.requires.1, (facts _ c.requires.0).one, omega arith)

pub pass_on-requires-2 : goal.pass_on-requires-2
pass_on-requires-2 c = (facts _ c.requires.0).one

pub returns : goal.returns
returns c =
    rw c.from-3.ensures
    (turn_passing _ _ _ _ _ _ c.requires.0 c.requires.1 c.value_of-t.ensures c.goes.ensures c.if-goes.false (omega arith) c.air-2.ensures c.pass_on-2.ensures)
