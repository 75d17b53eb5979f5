-- `restore::load` meets its contract: length, image, state.
use Rattle.restore.proofs.Accepting.{load_done, load_length, load_refused, told}
use Rattle.restore.proofs.load.Goals as goal

pub returns-then-state-ne-STATE : goal.returns-then-state-ne-STATE
returns-then-state-ne-STATE c = let a = c.args in told _ _ _ _ (load_length a.state.now a.image.now c.if-state-ne-STATE.true)

pub fill-requires : goal.fill-requires
fill-requires c = let j = c.in-Ok.ensures in (c.if-state-ne-STATE.false, j.2, j.0)

pub returns-in-Ok : goal.returns-in-Ok
returns-in-Ok c =
    let a = c.args in
    told _ _ _ _ (load_done a.state.now a.image.now c.in-Ok.version c.if-state-ne-STATE.false c.in-Ok.ensures.3 _ c.fill.ensures)

pub returns-in-Err : goal.returns-in-Err
returns-in-Err c =
    let a = c.args in
    told _ _ _ _ (load_refused a.state.now a.image.now c.in-Err.f.fault c.in-Err.f.at c.if-state-ne-STATE.false c.in-Err.ensures)
