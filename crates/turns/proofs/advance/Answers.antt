-- `turns::advance` meets its contract. The invariant: these are the seconds passed so far, a turn begins unless none are left, and there are rounds enough.
use Rattle.std.proofs.Common.{◌≤◌, sym, arith}
use Rattle.turns.proofs.Walks.{rest, rest_most, rest_none, fresh_now, walked_less, walked_fresh}
use Rattle.turns.proofs.Turns.{reached_none, reached_on, reached_sound, reached_all, turned_fresh}
use Rattle.turns.proofs.Seconds.{seconds_rest}
use Rattle.turns.proofs.advance.Goals as goal

pub returns-then-s-eq0 : goal.returns-then-s-eq0
returns-then-s-eq0 c = sym (seconds_rest _ _ c.if-s-eq0.true)

pub loop-init : goal.loop-init
loop-init c =
    let t = c.turn-w.ensures in
    let m : rest c.turn-w.result ≤ 6 = rest_most _ (reached_sound _ _ c.requires t.reached) in
    record { reached = reached_none _; begins = turned_fresh _ _ t; enough = omega arith }

pub returns-then-w-eq0 : goal.returns-then-w-eq0
returns-then-w-eq0 c = reached_all _ _ _ (reached_on _ _ _ c.turn-w.ensures.reached c.loop.invariant.reached) (omega arith)

pub round-w-requires : goal.round-w-requires
round-w-requires c =
    let i = c.loop.invariant in
    (reached_sound _ _ c.requires (reached_on _ _ _ c.turn-w.ensures.reached i.reached), fresh_now c.loop.w c.if-w-eq0.false i.begins)

pub loop-preserved : goal.loop-preserved
loop-preserved c =
    let i = c.loop.invariant in
    let r = c.round-w.ensures in
    let h = walked_less _ _ c.if-w-eq0.false r in
    record { reached = reached_on _ _ _ i.reached r.reached; begins = walked_fresh _ _ r; enough = omega arith }

pub returns : goal.returns
returns c =
    let i = c.loop.invariant in
    reached_all _ _ _ (reached_on _ _ _ c.turn-w.ensures.reached i.reached) (rest_none c.loop.w (omega arith))
