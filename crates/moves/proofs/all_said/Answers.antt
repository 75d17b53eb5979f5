-- `moves::all_said` meets its contract: what is left of the controllers says what all of them say.
use Rattle.std.specs.Prelude.{◌≡◌, ◌+◌, ◌-◌, get_or}
use Rattle.std.proofs.Common.{arith}
use native.Mathlib.Nat.{sub-zero}
use Rattle.model.proofs.Model.Tables.{slice_bytes}
use Rattle.moves.specs.Moving.{other}
use Rattle.moves.proofs.Controllers.{here, said_first, said_next, said_none, said_stop}
use Rattle.moves.proofs.all_said.Goals as goal

pub loop-init : goal.loop-init
loop-init c = let a = c.args in rw sub-zero (said_first a.to (other a.to) a.image.now c.requires.0 c.requires.1)

pub settings_in-requires : goal.settings_in-requires
settings_in-requires c =
    let a = c.args in
    let l = c.loop in
    let h = here (other a.to) a.image.now (get_or a.image.now 5 0 - l.counter) l.at (slice_bytes a.image.now (λ k. omega (arith, c.type_inv.image k)))
    (omega arith) l.invariant.within l.invariant.lie in
    h.place.long

pub returns-then-not-can_say : goal.returns-then-not-can_say
returns-then-not-can_say c =
    let a = c.args in
    let l = c.loop in
    let h = here (other a.to) a.image.now (get_or a.image.now 5 0 - l.counter) l.at (slice_bytes a.image.now (λ k. omega (arith, c.type_inv.image k)))
    (omega arith) l.invariant.within l.invariant.lie in
    said_stop a.to (other a.to) a.image.now (get_or a.image.now 5 0 - l.counter) l.at h l.invariant
    (rw (← c.other-from.ensures, ← c.settings_in.ensures, ← c.can_say.ensures) c.if-not-can_say.true)

pub fixed_end-requires : goal.fixed_end-requires
fixed_end-requires c =
    let a = c.args in
    let l = c.loop in
    let h = here (other a.to) a.image.now (get_or a.image.now 5 0 - l.counter) l.at (slice_bytes a.image.now (λ k. omega (arith, c.type_inv.image k)))
    (omega arith) l.invariant.within l.invariant.lie in
    rw c.other-from.ensures h.place.end

pub tables_end-at-requires : goal.tables_end-at-requires
tables_end-at-requires c =
    let a = c.args in
    let l = c.loop in
    let h = here (other a.to) a.image.now (get_or a.image.now 5 0 - l.counter) l.at (slice_bytes a.image.now (λ k. omega (arith, c.type_inv.image k)))
    (omega arith) l.invariant.within l.invariant.lie in
    rw (c.fixed_end.ensures, c.other-from.ensures) h.place.tables

pub loop-preserved : goal.loop-preserved
loop-preserved c =
    let a = c.args in
    let l = c.loop in
    let h = here (other a.to) a.image.now (get_or a.image.now 5 0 - l.counter) l.at (slice_bytes a.image.now (λ k. omega (arith, c.type_inv.image k)))
    (omega arith) l.invariant.within l.invariant.lie in
    let n : get_or a.image.now 5 0 - (l.counter + 1) ≡ get_or a.image.now 5 0 - l.counter - 1 = omega arith in
    rw n (said_next a.to (other a.to) a.image.now (get_or a.image.now 5 0 - l.counter) l.at c.tables_end-at.result h l.invariant
    (rw (← c.other-from.ensures, ← c.settings_in.ensures, ← c.can_say.ensures) c.if-not-can_say.false)
    (h.place.behind c.tables_end-at.result (rw (← c.other-from.ensures, ← c.fixed_end.ensures) c.tables_end-at.ensures)))

pub returns : goal.returns
returns c =
    let a = c.args in
    let l = c.loop in
    said_none a.to (other a.to) a.image.now (get_or a.image.now 5 0 - l.counter) l.at (omega arith) l.invariant
