-- `reading::controllers` meets its contract: one controller after the other, what is left to be walked gives what the whole gives.
use Rattle.std.specs.Prelude.{◌≡◌, ◌+◌, ◌-◌, get_or}
use Rattle.std.proofs.Common.{arith, rules, refl, drop}
use native.Mathlib.Nat.{sub-zero}
use Rattle.model.specs.Octets.{octet}
use Rattle.model.specs.Reading.{walk}
use Rattle.fields.proofs.Reach.{handed_on}
use Rattle.reading.specs.Comes.{Comes}
use Rattle.reading.proofs.Walks.{onward_fault, onward_first, onward_next, onward_none}
use Rattle.reading.proofs.controllers.Goals as goal

pub loop-init : goal.loop-init
loop-init c = let a = c.args in rw sub-zero (onward_first a.image.now a.version (search rules))

pub loop-preserved : goal.loop-preserved
loop-preserved c =
    let a = c.args in
    let l = c.loop in
    let n : get_or a.image.now 5 0 - (l.counter + 1) ≡ get_or a.image.now 5 0 - l.counter - 1 = omega arith in
    rw n (onward_next a.image.now a.version (get_or a.image.now 5 0 - l.counter) l.low l.at c.in_ok-p.p (omega arith) l.invariant c.in_ok-p.ensures)

pub returns-in_err-p : goal.returns-in_err-p
returns-in_err-p c =
    let a = c.args in
    let l = c.loop in
    handed_on (λ r. Comes a.image.now (walk a.version (drop 5 a.image.now)) r) _ _ _ c.from_residual.ensures.1 refl
    (onward_fault a.image.now a.version (get_or a.image.now 5 0 - l.counter) l.low l.at c.in_err-p.field-0.0 (omega arith) l.invariant c.in_err-p.ensures)

pub overflow_add-low : goal.overflow_add-low
unfolding octet
overflow_add-low c = omega (arith, c.in_ok-p.ensures.2)

pub returns : goal.returns
returns c =
    let a = c.args in
    let l = c.loop in
    onward_none a.image.now a.version (get_or a.image.now 5 0 - l.counter) l.low l.at (omega arith) l.invariant
