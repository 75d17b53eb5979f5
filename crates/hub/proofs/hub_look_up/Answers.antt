-- `hub::hub_look_up` meets its contract: the answer, and in the upper half of the number what is told.
use mathlib.Core.Path.{refl}
use native.Mathlib.Omega.{arith}
use Rattle.hub.proofs.LookUp.{look_up_number_lem, look_up_small}
use borrow.Author.Rules.{rules}
use Rattle.hub.proofs.hub_look_up.Goals as goal

pub overflow_mul-result : goal.overflow_mul-result
overflow_mul-result c = omega (arith, look_up_small _ _ _ _ _ c.look_up-u.ensures)

pub overflow_add-result : goal.overflow_add-result
overflow_add-result c = omega (arith, look_up_small _ _ _ _ _ c.look_up-u.ensures)

pub returns : goal.returns
returns c = look_up_number_lem _ _ _ _ _ _ c.look_up-u.ensures refl
