-- `wording::put_status` meets its contract: the name beside each number, and none beside the others.
use native.Mathlib.Omega.{arith}
use Rattle.why.specs.Spelling.{spelled}
use Rattle.why.specs.Wording.{named, status_name, status_names}
use Rattle.wording.proofs.Names.{named_as, named_not}
use Rattle.wording.proofs.put_status.Goals as goal

pub returns-in-1 : goal.returns-in-1
unfolding status_name status_names named spelled
returns-in-1 c = named_as _ _ _ _ _ c.in-1.is c.put.ensures

pub returns-in-3 : goal.returns-in-3
unfolding status_name status_names named spelled
returns-in-3 c = named_as _ _ _ _ _ c.in-3.is c.put-in-3.ensures

pub returns-in-6 : goal.returns-in-6
unfolding status_name status_names named spelled
returns-in-6 c = named_as _ _ _ _ _ c.in-6.is c.put-in-6.ensures

pub returns-in-7 : goal.returns-in-7
unfolding status_name status_names named spelled
returns-in-7 c = named_as _ _ _ _ _ c.in-7.is c.put-in-7.ensures

pub returns-in-10 : goal.returns-in-10
unfolding status_name status_names named spelled
returns-in-10 c = named_as _ _ _ _ _ c.in-10.is c.put-in-10.ensures

pub returns-in-11 : goal.returns-in-11
unfolding status_name status_names named spelled
returns-in-11 c = named_as _ _ _ _ _ c.in-11.is c.put-in-11.ensures

pub returns-in-12 : goal.returns-in-12
unfolding status_name status_names named spelled
returns-in-12 c = named_as _ _ _ _ _ c.in-12.is c.put-in-12.ensures

pub returns-in-13 : goal.returns-in-13
unfolding status_name status_names named spelled
returns-in-13 c = named_as _ _ _ _ _ c.in-13.is c.put-in-13.ensures

pub returns-in-15 : goal.returns-in-15
unfolding status_name status_names named spelled
returns-in-15 c = named_as _ _ _ _ _ c.in-15.is c.put-in-15.ensures

pub returns-in-17 : goal.returns-in-17
unfolding status_name status_names named spelled
returns-in-17 c = named_as _ _ _ _ _ c.in-17.is c.put-in-17.ensures

pub returns-in_default : goal.returns-in_default
unfolding status_names
returns-in_default c = named_not _ _ (omega arith, (omega arith, (omega arith, (omega arith, (omega arith, (omega arith, (omega arith, (omega arith, (omega arith, (omega arith, tt))))))))))
