-- `records::size_of` meets its contract. At each return the table's number picks its rule.
use native.Mathlib.Omega.{arith}
use Rattle.records.proofs.Laws.{rule0, rule1, rule2, rule3, rule4, rule5}
use Rattle.model.specs.Tables.{uuid_rule, link_key_rule, long_term_key_rule, identity_key_rule, blocked_rule, device_rule}
use Rattle.records.proofs.size_of.Goals as goal

pub returns-in-0 : goal.returns-in-0
unfolding uuid_rule
returns-in-0 c = rw (rule0 _ c.in-0.is)

pub returns-in-1 : goal.returns-in-1
unfolding link_key_rule
returns-in-1 c = rw (rule1 _ c.in-1.is)

pub returns-in-2 : goal.returns-in-2
unfolding long_term_key_rule
returns-in-2 c = rw (rule2 _ c.in-2.is)

pub returns-in-3 : goal.returns-in-3
unfolding identity_key_rule
returns-in-3 c = rw (rule3 _ c.in-3.is)

pub returns-in-4 : goal.returns-in-4
unfolding blocked_rule
returns-in-4 c = rw (rule4 _ c.in-4.is)

pub returns-in_default : goal.returns-in_default
unfolding device_rule
returns-in_default c = rw (rule5 c.args.k (omega arith))
