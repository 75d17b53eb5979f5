-- `records::record_ok` meets its contract. The table's number picks its rule, and the rule's function checks the record.
use mathlib.Core.Path.{◌≡◌}
use native.Mathlib.Omega.{arith}
use Rattle.records.proofs.Laws.{rule0, rule1, rule2, rule3, rule4, rule5}
use Rattle.model.specs.Tables.{uuid_rule, link_key_rule, long_term_key_rule, identity_key_rule, blocked_rule, device_rule}
use Rattle.model.specs.Tables.{rule_at}
use Rattle.records.proofs.record_ok.Goals as goal

pub uuid_ok-requires : goal.uuid_ok-requires
unfolding uuid_rule
uuid_ok-requires c = let z : (rule_at c.args.k).size ≡ 17 = rw (rule0 _ c.in-0.is) in omega arith

pub returns-in-0 : goal.returns-in-0
unfolding uuid_rule
returns-in-0 c = rw (rule0 _ c.in-0.is) c.uuid_ok.ensures

pub link_key_ok-requires : goal.link_key_ok-requires
unfolding link_key_rule
link_key_ok-requires c = let z : (rule_at c.args.k).size ≡ 25 = rw (rule1 _ c.in-1.is) in omega arith

pub returns-in-1 : goal.returns-in-1
unfolding link_key_rule
returns-in-1 c = rw (rule1 _ c.in-1.is) c.link_key_ok.ensures

pub long_term_key_ok-requires : goal.long_term_key_ok-requires
unfolding long_term_key_rule
long_term_key_ok-requires c = let z : (rule_at c.args.k).size ≡ 36 = rw (rule2 _ c.in-2.is) in omega arith

pub returns-in-2 : goal.returns-in-2
unfolding long_term_key_rule
returns-in-2 c = rw (rule2 _ c.in-2.is) c.long_term_key_ok.ensures

pub identity_key_ok-requires : goal.identity_key_ok-requires
unfolding identity_key_rule
identity_key_ok-requires c = let z : (rule_at c.args.k).size ≡ 23 = rw (rule3 _ c.in-3.is) in omega arith

pub returns-in-3 : goal.returns-in-3
unfolding identity_key_rule
returns-in-3 c = rw (rule3 _ c.in-3.is) c.identity_key_ok.ensures

pub blocked_ok-requires : goal.blocked_ok-requires
unfolding blocked_rule
blocked_ok-requires c = let z : (rule_at c.args.k).size ≡ 7 = rw (rule4 _ c.in-4.is) in omega arith

pub returns-in-4 : goal.returns-in-4
unfolding blocked_rule
returns-in-4 c = rw (rule4 _ c.in-4.is) c.blocked_ok.ensures

pub device_ok-requires : goal.device_ok-requires
unfolding device_rule
device_ok-requires c =
    let z : (rule_at c.args.k).size ≡ 8 = rw
    (rule5 c.args.k (omega arith)) in omega arith

pub returns-in_default : goal.returns-in_default
unfolding device_rule
returns-in_default c = rw (rule5 c.args.k (omega arith)) c.device_ok.ensures
