-- `faults::in_record` meets its contract, by the table.
use mathlib.Core.Path.{◌≡◌, sym, ◌∙◌}
use native.Mathlib.Omega.{arith}
use borrow.Author.Rules.{rules}
use Rattle.records.proofs.Laws.{rule1, rule2, rule3, size1, size2, size3}
use Rattle.faults.proofs.Records.{identity_is}
use Rattle.faults.proofs.in_record.Goals as goal

pub link_key-requires : goal.link_key-requires
link_key-requires c = rw (← size1 _ c.in-1.is) (search rules)

pub returns-in-1 : goal.returns-in-1
returns-in-1 c = rw (rule1 _ c.in-1.is) c.link_key.ensures

pub long_term_key-requires : goal.long_term_key-requires
long_term_key-requires c = rw (← size2 _ c.in-2.is) (search rules)

pub returns-in-2 : goal.returns-in-2
returns-in-2 c = rw (rule2 _ c.in-2.is) c.long_term_key.ensures

pub le_address-requires : goal.le_address-requires
le_address-requires c =
    let e : c.args.k ≡ 3 = omega arith in
    let s = size3 _ e in
    search rules

pub returns-in_default : goal.returns-in_default
returns-in_default c =
    let e : c.args.k ≡ 3 = omega arith in
    rw (rule3 _ e) (c.le_address.ensures ∙ sym (identity_is _ _ _))
