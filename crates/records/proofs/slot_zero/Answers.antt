-- `records::slot_zero` meets its contract. Word by word: what was read so far is zero, and the table's number says how much is left.
use mathlib.Core.Path.{◌≡◌, sym, ◌∙◌}
use mathlib.Core.Bool.{true}
use Prim.Native.Nat.{ℕ, ◌+◌, ◌≤◌, ◌<◌}
use native.Mathlib.Omega.{arith}
use native.Mathlib.Nat.{add-zero}
use Rattle.model.specs.Octets.{all_zero}
use Rattle.model.specs.Tables.{rule_at}
use Rattle.octets.specs.Parts.{part}
use Rattle.octets.proofs.Numbers.{little_last, little_octet, little_zero, zero_fails, zero_last, zero_more, zero_word}
use Rattle.records.proofs.Laws.{size0, size1, size2, size3, size4, size5, size_keys, size_word, size_words}
use borrow.Author.Rules.{rules}
use Rattle.records.proofs.slot_zero.Goals as goal

-- of the six tables, with three excluded the first three are left
first_three : (k : ℕ) → k < 6 → (k ≡ 4 → ⊥) → (k ≡ 5 → ⊥) → (k ≡ 3 → ⊥) → k < 3
first_three k l a b c = omega arith

-- and what is left is a long term key
long_term : (k : ℕ) → k < 6 → (k ≡ 4 → ⊥) → (k ≡ 5 → ⊥) → (k ≡ 3 → ⊥) → (k ≡ 0 → ⊥) → (k ≡ 1 → ⊥) → (rule_at k).size ≡ 36
long_term k l not4 not5 not3 not0 not1 =
    let few = first_three k l not4 not5 not3 in
    size2 k (two few not0 not1)
  where
    two : k < 3 → (k ≡ 0 → ⊥) → (k ≡ 1 → ⊥) → k ≡ 2
    two l a b = omega arith

pub u56_at-requires : goal.u56_at-requires
u56_at-requires c = let z = size4 _ c.if-k-eq4.true in omega arith

pub returns-then-k-eq4 : goal.returns-then-k-eq4
returns-then-k-eq4 c = rw (size4 _ c.if-k-eq4.true, c.u56_at.ensures.0) (little_zero _)

pub u64_at-requires : goal.u64_at-requires
u64_at-requires c = let z = (let told : 8 ≤ (rule_at c.args.k).size = size_word c.args.k (search rules) c.if-k-eq4.false in told) in omega arith

pub returns-then-u64_at-ne0 : goal.returns-then-u64_at-ne0
returns-then-u64_at-ne0 c =
    let a = c.args in
    zero_fails a.s.now a.at 0 8 _ (rw add-zero c.u64_at.ensures) _ c.if-u64_at-ne0.true ((let told : 8 ≤ (rule_at c.args.k).size = size_word c.args.k (search rules) c.if-k-eq4.false in told))

pub returns-then-k-eq5 : goal.returns-then-k-eq5
returns-then-k-eq5 c = sym (rw (size5 _ c.if-k-eq5.true) ((let told : all_zero (part c.args.s.now c.args.at 8) ≡ true = zero_word _ _ c.u64_at.ensures c.if-u64_at-ne0.false in told)))

pub overflow_add-at : goal.overflow_add-at
overflow_add-at c = let z = (let told : 16 ≤ (rule_at c.args.k).size = size_words c.args.k (search rules) c.if-k-eq4.false c.if-k-eq5.false in told) in search rules

pub u64_at-requires-2 : goal.u64_at-requires-2
u64_at-requires-2 c = let z = (let told : 16 ≤ (rule_at c.args.k).size = size_words c.args.k (search rules) c.if-k-eq4.false c.if-k-eq5.false in told) in omega arith

pub returns-then-u64_at-ne0-2 : goal.returns-then-u64_at-ne0-2
returns-then-u64_at-ne0-2 c =
    let a = c.args in
    zero_fails a.s.now a.at 8 8 _ c.u64_at-2.ensures _ c.if-u64_at-ne0-2.true ((let told : 16 ≤ (rule_at c.args.k).size = size_words c.args.k (search rules) c.if-k-eq4.false c.if-k-eq5.false in told))

pub overflow_add-result : goal.overflow_add-result
overflow_add-result c = let z = size0 _ c.if-k-eq0.true in search rules

pub bounds-s-at : goal.bounds-s-at
bounds-s-at c = let z = size0 _ c.if-k-eq0.true in omega arith

pub returns-then-k-eq0 : goal.returns-then-k-eq0
returns-then-k-eq0 c =
    let a = c.args in
    let z = size0 _ c.if-k-eq0.true in
    let octet = little_octet a.s.now (a.at + 16) (omega arith) in
    rw z (zero_last a.s.now a.at 16 1 _ octet ((let told : all_zero (part
    c.args.s.now
    c.args.at
    16) ≡ true = let a = c.args in
    zero_more a.s.now a.at 8 8 _ c.u64_at-2.ensures ((let told : all_zero (part c.args.s.now c.args.at 8) ≡ true = zero_word _ _ c.u64_at.ensures c.if-u64_at-ne0.false in told)) c.if-u64_at-ne0-2.false in told)))

pub overflow_add-at-then-k-eq3 : goal.overflow_add-at-then-k-eq3
overflow_add-at-then-k-eq3 c = let z = size3 _ c.if-k-eq3.true in search rules

pub u56_at-requires-then-k-eq3 : goal.u56_at-requires-then-k-eq3
u56_at-requires-then-k-eq3 c = let z = size3 _ c.if-k-eq3.true in omega arith

pub returns-then-k-eq3 : goal.returns-then-k-eq3
returns-then-k-eq3 c =
    let a = c.args in
    rw (size3 _ c.if-k-eq3.true) (zero_last a.s.now a.at 16 7 _ c.u56_at-then-k-eq3.ensures.0 ((let told : all_zero (part
    c.args.s.now
    c.args.at
    16) ≡ true = let a = c.args in
    zero_more a.s.now a.at 8 8 _ c.u64_at-2.ensures ((let told : all_zero (part c.args.s.now c.args.at 8) ≡ true = zero_word _ _ c.u64_at.ensures c.if-u64_at-ne0.false in told)) c.if-u64_at-ne0-2.false in told)))

pub overflow_add-at-2 : goal.overflow_add-at-2
overflow_add-at-2 c = let z = (let told : 24 ≤ (rule_at c.args.k).size = let a = c.args in
    let not4 = c.if-k-eq4.false in
    let few = first_three a.k (search rules) not4 c.if-k-eq5.false c.if-k-eq3.false in
    size_keys a.k few c.if-k-eq0.false in told) in search rules

pub u64_at-requires-3 : goal.u64_at-requires-3
u64_at-requires-3 c = let z = (let told : 24 ≤ (rule_at c.args.k).size = let a = c.args in
    let not4 = c.if-k-eq4.false in
    let few = first_three a.k (search rules) not4 c.if-k-eq5.false c.if-k-eq3.false in
    size_keys a.k few c.if-k-eq0.false in told) in omega arith

pub returns-then-u64_at-ne0-3 : goal.returns-then-u64_at-ne0-3
returns-then-u64_at-ne0-3 c =
    let a = c.args in
    zero_fails a.s.now a.at 16 8 _ c.u64_at-3.ensures _ c.if-u64_at-ne0-3.true ((let told : 24 ≤ (rule_at c.args.k).size = let a = c.args in
    let not4 = c.if-k-eq4.false in
    let few = first_three a.k (search rules) not4 c.if-k-eq5.false c.if-k-eq3.false in
    size_keys a.k few c.if-k-eq0.false in told))

pub overflow_add-result-then-k-eq1 : goal.overflow_add-result-then-k-eq1
overflow_add-result-then-k-eq1 c = let z = size1 _ c.if-k-eq1.true in search rules

pub bounds-s-at-then-k-eq1 : goal.bounds-s-at-then-k-eq1
bounds-s-at-then-k-eq1 c = let z = size1 _ c.if-k-eq1.true in omega arith

pub returns-then-k-eq1 : goal.returns-then-k-eq1
returns-then-k-eq1 c =
    let a = c.args in
    let z = size1 _ c.if-k-eq1.true in
    let octet = little_octet a.s.now (a.at + 24) (omega arith) in
    rw z (zero_last a.s.now a.at 24 1 _ octet ((let told : all_zero (part
    c.args.s.now
    c.args.at
    24) ≡ true = let a = c.args in
    zero_more a.s.now a.at 16 8 _ c.u64_at-3.ensures ((let told : all_zero (part
    c.args.s.now
    c.args.at
    16) ≡ true = let a = c.args in
    zero_more a.s.now a.at 8 8 _ c.u64_at-2.ensures ((let told : all_zero (part c.args.s.now c.args.at 8) ≡ true = zero_word _ _ c.u64_at.ensures c.if-u64_at-ne0.false in told)) c.if-u64_at-ne0-2.false in told)) c.if-u64_at-ne0-3.false in told)))

pub overflow_add-at-3 : goal.overflow_add-at-3
overflow_add-at-3 c = let z = long_term c.args.k (search rules) c.if-k-eq4.false c.if-k-eq5.false c.if-k-eq3.false c.if-k-eq0.false c.if-k-eq1.false in search rules

pub u64_at-requires-4 : goal.u64_at-requires-4
u64_at-requires-4 c = let z = long_term c.args.k (search rules) c.if-k-eq4.false c.if-k-eq5.false c.if-k-eq3.false c.if-k-eq0.false c.if-k-eq1.false in omega arith

pub returns-then-u64_at-ne0-4 : goal.returns-then-u64_at-ne0-4
returns-then-u64_at-ne0-4 c =
    let a = c.args in
    let z = long_term c.args.k (search rules) c.if-k-eq4.false c.if-k-eq5.false c.if-k-eq3.false c.if-k-eq0.false c.if-k-eq1.false in
    zero_fails a.s.now a.at 24 8 _ c.u64_at-4.ensures _ c.if-u64_at-ne0-4.true (omega arith)

pub overflow_add-at-4 : goal.overflow_add-at-4
overflow_add-at-4 c = let z = long_term c.args.k (search rules) c.if-k-eq4.false c.if-k-eq5.false c.if-k-eq3.false c.if-k-eq0.false c.if-k-eq1.false in search rules

pub u32_at-requires : goal.u32_at-requires
u32_at-requires c = let z = long_term c.args.k (search rules) c.if-k-eq4.false c.if-k-eq5.false c.if-k-eq3.false c.if-k-eq0.false c.if-k-eq1.false in omega arith

pub returns : goal.returns
returns c =
    let a = c.args in
    let z = long_term c.args.k (search rules) c.if-k-eq4.false c.if-k-eq5.false c.if-k-eq3.false c.if-k-eq0.false c.if-k-eq1.false in
    let three = (let told : all_zero (part
    c.args.s.now
    c.args.at
    24) ≡ true = let a = c.args in
    zero_more a.s.now a.at 16 8 _ c.u64_at-3.ensures ((let told : all_zero (part
    c.args.s.now
    c.args.at
    16) ≡ true = let a = c.args in
    zero_more a.s.now a.at 8 8 _ c.u64_at-2.ensures ((let told : all_zero (part c.args.s.now c.args.at 8) ≡ true = zero_word _ _ c.u64_at.ensures c.if-u64_at-ne0.false in told)) c.if-u64_at-ne0-2.false in told)) c.if-u64_at-ne0-3.false in told) in
    let four = zero_more a.s.now a.at 24 8 _ c.u64_at-4.ensures three c.if-u64_at-ne0-4.false in
    let word = little_last a.s.now (a.at + 32) (omega arith) in
    rw z (zero_last a.s.now a.at 32 4 _ (c.u32_at.ensures.0 ∙ sym word) four)
