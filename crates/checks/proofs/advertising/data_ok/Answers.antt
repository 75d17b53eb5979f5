-- `checks::advertising::data_ok` meets its contract. What is left of the durations, from where their data lie, keeps the rule exactly if all do.
use Rattle.std.proofs.Common.{sym, ◌∙◌, refl, arith, rules}
use Rattle.checks.proofs.AdvertisingLaws.{data_end, data_fails, data_turn}
use Rattle.checks.proofs.advertising.data_ok.Goals as goal

pub loop-d-init : goal.loop-d-init
loop-d-init c = record { room = omega arith; same = refl }

pub slot_ok-requires : goal.slot_ok-requires
slot_ok-requires c = let h = c.loop-d.invariant.room in omega arith

pub returns-then-not-slot_ok : goal.returns-then-not-slot_ok
returns-then-not-slot_ok c =
    data_fails c.args.durations (search rules) _ _ _ (omega arith) (sym c.slot_ok.ensures ∙ c.if-not-slot_ok.true) ∙ c.loop-d.invariant.same

pub overflow_add-at : goal.overflow_add-at
overflow_add-at c = let h = c.loop-d.invariant.room in omega arith

pub loop-d-preserved : goal.loop-d-preserved
loop-d-preserved c = record {
  room = let h = c.loop-d.invariant.room in omega arith;
  same = data_turn c.args.durations (search rules) _ _ _ (omega arith) (sym c.slot_ok.ensures ∙ c.if-not-slot_ok.false) ∙ c.loop-d.invariant.same;
}

pub returns : goal.returns
returns c = data_end c.args.durations (search rules) _ _ _ (omega arith) ∙ c.loop-d.invariant.same
