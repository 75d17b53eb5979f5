-- `table::or_octets` meets its contract. The invariant: what was joined, joined with the octets of what is left, is the whole.
use native.Mathlib.Omega.{arith}
use Rattle.table.proofs.Laws.{joined_turn, joined_last}
use borrow.Author.Rules.{rules}
use Rattle.table.proofs.or_octets.Goals as goal

pub loop-slot-preserved : goal.loop-slot-preserved
loop-slot-preserved c = record {
  most = let l = c.in-Some.ensures.2 in omega arith;
  joined = joined_turn _ _ _ _ _ _ _ (search rules) c.in-Some.ensures.2 (c.in-Some.ensures.0 c.args.size) c.loop-slot.invariant.joined;
}

pub returns : goal.returns
returns c = joined_last _ _ _ _ _ _ (c.in_default.ensures c.args.size) c.loop-slot.invariant.joined
