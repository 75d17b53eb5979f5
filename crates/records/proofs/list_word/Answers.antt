-- `records::list_word` meets its contract. One shifted by at most 32 loses no bit.
use native.Mathlib.Omega.{arith}
use Rattle.records.proofs.Laws.{one_shl}
use lib.Pow.{pow_pos}
use Rattle.records.proofs.list_word.Goals as goal

pub overflow_shl-result : goal.overflow_shl-result
overflow_shl-result c = omega arith

pub overflow_sub-result : goal.overflow_sub-result
overflow_sub-result c = rw (one_shl c.args.n (omega arith)) (pow_pos c.args.n)

pub returns : goal.returns
returns c = rw (one_shl c.args.n (omega arith))
