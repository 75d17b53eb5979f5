-- `wording::last_digits` meets its contract. The invariant: the digits that are laid, behind those of what is left, are the number's.
use Rattle.wording.proofs.Digits.{laid_end, laid_next, laid_start}
use borrow.Author.Rules.{rules}
use Rattle.wording.proofs.last_digits.Goals as goal

pub loop-rest-init : goal.loop-rest-init
loop-rest-init c = laid_start _ _ (search rules) (search rules)

pub loop-rest-preserved : goal.loop-rest-preserved
loop-rest-preserved c = laid_next _ _ _ _ c.loop-rest.invariant c.loop-rest-test.true

pub returns : goal.returns
returns c = laid_end _ _ _ _ c.loop-rest.invariant c.loop-rest-test.false
