-- `advertising::removable` meets its contract. All, one of the five, or none.
use Rattle.std.proofs.Common.{sym, rules}
use borrow.Author.Tests.{lt-leb}
use Rattle.advertising.proofs.Removing.{none_above}
use Rattle.model.proofs.Model.Tests.{no_way}
use Rattle.advertising.proofs.removable.Goals as goal

pub returns-else-k-le5 : goal.returns-else-k-le5
returns-else-k-le5 c =
    rw (lt-leb _ _ c.if-k-le5.false) (none_above _ _ (search rules) c.if-k-eq0.false c.if-k-le5.false, λ e. no_way (sym e))
