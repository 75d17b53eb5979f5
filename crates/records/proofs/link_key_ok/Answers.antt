-- `records::link_key_ok` meets its contract. The law `link_key_is` gives the checks as tests of the octets where they lie.
use Rattle.records.proofs.Laws.{link_key_is}
use borrow.Author.Tests.{eq-eqb, ne_eqb}
use Rattle.records.proofs.link_key_ok.Goals as goal

pub returns-then-s-at-eq0 : goal.returns-then-s-at-eq0
returns-then-s-at-eq0 c = rw (link_key_is _ _, eq-eqb _ _ c.if-s-at-eq0.true)

pub returns-else-s-at-eq0 : goal.returns-else-s-at-eq0
returns-else-s-at-eq0 c = rw (link_key_is _ _, ne_eqb _ _ c.if-s-at-eq0.false)
