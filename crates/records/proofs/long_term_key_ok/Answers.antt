-- `records::long_term_key_ok` meets its contract. The law `long_term_key_is` gives the checks as tests of the octets where they lie.
use Rattle.records.proofs.Laws.{tests, long_term_key_is}
use Rattle.records.proofs.long_term_key_ok.Goals as goal

pub returns-then-s-at-ge7 : goal.returns-then-s-at-ge7
returns-then-s-at-ge7 c = rw (long_term_key_is _ _, ← c.le_address_ok.ensures, c.if-le_address_ok.true) (search tests)

pub returns-else-s-at-ge7 : goal.returns-else-s-at-ge7
returns-else-s-at-ge7 c = rw (long_term_key_is _ _, ← c.le_address_ok.ensures, c.if-le_address_ok.true) (search tests)

pub returns-else-s-at-le1 : goal.returns-else-s-at-le1
returns-else-s-at-le1 c = rw (long_term_key_is _ _, ← c.le_address_ok.ensures, c.if-le_address_ok.true) (search tests)

pub returns-else-s-at-le4 : goal.returns-else-s-at-le4
returns-else-s-at-le4 c = rw (long_term_key_is _ _, ← c.le_address_ok.ensures, c.if-le_address_ok.true) (search tests)

pub returns-else-le_address_ok : goal.returns-else-le_address_ok
returns-else-le_address_ok c = rw (long_term_key_is _ _, ← c.le_address_ok.ensures, c.if-le_address_ok.false)
