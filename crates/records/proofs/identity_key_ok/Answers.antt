-- `records::identity_key_ok` meets its contract. Its checks are those of the address.
use Rattle.records.proofs.Laws.{identity_key_is}
use Rattle.records.proofs.identity_key_ok.Goals as goal

pub returns : goal.returns
returns c = rw (identity_key_is _ _) c.le_address_ok.ensures
