-- `lists::key_at` meets its contract: its two callees say the two fields.
use Rattle.lists.specs.Lists.{key_at, key_of}
use Rattle.lists.proofs.key_at.Goals as goal

pub returns : goal.returns
unfolding key_at key_of
returns c = rw (c.identity_at-identity.ensures, c.record_ok-keeps_rule.ensures)
