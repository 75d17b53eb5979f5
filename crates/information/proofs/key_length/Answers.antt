-- `information::key_length` meets its contract: table 0 holds UUIDs.
use Rattle.information.proofs.LookUp.{key_of_device, key_of_uuid}
use Rattle.information.proofs.key_length.Goals as goal

pub returns-then-k-eq0 : goal.returns-then-k-eq0
returns-then-k-eq0 c = key_of_uuid _ c.if-k-eq0.true

pub returns-else-k-eq0 : goal.returns-else-k-eq0
returns-else-k-eq0 c = key_of_device _ c.if-k-eq0.false
