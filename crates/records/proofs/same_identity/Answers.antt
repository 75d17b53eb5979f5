-- `records::same_identity` meets its contract. The derived `==` compares both words.
use Rattle.records.specs.Identities.{same_identity}
use Rattle.records.proofs.same_identity.Goals as goal

pub returns : goal.returns
unfolding same_identity
returns c = c.eq.ensures
