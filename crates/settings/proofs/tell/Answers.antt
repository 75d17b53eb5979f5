-- `settings::tell` meets its contract.
use Rattle.settings.proofs.tell.Goals as goal

pub returns : goal.returns
returns c = (cc, cc)
