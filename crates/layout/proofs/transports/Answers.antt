-- `layout::transports` meets its contract. The two bits of the supported settings, as flags.
use Rattle.layout.specs.Places.{transports_of}
use Rattle.layout.proofs.transports.Goals as goal

pub returns : goal.returns
unfolding transports_of
returns c = cc
