-- `layout::data_part` meets its contract. As many octets behind the length as it says.
use mathlib.Core.Path.{refl}
use Rattle.octets.specs.Parts.{part}
use Rattle.layout.proofs.Writes.{data_read}
use Rattle.layout.proofs.data_part.Goals as goal

-- src/lib.rt:411:1
pub returns : goal.returns
unfolding part
returns c = data_read c.args.s.now c.args.at _ c.requires.1 refl
