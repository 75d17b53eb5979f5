-- `lists::note` meets its contract: one word is stored, and the key's own answer is given.
use mathlib.Core.Path.{refl}
use Rattle.lists.proofs.note.Goals as goal

pub returns : goal.returns
returns c = (refl, refl)
