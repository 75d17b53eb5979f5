use mathlib.Core.Path.{◌≡◌}
use mathlib.Core.List.{map}
use lib.ListN.{drop}
use Rattle.records.specs.Identities.{apart}
use Rattle.lists.specs.Lists.{key_identity}
use Rattle.lists.proofs.all_apart.Given as goal

abbrev pub invariant-loop-i : goal.invariant-loop-i
invariant-loop-i l = apart (map key_identity (drop l.i l.words)) ≡ apart (map key_identity l.words)
