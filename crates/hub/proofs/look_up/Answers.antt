-- `hub::look_up` meets its contract: the state, then what stands at the index.
use mathlib.Core.Path.{sym, ◌∙◌}
use Rattle.hub.proofs.LookUp.{look_up_bad, look_up_well}
use borrow.Author.Rules.{rules}
use Rattle.hub.proofs.look_up.Goals as goal

pub look_up-requires : goal.look_up-requires
look_up-requires c = sym c.well_formed-2.ensures ∙ c.if-not-well_formed.false

pub returns : goal.returns
returns c = look_up_well _ _ _ _ _ (sym c.well_formed-2.ensures ∙ c.if-not-well_formed.false) c.look_up.ensures

pub returns-then-not-well_formed : goal.returns-then-not-well_formed
returns-then-not-well_formed c = look_up_bad _ _ _ _ _ (sym c.well_formed-2.ensures ∙ c.if-not-well_formed.true) c.refused_look_up.ensures
