-- `hub::save` meets its contract.
use mathlib.Core.Path.{refl, sym, ◌∙◌}
use Prim.Native.Nat.{◌-◌}
use borrow.Author.Rules.{rules}
use Rattle.hub.proofs.Entries.{gives_bad}
use Rattle.hub.proofs.Bridge.{save_done, save_no_room}
use Rattle.hub.proofs.save.Goals as goal

pub save-requires : goal.save-requires
save-requires c = ((sym c.well_formed-2.ensures ∙ c.if-not-well_formed.false), search rules)

pub returns : goal.returns
returns c =
    save_done _ _ _ _ _ _ (sym c.well_formed-2.ensures
    ∙ c.if-not-well_formed.false) c.if-reply-lt-LARGEST_IMAGE.false c.save.ensures

pub returns-then-reply-lt-LARGEST_IMAGE : goal.returns-then-reply-lt-LARGEST_IMAGE
returns-then-reply-lt-LARGEST_IMAGE c = save_no_room _ _ _ (sym c.well_formed-2.ensures ∙ c.if-not-well_formed.false) c.if-reply-lt-LARGEST_IMAGE.true

pub returns-then-not-well_formed : goal.returns-then-not-well_formed
returns-then-not-well_formed c = gives_bad _ _ _ _ (sym c.well_formed-2.ensures ∙ c.if-not-well_formed.true) refl
