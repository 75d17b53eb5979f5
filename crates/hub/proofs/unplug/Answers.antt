-- `hub::unplug` meets its contract.
use mathlib.Core.Path.{refl, sym, ◌∙◌}
use Prim.Native.Nat.{◌-◌}
use borrow.Author.Rules.{rules}
use Rattle.model.proofs.Model.Demand3.{state_long}
use Rattle.hub.proofs.Entries.{gives_bad}
use Rattle.hub.proofs.Bridge.{unplug_done, unplug_no_room}
use Rattle.hub.proofs.unplug.Goals as goal

pub unplug-requires : goal.unplug-requires
unplug-requires c = (
  (sym c.well_formed-2.ensures ∙ c.if-not-well_formed.false),
  state_long _
      (sym c.well_formed-2.ensures ∙ c.if-not-well_formed.false),
  search rules,
)

pub returns : goal.returns
returns c =
    unplug_done _ _ _ _ _ _ _ (sym c.well_formed-2.ensures
    ∙ c.if-not-well_formed.false)
    c.if-reply-lt-REPLY_BUFFER.false c.unplug.ensures

pub returns-then-reply-lt-REPLY_BUFFER : goal.returns-then-reply-lt-REPLY_BUFFER
returns-then-reply-lt-REPLY_BUFFER c = unplug_no_room _ _ _ _ (sym c.well_formed-2.ensures ∙ c.if-not-well_formed.false) c.if-reply-lt-REPLY_BUFFER.true

pub returns-then-not-well_formed : goal.returns-then-not-well_formed
returns-then-not-well_formed c = gives_bad _ _ _ _ (sym c.well_formed-2.ensures ∙ c.if-not-well_formed.true) refl
