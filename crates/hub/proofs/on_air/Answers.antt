-- `hub::on_air` meets its contract.
use mathlib.Core.Path.{sym, ◌∙◌}
use borrow.Author.Rules.{rules}
use Rattle.model.proofs.Model.Demand3.{state_long}
use Rattle.hub.proofs.Bridge.{on_air_bad, on_air_done, on_air_no_room}
use Rattle.hub.proofs.on_air.Goals as goal

pub on_air-requires : goal.on_air-requires
on_air-requires c =
    let ok = sym c.well_formed-2.ensures ∙ c.if-not-well_formed.false in
    (ok, state_long _ ok, search rules)

pub returns : goal.returns
returns c =
    let r = c in
    on_air_done _ _ _ _ _ _ _ (sym r.well_formed-2.ensures ∙ r.if-not-well_formed.false) r.if-reply-lt-REPLY_BUFFER.false c.on_air.ensures

pub returns-then-reply-lt-REPLY_BUFFER : goal.returns-then-reply-lt-REPLY_BUFFER
returns-then-reply-lt-REPLY_BUFFER c = on_air_no_room _ _ _ _ (sym c.well_formed-2.ensures ∙ c.if-not-well_formed.false) c.if-reply-lt-REPLY_BUFFER.true

pub returns-then-not-well_formed : goal.returns-then-not-well_formed
returns-then-not-well_formed c = on_air_bad _ _ _ _ (sym c.well_formed-2.ensures ∙ c.if-not-well_formed.true)
