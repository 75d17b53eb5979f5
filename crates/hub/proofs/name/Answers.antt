-- `hub::name` meets its contract.
use mathlib.Core.Path.{sym, ◌∙◌}
use borrow.Author.Rules.{rules}
use Rattle.hub.proofs.Bridge.{name_bad, name_done, name_no_room}
use Rattle.hub.proofs.name.Goals as goal

pub tell_name-requires : goal.tell_name-requires
tell_name-requires c = ((sym c.well_formed-2.ensures ∙ c.if-not-well_formed.false), search rules)

pub returns : goal.returns
returns c =
    let r = c in
    name_done _ _ _ _ _ _ _ _ (sym r.well_formed-2.ensures ∙ r.if-not-well_formed.false) r.if-reply-lt-REPLY_BUFFER.false c.tell_name.ensures

pub returns-then-reply-lt-REPLY_BUFFER : goal.returns-then-reply-lt-REPLY_BUFFER
returns-then-reply-lt-REPLY_BUFFER c = name_no_room _ _ _ _ _ (sym c.well_formed-2.ensures ∙ c.if-not-well_formed.false) c.if-reply-lt-REPLY_BUFFER.true

pub returns-then-not-well_formed : goal.returns-then-not-well_formed
returns-then-not-well_formed c = name_bad _ _ _ _ _ (sym c.well_formed-2.ensures ∙ c.if-not-well_formed.true)
