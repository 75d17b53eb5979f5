-- Octets off the serial line: the state, the room, then those that are taken.
use mathlib.Core.Path.{sym, ◌∙◌}
use Prim.Native.Nat.{◌-◌}
use borrow.Author.Rules.{rules}
use Rattle.model.proofs.Model.Demand3.{state_long}
use Rattle.hub.proofs.Lumps.{takes_bad, takes_small}
use Rattle.hub.proofs.stream.Goals as goal

pub take_in-requires : goal.take_in-requires
take_in-requires c = (sym c.well_formed-2.ensures ∙ c.if-not-well_formed.false, state_long _ (sym c.well_formed-2.ensures ∙ c.if-not-well_formed.false), search rules)

pub returns : goal.returns
returns c = c.take_in.ensures

pub returns-then-reply-lt-REPLY_BUFFER : goal.returns-then-reply-lt-REPLY_BUFFER
returns-then-reply-lt-REPLY_BUFFER c = rw c.untaken-then-reply-lt-REPLY_BUFFER.ensures (takes_small _ _ _ _ (sym c.well_formed-2.ensures ∙ c.if-not-well_formed.false) c.if-reply-lt-REPLY_BUFFER.true)

pub returns-then-not-well_formed : goal.returns-then-not-well_formed
returns-then-not-well_formed c = rw c.untaken.ensures (takes_bad _ _ _ _ (sym c.well_formed-2.ensures ∙ c.if-not-well_formed.true))
