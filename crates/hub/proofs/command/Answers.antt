-- A command: the state, the room, the frame, then what serves it.
use mathlib.Core.Path.{refl, sym, ◌∙◌}
use Prim.Native.Nat.{◌-◌}
use borrow.Author.Rules.{rules}
use Rattle.model.proofs.Model.Demand3.{state_long}
use Rattle.hub.proofs.Entries.{gives_bad}
use Rattle.hub.proofs.Bridge.{command_no_packet, command_no_room}
use Rattle.hub.proofs.command.Goals as goal

pub serve-requires : goal.serve-requires
serve-requires c = (
  sym c.well_formed-2.ensures ∙ c.if-not-well_formed.false,
  state_long _ (sym c.well_formed-2.ensures ∙ c.if-not-well_formed.false),
  sym c.packet_ok.ensures ∙ c.if-not-packet_ok.false,
  search rules,
)

pub returns : goal.returns
returns c = c.serve.ensures

pub returns-then-not-packet_ok : goal.returns-then-not-packet_ok
returns-then-not-packet_ok c =
    command_no_packet _ _ _ _ (sym c.well_formed-2.ensures ∙ c.if-not-well_formed.false)
    c.if-reply-lt-REPLY_BUFFER.false (sym c.packet_ok.ensures ∙ c.if-not-packet_ok.true)

pub returns-then-reply-lt-REPLY_BUFFER : goal.returns-then-reply-lt-REPLY_BUFFER
returns-then-reply-lt-REPLY_BUFFER c = command_no_room _ _ _ _ (sym c.well_formed-2.ensures ∙ c.if-not-well_formed.false) c.if-reply-lt-REPLY_BUFFER.true

pub returns-then-not-well_formed : goal.returns-then-not-well_formed
returns-then-not-well_formed c = gives_bad _ _ _ _ (sym c.well_formed-2.ensures ∙ c.if-not-well_formed.true) refl
