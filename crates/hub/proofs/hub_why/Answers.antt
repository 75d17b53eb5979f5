-- `hub::hub_why` meets its contract: the state, the room, the frame, and then what is found.
use mathlib.Core.Path.{sym, ◌∙◌}
use Rattle.hub.proofs.Why.{why_bad, why_no_packet, why_no_room, why_told}
use borrow.Author.Rules.{rules}
use Rattle.hub.proofs.hub_why.Goals as goal

pub found-f-requires : goal.found-f-requires
found-f-requires c = (
  sym c.well_formed-2.ensures ∙ c.if-well_formed.true,
  sym c.packet_ok.ensures
      ∙ c.if-packet_ok.true,
)

pub tell-requires : goal.tell-requires
tell-requires c = c.if-text-ge-TEXT_BUFFER.true

pub returns-then-packet_ok : goal.returns-then-packet_ok
returns-then-packet_ok c =
    why_told _ _ _ _ _ _ _ (sym c.well_formed-2.ensures
    ∙ c.if-well_formed.true)
    c.if-text-ge-TEXT_BUFFER.true
    (sym c.packet_ok.ensures ∙ c.if-packet_ok.true)
    c.found-f.ensures c.tell.ensures

pub returns-then-text-ge-TEXT_BUFFER : goal.returns-then-text-ge-TEXT_BUFFER
returns-then-text-ge-TEXT_BUFFER c =
    why_no_packet _ _ _ _ _ (sym c.well_formed-2.ensures ∙ c.if-well_formed.true)
    c.if-text-ge-TEXT_BUFFER.true (sym c.packet_ok.ensures ∙ c.if-packet_ok.false) c.pack.ensures

pub returns-then-well_formed : goal.returns-then-well_formed
returns-then-well_formed c =
    why_no_room _ _ _ _ _ (sym c.well_formed-2.ensures ∙ c.if-well_formed.true) c.if-text-ge-TEXT_BUFFER.false c.pack-then-well_formed.ensures

pub returns : goal.returns
returns c = why_bad _ _ _ _ _ (sym c.well_formed-2.ensures ∙ c.if-well_formed.false) c.pack-2.ensures
