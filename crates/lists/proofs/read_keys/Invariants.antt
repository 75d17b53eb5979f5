-- The reader stands in the packet that was lent, at the record that is read next, and what was read so far tells with what is left what all tells.
use Rattle.std.proofs.Common.{◌≡◌}
use Rattle.lists.proofs.Laws.{Reached, place_at}
use Rattle.lists.proofs.read_keys.Given as goal

abbrev pub invariant-loop-i : goal.invariant-loop-i
invariant-loop-i l = record {
  lent : l.reader.packet.now ≡ l.packet;
  here : l.reader.at ≡ place_at l.k l.from l.i;
  reached : Reached l.k l.packet l.from l.n l.i l.low;
}
