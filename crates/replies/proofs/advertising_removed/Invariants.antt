-- What is told of the first k instances stands at its place, and takes at most seven octets for each.
use Rattle.std.proofs.Common.{◌≡◌, ◌+◌, ◌*◌, ◌≤◌, length, take}
use Rattle.model.specs.Advertising.{removed_of, instances}
use Rattle.octets.specs.Parts.{write_at}
use Rattle.replies.proofs.advertising_removed.Given as goal

abbrev pub invariant-loop-k : goal.invariant-loop-k
invariant-loop-k l = record {
  short : length (removed_of l.index l.before l.after (take l.k instances)) ≤ 7 * l.k;
  place : l.end ≡ l.at + length (removed_of l.index l.before l.after (take l.k instances));
  written : l.reply ≡ write_at l.initial.reply l.at (removed_of l.index l.before l.after (take l.k instances));
}
