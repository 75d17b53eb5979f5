-- Laws that the proofs of this crate cite, over plain values.
-- Assumes nothing.
use Rattle.std.proofs.Common.{◌≡◌, [], length, take, drop, sym, ◌∙◌, append-nil, arith, take-append-drop, drop_of_length-le}
use Rattle.model.specs.Octets.{Octets}
use Rattle.octets.specs.Parts.{part}

-- six octets are their part of six
pub six_whole : (ps : Octets) → length ps ≡ 6 → part ps 0 6 ≡ ps
unfolding part
six_whole ps l =
    let d : drop 6 ps ≡ [] = drop_of_length-le ps {i = 6} (omega arith) in
    sym (append-nil (take 6 ps)) ∙ rw (← d) (take-append-drop 6 ps)
