-- A host at the line feeds what was not taken again: what is taken of a line is its beginning.
use Rattle.std.specs.Prelude.{ℕ, ◌≤◌, ◌≡◌, refl, true, List, [], ◌∷◌, ◌++◌, length, take, drop}
use Rattle.std.proofs.Common.{arith, append_assoc, length-take, take-append-drop, take-take}
use Rattle.model.specs.Octets.{Octets, bytes, joined}
use Rattle.model.specs.Stream.{Streamed}
use Rattle.model.specs.WellFormed.{call_wide, host_call_wide, host_calls_wide}
use Rattle.model.specs.Meanings.{hub_stream, meaning, stream_meaning}
use Rattle.model.specs.Demand3.{host_trace}
use Rattle.model.specs.Cutting.{Feed, LineMayBeCut, LumpTold, fed, feeds_wide, finishes_packet, next, not_well, other, taken_octets, takes_all, too_small}
use Rattle.model.proofs.Model.Line.{cutting}
use Rattle.model.proofs.Model.OneLump.{lump_told}
use Rattle.model.proofs.Model.Tables.{bytes_drop, bytes_take}
use Rattle.model.proofs.Model.Tests.{and_true, both}

-- no more is taken of a lump than it has
taken_most : (s o : Octets) (room : ℕ) → bytes o ≡ true → (stream_meaning s room o).taken ≤ length o
unfolding hub_stream
taken_most s o room w = by (stream_meaning s room o) (lump_told s o room w)
  where
    by : (r : Streamed Octets) → LumpTold s o room r → r.taken ≤ length o
    by r (not_well e) = omega arith
    by r (too_small e t) = omega arith
    by r (takes_all k) = omega arith
    by r (finishes_packet n z m k l) = m

-- what is taken of the next n octets of a line is taken of the line
taken_first : (s line : Octets) (room n : ℕ) → bytes line ≡ true → let k : ℕ = (stream_meaning s room (take n line)).taken in take k (take n line) ≡ take k line
taken_first s line room n w =
    take-take (stream_meaning s room (take n line)).taken n line (omega (arith, taken_most s (take n line) room (bytes_take n line w), length-take n line))

-- the line that is left
left : (s line : Octets) → List Feed → Octets
left s line [] = line
left s line (other c ∷ fs) = left (meaning s c).state line fs
left s line (next room n ∷ fs) = let r : Streamed Octets = stream_meaning s room (take n line) in left r.result.state (drop r.taken line) fs

-- what is taken, and what is left, is the line
taken_left : (fs : List Feed) (s line : Octets) → bytes line ≡ true → taken_octets (host_trace meaning stream_meaning s (fed s line fs)) ++ left s line fs ≡ line
unfolding taken_octets host_trace fed left
taken_left [] s line w = refl
taken_left (other c ∷ fs) s line w = taken_left fs (meaning s c).state line w
taken_left (next room n ∷ fs) s line w =
    let r : Streamed Octets = stream_meaning s room (take n line) in
    let ih = taken_left fs r.result.state (drop r.taken line) (bytes_drop r.taken line w) in
    rw (append_assoc, ih, taken_first s line room n w) (take-append-drop r.taken line)

-- the calls are as wide as their types
fed_wide : (fs : List Feed) (s line : Octets) → feeds_wide fs ≡ true → bytes line ≡ true → host_calls_wide (fed s line fs) ≡ true
unfolding fed feeds_wide host_calls_wide host_call_wide
fed_wide [] s line w b = refl
fed_wide (other c ∷ fs) s line w b = let a = and_true (call_wide c) _ w in both a.0 (fed_wide fs (meaning s c).state line a.1 b)
fed_wide (next room n ∷ fs) s line w b =
    let r : Streamed Octets = stream_meaning s room (take n line) in
    both (bytes_take n line b) (fed_wide fs r.result.state (drop r.taken line) w (bytes_drop r.taken line b))

-- HOWEVER A HOST CUTS ITS LINE
pub line_cut : LineMayBeCut
line_cut s feeds packets e z w b k =
    cutting s (fed s (joined packets) feeds) packets (left s (joined packets) feeds) e z (fed_wide feeds s (joined packets) w b) k
    (taken_left feeds s (joined packets) b)
