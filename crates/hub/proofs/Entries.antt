-- Laws of what an exported function returns and leaves.
use Prim.Native.Nat.{ℕ, ◌+◌, ◌*◌, ◌^◌, ◌≤◌, ◌<◌}
use native.Mathlib.Omega.{arith}
use mathlib.Core.Path.{◌≡◌, refl, ◌∙◌}
use mathlib.Core.Bool.{false, true}
use lib.ListN.{length}
use Rattle.model.specs.Lengths as Lengths
use Rattle.model.specs.Octets.{Octets, bytes}
use Rattle.model.specs.Hub.{Call, Result}
use Rattle.model.specs.Stream.{Streamed}
use Rattle.model.specs.Moves.{Moved}
use Rattle.model.specs.Meanings.{Loaded, state_ok, bad_state, hub_load, hub_stream, meaning}
use Rattle.model.proofs.FaultTheorems.{load_offset_fits}
use Rattle.model.proofs.Theorems.{no_lump_reply_longer, no_reply_longer, room_most}
use Rattle.model.specs.Answers.{count_of, number_of, offset_of}
use Rattle.replies.specs.Answers.{Gives}
use Rattle.moves.specs.Moving as Moving
use Rattle.model.specs.declared.Answer.{Answer}
use Rattle.model.specs.declared.Answer.TheVariants.{BadState}
use Rattle.hub.proofs.Laws.{number_small}
use Rattle.hub.proofs.Lumps.{lump_most}
use Rattle.hub.specs.Entries.{LumpAnswer, packed, Returns, ReturnsLoaded, ReturnsMoved, ReturnsTaken, Takes}

-- what a call gives, packed
pub returns_packed : (o : Result Octets) (a : Answer) (r : ℕ) (before after left : Octets) → Gives o a before after left → r ≡ packed a
    → Returns o r before after left
unfolding packed
returns_packed o a r before after left g e = record { number = e ∙ rw (g.answer, g.count); reply = g.reply; state = g.state }

-- a state that is not well formed
pub gives_bad : (s : Octets) (c : Call) (r : Answer) (d : Octets) → state_ok s ≡ false → r ≡ BadState → Gives (meaning s c) r d d s
unfolding meaning bad_state
gives_bad s c r d e n = rw (e, meaning, n) (record { answer = refl; count = refl; reply = refl; state = refl })

-- no call's count is longer than the largest image
pub count_call : (s : Octets) (c : Call) (a : Answer) (before after left : Octets) → Gives (meaning s c) a before after left → count_of a ≤ Lengths.largest_image
count_call s c a before after left g = rw g.count (omega (arith, no_reply_longer s c, room_most c))

-- what a move gives, packed
pub returns_moved : (m : Moved) (a : Answer) (r : ℕ) (before after : Octets) → Moving.Gives m a before after → r ≡ packed a + 2 ^ 32 * offset_of a
    → ReturnsMoved m r before after
unfolding packed
returns_moved m a r before after g e = record { number = e ∙ rw (g.answer, g.count, g.offset) refl; output = g.output }

-- no move's count is longer than the largest image, and its offset fits 32 bits
pub count_moved : (m : Moved) (a : Answer) (before after : Octets) → length m.octets ≤ Lengths.largest_image → m.offset < 2 ^ 32
    → Moving.Gives m a before after → (count_of a ≤ Lengths.largest_image) × (offset_of a < 2 ^ 32)
count_moved m a before after h l g = (rw g.count h, rw g.offset l)

-- what load answers, packed
pub returns_loaded : (l : Loaded) (a : Answer) (r : ℕ) (left : Octets) → number_of a ≡ l.answer → count_of a ≡ 0 → offset_of a ≡ l.offset → left ≡ l.state
    → r ≡ packed a + 2 ^ 32 * offset_of a → ReturnsLoaded l r left
unfolding packed
returns_loaded l a r left n z at s e = record { number = e ∙ rw (n, z, at) (omega arith); state = s }

-- load counts no octets, and its offset fits 32 bits
pub count_loaded : (s image : Octets) (a : Answer) → bytes image ≡ true → count_of a ≡ 0 → offset_of a ≡ (hub_load s image).offset
    → (count_of a ≤ Lengths.largest_image) × (offset_of a < 2 ^ 32)
count_loaded s image a w z at = (omega arith, rw at (load_offset_fits s image w))

-- what came of a lump, packed
pub returns_taken : (o : Streamed Octets) (a : LumpAnswer) (r n : ℕ) (before after left : Octets) → Takes o a before after left → n ≡ packed a.answer
    → r ≡ n + 2 ^ 32 * a.taken → ReturnsTaken o r before after left
unfolding packed
returns_taken o a r n before after left g en er =
    record { number = er ∙ rw (en, g.gives.answer, g.gives.count, g.taken) refl; reply = g.gives.reply; state = g.gives.state }

-- its count is far below that of an image, and its octets taken are at most one packet
pub count_lump : (s o : Octets) (room : ℕ) (a : LumpAnswer) (before after left : Octets) → bytes o ≡ true → Takes (hub_stream s o room) a before after left
    → (count_of a.answer ≤ Lengths.largest_image) × (a.taken ≤ 65541)
count_lump s o room a before after left w g =
    (rw g.gives.count (omega (arith, no_lump_reply_longer s o room w)), rw g.taken (lump_most s o room w))

-- an answer and its count in one number are below 2^32
pub packed_most : (a : Answer) → count_of a ≤ Lengths.largest_image → packed a < 2 ^ 32
unfolding packed
packed_most a h = omega (arith, number_small a)
