-- What an exported function returns and leaves.
use Rattle.std.specs.Prelude.{ℕ, ◌+◌, ◌*◌, ◌^◌, ◌≡◌, ◌++◌, length, drop}
use Rattle.model.specs.Octets.{Octets}
use Rattle.model.specs.Hub.{Result}
use Rattle.model.specs.Stream.{Streamed}
use Rattle.model.specs.Moves.{Moved}
use Rattle.model.specs.Meanings.{Loaded}
use Rattle.model.specs.Answers.{number_of, count_of}
use Rattle.model.specs.declared.Answer.{Answer}
use Rattle.model.specs.declared.LookUpReply.{LookUpReply}
use Rattle.replies.specs.Answers.{Gives}
use Rattle.why.specs.Meaning.{Explained}
pub use Rattle.hub.specs.declared.LumpAnswer.{LumpAnswer}

-- an answer and its count in one number: answer + 256 x count
unfoldable pub packed : Answer → ℕ
packed a = number_of a + 256 * count_of a

-- The number returned is that of the model's result o with the count of its octets; the reply buffer `before` has become `after`, with these octets at
-- its front and the rest untouched (01, What a call answers); the state is `left`.
pub record Returns (o : Result Octets) (r : ℕ) (before after left : Octets) : Type 0 where
  pub number : r ≡ o.answer + 256 * length o.octets
  pub reply : after ≡ o.octets ++ drop (length o.octets) before
  pub state : left ≡ o.state

-- What came of a lump is what the model's result o says: the octets taken, and answer, reply buffer and state.
pub record Takes (o : Streamed Octets) (r : LumpAnswer) (before after left : Octets) : Type 0 where
  pub taken : r.taken ≡ o.taken
  pub gives : Gives o.result r.answer before after left

-- The number returned is that of the model's result o with the count of its octets and, in its upper half, the octets taken of the lump (02, E6); reply buffer
-- and state are as the other calls leave them.
pub record ReturnsTaken (o : Streamed Octets) (r : ℕ) (before after left : Octets) : Type 0 where
  pub number : r ≡ o.result.answer + 256 * length o.result.octets + 2 ^ 32 * o.taken
  pub reply : after ≡ o.result.octets ++ drop (length o.result.octets) before
  pub state : left ≡ o.result.state

-- The number returned is that of the load l with, in its upper half, the offset of a fault (02, E8); nothing is written but the state, which is `left`.
pub record ReturnsLoaded (l : Loaded) (r : ℕ) (left : Octets) : Type 0 where
  pub number : r ≡ l.answer + 2 ^ 32 * l.offset
  pub state : left ≡ l.state

-- The number returned is that of the move m with the count of its octets and, in its upper half, the offset of a fault (02, E8); the output `before` has
-- become `after`, with these octets at its front and the rest untouched (02, E7). No state is lent.
pub record ReturnsMoved (m : Moved) (r : ℕ) (before after : Octets) : Type 0 where
  pub number : r ≡ m.answer + 256 * length m.octets + 2 ^ 32 * m.offset
  pub output : after ≡ m.octets ++ drop (length m.octets) before

-- The number returned is that of the answer with the count of its octets and, in its upper half, the status; the text buffer `before` has become `after`, with
-- these octets at its front and the rest untouched. The state is lent for reading only.
pub record Explains (e : Explained) (r : ℕ) (before after : Octets) : Type 0 where
  pub number : r ≡ e.answer + 256 * length e.octets + 2 ^ 32 * e.status
  pub text : after ≡ e.octets ++ drop (length e.octets) before

-- the answer of a look-up and what it tells in one number: answer + 2^32 x what is told. Nothing is written, and the count is 0.
unfoldable pub look_up_number : LookUpReply → ℕ
look_up_number u = u.answer + 2 ^ 32 * u.extra
