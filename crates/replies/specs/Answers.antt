-- What a call answers, by the table of the model, and what it leaves in the reply buffer and the lent state.
-- Assumes nothing.
use Rattle.std.specs.Prelude.{◌≡◌, ◌++◌, length, drop}
use Rattle.model.specs.Octets.{Octets}
use Rattle.model.specs.Hub.{Result}
use Rattle.model.specs.Answers.{number_of, count_of}
use Rattle.model.specs.declared.Answer.{Answer}

-- A call answers r, makes of the reply buffer `before` the buffer `after`, and leaves the lent state `left`: all as the model's result o says.
pub record Gives (o : Result Octets) (r : Answer) (before after left : Octets) : Type 0 where
  pub answer : number_of r ≡ o.answer
  -- the count is the length of what is written
  pub count : count_of r ≡ length o.octets
  -- behind them the reply buffer is as it was
  pub reply : after ≡ o.octets ++ drop (length o.octets) before
  pub state : left ≡ o.state
