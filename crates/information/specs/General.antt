-- The general commands in the pieces in which the code does them.
-- Assumes nothing.
use Rattle.std.specs.Prelude.{ℕ, ◌≡◌, true, false, List, [], ◌∷◌}
use Rattle.model.specs.Octets.{Octets}
use Rattle.model.specs.State.{PlainHub}
use Rattle.model.specs.Layout.{decode}
use Rattle.model.specs.Meanings.{state_ok}
use Rattle.layout.specs.Places.{present_at}
use Rattle.replies.specs.Answers.{Gives}
use Rattle.model.specs.declared.Answer.{Answer}
use Rattle.outcomes.specs.Outcomes.{general_command}

-- index i, if it holds a controller
unfoldable pub listed : Octets → ℕ → List ℕ
listed s i = elim (present_at s i) [ true ↦ i ∷ [] | false ↦ [] ]

-- a general command answers as the model says, on whatever state it would return `body`
pub record Reply (i code : ℕ) (ps body : Octets) (r : Answer) (before after : Octets) : Type 0 where
  pub gives : (s : Octets) (f : PlainHub → Octets) → state_ok s ≡ true → f (decode s).plain ≡ body → Gives (general_command s i code ps f) r before after s
