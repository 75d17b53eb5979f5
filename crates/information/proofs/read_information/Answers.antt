-- `information::read_information` meets its contract.
use mathlib.Core.Path.{refl, sym, ◌∙◌}
use Rattle.information.proofs.Controller.{information_length, information_done}
use borrow.Author.Rules.{rules}
use Rattle.std.proofs.lemmas.Bool.{eqb-false}
use Rattle.model.proofs.Model.Tests.{equal}
use Rattle.information.proofs.read_information.Goals as goal

pub returns-then-not-is_empty : goal.returns-then-not-is_empty
returns-then-not-is_empty c =
    information_length _ _ _ _ _ _ (search rules) (search rules) (eqb-false _ _ (sym c.is_empty.ensures ∙ c.if-not-is_empty.true))
    c.refuse.ensures.0 c.refuse.ensures.1

pub returns : goal.returns
returns c =
    information_done _ _ _ _ _ _ (search rules) (search rules) (equal _ _ (sym c.is_empty.ensures ∙ c.if-not-is_empty.false)) _
    (sym c.put_information.auto.out)
    c.put_information.ensures refl c.command_complete.ensures
