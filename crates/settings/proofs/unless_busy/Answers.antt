-- `settings::unless-busy` meets its contract.
use mathlib.Core.Path.{refl, sym, ◌∙◌}
use mathlib.Core.Logic.{⊎_elim}
use Rattle.settings.proofs.Bridge.{ends_early, ends_busy, ends_late, ends_started, ends_acted}
use borrow.Author.Rules.{rules}
use Rattle.settings.proofs.unless_busy.Goals as goal

pub returns-then-open_code-ne0 : goal.returns-then-open_code-ne0
returns-then-open_code-ne0 c =
    λ u f p. ends_busy _ _ _ _ u _ _ _ (search rules) (search rules) _ _ _ f p
    (λ e. c.if-open_code-ne0.true (c.open_code.ensures ∙ e))
    c.refuse.ensures.0 c.refuse.ensures.1

pub returns-in-Refuse : goal.returns-in-Refuse
returns-in-Refuse c = λ u f p.
    ⊎_elim (λ e. ends_early _ _ _ _ u _ _ _ (search rules) (search rules) _ _ _ f _ e c.refuse-in-Refuse.ensures.0 c.refuse-in-Refuse.ensures.1)
    (λ e. ends_late _ _ _ _ u _ _ _ (search rules) (search rules) _ _ _ f _ e (sym c.open_code.ensures ∙ c.if-open_code-ne0.false)
    c.refuse-in-Refuse.ensures.0 c.refuse-in-Refuse.ensures.1)
    c.in-Refuse.is

pub returns-in-Wait : goal.returns-in-Wait
returns-in-Wait c =
    λ u f p. ends_started _ _ _ _ u _ _ _ (search rules) (search rules) _ _ _ f c.in-Wait.is
    (sym c.open_code.ensures
    ∙ c.if-open_code-ne0.false) refl _ c.put_open.ensures refl

pub returns-in-Act : goal.returns-in-Act
returns-in-Act c =
    λ u f p. ends_acted _ _ _ _ u _ _ _ (search rules) (search rules) _ _ _ f
    c.in-Act.is
    (sym c.open_code.ensures
    ∙ c.if-open_code-ne0.false) _ c.apply.ensures.0
    c.apply.ensures.1 c.apply.ensures.2
