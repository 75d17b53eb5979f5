-- `settings::apply` meets its contract. Where power and Low Energy stay, so do the turns.
use Rattle.settings.proofs.Turns.{same_is, stays_acted}
use Rattle.settings.proofs.apply.Goals as goal

pub returns-then-old-new-2 : goal.returns-then-old-new-2
returns-then-old-new-2 c =
    stays_acted _ _ _ _ c.args.old c.args.new _ _ _ c.requires.0 c.requires.2 (same_is _ _ c.if-old-new.true) (same_is _ _ c.if-old-new-2.true) c.apply_settings.ensures.0 c.apply_settings.ensures.1
    c.apply_settings.ensures.2
